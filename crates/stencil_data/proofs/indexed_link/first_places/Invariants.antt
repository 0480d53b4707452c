use Rattle.stencil_data.proofs.FirstPlaces.{LeadsFrom}
use Rattle.stencil_data.proofs.indexed_link.first_places.Given as goal

abbrev pub invariant-loop-place : goal.invariant-loop-place
invariant-loop-place l = LeadsFrom l.names l.places l.place

abbrev pub decreases-loop-place : goal.decreases-loop-place
decreases-loop-place l = l.place
