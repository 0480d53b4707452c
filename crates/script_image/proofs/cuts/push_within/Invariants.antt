use Rattle.std.proofs.Common.{◌≤◌, ◌-◌, length}
use Rattle.script_image.specs.declared.pieces.Place.TheVariants as place
use Rattle.script_image.specs.declared.script_lines.Listing.TheVariants as of
use Rattle.script_image.specs.Pieces.{Lead}
use Rattle.script_image.proofs.cuts.push_within.Given as goal

abbrev pub invariant-loop-at : goal.invariant-loop-at
invariant-loop-at l = Lead of.Code l.merged (place.Before 0) l.pieces.items (place.Within l.number l.at l.turn) × (l.turn ≤ length l.code)

abbrev pub decreases-loop-at : goal.decreases-loop-at
decreases-loop-at l = length l.code - l.turn
