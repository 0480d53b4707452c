use Rattle.std.proofs.Common.{◌≡◌, drop}
use Rattle.parse_track_pieces.specs.Parts.{have_initializer}
use Rattle.parse_track_pieces.proofs.params.has_initializer.Given as goal

abbrev pub invariant-loop-param : goal.invariant-loop-param
invariant-loop-param g l = have_initializer l.params ≡ have_initializer (drop l.param-index l.params)
