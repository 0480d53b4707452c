use Rattle.std.proofs.Common.{◌≡◌, drop}
use Rattle.parse_early_handler.specs.Firsts.{are_more}
use Rattle.parse_early_handler.proofs.parts.are_more.Given as goal

abbrev pub invariant-loop-param : goal.invariant-loop-param
invariant-loop-param g l = are_more l.params ≡ are_more (drop l.param-index l.params)
