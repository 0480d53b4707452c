use Rattle.std.proofs.Common.{◌≡◌, map, drop}
use Rattle.stencil_data.specs.StandsFor.{named_closed}
use Rattle.scope_analysis.specs.Closed.{has_closed}
use Rattle.scope_analysis.proofs.functions.is_closed.Given as goal

abbrev pub invariant-loop-name : goal.invariant-loop-name
invariant-loop-name l =
    has_closed l.number l.units (map (named_closed l.known.texts.now) (drop l.name-index l.known.closed.now)) ≡ has_closed l.number l.units (map (named_closed l.known.texts.now) l.known.closed.now)
