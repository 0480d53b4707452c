use Rattle.std.proofs.Common.{◌≡◌, drop}
use Rattle.scope_analysis.specs.DeclaredNames.{has_text}
use Rattle.scope_analysis.proofs.functions.atom_of.Given as goal

abbrev pub invariant-loop-index : goal.invariant-loop-index
invariant-loop-index l = has_text (drop l.index l.texts) l.units ≡ has_text l.texts l.units
