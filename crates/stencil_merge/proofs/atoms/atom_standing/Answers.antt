use Rattle.std.proofs.Common.{◌∙◌, ap, Some}
use Rattle.parser_atoms.proofs.Interning.{same_text}
use Rattle.stencil_merge.proofs.atoms.atom_standing.Goals as goal

pub returns-then-eq : goal.returns-then-eq
returns-then-eq c = c.text-text.ensures ∙ ap Some (same_text _ _ _ c.units.ensures c.eq.ensures c.if-eq.true)
