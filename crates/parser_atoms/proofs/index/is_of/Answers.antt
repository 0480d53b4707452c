use Rattle.std.proofs.Common.{◌∙◌, sym, ap}
use Rattle.std.specs.Prelude.{Some}
use Rattle.parser_atoms.proofs.Interning.{entry_text, one_text, same_text, other_text}
use Rattle.parser_atoms.proofs.index.is_of.Goals as goal

pub returns-then-entry-half-clause-same : goal.returns-then-entry-half-clause-same
returns-then-entry-half-clause-same c = λ same.
    entry_text c.args.texts.now.items c.args.entry c.index.result.now c.requires.entry c.index.ensures ∙ ap Some (same_text _ _ _ c.units.ensures c.eq.ensures same)

pub returns-then-entry-half-clause-other : goal.returns-then-entry-half-clause-other
returns-then-entry-half-clause-other c = λ differs at.
    other_text _ _ _ c.units.ensures c.eq.ensures differs
    (one_text c.index.result.now c.args.units.now (sym (entry_text c.args.texts.now.items c.args.entry c.index.result.now c.requires.entry c.index.ensures) ∙ at))
