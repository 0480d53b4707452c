use Rattle.std.proofs.Common.{◌∙◌, sym}
use Rattle.parser_atoms.proofs.Interning.{found_other, not_found_other}
use Rattle.parser_atoms.proofs.index.Index.place.Goals as goal

pub returns-clause-found : goal.returns-clause-found
returns-clause-found c = found_other c.args.texts.now.items c.args.self.now.cells.entries.items c.args.self.now.others c.args.units.now c.copied.result c.requires.whole (c.copied.ensures ∙ c.get.ensures.value)

pub returns-clause-absent : goal.returns-clause-absent
returns-clause-absent c = not_found_other c.args.texts.now.items c.args.self.now.cells.entries.items c.args.self.now.others c.args.units.now c.args.digest c.in_ok-first.first c.in_ok-second.second c.copied.result
    c.requires.whole c.requires.digest (sym c.in_ok-first.ensures) (c.is_of.ensures.other c.if-is_of.false) (sym c.in_ok-second.ensures) (c.is_of-2.ensures.other c.if-is_of-2.false)
    (c.copied.ensures ∙ c.get.ensures.value)
