use Rattle.std.proofs.Common.{◌∙◌, sym, subst, Option}
use Rattle.std.specs.Prelude.{IsSome}
use Rattle.parser_atoms.specs.declared.cells.Entry.{Entry}
use Rattle.parser_atoms.proofs.Interning.{first_more, second_more, others_more, was_free, was_taken}
use Rattle.parser_atoms.proofs.index.Index.put.Goals as goal

pub returns-then-is_none-clause-ok : goal.returns-then-is_none-clause-ok
returns-then-is_none-clause-ok c =
    let entry : Entry = record { half = c.upper_half.result; place = c.args.place } in
    first_more c.args.self.now.cells.entries.items c.take_first.new.self.entries.items c.args.self.now.others c.args.units.now c.args.digest entry c.requires.digest c.upper_half.ensures c.requires.some
    (sym c.first.ensures ∙ was_free c.first.result c.is_none.result c.is_none.ensures c.if-is_none.true) c.take_first.ensures

pub returns-then-is_none-2-clause-ok : goal.returns-then-is_none-2-clause-ok
returns-then-is_none-2-clause-ok c =
    let entry : Entry = record { half = c.upper_half.result; place = c.args.place } in
    second_more c.args.self.now.cells.entries.items c.take_second.new.self.entries.items c.args.self.now.others c.args.units.now c.args.digest entry c.requires.digest c.upper_half.ensures c.requires.some
    (subst (λ (o : Option Entry). IsSome o) c.first.ensures (was_taken c.first.result c.is_none.result c.is_none.ensures c.if-is_none.false))
    (sym c.second.ensures ∙ was_free c.second.result c.is_none-else-is_none.result c.is_none-else-is_none.ensures c.if-is_none-2.true) c.take_second.ensures

pub returns-in_ok-insert-clause-ok : goal.returns-in_ok-insert-clause-ok
returns-in_ok-insert-clause-ok c =
    others_more c.args.self.now.cells.entries.items c.args.self.now.others c.insert.new.self c.args.units.now c.args.digest c.in_ok-key.key c.args.place c.requires.digest
    (subst (λ (o : Option Entry). IsSome o) c.first.ensures (was_taken c.first.result c.is_none.result c.is_none.ensures c.if-is_none.false))
    (subst (λ (o : Option Entry). IsSome o) c.second.ensures (was_taken c.second.result c.is_none-else-is_none.result c.is_none-else-is_none.ensures c.if-is_none-2.false))
    c.in_ok-key.ensures.items c.in_ok-insert.ensures.updates
