use Rattle.std.proofs.Common.{List, ℕ, [], slice_index_or, sym, ◌∙◌, ap, subst}
use Rattle.atom_table.specs.Words.{Passed, gained}
use Rattle.atom_table.proofs.atoms.AtomTable.settle.Goals as goal

pub claim-requires-clause-passed : goal.claim-requires-clause-passed
claim-requires-clause-passed c =
    let same = c.look-found.ensures.seen ∙ ap (λ word. gained c.args.place word c.args.desk.now.seen) c.if-found-ne0.false in
    subst (λ (seen : List (ℕ × ℕ)). Passed seen c.args.self.now.list (slice_index_or c.args.self.now.list.texts c.args.number []) c.args.place) (sym same) c.requires.passed
