use Rattle.std.proofs.Common.{ℕ, ◌∙◌, ap}
use Rattle.std.proofs.lemmas.List.{get_or_read}
use Rattle.emit_stmts.specs.Trying.{ended}
use Rattle.emit_stmts.proofs.TryRows.{ended-set}
use Rattle.emit_stmts.proofs.trying.close_try.Goals as goal

pub returns-clause-notes : goal.returns-clause-notes
returns-clause-notes c =
    let notes = c.args.out.now.notes.items in
    ended-set notes c.args.number c.len-end.result c.index-note.result.now c.requires (get_or_read notes _ _ c.requires c.index-note.ensures c.index-note.result.now) ∙ ap (λ (e : ℕ). ended e c.args.number notes) c.len-end.ensures
