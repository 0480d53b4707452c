use Rattle.std.proofs.Common.{ℕ, [], ◌∷◌, ◌++◌, ◌∙◌, ap₂}
use Rattle.stencil_data.specs.declared.stencils.TryNote.{TryNote}
use Rattle.emit_stmts.proofs.trying.open_try.Goals as goal

pub returns-clause-notes : goal.returns-clause-notes
returns-clause-notes c = λ texts.
    c.in_ok-push.ensures.items
    ∙ ap₂ (λ (n : ℕ) (d : ℕ). let note : TryNote = record { start = n; end = n; depth = d } in c.args.out.now.notes.items ++ note ∷ []) c.len-start.ensures (c.kept_values-depth.ensures texts)
