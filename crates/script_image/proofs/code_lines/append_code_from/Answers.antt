use Rattle.std.proofs.Common.{List, ℕ, ap, append-nil, refl, ◌++◌, ◌∙◌}
use Rattle.script_image.proofs.Walks.{code_left, rest_of}
use Rattle.script_image.proofs.code_lines.append_code_from.Goals as goal

pub returns : goal.returns
returns c =
    let rest : List ℕ = rest_of c.args.texts.now c.args.code.now c.args.from c.args.turn in
    code_left c.args.texts.now c.args.code.now c.args.notes.now c.args.out.now.items (c.put_instructions.new.out.items ++ c.put_instructions.new.chunk.items) c.flush.new.out.items c.args.from c.args.turn _ _ refl
    (c.in_ok-put_instructions.ensures ∙ ap (λ (held : List ℕ). (c.args.out.now.items ++ held) ++ rest) c.new-chunk.ensures ∙ ap (λ (before : List ℕ). before ++ rest) (append-nil c.args.out.now.items))
    (c.in_ok-flush.ensures.items ∙ c.in_ok-put_notes.ensures)
