use Rattle.std.proofs.Common.{List, ap, append-nil, false, ◌++◌, ◌∙◌, ◌∷◌, []}
use Rattle.compile_session.specs.Printed.{texts_in}
use Rattle.compile_session.specs.declared.answer.FileAnswer.{FileAnswer}
use Rattle.compile_session.proofs.answer.one_line.Goals as goal

pub returns-clause-text : goal.returns-clause-text
returns-clause-text c =
    ap texts_in (c.in_ok-push.ensures.items ∙ ap (λ (l : List FileAnswer). l ++ record { text = c.of_bytes.result; refused = false; compiled = c.args.compiled } ∷ []) c.new-files.ensures.items)
    ∙ append-nil c.of_bytes.result
    ∙ c.of_bytes.ensures
