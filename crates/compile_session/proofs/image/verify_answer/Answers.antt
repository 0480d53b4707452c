use Rattle.std.proofs.Common.{◌∙◌}
use Rattle.compile_session.proofs.ImageLemmas.{verifies}
use Rattle.compile_session.proofs.image.verify_answer.Goals as goal

pub returns-in-Ok-clause-is : goal.returns-in-Ok-clause-is
returns-in-Ok-clause-is c = λ want.
    let checked = c.in-Ok.ensures.verdicts in
    verifies want c.args.name.now c.args.bytes.now c.in_ok-text.text.items _ c.in_ok-text.ensures (checked.0, checked.1, c.of_bytes.ensures ∙ checked.2)
