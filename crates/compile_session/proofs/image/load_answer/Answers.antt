use Rattle.std.proofs.Common.{refl, ◌∙◌}
use Rattle.compile_session.proofs.ImageLemmas.{loads}
use Rattle.compile_session.proofs.image.load_answer.Goals as goal

pub returns-in-Ok-clause-is : goal.returns-in-Ok-clause-is
returns-in-Ok-clause-is c = λ want.
    let listed = c.in-Ok.ensures.listing in
    loads want c.args.name.now c.args.bytes.now c.in_ok-text.text.items _ c.in_ok-text.ensures (listed.0, listed.1, c.of_bytes.ensures ∙ listed.2) refl
