use Rattle.std.proofs.Common.{◌≡◌, ℕ, List, sym, subst, inr}
use Rattle.stencil.specs.declared.answers.Answer.TheVariants as answer
use Rattle.stencil_xdr_laws.specs.Written.{IsWrittenOf}
use Rattle.stencil_c.proofs.Compiled.{answered}
use Rattle.stencil_c.proofs.texts.stencil_image.Goals as goal

pub returns-in-Ok : goal.returns-in-Ok
returns-in-Ok c =
    let script : c.in-Ok-Script.field-0 ≡ answer.Script c.in-Ok-Script.stencil = cc in
    let written : IsWrittenOf c.in-Ok-Script.stencil c.as_slice.result.now = subst (λ (bytes : List ℕ). IsWrittenOf c.in-Ok-Script.stencil bytes) (sym c.as_slice.ensures.value) c.in-Ok.ensures.script in
    inr (inr (c.in-Ok-Script.stencil, answered c.args.text.now c.in-Ok-Script.field-0 c.in-Ok-Script.stencil c.in-Ok-Script.ensures script, (c.as_slice.result.now, written, c.hand_out.ensures)))
