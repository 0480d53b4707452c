-- The image is the one that is written of the stencil of the whole script; a text that compiling refuses is one that a check refuses.
use Rattle.std.proofs.Common.{refl, subst}
use Rattle.stencil_data.specs.MergedView.{MergedView}
use Rattle.session_words.specs.Asked.{All}
use Rattle.stencil.specs.Answers.{IsAnswer}
use Rattle.stencil.specs.Stencils.{IsStencilOf}
use Rattle.stencil.specs.declared.answers.Answer.{Answer}
use Rattle.stencil.specs.declared.answers.Answer.TheVariants as answer
use Rattle.holzikra.proofs.ImageLemmas.{saved_of}
use Rattle.holzikra.proofs.images.saved.Goals as goal

pub returns-in_ok-image-in-Script : goal.returns-in_ok-image-in-Script
returns-in_ok-image-in-Script c =
    let text = c.args.text.now in
    let script = subst (λ (a : Answer MergedView). IsAnswer All text (IsStencilOf All text) a) c.in-Script.is c.in_ok-answer.ensures in
    saved_of text c.in-Script.stencil c.in_ok-image-in-Script.image.items script.0 script.1 c.in_ok-image-in-Script.ensures.script

pub reason_of-requires : goal.reason_of-requires
reason_of-requires c =
    let text = c.args.text.now in
    subst (λ (a : Answer MergedView). IsAnswer All text (IsStencilOf All text) a) c.in-Refused.is c.in_ok-answer.ensures

pub returns-in_ok-reason-in-Refused : goal.returns-in_ok-reason-in-Refused
returns-in_ok-reason-in-Refused c =
    let text = c.args.text.now in (
      answer.Refused c.in-Refused.why,
      subst (λ (a : Answer MergedView). IsAnswer All text (IsStencilOf All text) a) c.in-Refused.is c.in_ok-answer.ensures,
      (c.in_ok-reason-in-Refused.reason, c.in_ok-reason-in-Refused.ensures, refl),
    )
