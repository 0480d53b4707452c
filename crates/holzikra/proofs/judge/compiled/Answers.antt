-- What opening the text came to, in the arm for it.
use Rattle.std.proofs.Common.{refl, subst}
use Rattle.session_words.specs.Asked.{All}
use Rattle.stencil.specs.Answers.{IsAnswer}
use Rattle.stencil.specs.Scripts.{IsLazyOf}
use Rattle.stencil.specs.declared.answers.Answer.{Answer}
use Rattle.stencil.specs.declared.answers.Answer.TheVariants as answer
use Rattle.stencil.specs.declared.scripts.Lazy.{Lazy}
use Rattle.holzikra.proofs.judge.compiled.Goals as goal

pub compiled_script-requires : goal.compiled_script-requires
compiled_script-requires c =
    let text = c.args.text.now in
    (subst (λ (a : Answer Lazy). IsAnswer All text (IsLazyOf text) a) c.in-Script.is c.in_ok-opened.ensures).1

pub reason_of-requires : goal.reason_of-requires
reason_of-requires c =
    let text = c.args.text.now in
    subst (λ (a : Answer Lazy). IsAnswer All text (IsLazyOf text) a) c.in-Refused.is c.in_ok-opened.ensures

-- a text that opening it refuses for a reason is one that a check refuses for that reason
pub returns-in_ok-reason-in-Refused : goal.returns-in_ok-reason-in-Refused
returns-in_ok-reason-in-Refused c =
    let text = c.args.text.now in (
      answer.Refused c.in-Refused.why,
      subst (λ (a : Answer Lazy). IsAnswer All text (IsLazyOf text) a) c.in-Refused.is c.in_ok-opened.ensures,
      (c.in_ok-reason-in-Refused.reason, c.in_ok-reason-in-Refused.ensures, refl),
    )
