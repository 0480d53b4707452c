use Rattle.std.proofs.Common.{ℕ, Option, subst}
use Rattle.session_words.specs.Asked.{All}
use Rattle.stencil.specs.declared.answers.Answer.{Answer}
use Rattle.stencil.specs.declared.scripts.Lazy.{Lazy}
use Rattle.stencil.specs.Answers.{IsAnswer, IsMissing}
use Rattle.stencil.specs.Scripts.{IsLazyOf}
use Rattle.stencil.specs.Stencils.{asked_of}
use Rattle.stencil.proofs.ScriptLemmas.{stencil_of}
use Rattle.stencil.proofs.scripts.compile.Goals as goal

pub returns : goal.returns
returns c =
    let text = c.args.text.now in
    let opened = subst (λ (a : Answer Lazy). IsAnswer All text (IsLazyOf text) a) c.in-Script.is c.in_ok-opened.ensures in
    let present = subst (λ (o : Option ℕ). IsMissing (asked_of c.args.wanted) c.functions.result o) c.in-None.is c.missing_of.ensures in
    (opened.0, stencil_of c.args.wanted text _ c.functions.result c.in_ok-stencil-in-None.stencil c.in_ok-stencil-in-None.ensures c.functions.ensures present)
