-- What is known of a text that was compiled.
use Rattle.std.proofs.Common.{◌≡◌, ℕ, List, subst}
use Rattle.stencil_data.specs.MergedView.{MergedView}
use Rattle.session_words.specs.Asked as asked
use Rattle.stencil.specs.declared.answers.Answer.{Answer}
use Rattle.stencil.specs.declared.answers.Answer.TheVariants as answer
use Rattle.stencil.specs.Stencils.{IsCompiled, IsStencilOf}

-- the stencil that was answered is one of the text
pub answered : (text : List ℕ) (found : Answer MergedView) (stencil : MergedView) → IsCompiled asked.All text found → found ≡ answer.Script stencil → IsStencilOf asked.All text stencil
answered text found stencil is script = (subst (λ (a : Answer MergedView). IsCompiled asked.All text a) script is).1
