-- What is known of a text that was compiled.
use Rattle.std.proofs.Common.{◌≡◌, ℕ, List, length, subst}
use Rattle.stencil_data.specs.MergedView.{MergedView}
use Rattle.compile_specs.specs.Shown as shown
use Rattle.session_specs.specs.Answer.{to_show}
use Rattle.stencil.specs.Stencils.{IsShownOf}
use Rattle.holzikra_words.specs.declared.functions.FunctionWord.{FunctionWord}
use Rattle.holzikra_scripts.specs.declared.choice.Choice.{Choice}
use Rattle.holzikra_scripts.specs.Written.{IsChoiceOf, wanted_of}
use Rattle.holzikra_session.specs.Compiling.{IsScript}
use Rattle.holzikra.specs.Compiling.{IsShownFor}

pub script_of :
    (words : List FunctionWord) (text : List ℕ) (stencil : MergedView) (chosen : Choice) (want : shown.Wanted) (count : ℕ)
    → want ≡ to_show (wanted_of chosen) → IsChoiceOf words chosen → IsShownOf want text count stencil → IsScript IsShownFor words text stencil chosen
script_of words text stencil chosen want count is choice s = record {
  named = s.shows.named;
  choice = choice;
  is = record { items = s.items; count = count; valid = s.valid; shown = subst (λ (w : shown.Wanted). shown.IsShown w s.items (length text) s.shows.named) is s.shows.shown };
  stands = s.shows.stands;
}
