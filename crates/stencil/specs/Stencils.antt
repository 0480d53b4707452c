-- What a stencil is of a text.
use Rattle.std.specs.Prelude.{◌≡◌, ℕ, ◌^◌, ◌<◌, List, [], length}
use Rattle.script_grammar.specs.Tree.{Stmts}
use Rattle.stencil_data.specs.MergedView.{MergedView}
use Rattle.bytecode_buf.specs.InRange.{TextsSmall}
use Rattle.emit_depth_laws.specs.Accepted.{AllAccepted}
use Rattle.session_words.specs.Asked as asked
use Rattle.session_specs.specs.Answer.{to_show}
use Rattle.session_specs.specs.Sources.{IsValid, missing}
use Rattle.compile_specs.specs.Shown as shown
use Rattle.compile_wanted.specs.declared.flags.Wanted.{Wanted}
use Rattle.compile_wanted.specs.declared.flags.Wanted.TheVariants as wanted
use Rattle.compile_wanted.specs.Shows.{Shows}
use Rattle.stencil.specs.declared.answers.Answer.{Answer}
use Rattle.stencil.specs.Answers.{IsAnswer}

-- which functions are wanted, in the words of a command
abbrev pub asked_of : Wanted → asked.Wanted
asked_of wanted.All = asked.All
asked_of (wanted.Numbers numbers) = asked.Numbers numbers.now

-- The text is a script without errors that has n functions, and the stencil stands for what is shown of it where these functions are
-- wanted. Each jump of its code stays within that code, which never takes from an empty stack. Its texts are few and small, so that
-- it has an image.
pub record IsShownOf (want : shown.Wanted) (text : List ℕ) (count : ℕ) (stencil : MergedView) : Type 0 where
  pub items : Stmts
  pub valid : IsValid text items count
  pub shows : Shows want items (length text) stencil
  pub sound : AllAccepted stencil
  pub few : length stencil.texts < 2 ^ 31
  pub small : TextsSmall stencil.texts

-- The same of a script that has each function that is wanted.
pub record IsStencilOf (want : asked.Wanted) (text : List ℕ) (stencil : MergedView) : Type 0 where
  pub count : ℕ
  pub is : IsShownOf (to_show want) text count stencil
  pub present : missing count want ≡ []

-- what a text comes to that is compiled where these functions are wanted
abbrev pub IsCompiled : asked.Wanted → List ℕ → Answer MergedView → Type 0
IsCompiled want text answer = IsAnswer want text (IsStencilOf want text) answer
