-- What a text comes to: what a file with these bytes comes to that a command of the program names alone.
use Rattle.std.specs.Prelude.{◌≡◌, ℕ, ◌<◌, ◌≤◌, ◌⊎◌, List, [], length, Option, Some, None}
use Rattle.script_grammar.specs.Tree.{Stmts}
use Rattle.session_words.specs.Asked.{Wanted, All}
use Rattle.session_specs.specs.Answer.{most_bytes}
use Rattle.session_specs.specs.Refusals as line
use Rattle.session_specs.specs.Sources.{IsValid, IsSource, IsRefused, IsLeastOf, missing}
use Rattle.stencil.specs.declared.answers.Answer.{Answer}
use Rattle.stencil.specs.declared.answers.Answer.TheVariants as answer
use Rattle.stencil.specs.Refusals.{refusal_of}

-- why a text is refused, of which these functions are wanted: it has too many bytes; or it has not, and is a file refused so
abbrev pub IsRefusedAs : Wanted → List ℕ → line.Refusal → Type 0
IsRefusedAs want text why =
    ((most_bytes < length text) × (why ≡ line.TooLong))
    ⊎ ((length text ≤ most_bytes) × IsSource want text (IsRefused why))

-- the text is short and what was asked for is this, or it is refused
abbrev pub IsAnswer : {A : Type 0} → Wanted → List ℕ → (A → Type 0) → Answer A → Type 0
IsAnswer want text Is (answer.Script value) = (length text ≤ most_bytes) × Is value
IsAnswer want text Is (answer.Refused why) = IsRefusedAs want text (refusal_of why)

-- the text is a script without errors that has n functions
abbrev pub HasFunctionCount : List ℕ → ℕ → Type 0
HasFunctionCount text count = (items : Stmts) × IsValid text items count

-- what a text comes to of which the functions are counted
abbrev pub IsChecked : List ℕ → Answer ℕ → Type 0
IsChecked text answer = IsAnswer All text (HasFunctionCount text) answer

-- no wanted number is above this count of functions, or this is the least that is
abbrev pub IsMissing : Wanted → ℕ → Option ℕ → Type 0
IsMissing want count None = missing count want ≡ []
IsMissing want count (Some number) = IsLeastOf (missing count want) number
