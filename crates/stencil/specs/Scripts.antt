-- A script of which functions are compiled one by one.
use Rattle.std.specs.Prelude.{ℕ, ◌<◌, List}
use Rattle.compile_initial.specs.Initial.{IsInitialOf}
use Rattle.lazy_compile.specs.declared.Delazified.{Delazified}
use Rattle.lazy_function.specs.Numbered.{IsCompiledFunction, IsNumberIn, around_in}
use Rattle.session_words.specs.Asked.{All}
use Rattle.stencil.specs.declared.answers.Answer.{Answer}
use Rattle.stencil.specs.declared.scripts.Lazy.{Lazy}
use Rattle.stencil.specs.Answers.{IsAnswer}

-- the text is a script without errors, and this is what it is before any of its functions is compiled
abbrev pub IsLazyOf : List ℕ → Lazy → Type 0
IsLazyOf text lazy = IsInitialOf text lazy.initial

-- what a text comes to whose functions are compiled one by one
abbrev pub IsOpened : List ℕ → Answer Lazy → Type 0
IsOpened text answer = IsAnswer All text (IsLazyOf text) answer

-- a number of one of its functions
abbrev pub HasNumber : Lazy → ℕ → Type 0
HasNumber lazy number = IsNumberIn lazy.initial number

-- what the function of this number is compiled to where the whole script is that the text is
abbrev pub IsFunctionOf : List ℕ → ℕ → Delazified → Type 0
IsFunctionOf text number made = IsCompiledFunction text number made

-- the function of this number stands directly in another one, which was compiled to this
abbrev pub IsDirectlyIn : List ℕ → Lazy → Delazified → ℕ → Type 0
IsDirectlyIn text lazy outer number =
    (0 < (around_in lazy.initial number).number) × IsFunctionOf text (around_in lazy.initial number).number outer
