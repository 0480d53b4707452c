-- What a text comes to, in the numbers that cross to C.
use Rattle.std.specs.Prelude.{◌≡◌, ℕ, ◌⊎◌, List}
use Rattle.stencil.specs.declared.answers.Answer.{Answer}
use Rattle.stencil.specs.declared.answers.Answer.TheVariants as answer
use Rattle.stencil.specs.declared.answers.Refusal.{Refusal}
use Rattle.stencil.specs.declared.answers.Refusal.TheVariants as refusal
use Rattle.stencil.specs.declared.verifying.Soundness.{Soundness}
use Rattle.stencil.specs.declared.verifying.Soundness.TheVariants as verified
use Rattle.stencil.specs.Answers.{IsChecked}
use Rattle.stencil_c.specs.declared.answers.StencilAnswer.{StencilAnswer}

-- an answer of this kind, which speaks of nothing else
abbrev pub plain : ℕ → StencilAnswer
plain kind = record { kind = kind; rule = 0; offset = 0; count = 0; needed = 0 }

-- fine, with a number
abbrev pub counted : ℕ → StencilAnswer
counted count = record { kind = 0; rule = 0; offset = 0; count = count; needed = 0 }

-- refused at this offset
abbrev pub at : ℕ → ℕ → StencilAnswer
at kind offset = record { kind = kind; rule = 0; offset = offset; count = 0; needed = 0 }

-- want of memory
abbrev pub no_memory : StencilAnswer
no_memory = plain 9

-- refused, for this reason
abbrev pub refused : Refusal → StencilAnswer
refused refusal.TooLong = plain 1
refused (refusal.BadUtf8 offset) = at 2 offset
refused (refusal.Unexpected offset) = at 3 offset
refused (refusal.TooDeep offset) = at 4 offset
refused (refusal.Early offset rule) = record { kind = 5; rule = rule; offset = offset; count = 0; needed = 0 }
refused (refusal.NoFunction number) = record { kind = 6; rule = 0; offset = 0; count = number; needed = 0 }

-- a count, or refused
abbrev pub shown : Answer ℕ → StencilAnswer
shown (answer.Script count) = counted count
shown (answer.Refused why) = refused why

-- may run, or may not
abbrev pub judged : Soundness → StencilAnswer
judged (verified.Sound depth) = counted depth
judged (verified.Unsound script) = record { kind = 8; rule = 0; offset = 0; count = script; needed = 0 }

-- what a text comes to of which the functions are counted, or want of memory
abbrev pub IsCheckedFor : List ℕ → StencilAnswer → Type 0
IsCheckedFor text out = (out ≡ no_memory) ⊎ ((found : Answer ℕ) × IsChecked text found × (out ≡ shown found))
