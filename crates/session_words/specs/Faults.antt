-- When the words of a command are refused.
use Rattle.std.specs.Prelude.{◌≡◌, ℕ, List, None, ⊤}
use Rattle.session_words.specs.declared.options.WordsFault.{WordsFault}
use Rattle.session_words.specs.declared.options.WordsFault.TheVariants.{BadWords, NoMemory}
use Rattle.session_words.specs.Words.{asked_of}

-- Bad words are told only where the words ask for nothing.
abbrev pub IsFaultOf : List (List ℕ) → WordsFault → Type 0
IsFaultOf words BadWords = asked_of words ≡ None
IsFaultOf words NoMemory = ⊤
