-- Where the texts come from of a function that is compiled on its own. This project's own choice.
use Rattle.std.specs.Prelude.{ℕ, ◌⊎◌, List, length}
use Rattle.unit_text.specs.Points.{points}
use Rattle.parser_atoms.specs.Places.{StandsIn}
use Rattle.script_scanner.specs.Stands.{IsValueAmong}
use Rattle.script_scanner.specs.Tokens.{tokens}
use Rattle.track_atoms.specs.Known.{word_texts}

-- the value of a token of the file, a known word, or one of the texts given
abbrev pub IsTextOf : (file : List ℕ) → (given : List (List ℕ)) → List ℕ → Type 0
IsTextOf file given text = IsValueAmong (tokens (points file) 0 (length file)) text ⊎ (StandsIn word_texts text ⊎ StandsIn given text)

-- each of them is such a text
abbrev pub AreTextsOf : (file : List ℕ) → (given texts : List (List ℕ)) → Type 0
AreTextsOf file given texts = (text : List ℕ) → StandsIn texts text → IsTextOf file given text
