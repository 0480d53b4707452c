-- Texts that are among others. This project's own choice.
use Rattle.std.specs.Prelude.{ℕ, Bool, List}
use Rattle.std.specs.List.{list_all}
use Rattle.parser_atoms.specs.Places.{StandsIn}
use Rattle.scope_analysis.specs.DeclaredNames.{has_text}

-- each of the own texts stands among the others
abbrev pub AreAmong : (texts own : List (List ℕ)) → Type 0
AreAmong texts own = (text : List ℕ) → StandsIn own text → StandsIn texts text

-- the same as a test
abbrev pub are_among : (texts own : List (List ℕ)) → Bool
are_among texts own = list_all (has_text texts) own
