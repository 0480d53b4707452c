-- Names that a record has by atoms of a script's texts, by atoms of a function's own texts.
use Rattle.std.specs.Prelude.{◌≡◌, ℕ, List, ◌++◌, length, map, Option, option_map}
use Rattle.stencil_data.specs.declared.records.ClosedName.{ClosedName}
use Rattle.stencil_data.specs.StandsFor.{text_at, named_closed, ClosedWithin, NameWithin}
use Rattle.parser_atoms.specs.Places.{AreWithoutEquals, StandsIn}
use Rattle.script_scanner.specs.Stands.{Keeps}

-- the name, by its own atom among these texts, is the same text
pub record IsOwnName (texts own : List (List ℕ)) (name made : Option ℕ) : Type 0 where
  pub within : NameWithin (length own) made
  pub is : option_map (text_at own) made ≡ option_map (text_at texts) name

-- so are closed names
pub record AreOwnNames (texts own : List (List ℕ)) (names made : List ClosedName) : Type 0 where
  pub within : ClosedWithin (length own) made
  pub are : map (named_closed own) made ≡ map (named_closed texts) names

-- The own texts are those from before, where they stood, and more of these texts. They have no equals.
pub record TakesFrom (texts before own : List (List ℕ)) : Type 0 where
  pub keeps : Keeps before own
  pub apart : AreWithoutEquals own
  pub among : (text : List ℕ) → StandsIn own text → StandsIn (before ++ texts) text
