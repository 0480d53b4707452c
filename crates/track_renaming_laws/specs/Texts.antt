-- Names as the numbers of texts.
use Rattle.std.specs.Prelude.{◌≡◌, ℕ, Some, List, [], slice_get, slice_index_or}
use Rattle.parse_track.specs.Told.{Told, KnownNames}
use Rattle.parse_track.specs.Tells.{Text, known_texts, tells_script}
use Rattle.script_grammar.specs.Tree.{Stmts}
use Rattle.track_renaming_laws.specs.Alike.{AreToldAlike, AreKnownAlike}

-- The text stands at this place in the list.
abbrev pub StandsAt : List Text → ℕ → Text → Type 0
StandsAt texts atom text = slice_get texts atom ≡ Some text

-- No two of the texts are equal: a text stands at one place at most.
abbrev pub AreWithoutEquals : List Text → Type 0
AreWithoutEquals texts = (text : Text) (i j : ℕ) → StandsAt texts i text → StandsAt texts j text → i ≡ j

-- the text of an atom; one that is no place in the list has the empty text
abbrev pub text_at : List Text → ℕ → Text
text_at texts atom = slice_index_or texts atom []

-- What was told with atoms for names is what this script tells, and these are the atoms of the known names.
pub record TellsOf (texts : List Text) (known : KnownNames ℕ) (t : Told ℕ) (items : Stmts) : Type 0 where
  pub once : AreWithoutEquals texts
  pub knows : AreKnownAlike (StandsAt texts) known known_texts
  pub alike : AreToldAlike (StandsAt texts) t (tells_script items)
