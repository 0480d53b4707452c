-- The words that tell an accessor, among the texts that atoms index.
use Rattle.std.specs.Prelude.{◌≡◌, ℕ, List, slice_get, Some}
use Rattle.script_grammar.specs.Lexeme.{get_text, set_text}
use Rattle.parse_track.specs.declared.region.WellKnownAtoms.{WellKnownAtoms}

-- the atoms of `get` and `set` have these words' texts
pub record KnowsAccessors (texts : List (List ℕ)) (known : WellKnownAtoms) : Type 0 where
  pub get : slice_get texts known.get ≡ Some get_text
  pub set : slice_get texts known.set ≡ Some set_text
