-- The known words among the texts that atoms index.
use Rattle.std.specs.Prelude.{◌≡◌, ℕ, List, [], ◌∷◌, codes, slice_get, Some}
use Rattle.script_grammar.specs.Lexeme.{get_text, set_text}
use Rattle.parse_track.specs.declared.region.WellKnownAtoms.{WellKnownAtoms}

-- The atoms of the known words in each list of texts that begins with them: their places in the order of these fields.
abbrev pub known_atoms : WellKnownAtoms
known_atoms = record { eval = 0; arguments = 1; this = 2; proto = 3; get = 4; set = 5; strict = 6 }

-- The texts of the known words, in the order of these atoms: they have atoms whether or not they are written.
abbrev pub word_texts : List (List ℕ)
word_texts = codes "eval" ∷ codes "arguments" ∷ codes ".this" ∷ codes "__proto__" ∷ get_text ∷ set_text ∷ codes "use strict" ∷ []

-- Each atom of a known word has the word's text.
pub record HasWords (texts : List (List ℕ)) (known : WellKnownAtoms) : Type 0 where
  pub eval : slice_get texts known.eval ≡ Some (codes "eval")
  pub arguments : slice_get texts known.arguments ≡ Some (codes "arguments")
  pub this : slice_get texts known.this ≡ Some (codes ".this")
  pub proto : slice_get texts known.proto ≡ Some (codes "__proto__")
  pub get : slice_get texts known.get ≡ Some get_text
  pub set : slice_get texts known.set ≡ Some set_text
  pub strict : slice_get texts known.strict ≡ Some (codes "use strict")
