-- The known words have their atoms where they are the first texts of all, and no text stands at two places.
use Rattle.std.proofs.Common.{◌≡◌, ◌≢◌, ℕ, zero, suc, codes, Some, List, [], ◌∷◌, slice_get, slice_index_or, ap}
use Rattle.std.proofs.lemmas.Option.{get_or_from_slice_get}
use Rattle.script_grammar.specs.Interpretation.{Interpretation}
use Rattle.parse_early_handler.specs.Known.{KnowsWord, KnowsWords, known_atoms}

-- an atom that has a text which is not empty is its place
place_of : (texts : List (List ℕ)) (atom : ℕ) (text : List ℕ) → text ≢ [] → slice_index_or texts atom [] ≡ text → slice_get texts atom ≡ Some text
place_of [] atom text full e = absurd (full (cc))
place_of (t ∷ texts) zero text full e = ap Some e
place_of (t ∷ texts) (suc atom) text full e = place_of texts atom text full e

module _ (i : Interpretation) (once : (text : List ℕ) (a b : ℕ) → slice_get i.texts a ≡ Some text → slice_get i.texts b ≡ Some text → a ≡ b) where
  knows_word : (atom : ℕ) (text : List ℕ) → text ≢ [] → slice_get i.texts atom ≡ Some text → KnowsWord i atom text
  knows_word atom text full at = record {
    has = get_or_from_slice_get i.texts atom text [] at;
    only = λ other e. once text other atom (place_of i.texts other text full e) at;
  }

  pub knows_words : slice_get i.texts 0 ≡ Some (codes "eval") → slice_get i.texts 1 ≡ Some (codes "arguments") → slice_get i.texts 3 ≡ Some (codes "__proto__")
      → slice_get i.texts 6 ≡ Some (codes "use strict") → KnowsWords i known_atoms
  knows_words eval arguments proto strict = record {
    eval = knows_word 0 (codes "eval") (λ e. absurd (cc)) eval;
    arguments = knows_word 1 (codes "arguments") (λ e. absurd (cc)) arguments;
    proto = knows_word 3 (codes "__proto__") (λ e. absurd (cc)) proto;
    strict = knows_word 6 (codes "use strict") (λ e. absurd (cc)) strict;
  }
