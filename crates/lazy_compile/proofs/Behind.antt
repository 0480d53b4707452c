-- A list that begins with the known words, and what stands behind them.
use Rattle.std.proofs.Common.{◌≡◌, ℕ, ◌≤◌, List, [], ◌∷◌, ◌++◌, length, take, drop, refl, sym, ap, ap₂, codes, length-append, arith}
use Rattle.std.proofs.lemmas.Option.{same_Some}
use Rattle.script_grammar.specs.Lexeme.{get_text, set_text}
use Rattle.track_atoms.specs.Known.{HasWords, known_atoms, word_texts}

both : (t u : List ℕ) (ts us : List (List ℕ)) → t ≡ u → ts ≡ us → t ∷ ts ≡ u ∷ us
both t u ts us e es = ap₂ (λ (x : List ℕ) (xs : List (List ℕ)). x ∷ xs) e es

pub words_first : (texts : List (List ℕ)) → HasWords texts known_atoms → word_texts ++ drop 7 texts ≡ texts
words_first [] h = let e = h.eval in absurd (cc)
words_first (a ∷ []) h = let e = h.arguments in absurd (cc)
words_first (a ∷ b ∷ []) h = let e = h.this in absurd (cc)
words_first (a ∷ b ∷ c ∷ []) h = let e = h.proto in absurd (cc)
words_first (a ∷ b ∷ c ∷ d ∷ []) h = let e = h.get in absurd (cc)
words_first (a ∷ b ∷ c ∷ d ∷ e ∷ []) h = let e = h.set in absurd (cc)
words_first (a ∷ b ∷ c ∷ d ∷ e ∷ f ∷ []) h = let e = h.strict in absurd (cc)
words_first (a ∷ b ∷ c ∷ d ∷ e ∷ f ∷ g ∷ texts) h =
    both (codes "eval") a _ _ (sym (same_Some a (codes "eval") h.eval))
    (both (codes "arguments") b _ _ (sym (same_Some b (codes "arguments") h.arguments))
    (both (codes ".this") c _ _ (sym (same_Some c (codes ".this") h.this))
    (both (codes "__proto__") d _ _ (sym (same_Some d (codes "__proto__") h.proto))
    (both get_text e _ _ (sym (same_Some e get_text h.get))
    (both set_text f _ _ (sym (same_Some f set_text h.set))
    (both (codes "use strict") g _ _ (sym (same_Some g (codes "use strict") h.strict)) refl))))))

pub words_many : (texts : List (List ℕ)) → HasWords texts known_atoms → 7 ≤ length texts
words_many texts h = omega (arith, ap length (words_first texts h), length-append word_texts (drop 7 texts))

pub words_taken : (texts : List (List ℕ)) → HasWords texts known_atoms → take 7 texts ≡ word_texts
words_taken texts h = ap (take 7) (sym (words_first texts h))
