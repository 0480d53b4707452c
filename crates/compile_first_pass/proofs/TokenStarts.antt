-- The offset where a token of the code starts is that of the definition.
use Rattle.std.proofs.Common.{◌≡◌, ℕ, zero, suc, ◌≤◌, ◌<◌, List, [], ◌∷◌, length, map, get_or, refl, ap, ◌∙◌, arith}
use Rattle.script_grammar.specs.declared.token.Token.{Token}
use Rattle.script_grammar.specs.Lexeme.{lexeme_of}
use Rattle.session_specs.specs.Sources as source

pub starts_none : (get set : ℕ) (texts : List (List ℕ)) (ts : List Token) (k : ℕ) → length ts ≤ k → 0 ≡ source.start_of (map (lexeme_of get set texts) ts) k
starts_none get set texts [] k h = refl
starts_none get set texts (t ∷ ts) zero h = absurd (omega (arith, h))
starts_none get set texts (t ∷ ts) (suc k) h = starts_none get set texts ts k (omega (arith, h))

pub starts_at : (get set : ℕ) (texts : List (List ℕ)) (ts : List Token) (k : ℕ) (d : Token) → k < length ts → (get_or ts k d).start ≡ source.start_of (map (lexeme_of get set texts) ts) k
starts_at get set texts [] k d h = absurd (omega (arith, h))
starts_at get set texts (t ∷ ts) zero d h = refl
starts_at get set texts (t ∷ ts) (suc k) d h = starts_at get set texts ts k d (omega (arith, h))

pub starts_same : (get set : ℕ) (texts : List (List ℕ)) (ts seen : List Token) (k seen_k offset : ℕ) → seen ≡ ts → seen_k ≡ k → offset ≡ source.start_of (map (lexeme_of get set texts) seen) seen_k → offset ≡ source.start_of (map (lexeme_of get set texts) ts) k
starts_same get set texts ts seen k seen_k offset same same_k h =
    h ∙ ap (source.start_of (map (lexeme_of get set texts) seen)) same_k ∙ ap (λ (xs : List Token). source.start_of (map (lexeme_of get set texts) xs) k) same
