-- The lexemes from a token on.
use Rattle.std.proofs.Common.{◌≡◌, ◌∙◌, ℕ, suc, ◌+◌, ◌<◌, ◌≤◌, List, [], ◌∷◌, drop, length, refl, sym, ap, zero, arith, add-one, get_or}
use Rattle.std.proofs.Math.Seq.{drop-cons}
use Rattle.std.proofs.lemmas.List.{length-map, get_or-map}
use Rattle.script_grammar.specs.declared.token.Token.{Token}
use Rattle.script_grammar.specs.Interpretation.{Interpretation}
use Rattle.script_grammar.specs.Lexeme.{Lexeme, lexeme_of}
use Rattle.grammar_parser_specs.specs.Parser.{head_of, rest_of, end_lexeme}
use Rattle.parse_exprs.specs.declared.source.Source.{Source}
use Rattle.parse_exprs.specs.Source.{front, lexemes}

drop-suc : (n : ℕ) (ls : List Lexeme) → drop (suc n) ls ≡ rest_of (drop n ls)
drop-suc zero [] = refl
drop-suc zero (l ∷ ls) = refl
drop-suc (suc n) [] = refl
drop-suc (suc n) (l ∷ ls) = drop-suc n ls

drop-all : (n : ℕ) (ls : List Lexeme) → length ls ≤ n → drop n ls ≡ []
drop-all zero [] h = refl
drop-all zero (l ∷ ls) h = absurd (omega arith)
drop-all (suc n) [] h = refl
drop-all (suc n) (l ∷ ls) h = drop-all n ls (omega arith)

-- one token further
pub front_next : (s : Source) (i : Interpretation) (at : ℕ) → front s i (at + 1) ≡ rest_of (front s i at)
unfolding front
front_next s i at = ap (λ n. drop n (lexemes s i)) (add-one at) ∙ drop-suc at (lexemes s i)

front_none : (s : Source) (i : Interpretation) (at : ℕ) → length s.tokens.now ≤ at → front s i at ≡ []
unfolding front
front_none s i at h = drop-all at (lexemes s i) (let e = length-map s.tokens.now (lexeme_of s.get s.set i.texts) in omega arith)

-- after the last token
pub front_end : (s : Source) (i : Interpretation) (at : ℕ) → length s.tokens.now ≤ at → front s i at ≡ rest_of (front s i at)
front_end s i at h = front_none s i at h ∙ sym (ap rest_of (front_none s i at h))

pub head_end : (s : Source) (i : Interpretation) (at : ℕ) → length s.tokens.now ≤ at → end_lexeme ≡ head_of (front s i at)
head_end s i at h = sym (ap head_of (front_none s i at h))

-- the lexeme of a token
pub head_at : (s : Source) (i : Interpretation) (at : ℕ) (d : Token) → at < length s.tokens.now → lexeme_of s.get s.set i.texts (get_or s.tokens.now at d) ≡ head_of (front s i at)
unfolding front
head_at s i at d h =
    sym (get_or-map (lexeme_of s.get s.set i.texts) s.tokens.now at d end_lexeme h)
    ∙ sym (ap head_of (drop-cons (lexemes s i) at end_lexeme (let e = length-map s.tokens.now (lexeme_of s.get s.set i.texts) in omega arith)))
