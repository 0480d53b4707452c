-- The tokens of a text of ASCII, one part after the other: parts that are spelled out, names and numbers.
use Rattle.std.proofs.Common.{◌≡◌, ℕ, zero, suc, ◌+◌, List, [], ◌∷◌, ◌++◌, map, length, drop, Bool, true, false, cond, refl, sym, ◌∙◌, ap, arith, add-zero, Option, Some, None}
use Rattle.std.specs.Prelude.{◌&&◌, nat_lt}
use Rattle.std.specs.Char.{len_utf8}
use Rattle.std.specs.List.{list_all}
use Rattle.script_grammar.specs.declared.token.Kind.{Kind}
use Rattle.script_grammar.specs.Lexeme.{Lexeme}
use Rattle.unit_text.specs.declared.Point.{Point}
use Rattle.unit_text.specs.Points.{points_from}
use Rattle.unit_text.proofs.Decoding.{codes_of-points_from}
use Rattle.script_scanner.specs.declared.blanks.Blank.{Blank}
use Rattle.script_scanner.specs.declared.braces.Brace.{Brace}
use Rattle.script_scanner.specs.Blanks.{blank_at}
use Rattle.script_scanner.specs.Braces.{in_substitution}
use Rattle.script_scanner.specs.Lexemes.{lexeme_of}
use Rattle.script_scanner.specs.Tokens.{Piece, Value, Lexed, place, front_of, token_at, braces_after, then_tokens, tokens_within}

-- n more
abbrev pub more : ℕ → ℕ → ℕ
more zero n = n
more (suc k) n = suc (more k n)

pub more_is : (k n : ℕ) → more k n ≡ k + n
more_is zero n = omega arith
more_is (suc k) n = let e : more k n ≡ k + n = more_is k n in omega (arith, e)

abbrev pub scan : ℕ → ℕ → List Brace → Bool → List Point → List Lexeme
scan fuel to braces after ps = map lexeme_of (tokens_within fuel to braces after ps)

-- Texts of ASCII.

abbrev pub is_ascii : List ℕ → Bool
is_ascii codes = list_all (λ c. nat_lt c 128) codes

len_one : (c : ℕ) → nat_lt c 128 ≡ true → len_utf8 c ≡ 1
len_one c e = ap (λ (b : Bool). cond b 1 (cond (nat_lt c 2048) 2 (cond (nat_lt c 65536) 3 4))) e

and_both : (a b : Bool) → a && b ≡ true → (a ≡ true) × (b ≡ true)
and_both true b e = (refl, e)
and_both false b e = absurd (cc)

pub points_ascii : (at c : ℕ) (codes : List ℕ) → nat_lt c 128 ≡ true → points_from at (c ∷ codes) ≡ record { code = c; start = at; end = at + 1 } ∷ points_from (at + 1) codes
points_ascii at c codes e = ap (λ (n : ℕ). record { code = c; start = at; end = at + n } ∷ points_from (at + n) codes) (len_one c e)

-- The points of a text that is spelled out, each at a number after an offset, in front of others.
abbrev pub lay : ℕ → ℕ → List ℕ → List Point → List Point
lay at k [] ps = ps
lay at k (c ∷ cs) ps = record { code = c; start = at + k; end = at + (k + 1) } ∷ lay at (k + 1) cs ps

laid_from : (at k : ℕ) (cs rest : List ℕ) → is_ascii cs ≡ true → points_from (at + k) (cs ++ rest) ≡ lay at k cs (points_from (at + (k + length cs)) rest)
laid_from at k [] rest e = ap (λ n. points_from (at + n) rest) (sym (add-zero k))
laid_from at k (c ∷ cs) rest e =
    let (here, there) = and_both (nat_lt c 128) (is_ascii cs) e in
    let next : at + k + 1 ≡ at + (k + 1) = omega arith in
    let last : k + 1 + length cs ≡ k + suc (length cs) = omega arith in
    points_ascii (at + k) c (cs ++ rest) here
    ∙ ap (λ n. record { code = c; start = at + k; end = n } ∷ points_from n (cs ++ rest)) next
    ∙ ap (λ (ps : List Point). record { code = c; start = at + k; end = at + (k + 1) } ∷ ps) (laid_from at (k + 1) cs rest there)
    ∙ ap (λ n. record { code = c; start = at + k; end = at + (k + 1) } ∷ lay at (k + 1) cs (points_from (at + n) rest)) last

pub laid : (at : ℕ) (cs rest : List ℕ) → is_ascii cs ≡ true → points_from at (cs ++ rest) ≡ lay at 0 cs (points_from (at + length cs) rest)
laid at cs rest e =
    ap (λ n. points_from n (cs ++ rest)) (sym (add-zero at)) ∙ laid_from at 0 cs rest e
    ∙ ap (λ n. lay at 0 cs (points_from (at + n) rest)) (let same : 0 + length cs ≡ length cs = omega arith in same)

pub dropped : (at : ℕ) (cs rest : List ℕ) → is_ascii cs ≡ true → drop (length cs) (points_from at (cs ++ rest)) ≡ points_from (at + length cs) rest
dropped at [] rest e = ap (λ n. points_from n rest) (sym (add-zero at))
dropped at (c ∷ cs) rest e =
    let (here, there) = and_both (nat_lt c 128) (is_ascii cs) e in
    ap (λ (ps : List Point). drop (suc (length cs)) ps) (points_ascii at c (cs ++ rest) here)
    ∙ dropped (at + 1) cs rest there
    ∙ ap (λ n. points_from n rest) (let same : at + 1 + length cs ≡ at + suc (length cs) = omega arith in same)

-- The tokens of a part that is spelled out, as they are worked out of points that lie so in front of any others.
pub spelled : (fuel steps to at : ℕ) (braces now : List Brace) (after breaks : Bool) (cs rest : List ℕ) (ts : List Lexeme) → is_ascii cs ≡ true
    → ((ps : List Point) → scan (more steps fuel) to braces after (lay at 0 cs ps) ≡ ts ++ scan fuel to now breaks ps)
    → scan (more steps fuel) to braces after (points_from at (cs ++ rest)) ≡ ts ++ scan fuel to now breaks (points_from (at + length cs) rest)
spelled fuel steps to at braces now after breaks cs rest ts e worked = ap (λ (ps : List Point). scan (more steps fuel) to braces after ps) (laid at cs rest e) ∙ worked (points_from (at + length cs) rest)

-- One token in front of a code point.

abbrev pub token_of : Kind → Value → ℕ → ℕ → Bool → Lexeme
token_of k v start end after = lexeme_of (record { kind = k; value = v; start = start; end = end; after_line = after })

abbrev lexed : Kind → Value → ℕ → ℕ → Bool → Lexed
lexed k v start end after = record { kind = k; value = v; start = start; end = end; after_line = after }

place_front : (to at c : ℕ) (cs : List ℕ) → place to (points_from at (c ∷ cs)) ≡ at
place_front to at c cs = refl

pub one_token : (fuel to at : ℕ) (braces : List Brace) (after : Bool) (c : ℕ) (cs : List ℕ) (r : ℕ) (rest : List ℕ) (k : Kind) (v : Value) → is_ascii (c ∷ cs) ≡ true
    → blank_at (c ∷ (cs ++ r ∷ rest)) ≡ None
    → token_at (in_substitution braces) (c ∷ (cs ++ r ∷ rest)) ≡ Some (record { kind = k; value = v; length = 1 + length cs })
    → scan (suc fuel) to braces after (points_from at (c ∷ (cs ++ r ∷ rest)))
    ≡ token_of k v at (at + (1 + length cs)) after ∷ scan fuel to (braces_after braces k) false (points_from (at + (1 + length cs)) (r ∷ rest))
one_token fuel to at braces after c cs r rest k v ascii bare found =
    ap (λ (codes : List ℕ). map lexeme_of (then_tokens to braces after ps (front_of (blank_at codes) (token_at (in_substitution braces) codes)) (λ o a qs. tokens_within fuel to o a qs))) (codes_of-points_from at (c ∷ (cs ++ r ∷ rest)))
    ∙ ap (λ (o : Option Blank). map lexeme_of (then_tokens to braces after ps (front_of o (token_at (in_substitution braces) (c ∷ (cs ++ r ∷ rest)))) (λ b a qs. tokens_within fuel to b a qs))) bare
    ∙ ap (λ (o : Option Piece). map lexeme_of (then_tokens to braces after ps (front_of None o) (λ b a qs. tokens_within fuel to b a qs))) found
    ∙ ap (λ (qs : List Point). token_of k v at (place to qs) after ∷ scan fuel to (braces_after braces k) false qs) behind
  where
    ps : List Point
    ps = points_from at (c ∷ (cs ++ r ∷ rest))

    behind : drop (1 + length cs) (points_from at (c ∷ (cs ++ r ∷ rest))) ≡ points_from (at + (1 + length cs)) (r ∷ rest)
    behind = let same : 1 + length cs ≡ suc (length cs) = omega arith in
        ap (λ n. drop n (points_from at (c ∷ (cs ++ r ∷ rest)))) same ∙ dropped at (c ∷ cs) (r ∷ rest) ascii ∙ ap (λ n. points_from (at + n) (r ∷ rest)) (sym same)
