-- Tokens of points begin and end where some of the points do, each after the one before.
use Rattle.std.proofs.Common.{◌≡◌, ◌∙◌, ℕ, zero, suc, ◌≤◌, List, [], ◌∷◌, ◌++◌, map, length, take, drop, Bool, true, false, cond, refl, sym, ap, arith, append_assoc, take-append-drop, Option, Some, None}
use Rattle.std.specs.Prelude.{◌||◌, ◌&&◌, ◌==◌}
use Rattle.std.proofs.lemmas.Bool.{eqb-true}
use Rattle.script_grammar.specs.Lexeme.{Lexeme}
use Rattle.unit_text.specs.declared.Point.{Point}
use Rattle.unit_text.specs.Points.{code_of}
use Rattle.script_scanner.specs.declared.blanks.Blank.{Blank}
use Rattle.script_scanner.specs.declared.braces.Brace.{Brace}
use Rattle.script_scanner.specs.Blanks.{blank_at, begins, line_length, first_line_length}
use Rattle.script_scanner.specs.Tokens.{Piece, Lexed, Front, IsBlank, IsToken, IsNeither, front_of, front_at, place, last_token, token_at, then_tokens, tokens_within, braces_after, without_first_line}
use Rattle.script_scanner.specs.Lexemes.{lexeme_of}
use Rattle.scan_laws.proofs.CutTokens.{token_no_hash}
use Rattle.parse_function.proofs.Lying.{LieTo, lie_whole}

abbrev pub Stand : ℕ → List Point → List Lexeme → Type 0
Stand to ps [] = Unit {0}
Stand to ps (t ∷ ts) = (front : List Point) × (here : List Point) × (behind : List Point) × (ps ≡ front ++ (here ++ behind)) × (place to (here ++ behind) ≡ t.start) × (place to behind ≡ t.end) × Stand to behind ts

stand_behind : (to n : ℕ) (ps : List Point) (ts : List Lexeme) → Stand to (drop n ps) ts → Stand to ps ts
stand_behind to n ps [] h = tt
stand_behind to n ps (t ∷ ts) h = (
  take n ps ++ h.0,
  h.1,
  h.2,
  sym (take-append-drop n ps) ∙ ap (λ (xs : List Point). take n ps ++ xs) h.3 ∙ sym (append_assoc (take n ps) h.0 (h.1 ++ h.2)),
  h.4,
  h.5,
  h.6,
)

last_stands : (to : ℕ) (after : Bool) (ps : List Point) → Stand to ps (lexeme_of (last_token to after ps) ∷ [])
last_stands to after [] = ([], [], [], refl, refl, refl, tt)
last_stands to after (p ∷ ps) = ([], [], p ∷ ps, refl, refl, refl, tt)

then_stand : (to : ℕ) (braces : List Brace) (after : Bool) (ps : List Point) (f : Front) (rest : List Brace → Bool → List Point → List Lexed)
    → ((o : List Brace) (a : Bool) (qs : List Point) → Stand to qs (map lexeme_of (rest o a qs))) → Stand to ps (map lexeme_of (then_tokens to braces after ps f rest))
then_stand to braces after ps (IsBlank blank) rest k = stand_behind to blank.length ps (map lexeme_of (rest braces (after || blank.breaks) (drop blank.length ps))) (k braces (after || blank.breaks) (drop blank.length ps))
then_stand to braces after ps (IsToken piece) rest k = (
  [],
  take piece.length ps,
  drop piece.length ps,
  sym (take-append-drop piece.length ps),
  ap (place to) (take-append-drop piece.length ps),
  refl,
  k (braces_after braces piece.kind) false (drop piece.length ps),
)
then_stand to braces after ps IsNeither rest k = last_stands to after ps

pub within_stand : (fuel to : ℕ) (braces : List Brace) (after : Bool) (ps : List Point) → Stand to ps (map lexeme_of (tokens_within fuel to braces after ps))
within_stand zero to braces after ps = tt
within_stand (suc fuel) to braces after ps = then_stand to braces after ps (front_at braces ps) (λ o a qs. tokens_within fuel to o a qs) (λ o a qs. within_stand fuel to o a qs)

-- ---- one of the tokens

-- the points in front of it, its own, and those after it
pub record StandsAt (to : ℕ) (ps : List Point) (t : Lexeme) (ts : List Lexeme) : Type 0 where
  pub front : List Point
  pub here : List Point
  pub behind : List Point
  pub split : ps ≡ front ++ (here ++ behind)
  pub begins : place to (here ++ behind) ≡ t.start
  pub ends : place to behind ≡ t.end
  pub others : Stand to behind ts

pub stands_at : (to : ℕ) (us : List Lexeme) (t : Lexeme) (ts : List Lexeme) (ps : List Point) → Stand to ps (us ++ t ∷ ts) → StandsAt to ps t ts
stands_at to [] t ts ps h = record { front = h.0; here = h.1; behind = h.2; split = h.3; begins = h.4; ends = h.5; others = h.6 }
stands_at to (u ∷ us) t ts ps h =
    let r = stands_at to us t ts h.2 h.6 in
    record {
      front = h.0 ++ (h.1 ++ r.front);
      here = r.here;
      behind = r.behind;
      split = h.3 ∙ ap (λ (xs : List Point). h.0 ++ (h.1 ++ xs)) r.split ∙ ap (λ (xs : List Point). h.0 ++ xs) (sym (append_assoc h.1 r.front (r.here ++ r.behind))) ∙ sym (append_assoc h.0 (h.1 ++ r.front) (r.here ++ r.behind));
      begins = r.begins;
      ends = r.ends;
      others = r.others;
    }

-- ---- no first line is passed over

-- of points of which the first token begins where they do
pub none_passed : (from to : ℕ) (ps : List Point) (t : Lexeme) (ts : List Lexeme) → LieTo from to ps → Stand to (without_first_line from ps) (t ∷ ts) → t.start ≡ from → without_first_line from ps ≡ ps
none_passed from to ps t ts h s e = by (from == 0) s
  where
    by : (b : Bool) → Stand to (cond b (drop (first_line_length (map code_of ps)) ps) ps) (t ∷ ts) → cond b (drop (first_line_length (map code_of ps)) ps) ps ≡ ps
    by true k = lie_whole from to (first_line_length (map code_of ps)) ps k.0 (k.1 ++ k.2) h k.3 (k.4 ∙ e)
    by false k = refl

-- what begins with `#!` begins with no blank
hash_no_blank : (codes : List ℕ) → begins (0x23 ∷ 0x21 ∷ []) codes ≡ true → blank_at codes ≡ None
hash_no_blank [] e = absurd (cc)
hash_no_blank (c ∷ codes) e = by (c == 0x23) refl e
  where
    by : (x : Bool) → (c == 0x23) ≡ x → (x && begins (0x21 ∷ []) codes) ≡ true → blank_at (c ∷ codes) ≡ None
    by true f k = ap (λ x. blank_at (x ∷ codes)) (eqb-true c 0x23 f)
    by false f k = absurd (cc)

-- nor of points that have a token
no_hash : (fuel to : ℕ) (ps : List Point) → 2 ≤ length (map lexeme_of (tokens_within (suc fuel) to [] false ps)) → begins (0x23 ∷ 0x21 ∷ []) (map code_of ps) ≡ false
no_hash fuel to ps many = by (begins (0x23 ∷ 0x21 ∷ []) (map code_of ps)) (token_at false (map code_of ps)) refl refl
  where
    by : (b : Bool) (o : Option Piece) → begins (0x23 ∷ 0x21 ∷ []) (map code_of ps) ≡ b → token_at false (map code_of ps) ≡ o → b ≡ false
    by false o e f = refl
    by true (Some p) e f = sym e ∙ token_no_hash false (map code_of ps) p f
    by true None e f =
        let one : map lexeme_of (tokens_within (suc fuel) to [] false ps) ≡ lexeme_of (last_token to false ps) ∷ [] =
        ap (λ (o : Option Blank). map lexeme_of (then_tokens to [] false ps (front_of o (token_at false (map code_of ps))) (λ bs a qs. tokens_within fuel to bs a qs))) (hash_no_blank (map code_of ps) e)
        ∙ ap (λ (o : Option Piece). map lexeme_of (then_tokens to [] false ps (front_of None o) (λ bs a qs. tokens_within fuel to bs a qs))) f in
        let size : length (map lexeme_of (tokens_within (suc fuel) to [] false ps)) ≡ 1 = ap length one in
        absurd (omega (arith, many, size))

pub token_none_passed : (fuel from to : ℕ) (ps : List Point) → 2 ≤ length (map lexeme_of (tokens_within (suc fuel) to [] false ps)) → without_first_line from ps ≡ ps
token_none_passed fuel from to ps many = by (from == 0)
  where
    by : (b : Bool) → cond b (drop (first_line_length (map code_of ps)) ps) ps ≡ ps
    by true = ap (λ x. drop (cond x (line_length (map code_of ps)) 0) ps) (no_hash fuel to ps many)
    by false = refl
