-- The tokens of a part of a text that is scanned alone, one after the other, beside those of the whole text.
use Rattle.std.proofs.Common.{◌≡◌, ℕ, zero, suc, ◌+◌, ◌<◌, ◌≤◌, List, [], ◌∷◌, ◌++◌, map, length, take, drop, Bool, true, false, refl, sym, ◌∙◌, ap, ap₂, subst, arith, Option, Some, None, length-append, append_assoc, take-append-drop, length-take-le, drop_of_length-le, ◌⊎◌, inl, inr}
use Rattle.std.specs.Prelude.{◌&&◌, ◌||◌, ◌==◌}
use Rattle.std.proofs.lemmas.Bool.{eqb-true}
use Rattle.std.proofs.lemmas.List.{length-map, map-append, drop-append-le}
use Rattle.script_grammar.specs.declared.brackets.Bracket.{Bracket}
use Rattle.script_grammar.specs.Lexeme.{Lexeme}
use Rattle.unit_text.specs.declared.Point.{Point}
use Rattle.unit_text.specs.Points.{code_of}
use Rattle.script_scanner.specs.declared.blanks.Blank.{Blank}
use Rattle.script_scanner.specs.declared.braces.Brace.{Brace}
use Rattle.script_scanner.specs.Blanks.{blank_at}
use Rattle.script_scanner.specs.Braces.{in_substitution}
use Rattle.script_scanner.specs.Escapes.{begins_with_digit}
use Rattle.script_scanner.specs.Tokens.{Piece, Lexed, place, last_token, front_of, token_at, braces_after, then_tokens, tokens_within}
use Rattle.script_scanner.specs.Lexemes.{lexeme_of}
use Rattle.script_scanner.proofs.Lists.{map_drop}
use Rattle.scan_laws.specs.Inside.{kinds, end_from, end_token}
use Rattle.scan_laws.proofs.CutBlanks.{BlankWithin, BlankCut, blank_within, blank_cut}
use Rattle.scan_laws.proofs.CutNumbers.{PieceWithin, PieceCut}
use Rattle.scan_laws.proofs.CutMarks.{MayCut, point_digit}
use Rattle.scan_laws.proofs.CutTokens.{token_within, token_cut, token_no_point}
use Rattle.scan_laws.proofs.OpenBraces.{CloseAll, BraceStep, braces_of, brace_step, token_inside, ends_substitution}

abbrev pub codes_of : List Point → List ℕ
codes_of = map code_of

-- the token that a piece at the front of points is
abbrev pub lexed_at : ℕ → Bool → List Point → Piece → Lexed
lexed_at to after ps p = record { kind = p.kind; value = p.value; start = place to ps; end = place to (drop p.length ps); after_line = after }

abbrev pub read_at : ℕ → Bool → List Point → Piece → Lexeme
read_at to after ps p = lexeme_of (lexed_at to after ps p)

abbrev pub read_within : ℕ → ℕ → List Brace → Bool → List Point → List Lexeme
read_within fuel to braces after ps = map lexeme_of (tokens_within fuel to braces after ps)

-- One step.

pub one_blank : (fuel to : ℕ) (braces : List Brace) (after : Bool) (ps : List Point) (b : Blank) → blank_at (codes_of ps) ≡ Some b
    → read_within (suc fuel) to braces after ps ≡ read_within fuel to braces (after || b.breaks) (drop b.length ps)
one_blank fuel to braces after ps b e = ap (λ (o : Option Blank). map lexeme_of (then_tokens to braces after ps (front_of o (token_at (in_substitution braces) (codes_of ps))) (λ bs a qs. tokens_within fuel to bs a qs))) e

pub one_token : (fuel to : ℕ) (braces : List Brace) (after : Bool) (ps : List Point) (p : Piece) → blank_at (codes_of ps) ≡ None → token_at (in_substitution braces) (codes_of ps) ≡ Some p
    → read_within (suc fuel) to braces after ps ≡ read_at to after ps p ∷ read_within fuel to (braces_after braces p.kind) false (drop p.length ps)
one_token fuel to braces after ps p e f =
    ap (λ (o : Option Blank). map lexeme_of (then_tokens to braces after ps (front_of o (token_at (in_substitution braces) (codes_of ps))) (λ bs a qs. tokens_within fuel to bs a qs))) e
    ∙ ap (λ (o : Option Piece). map lexeme_of (then_tokens to braces after ps (front_of None o) (λ bs a qs. tokens_within fuel to bs a qs))) f

pub no_token : (fuel to : ℕ) (braces : List Brace) (after : Bool) (ps : List Point) → blank_at (codes_of ps) ≡ None → token_at (in_substitution braces) (codes_of ps) ≡ None
    → read_within (suc fuel) to braces after ps ≡ lexeme_of (last_token to after ps) ∷ []
no_token fuel to braces after ps e f =
    ap (λ (o : Option Blank). map lexeme_of (then_tokens to braces after ps (front_of o (token_at (in_substitution braces) (codes_of ps))) (λ bs a qs. tokens_within fuel to bs a qs))) e
    ∙ ap (λ (o : Option Piece). map lexeme_of (then_tokens to braces after ps (front_of None o) (λ bs a qs. tokens_within fuel to bs a qs))) f

pub at_end : (fuel to : ℕ) (braces : List Brace) → read_within (suc fuel) to braces false [] ≡ end_token to ∷ []
unfolding token_at
at_end fuel to braces = refl

-- a blank is no `.` before a digit
blank_no_point : (codes : List ℕ) (b : Blank) → blank_at codes ≡ Some b → point_digit codes ≡ false
blank_no_point [] b e = refl
blank_no_point (c ∷ codes) b e = by (c == 0x2E) refl
  where
    by : (x : Bool) → (c == 0x2E) ≡ x → (x && begins_with_digit codes) ≡ false
    by false f = refl
    by true f = let none : ◌≡◌ {A = Option Blank} None (Some b) = sym (ap (λ x. blank_at (x ∷ codes)) (eqb-true c 0x2E f)) ∙ e in absurd (cc)

-- Where points are cut.

place_front : (to : ℕ) (front rest : List Point) → place (place to rest) front ≡ place to (front ++ rest)
place_front to [] rest = refl
place_front to (p ∷ front) rest = refl

-- a step is the same in front of the cut
blank_front : (front rest : List Point) (b : Blank) → b.length ≤ length front → 1 ≤ b.length → blank_at (codes_of (front ++ rest)) ≡ Some b → blank_at (codes_of front) ≡ Some b
blank_front [] rest b le some e = absurd (omega (arith, le, some))
blank_front (p ∷ front) rest b le some e =
    let whole : blank_at (p.code ∷ (codes_of front ++ codes_of rest)) ≡ Some b = ap (λ (cs : List ℕ). blank_at (p.code ∷ cs)) (sym (map-append code_of front rest)) ∙ e in
    let size : length (codes_of front) ≡ length front = length-map front code_of in
    subst (λ (o : Option Blank). BlankCut (suc (length (codes_of front))) o (blank_at (p.code ∷ codes_of front))) whole (blank_cut p.code (codes_of front) (codes_of rest)) (omega (arith, le, size))

bare_front : (front rest : List Point) → 1 ≤ length front → blank_at (codes_of (front ++ rest)) ≡ None → blank_at (codes_of front) ≡ None
bare_front [] rest some e = absurd (omega (arith, some))
bare_front (p ∷ front) rest some e =
    let whole : blank_at (p.code ∷ (codes_of front ++ codes_of rest)) ≡ None = ap (λ (cs : List ℕ). blank_at (p.code ∷ cs)) (sym (map-append code_of front rest)) ∙ e in
    subst (λ (o : Option Blank). BlankCut (suc (length (codes_of front))) o (blank_at (p.code ∷ codes_of front))) whole (blank_cut p.code (codes_of front) (codes_of rest))

token_front : (in_template : Bool) (front rest : List Point) (p : Piece) → 1 ≤ length front → token_at in_template (codes_of (front ++ rest)) ≡ Some p → MayCut (codes_of front) (codes_of rest) p.length
    → token_at in_template (codes_of front) ≡ Some p
token_front in_template [] rest p some e may = absurd (omega (arith, some))
token_front in_template (q ∷ front) rest p some e may =
    let whole : token_at in_template (q.code ∷ (codes_of front ++ codes_of rest)) ≡ Some p = ap (λ (cs : List ℕ). token_at in_template (q.code ∷ cs)) (sym (map-append code_of front rest)) ∙ e in
    subst (λ (o : Option Piece). PieceCut (MayCut (q.code ∷ codes_of front) (codes_of rest)) o (token_at in_template (q.code ∷ codes_of front))) whole (token_cut in_template q.code (codes_of front) (codes_of rest)) may

-- Points of which a front is read alone as these tokens, and then End, at the place where the rest begins.
pub record Reads (to : ℕ) (s : List Bracket) (after : Bool) (ps : List Point) (ts : List Lexeme) : Type 0 where
  pub front : List Point
  pub rest : List Point
  pub split : ps ≡ front ++ rest
  pub ends : place to rest ≡ end_from (place to ps) ts
  pub alone : (fuel : ℕ) → length front < fuel → read_within fuel (place to rest) (braces_of s) after front ≡ ts ++ end_token (place to rest) ∷ []
  pub apart : (front ≡ []) ⊎ (point_digit (codes_of ps) ≡ false)

reads_none : (to : ℕ) (s : List Bracket) (ps : List Point) → Reads to s false ps []
reads_none to s ps = record { front = []; rest = ps; split = refl; ends = refl; alone = alone; apart = inl refl }
  where
    alone : (fuel : ℕ) → 0 < fuel → read_within fuel (place to ps) (braces_of s) false [] ≡ end_token (place to ps) ∷ []
    alone zero lt = absurd (omega (arith, lt))
    alone (suc fuel) lt = at_end fuel (place to ps) (braces_of s)

-- what one step takes, and the front of what is after it
record Longer (n : ℕ) (ps front rest : List Point) : Type 0 where
  split : ps ≡ (take n ps ++ front) ++ rest
  behind : drop n (take n ps ++ front) ≡ front
  size : length (take n ps ++ front) ≡ n + length front

longer : (n : ℕ) (ps front rest : List Point) → n ≤ length ps → drop n ps ≡ front ++ rest → Longer n ps front rest
longer n ps front rest le split =
    let taken : length (take n ps) ≡ n = length-take-le n ps le in
    record {
      split = sym (take-append-drop n ps) ∙ ap (λ (xs : List Point). take n ps ++ xs) split ∙ sym (append_assoc (take n ps) front rest);
      behind = drop-append-le n (take n ps) front (omega (arith, taken)) ∙ ap (λ (xs : List Point). xs ++ front) (drop_of_length-le (take n ps) (omega (arith, taken)));
      size = let e : length (take n ps ++ front) ≡ length (take n ps) + length front = length-append (take n ps) front in omega (arith, e, taken);
    }

pub reads_blank : (to : ℕ) (s : List Bracket) (after : Bool) (ps : List Point) (b : Blank) (t : Lexeme) (ts : List Lexeme) → blank_at (codes_of ps) ≡ Some b
    → Reads to s (after || b.breaks) (drop b.length ps) (t ∷ ts) → Reads to s after ps (t ∷ ts)
reads_blank to s after ps b t ts e r = record {
  front = take b.length ps ++ r.front;
  rest = r.rest;
  split = l.split;
  ends = r.ends;
  alone = alone;
  apart = inr (blank_no_point (codes_of ps) b e);
}
  where
    within : (1 ≤ b.length) × (b.length ≤ length (codes_of ps))
    within = subst (λ (o : Option Blank). BlankWithin 1 (length (codes_of ps)) o) e (blank_within (codes_of ps))

    size : length (codes_of ps) ≡ length ps
    size = length-map ps code_of

    l : Longer b.length ps r.front r.rest
    l = longer b.length ps r.front r.rest (omega (arith, within.1, size)) r.split

    alone : (fuel : ℕ) → length (take b.length ps ++ r.front) < fuel → read_within fuel (place to r.rest) (braces_of s) after (take b.length ps ++ r.front) ≡ (t ∷ ts) ++ end_token (place to r.rest) ∷ []
    alone zero lt = absurd (omega (arith, lt))
    alone (suc fuel) lt =
        let front = take b.length ps ++ r.front in
        let cut : blank_at (codes_of front) ≡ Some b = blank_front front r.rest b (omega (arith, l.size)) within.0 (ap (λ (qs : List Point). blank_at (codes_of qs)) (sym l.split) ∙ e) in
        one_blank fuel (place to r.rest) (braces_of s) after front b cut
        ∙ ap (λ (qs : List Point). read_within fuel (place to r.rest) (braces_of s) (after || b.breaks) qs) l.behind
        ∙ r.alone fuel (omega (arith, lt, l.size, within.0))

pub reads_token : (to : ℕ) (s next : List Bracket) (after : Bool) (ps : List Point) (p : Piece) (ts : List Lexeme) → blank_at (codes_of ps) ≡ None → token_at (in_substitution (braces_of s)) (codes_of ps) ≡ Some p
    → braces_after (braces_of s) p.kind ≡ braces_of next → Reads to next false (drop p.length ps) ts → Reads to s after ps (read_at to after ps p ∷ ts)
reads_token to s next after ps p ts bare is braces r = record {
  front = take p.length ps ++ r.front;
  rest = r.rest;
  split = l.split;
  ends = r.ends;
  alone = alone;
  apart = inr (token_no_point (in_substitution (braces_of s)) (codes_of ps) p is);
}
  where
    within : (1 ≤ p.length) × (p.length ≤ length (codes_of ps))
    within = subst (λ (o : Option Piece). PieceWithin (length (codes_of ps)) o) is (token_within (in_substitution (braces_of s)) (codes_of ps))

    size : length (codes_of ps) ≡ length ps
    size = length-map ps code_of

    l : Longer p.length ps r.front r.rest
    l = longer p.length ps r.front r.rest (omega (arith, within.1, size)) r.split

    cut_size : length (codes_of (take p.length ps ++ r.front)) ≡ p.length + length r.front
    cut_size = length-map (take p.length ps ++ r.front) code_of ∙ l.size

    whole : codes_of (take p.length ps ++ r.front) ++ codes_of r.rest ≡ codes_of ps
    whole = sym (map-append code_of (take p.length ps ++ r.front) r.rest) ∙ ap codes_of (sym l.split)

    apart : (r.front ≡ []) ⊎ (point_digit (codes_of (drop p.length ps)) ≡ false)
        → (p.length ≡ length (codes_of (take p.length ps ++ r.front))) ⊎ (point_digit (drop p.length (codes_of (take p.length ps ++ r.front) ++ codes_of r.rest)) ≡ false)
    apart (inl none) = inl (let zero_left : length r.front ≡ 0 = ap length none in omega (arith, cut_size, zero_left))
    apart (inr clear) = inr (ap (λ (cs : List ℕ). point_digit (drop p.length cs)) whole ∙ ap point_digit (sym (map_drop code_of p.length ps)) ∙ clear)

    may : MayCut (codes_of (take p.length ps ++ r.front)) (codes_of r.rest) p.length
    may = record { within = omega (arith, cut_size); apart = apart r.apart }

    made : ℕ → ℕ → Lexeme
    made start end = lexeme_of (record { kind = p.kind; value = p.value; start = start; end = end; after_line = after })

    same : read_at (place to r.rest) after (take p.length ps ++ r.front) p ≡ read_at to after ps p
    same =
        let start : place (place to r.rest) (take p.length ps ++ r.front) ≡ place to ps = place_front to (take p.length ps ++ r.front) r.rest ∙ ap (place to) (sym l.split) in
        let end : place (place to r.rest) (drop p.length (take p.length ps ++ r.front)) ≡ place to (drop p.length ps) = ap (place (place to r.rest)) l.behind ∙ place_front to r.front r.rest ∙ ap (place to) (sym r.split) in
        ap₂ made start end

    alone : (fuel : ℕ) → length (take p.length ps ++ r.front) < fuel
        → read_within fuel (place to r.rest) (braces_of s) after (take p.length ps ++ r.front) ≡ (read_at to after ps p ∷ ts) ++ end_token (place to r.rest) ∷ []
    alone zero lt = absurd (omega (arith, lt))
    alone (suc fuel) lt =
        let front = take p.length ps ++ r.front in
        let some : 1 ≤ length front = omega (arith, l.size, within.0) in
        let bare_cut : blank_at (codes_of front) ≡ None = bare_front front r.rest some (ap (λ (qs : List Point). blank_at (codes_of qs)) (sym l.split) ∙ bare) in
        let is_cut : token_at (in_substitution (braces_of s)) (codes_of front) ≡ Some p = token_front (in_substitution (braces_of s)) front r.rest p some (ap (λ (qs : List Point). token_at (in_substitution (braces_of s)) (codes_of qs)) (sym l.split) ∙ is) may in
        one_token fuel (place to r.rest) (braces_of s) after front p bare_cut is_cut
        ∙ ap (λ (bs : List Brace). read_at (place to r.rest) after front p ∷ read_within fuel (place to r.rest) bs false (drop p.length front)) braces
        ∙ ap (λ (qs : List Point). read_at (place to r.rest) after front p ∷ read_within fuel (place to r.rest) (braces_of next) false qs) l.behind
        ∙ ap (λ (us : List Lexeme). read_at (place to r.rest) after front p ∷ us) (r.alone fuel (omega (arith, lt, l.size, within.0)))
        ∙ ap (λ (u : Lexeme). u ∷ (ts ++ end_token (place to r.rest) ∷ [])) same

-- The walk.

abbrev Reader : ℕ → ℕ → Type 0
Reader fuel to = (around : List Brace) (s : List Bracket) (after : Bool) (ps : List Point) (t : Lexeme) (ts : List Lexeme) (behind : Lexeme) (others : List Lexeme)
    → read_within fuel to (around ++ braces_of s) after ps ≡ t ∷ (ts ++ behind ∷ others) → CloseAll s (kinds (t ∷ ts)) → Reads to s after ps (t ∷ ts)

reads_rest : (fuel to : ℕ) → Reader fuel to → (around : List Brace) (s : List Bracket) (ps : List Point) (ts : List Lexeme) (behind : Lexeme) (others : List Lexeme)
    → read_within fuel to (around ++ braces_of s) false ps ≡ ts ++ behind ∷ others → CloseAll s (kinds ts) → Reads to s false ps ts
reads_rest fuel to reader around s ps [] behind others e h = reads_none to s ps
reads_rest fuel to reader around s ps (t ∷ ts) behind others e h = reader around s false ps t ts behind others e h

-- a token, and those after it, whether a line end is said to stand before it or not
pub reads_first : (fuel to : ℕ) → Reader fuel to → (around : List Brace) (s : List Bracket) (after said : Bool) (ps : List Point) (p : Piece) (t : Lexeme) (ts : List Lexeme) (behind : Lexeme) (others : List Lexeme)
    → blank_at (codes_of ps) ≡ None → token_at (in_substitution (around ++ braces_of s)) (codes_of ps) ≡ Some p → read_within (suc fuel) to (around ++ braces_of s) after ps ≡ t ∷ (ts ++ behind ∷ others)
    → CloseAll s (kinds (t ∷ ts)) → Reads to s said ps (record t { after_line = said } ∷ ts)
reads_first fuel to reader around s after said ps p t ts behind others bare is e h =
    subst (λ (u : Lexeme). Reads to s said ps (record u { after_line = said } ∷ ts)) first
    (reads_token to s step.stack said ps p ts bare (token_inside around s (codes_of ps) p is (λ f. step.substitution (sym (ap (λ k. ends_substitution k) same_kind) ∙ f)))
    (ap (braces_after (braces_of s)) same_kind ∙ step.after [])
    (reads_rest fuel to reader around step.stack (drop p.length ps) ts behind others (ap (λ (bs : List Brace). read_within fuel to bs false (drop p.length ps)) (sym (ap (braces_after (around ++ braces_of s)) same_kind ∙ step.after around)) ∙ rest) step.closes))
  where
    split : read_at to after ps p ∷ read_within fuel to (braces_after (around ++ braces_of s) p.kind) false (drop p.length ps) ≡ t ∷ (ts ++ behind ∷ others)
    split = sym (one_token fuel to (around ++ braces_of s) after ps p bare is) ∙ e

    first : read_at to after ps p ≡ t
    first = cc

    rest : read_within fuel to (braces_after (around ++ braces_of s) p.kind) false (drop p.length ps) ≡ ts ++ behind ∷ others
    rest = cc

    same_kind : p.kind ≡ t.kind
    same_kind = ap (λ (u : Lexeme). u.kind) first

    step : BraceStep s t.kind (kinds ts)
    step = brace_step s t.kind (kinds ts) h

-- what has an item is not empty
pub not_nothing : {A : Type 0} (x : A) (xs ys : List A) → [] ≡ xs ++ x ∷ ys → ⊥
not_nothing x xs ys e = let size : length (xs ++ x ∷ ys) ≡ length xs + length (x ∷ ys) = length-append xs (x ∷ ys) in let none : 0 ≡ length (xs ++ x ∷ ys) = ap length e in omega (arith, size, none)

reads_next : (fuel to : ℕ) → Reader fuel to → Reader (suc fuel) to
reads_next fuel to reader around s after ps t ts behind others e h = by (blank_at (codes_of ps)) (token_at (in_substitution (around ++ braces_of s)) (codes_of ps)) refl refl
  where
    by : (b : Option Blank) (o : Option Piece) → blank_at (codes_of ps) ≡ b → token_at (in_substitution (around ++ braces_of s)) (codes_of ps) ≡ o → Reads to s after ps (t ∷ ts)
    by (Some b) o f g = reads_blank to s after ps b t ts f (reader around s (after || b.breaks) (drop b.length ps) t ts behind others (sym (one_blank fuel to (around ++ braces_of s) after ps b f) ∙ e) h)
    by None (Some p) f g = subst (λ (u : Lexeme). Reads to s after ps (u ∷ ts)) same (reads_first fuel to reader around s after after ps p t ts behind others f g e h)
      where
        first : read_at to after ps p ≡ t
        first = let split : read_at to after ps p ∷ read_within fuel to (braces_after (around ++ braces_of s) p.kind) false (drop p.length ps) ≡ t ∷ (ts ++ behind ∷ others) = sym (one_token fuel to (around ++ braces_of s) after ps p f g) ∙ e in cc

        same : record t { after_line = after } ≡ t
        same = subst (λ (u : Lexeme). record u { after_line = after } ≡ u) first refl
    by None None f g =
        let split : lexeme_of (last_token to after ps) ∷ [] ≡ t ∷ (ts ++ behind ∷ others) = sym (no_token fuel to (around ++ braces_of s) after ps f g) ∙ e in
        let none : [] ≡ ts ++ behind ∷ others = cc in
        absurd (not_nothing behind ts others none)

pub reads : (fuel to : ℕ) → Reader fuel to
reads zero to around s after ps t ts behind others e h = absurd (not_nothing t [] (ts ++ behind ∷ others) e)
reads (suc fuel) to around s after ps t ts behind others e h = reads_next fuel to (λ bs u a qs x xs y ys. reads fuel to bs u a qs x xs y ys) around s after ps t ts behind others e h
