-- What is read of points from a state of a scan, step by step.
use Rattle.std.proofs.Common.{◌≡◌, ℕ, zero, suc, ◌+◌, ◌-◌, ◌<◌, ◌≤◌, List, [], ◌∷◌, ◌++◌, map, length, take, drop, Bool, true, false, refl, sym, ◌∙◌, ap, subst, arith, Option, Some, None, length-append, length-drop, append_assoc, take-append-drop, length-take-le, drop_of_length-le}
use Rattle.std.specs.Prelude.{◌||◌}
use Rattle.std.proofs.lemmas.List.{length-map, map-append, drop-append-le}
use Rattle.script_grammar.specs.declared.token.Kind.{Kind}
use Rattle.unit_text.specs.declared.Point.{Point}
use Rattle.unit_text.specs.Points.{code_of}
use Rattle.script_scanner.specs.declared.blanks.Blank.{Blank}
use Rattle.script_scanner.specs.declared.braces.Brace.{Brace}
use Rattle.script_scanner.specs.Blanks.{blank_at}
use Rattle.script_scanner.specs.Braces.{in_substitution}
use Rattle.script_scanner.specs.Tokens.{Piece, Lexed, place, last_token, front_of, token_at, braces_after, then_tokens, tokens_within}
use Rattle.scan_laws.proofs.CutBlanks.{BlankWithin, blank_within}
use Rattle.scan_laws.proofs.CutNumbers.{PieceWithin}
use Rattle.scan_laws.proofs.CutTokens.{token_within}
use Rattle.scan_skip_laws.specs.Spans.{kinds_of}
use Rattle.scan_skip_laws.proofs.BehindBlanks.{blank_front, bare_front}
use Rattle.scan_skip_laws.proofs.BehindTokens.{token_front, token_no_star}

abbrev pub codes_of : List Point → List ℕ
codes_of = map code_of

abbrev pub lexed_at : ℕ → Bool → List Point → Piece → Lexed
lexed_at to after ps p = record { kind = p.kind; value = p.value; start = place to ps; end = place to (drop p.length ps); after_line = after }

-- ---- one step

pub one_blank : (fuel to : ℕ) (braces : List Brace) (after : Bool) (ps : List Point) (b : Blank) → blank_at (codes_of ps) ≡ Some b
    → tokens_within (suc fuel) to braces after ps ≡ tokens_within fuel to braces (after || b.breaks) (drop b.length ps)
one_blank fuel to braces after ps b e = ap (λ (o : Option Blank). then_tokens to braces after ps (front_of o (token_at (in_substitution braces) (codes_of ps))) (λ bs a qs. tokens_within fuel to bs a qs)) e

pub one_token : (fuel to : ℕ) (braces : List Brace) (after : Bool) (ps : List Point) (p : Piece) → blank_at (codes_of ps) ≡ None → token_at (in_substitution braces) (codes_of ps) ≡ Some p
    → tokens_within (suc fuel) to braces after ps ≡ lexed_at to after ps p ∷ tokens_within fuel to (braces_after braces p.kind) false (drop p.length ps)
one_token fuel to braces after ps p e f =
    ap (λ (o : Option Blank). then_tokens to braces after ps (front_of o (token_at (in_substitution braces) (codes_of ps))) (λ bs a qs. tokens_within fuel to bs a qs)) e
    ∙ ap (λ (o : Option Piece). then_tokens to braces after ps (front_of None o) (λ bs a qs. tokens_within fuel to bs a qs)) f

no_token : (fuel to : ℕ) (braces : List Brace) (after : Bool) (ps : List Point) → blank_at (codes_of ps) ≡ None → token_at (in_substitution braces) (codes_of ps) ≡ None
    → tokens_within (suc fuel) to braces after ps ≡ last_token to after ps ∷ []
no_token fuel to braces after ps e f =
    ap (λ (o : Option Blank). then_tokens to braces after ps (front_of o (token_at (in_substitution braces) (codes_of ps))) (λ bs a qs. tokens_within fuel to bs a qs)) e
    ∙ ap (λ (o : Option Piece). then_tokens to braces after ps (front_of None o) (λ bs a qs. tokens_within fuel to bs a qs)) f

pub blank_takes : (ps : List Point) (b : Blank) → blank_at (codes_of ps) ≡ Some b → (1 ≤ b.length) × (b.length ≤ length ps)
blank_takes ps b e =
    let h : (1 ≤ b.length) × (b.length ≤ length (codes_of ps)) = subst (λ (o : Option Blank). BlankWithin 1 (length (codes_of ps)) o) e (blank_within (codes_of ps)) in
    (h.0, let size : length (codes_of ps) ≡ length ps = length-map ps code_of in let le = h.1 in omega (arith, le, size))

pub token_takes : (in_template : Bool) (ps : List Point) (p : Piece) → token_at in_template (codes_of ps) ≡ Some p → (1 ≤ p.length) × (p.length ≤ length ps)
token_takes in_template ps p e =
    let h : (1 ≤ p.length) × (p.length ≤ length (codes_of ps)) = subst (λ (o : Option Piece). PieceWithin (length (codes_of ps)) o) e (token_within in_template (codes_of ps)) in
    (h.0, let size : length (codes_of ps) ≡ length ps = length-map ps code_of in let le = h.1 in omega (arith, le, size))

-- ---- as many steps as there are points are enough

pub same_fuel : (f g to : ℕ) (braces : List Brace) (after : Bool) (ps : List Point) → length ps < f → length ps < g → tokens_within f to braces after ps ≡ tokens_within g to braces after ps
same_fuel zero g to braces after ps le k = absurd (omega (arith, le))
same_fuel (suc f) zero to braces after ps le k = absurd (omega (arith, k))
same_fuel (suc f) (suc g) to braces after ps le k = by (λ bs a qs m n. same_fuel f g to bs a qs m n) (blank_at (codes_of ps)) (token_at (in_substitution braces) (codes_of ps)) refl refl
  where
    by : ((bs : List Brace) (a : Bool) (qs : List Point) → length qs < f → length qs < g → tokens_within f to bs a qs ≡ tokens_within g to bs a qs) → (b : Option Blank) (o : Option Piece) → blank_at (codes_of ps) ≡ b → token_at (in_substitution braces) (codes_of ps) ≡ o → tokens_within (suc f) to braces after ps ≡ tokens_within (suc g) to braces after ps
    by each (Some b) o e h =
        let some = (blank_takes ps b e).0 in
        let fits = (blank_takes ps b e).1 in
        let size : length (drop b.length ps) ≡ length ps - b.length = length-drop b.length ps in
        one_blank f to braces after ps b e ∙ each braces (after || b.breaks) (drop b.length ps) (omega (arith, some, fits, size, le)) (omega (arith, some, fits, size, k)) ∙ sym (one_blank g to braces after ps b e)
    by each None (Some p) e h =
        let some = (token_takes (in_substitution braces) ps p h).0 in
        let fits = (token_takes (in_substitution braces) ps p h).1 in
        let size : length (drop p.length ps) ≡ length ps - p.length = length-drop p.length ps in
        one_token f to braces after ps p e h
        ∙ ap (λ (ts : List Lexed). lexed_at to after ps p ∷ ts) (each (braces_after braces p.kind) false (drop p.length ps) (omega (arith, some, fits, size, le)) (omega (arith, some, fits, size, k)))
        ∙ sym (one_token g to braces after ps p e h)
    by each None None e h = no_token f to braces after ps e h ∙ sym (no_token g to braces after ps e h)

-- these are all tokens of the points, from this state
abbrev pub Reads : ℕ → List Brace → Bool → List Point → List Lexed → Type 0
Reads to braces after ps ts = tokens_within (suc (length ps)) to braces after ps ≡ ts

pub reads_behind_blank : (to : ℕ) (braces : List Brace) (after : Bool) (ps : List Point) (b : Blank) (ts : List Lexed) → blank_at (codes_of ps) ≡ Some b → Reads to braces after ps ts → Reads to braces (after || b.breaks) (drop b.length ps) ts
reads_behind_blank to braces after ps b ts e r =
    let t = blank_takes ps b e in
    let some = t.0 in
    let le = t.1 in
    let size : length (drop b.length ps) ≡ length ps - b.length = length-drop b.length ps in
    same_fuel (suc (length (drop b.length ps))) (length ps) to braces (after || b.breaks) (drop b.length ps) (omega arith) (omega (arith, some, le, size)) ∙ sym (one_blank (length ps) to braces after ps b e) ∙ r

pub reads_before_blank : (to : ℕ) (braces : List Brace) (after : Bool) (ps : List Point) (b : Blank) (ts : List Lexed) → blank_at (codes_of ps) ≡ Some b → Reads to braces (after || b.breaks) (drop b.length ps) ts → Reads to braces after ps ts
reads_before_blank to braces after ps b ts e r =
    let t = blank_takes ps b e in
    let some = t.0 in
    let le = t.1 in
    let size : length (drop b.length ps) ≡ length ps - b.length = length-drop b.length ps in
    one_blank (length ps) to braces after ps b e ∙ same_fuel (length ps) (suc (length (drop b.length ps))) to braces (after || b.breaks) (drop b.length ps) (omega (arith, some, le, size)) (omega arith) ∙ r

-- a token at the front and those after it
pub reads_after : (to : ℕ) (braces : List Brace) (after : Bool) (ps : List Point) (p : Piece) → blank_at (codes_of ps) ≡ None → token_at (in_substitution braces) (codes_of ps) ≡ Some p
    → tokens_within (suc (length ps)) to braces after ps ≡ lexed_at to after ps p ∷ tokens_within (suc (length (drop p.length ps))) to (braces_after braces p.kind) false (drop p.length ps)
reads_after to braces after ps p e h =
    let t = token_takes (in_substitution braces) ps p h in
    let some = t.0 in
    let le = t.1 in
    let size : length (drop p.length ps) ≡ length ps - p.length = length-drop p.length ps in
    one_token (length ps) to braces after ps p e h
    ∙ ap (λ (ts : List Lexed). lexed_at to after ps p ∷ ts) (same_fuel (length ps) (suc (length (drop p.length ps))) to (braces_after braces p.kind) false (drop p.length ps) (omega (arith, some, le, size)) (omega arith))

-- ---- up to a token

-- the braces that are open after tokens of these kinds
abbrev pub open_after : List Brace → List Kind → List Brace
open_after braces [] = braces
open_after braces (k ∷ ks) = open_after (braces_after braces k) ks

-- The place where a token begins, after others, and what is read where other points stand after it: what stands after a brace
-- does not matter to what is in front of it.
pub record Walked (to : ℕ) (braces : List Brace) (after : Bool) (ps : List Point) (us : List Lexed) (t : Lexed) (ts : List Lexed) : Type 0 where
  pub before : List Point
  pub here : List Point
  pub split : ps ≡ before ++ here
  pub said : Bool
  pub bare : blank_at (codes_of here) ≡ None
  pub reads : Reads to (open_after braces (kinds_of us)) said here (t ∷ ts)
  pub swaps : (end : ℕ) (o : Point) (ds es : List Point) (rs : List Lexed) → o.code ≡ 0x7B → here ≡ o ∷ ds → Reads end (open_after braces (kinds_of us)) said (o ∷ es) rs → Reads end braces after (before ++ o ∷ es) (us ++ rs)

-- points of which a step takes the first
record Taken (n : ℕ) (ps before here : List Point) : Type 0 where
  split : ps ≡ (take n ps ++ before) ++ here
  behind : (others : List Point) → drop n ((take n ps ++ before) ++ others) ≡ before ++ others
  size : length (take n ps ++ before) ≡ n + length before

taken : (n : ℕ) (ps before here : List Point) → n ≤ length ps → drop n ps ≡ before ++ here → Taken n ps before here
taken n ps before here le split =
    let some : length (take n ps) ≡ n = length-take-le n ps le in
    record {
      split = sym (take-append-drop n ps) ∙ ap (λ (xs : List Point). take n ps ++ xs) split ∙ sym (append_assoc (take n ps) before here);
      behind = λ others. ap (drop n) (append_assoc (take n ps) before others) ∙ drop-append-le n (take n ps) (before ++ others) (omega (arith, some)) ∙ ap (λ (xs : List Point). xs ++ (before ++ others)) (drop_of_length-le (take n ps) (omega (arith, some)));
      size = let e : length (take n ps ++ before) ≡ length (take n ps) + length before = length-append (take n ps) before in omega (arith, e, some);
    }

-- the code points of points around a brace
codes_around : (front : List Point) (o : Point) (es : List Point) → o.code ≡ 0x7B → codes_of (front ++ o ∷ es) ≡ codes_of front ++ 0x7B ∷ codes_of es
codes_around front o es e = map-append code_of front (o ∷ es) ∙ ap (λ c. codes_of front ++ c ∷ codes_of es) e

same_place : (to end : ℕ) (front : List Point) (o : Point) (ds es : List Point) → place end (front ++ o ∷ ds) ≡ place to (front ++ o ∷ es)
same_place to end [] o ds es = refl
same_place to end (p ∷ front) o ds es = refl

walked_blank : (to : ℕ) (braces : List Brace) (after : Bool) (ps : List Point) (us : List Lexed) (t : Lexed) (ts : List Lexed) (b : Blank) → blank_at (codes_of ps) ≡ Some b
    → Walked to braces (after || b.breaks) (drop b.length ps) us t ts → Walked to braces after ps us t ts
walked_blank to braces after ps us t ts b e w = record {
  before = take b.length ps ++ w.before;
  here = w.here;
  split = k.split;
  said = w.said;
  bare = w.bare;
  reads = w.reads;
  swaps = swaps;
}
  where
    within : (1 ≤ b.length) × (b.length ≤ length ps)
    within = blank_takes ps b e

    k : Taken b.length ps w.before w.here
    k = taken b.length ps w.before w.here within.1 w.split

    swaps : (end : ℕ) (o : Point) (ds es : List Point) (rs : List Lexed) → o.code ≡ 0x7B → w.here ≡ o ∷ ds → Reads end (open_after braces (kinds_of us)) w.said (o ∷ es) rs → Reads end braces after ((take b.length ps ++ w.before) ++ o ∷ es) (us ++ rs)
    swaps end o ds es rs brace is r =
        let front = take b.length ps ++ w.before in
        let size : length (codes_of front) ≡ length front = length-map front code_of in
        let here : blank_at (codes_of front ++ 0x7B ∷ codes_of ds) ≡ Some b = ap blank_at (sym (codes_around front o ds brace) ∙ ap (λ (xs : List Point). codes_of (front ++ xs)) (sym is) ∙ ap codes_of (sym k.split)) ∙ e in
        let there : blank_at (codes_of (front ++ o ∷ es)) ≡ Some b = ap blank_at (codes_around front o es brace) ∙ blank_front (codes_of front) (codes_of ds) (codes_of es) b within.0 here (let s = k.size in omega (arith, size, s)) in
        reads_before_blank end braces after (front ++ o ∷ es) b (us ++ rs) there
        (subst (λ (xs : List Point). Reads end braces (after || b.breaks) xs (us ++ rs)) (sym (k.behind (o ∷ es))) (w.swaps end o ds es rs brace is r))

walked_token : (to : ℕ) (braces : List Brace) (after : Bool) (ps : List Point) (u : Lexed) (us : List Lexed) (t : Lexed) (ts : List Lexed) (p : Piece) → blank_at (codes_of ps) ≡ None → token_at (in_substitution braces) (codes_of ps) ≡ Some p
    → lexed_at to after ps p ≡ u → Walked to (braces_after braces p.kind) false (drop p.length ps) us t ts → Walked to braces after ps (u ∷ us) t ts
walked_token to braces after ps u us t ts p bare is first w = record {
  before = take p.length ps ++ w.before;
  here = w.here;
  split = k.split;
  said = w.said;
  bare = w.bare;
  reads = subst (λ j. Reads to (open_after (braces_after braces j) (kinds_of us)) w.said w.here (t ∷ ts)) kind_is w.reads;
  swaps = swaps;
}
  where
    kind_is : p.kind ≡ u.kind
    kind_is = ap (λ (x : Lexed). x.kind) first

    within : (1 ≤ p.length) × (p.length ≤ length ps)
    within = token_takes (in_substitution braces) ps p is

    k : Taken p.length ps w.before w.here
    k = taken p.length ps w.before w.here within.1 w.split

    swaps : (end : ℕ) (o : Point) (ds es : List Point) (rs : List Lexed) → o.code ≡ 0x7B → w.here ≡ o ∷ ds → Reads end (open_after (braces_after braces u.kind) (kinds_of us)) w.said (o ∷ es) rs
        → Reads end braces after ((take p.length ps ++ w.before) ++ o ∷ es) (u ∷ (us ++ rs))
    swaps end o ds es rs brace here r =
        let front = take p.length ps ++ w.before in
        let size : length (codes_of front) ≡ length front = length-map front code_of in
        let codes_are : codes_of front ++ 0x7B ∷ codes_of ds ≡ codes_of ps = sym (codes_around front o ds brace) ∙ ap (λ (xs : List Point). codes_of (front ++ xs)) (sym here) ∙ ap codes_of (sym k.split) in
        let is_here : token_at (in_substitution braces) (codes_of front ++ 0x7B ∷ codes_of ds) ≡ Some p = ap (token_at (in_substitution braces)) codes_are ∙ is in
        let is_there : token_at (in_substitution braces) (codes_of (front ++ o ∷ es)) ≡ Some p = ap (token_at (in_substitution braces)) (codes_around front o es brace) ∙ token_front (in_substitution braces) (codes_of front) (codes_of ds) (codes_of es) p within.0 is_here (let s = k.size in omega (arith, size, s)) in
        let bare_there : blank_at (codes_of (front ++ o ∷ es)) ≡ None = ap blank_at (codes_around front o es brace) ∙ bare_front (codes_of front) (codes_of ds) (codes_of es) (token_no_star (in_substitution braces) _ p is_here) (ap blank_at codes_are ∙ bare) in
        let starts : place end (front ++ o ∷ es) ≡ place to ps = same_place to end front o es ds ∙ ap (λ (xs : List Point). place to (front ++ xs)) (sym here) ∙ ap (place to) (sym k.split) in
        let ends : place end (drop p.length (front ++ o ∷ es)) ≡ place to (drop p.length ps) =
        ap (place end) (k.behind (o ∷ es)) ∙ same_place to end w.before o es ds ∙ ap (λ (xs : List Point). place to (w.before ++ xs)) (sym here) ∙ ap (place to) (sym w.split) in
        let behind : List Lexed = tokens_within (suc (length (drop p.length (front ++ o ∷ es)))) end (braces_after braces p.kind) false (drop p.length (front ++ o ∷ es)) in
        reads_after end braces after (front ++ o ∷ es) p bare_there is_there
        ∙ ap (λ n. record { kind = p.kind; value = p.value; start = n; end = place end (drop p.length (front ++ o ∷ es)); after_line = after } ∷ behind) starts
        ∙ ap (λ n. record { kind = p.kind; value = p.value; start = place to ps; end = n; after_line = after } ∷ behind) ends
        ∙ ap (λ (x : Lexed). x ∷ behind) first
        ∙ ap (λ (xs : List Lexed). u ∷ xs)
        (subst (λ (xs : List Point). Reads end (braces_after braces p.kind) false xs (us ++ rs)) (sym (k.behind (o ∷ es)))
        (w.swaps end o ds es rs brace here (subst (λ j. Reads end (open_after (braces_after braces j) (kinds_of us)) w.said (o ∷ es) rs) (sym kind_is) r)))

not_one : {A : Type 0} (x y z : A) (xs zs : List A) → x ∷ [] ≡ y ∷ (xs ++ z ∷ zs) → ⊥
not_one x y z xs zs e =
    let size : length (xs ++ z ∷ zs) ≡ length xs + length (z ∷ zs) = length-append xs (z ∷ zs) in
    let same : 1 ≡ suc (length (xs ++ z ∷ zs)) = ap length e in
    omega (arith, size, same)

-- where no token begins, there is but one
pub last_alone : (to : ℕ) (braces : List Brace) (after : Bool) (ps : List Point) (t u : Lexed) (ts us : List Lexed) → blank_at (codes_of ps) ≡ None → token_at (in_substitution braces) (codes_of ps) ≡ None → Reads to braces after ps (t ∷ (ts ++ u ∷ us)) → ⊥
last_alone to braces after ps t u ts us e f r = not_one (last_token to after ps) t u ts us (sym (no_token (length ps) to braces after ps e f) ∙ r)

abbrev Walks : ℕ → ℕ → Type 0
Walks n to = (braces : List Brace) (after : Bool) (ps : List Point) (us : List Lexed) (t : Lexed) (ts : List Lexed) → length ps < n → Reads to braces after ps (us ++ t ∷ ts) → Walked to braces after ps us t ts

walk_next : (n to : ℕ) → Walks n to → Walks (suc n) to
walk_next n to walks braces after ps us t ts lt r = by (blank_at (codes_of ps)) refl
  where
    at_token : (xs : List Lexed) (o : Option Piece) → Reads to braces after ps (xs ++ t ∷ ts) → blank_at (codes_of ps) ≡ None → token_at (in_substitution braces) (codes_of ps) ≡ o → Walked to braces after ps xs t ts
    at_token [] o g f h = record { before = []; here = ps; split = refl; said = after; bare = f; reads = g; swaps = λ end p ds es rs brace is q. q }
    at_token (x ∷ xs) None g f h = absurd (not_one (last_token to after ps) x t xs ts (sym (no_token (length ps) to braces after ps f h) ∙ g))
    at_token (x ∷ xs) (Some p) g f h =
        let some = (token_takes (in_substitution braces) ps p h).0 in
        let size : length (drop p.length ps) ≡ length ps - p.length = length-drop p.length ps in
        let split : lexed_at to after ps p ∷ tokens_within (suc (length (drop p.length ps))) to (braces_after braces p.kind) false (drop p.length ps) ≡ x ∷ (xs ++ t ∷ ts) = sym (reads_after to braces after ps p f h) ∙ g in
        let fits = (token_takes (in_substitution braces) ps p h).1 in
        let first : lexed_at to after ps p ≡ x = cc in
        let others : Reads to (braces_after braces p.kind) false (drop p.length ps) (xs ++ t ∷ ts) = cc in
        walked_token to braces after ps x xs t ts p f h first (walks (braces_after braces p.kind) false (drop p.length ps) xs t ts (omega (arith, some, size, lt, fits)) others)

    by : (b : Option Blank) → blank_at (codes_of ps) ≡ b → Walked to braces after ps us t ts
    by (Some b) e =
        let some = (blank_takes ps b e).0 in
        let le = (blank_takes ps b e).1 in
        let size : length (drop b.length ps) ≡ length ps - b.length = length-drop b.length ps in
        walked_blank to braces after ps us t ts b e (walks braces (after || b.breaks) (drop b.length ps) us t ts (omega (arith, some, le, size, lt)) (reads_behind_blank to braces after ps b (us ++ t ∷ ts) e r))
    by None e = at_token us (token_at (in_substitution braces) (codes_of ps)) r e refl

walk_in : (n to : ℕ) → Walks n to
walk_in zero to braces after ps us t ts lt r = absurd (omega (arith, lt))
walk_in (suc n) to braces after ps us t ts lt r = walk_next n to (λ bs a qs xs x ys. walk_in n to bs a qs xs x ys) braces after ps us t ts lt r

pub walk : (to : ℕ) (braces : List Brace) (after : Bool) (ps : List Point) (us : List Lexed) (t : Lexed) (ts : List Lexed) → Reads to braces after ps (us ++ t ∷ ts) → Walked to braces after ps us t ts
walk to braces after ps us t ts r = walk_in (suc (length ps)) to braces after ps us t ts (omega arith) r
