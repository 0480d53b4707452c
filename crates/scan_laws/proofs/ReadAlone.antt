-- A part of a file that is scanned alone has the tokens that the whole file has there.
use Rattle.std.proofs.Common.{◌≡◌, ℕ, zero, suc, ◌+◌, ◌≤◌, List, [], ◌∷◌, ◌++◌, map, length, take, drop, Bool, true, false, cond, refl, sym, ◌∙◌, ap, subst, arith, Option, Some, None, length-append, append_assoc, append-nil, take-append-drop}
use Rattle.std.specs.Prelude.{◌==◌, ◌||◌}
use Rattle.std.proofs.lemmas.List.{map-append}
use Rattle.script_grammar.specs.Lexeme.{Lexeme}
use Rattle.unit_text.specs.declared.Point.{Point}
use Rattle.unit_text.specs.Points.{points, code_of}
use Rattle.unit_text.specs.Points as text
use Rattle.script_scanner.specs.declared.blanks.Blank.{Blank}
use Rattle.script_scanner.specs.declared.braces.Brace.{Brace}
use Rattle.script_scanner.specs.Blanks.{blank_at, begins, line_length, first_line_length}
use Rattle.script_scanner.specs.Braces.{in_substitution}
use Rattle.script_scanner.specs.Tokens.{Piece, place, last_token, token_at, braces_after, part, without_first_line, tokens}
use Rattle.script_scanner.specs.Lexemes.{lexeme_of, lexemes}
use Rattle.scan_laws.specs.Inside.{ClosesInside, unbroken, end_from, end_of, end_token}
use Rattle.scan_laws.proofs.CutBlanks.{begins_neither}
use Rattle.scan_laws.proofs.CutTokens.{token_no_hash}
use Rattle.scan_laws.proofs.Places.{RiseTo, points_rise, part_rises, part_within, part_is, rise_behind, place_within}
use Rattle.scan_laws.proofs.Walk.{Reads, codes_of, read_at, read_within, one_blank, one_token, no_token, at_end, not_nothing, reads_first, reads}

not_one : {A : Type 0} (x y : A) (xs : List A) (z : A) (zs : List A) → x ∷ [] ≡ y ∷ (xs ++ z ∷ zs) → ⊥
not_one x y xs z zs e =
    let size : length (xs ++ z ∷ zs) ≡ length xs + length (z ∷ zs) = length-append xs (z ∷ zs) in
    let same : 1 ≡ suc (length (xs ++ z ∷ zs)) = ap length e in
    omega (arith, size, same)

-- The place in a text where these tokens begin, after other tokens: no blank stands at it.
record Found (to : ℕ) (ps : List Point) (ts : List Lexeme) : Type 0 where
  before : List Point
  here : List Point
  split : ps ≡ before ++ here
  fuel : ℕ
  braces : List Brace
  after : Bool
  bare : blank_at (codes_of here) ≡ None
  tokens : read_within (suc fuel) to braces after here ≡ ts

found_behind : (to n : ℕ) (ps : List Point) (ts : List Lexeme) → Found to (drop n ps) ts → Found to ps ts
found_behind to n ps ts f = record {
  before = take n ps ++ f.before;
  here = f.here;
  split = sym (take-append-drop n ps) ∙ ap (λ (qs : List Point). take n ps ++ qs) f.split ∙ sym (append_assoc (take n ps) f.before f.here);
  fuel = f.fuel;
  braces = f.braces;
  after = f.after;
  bare = f.bare;
  tokens = f.tokens;
}

abbrev Finder : ℕ → ℕ → Type 0
Finder fuel to = (braces : List Brace) (after : Bool) (ps : List Point) (us : List Lexeme) (t : Lexeme) (ts : List Lexeme) → read_within fuel to braces after ps ≡ us ++ t ∷ ts → Found to ps (t ∷ ts)

find_next : (fuel to : ℕ) → Finder fuel to → Finder (suc fuel) to
find_next fuel to finder braces after ps us t ts e = by (blank_at (codes_of ps)) refl
  where
    behind : (xs : List Lexeme) (o : Option Piece) → read_within (suc fuel) to braces after ps ≡ xs ++ t ∷ ts → blank_at (codes_of ps) ≡ None → token_at (in_substitution braces) (codes_of ps) ≡ o → Found to ps (t ∷ ts)
    behind [] o g f h = record { before = []; here = ps; split = refl; fuel = fuel; braces = braces; after = after; bare = f; tokens = g }
    behind (x ∷ xs) (Some p) g f h =
        let split : read_at to after ps p ∷ read_within fuel to (braces_after braces p.kind) false (drop p.length ps) ≡ x ∷ (xs ++ t ∷ ts) = sym (one_token fuel to braces after ps p f h) ∙ g in
        found_behind to p.length ps (t ∷ ts) (finder (braces_after braces p.kind) false (drop p.length ps) xs t ts cc)
    behind (x ∷ xs) None g f h = absurd (not_one (lexeme_of (last_token to after ps)) x xs t ts (sym (no_token fuel to braces after ps f h) ∙ g))

    by : (b : Option Blank) → blank_at (codes_of ps) ≡ b → Found to ps (t ∷ ts)
    by (Some b) f = found_behind to b.length ps (t ∷ ts) (finder braces (after || b.breaks) (drop b.length ps) us t ts (sym (one_blank fuel to braces after ps b f) ∙ e))
    by None f = behind us (token_at (in_substitution braces) (codes_of ps)) e f refl

find : (fuel to : ℕ) → Finder fuel to
find zero to braces after ps us t ts e = absurd (not_nothing t us ts e)
find (suc fuel) to braces after ps us t ts e = find_next fuel to (λ bs a qs xs y ys. find fuel to bs a qs xs y ys) braces after ps us t ts e

-- what a part is that is read alone from the place where its first token begins
record Part (to : ℕ) (ps : List Point) (first : Lexeme) (more : List Lexeme) : Type 0 where
  reads : Reads to [] false ps (unbroken first ∷ more)
  begins_there : first.start ≡ place to ps
  no_hash : begins (0x23 ∷ 0x21 ∷ []) (codes_of ps) ≡ false

part_at : (to : ℕ) (ps : List Point) (first : Lexeme) (more : List Lexeme) (behind : Lexeme) (others : List Lexeme) → ClosesInside (first ∷ more) → (f : Found to ps (first ∷ (more ++ behind ∷ others))) → Part to f.here first more
part_at to ps first more behind others closes f = by (token_at (in_substitution f.braces) (codes_of f.here)) refl
  where
    by : (o : Option Piece) → token_at (in_substitution f.braces) (codes_of f.here) ≡ o → Part to f.here first more
    by None e = absurd (not_one (lexeme_of (last_token to f.after f.here)) first more behind others (sym (no_token f.fuel to f.braces f.after f.here f.bare e) ∙ f.tokens))
    by (Some p) e =
        let split : read_at to f.after f.here p ∷ read_within f.fuel to (braces_after f.braces p.kind) false (drop p.length f.here) ≡ first ∷ (more ++ behind ∷ others) = sym (one_token f.fuel to f.braces f.after f.here p f.bare e) ∙ f.tokens in
        let here : read_at to f.after f.here p ≡ first = cc in
        record {
          reads = reads_first f.fuel to (λ bs s u qs x xs y ys. reads f.fuel to bs s u qs x xs y ys) f.braces [] f.after false f.here p first more behind others f.bare
              (ap (λ (bs : List Brace). token_at (in_substitution bs) (codes_of f.here)) (append-nil f.braces) ∙ e)
              (ap (λ (bs : List Brace). read_within (suc f.fuel) to bs f.after f.here) (append-nil f.braces) ∙ f.tokens) closes;
          begins_there = sym (ap (λ (t : Lexeme). t.start) here);
          no_hash = token_no_hash (in_substitution f.braces) (codes_of f.here) p e;
        }

-- no line of a part is passed over that begins with a token
no_first_line : (from : ℕ) (front rest : List Point) → begins (0x23 ∷ 0x21 ∷ []) (codes_of (front ++ rest)) ≡ false → without_first_line from front ≡ front
no_first_line from front rest e = by (from == 0)
  where
    none : begins (0x23 ∷ 0x21 ∷ []) (codes_of front) ≡ false
    none = begins_neither (0x23 ∷ 0x21 ∷ []) (codes_of front) (codes_of rest) (sym (ap (begins (0x23 ∷ 0x21 ∷ [])) (map-append code_of front rest)) ∙ e)

    by : (b : Bool) → cond b (drop (first_line_length (codes_of front)) front) front ≡ front
    by true = ap (λ x. drop (cond x (line_length (codes_of front)) 0) front) none
    by false = refl

module _ (file : List ℕ) (first : Lexeme) (more : List Lexeme) where
  alone_at : (before here : List Point) → RiseTo (length file) 0 (before ++ here) → part 0 (length file) (points file) ≡ before ++ here → Part (length file) here first more
      → map lexeme_of (tokens (points file) first.start (end_of first more)) ≡ (unbroken first ∷ more) ++ end_token (end_of first more) ∷ []
  alone_at before here rises whole p = subst (λ at. map lexeme_of (tokens (points file) first.start at) ≡ (unbroken first ∷ more) ++ end_token at ∷ []) r.ends (read (r.front) refl)
    where
      r : Reads (length file) [] false here (unbroken first ∷ more)
      r = p.reads

      end : ℕ
      end = place (length file) r.rest

      read : (qs : List Point) → r.front ≡ qs → map lexeme_of (tokens (points file) first.start end) ≡ (unbroken first ∷ more) ++ end_token end ∷ []
      read [] none =
          let short : length r.front ≡ 0 = ap length none in
          absurd (not_one (end_token end) (unbroken first) more (end_token end) [] (sym (ap (λ (qs : List Point). read_within 1 end [] false qs) none ∙ at_end 0 end []) ∙ r.alone 1 (omega (arith, short))))
      read (q ∷ qs) is =
          let split : here ≡ q ∷ qs ++ r.rest = r.split ∙ ap (λ (xs : List Point). xs ++ r.rest) is in
          let start : first.start ≡ q.start = p.begins_there ∙ ap (place (length file)) split in
          let inside : RiseTo (length file) 0 (before ++ (q ∷ qs ++ r.rest)) = subst (λ (xs : List Point). RiseTo (length file) 0 (before ++ xs)) split rises in
          let near : end ≤ length file = place_within (length file) 0 r.rest (rise_behind (length file) 0 (q ∷ qs) r.rest (rise_behind (length file) 0 before (q ∷ (qs ++ r.rest)) inside)) in
          let between : part first.start end (points file) ≡ r.front =
          ap (λ from. part from end (points file)) start
          ∙ sym (part_within q.start end (length file) (points file) near)
          ∙ ap (part q.start end) (whole ∙ ap (λ (xs : List Point). before ++ xs) split)
          ∙ part_is (length file) 0 before q qs r.rest inside
          ∙ sym is in
          let text : without_first_line first.start (part first.start end (points file)) ≡ r.front =
          ap (without_first_line first.start) between ∙ no_first_line first.start r.front r.rest (ap (λ (xs : List Point). begins (0x23 ∷ 0x21 ∷ []) (codes_of xs)) (sym r.split) ∙ p.no_hash) in
          ap (λ (xs : List Point). read_within (suc (length xs)) end [] false xs) text ∙ r.alone (suc (length r.front)) (omega arith)

-- The tokens of a part of a file, scanned alone from where its first token starts to where its last one ends, are those that
-- the file has there, but that no line end stands before the first, and then End; where the part closes the braces that it
-- opens, and no other.
pub read_alone : (file : List ℕ) (before : List Lexeme) (first : Lexeme) (more : List Lexeme) (behind : Lexeme) (after : List Lexeme)
    → lexemes file ≡ before ++ (first ∷ more) ++ (behind ∷ after) → ClosesInside (first ∷ more)
    → map lexeme_of (tokens (points file) first.start (end_of first more)) ≡ (unbroken first ∷ more) ++ end_token (end_of first more) ∷ []
unfolding lexemes
read_alone file before first more behind after e closes =
    let all = part 0 (length file) (points file) in
    let skipped = first_line_length (codes_of all) in
    let whole : read_within (suc (length (drop skipped all))) (length file) [] false (drop skipped all) ≡ before ++ (first ∷ (more ++ behind ∷ after)) = e ∙ append_assoc before (first ∷ more) (behind ∷ after) in
    let f : Found (length file) (drop skipped all) (first ∷ (more ++ behind ∷ after)) = find (suc (length (drop skipped all))) (length file) [] false (drop skipped all) before first (more ++ behind ∷ after) whole in
    let split : all ≡ (take skipped all ++ f.before) ++ f.here = sym (take-append-drop skipped all) ∙ ap (λ (xs : List Point). take skipped all ++ xs) f.split ∙ sym (append_assoc (take skipped all) f.before f.here) in
    let rises : RiseTo (length file) 0 all = part_rises 0 (length file) 0 (points file) (omega arith) (points_rise 0 (text.codes_of file)) in
    alone_at file first more (take skipped all ++ f.before) f.here (subst (λ (xs : List Point). RiseTo (length file) 0 xs) split rises) split (part_at (length file) (drop skipped all) first more behind after closes f)

-- where the last token of a part is known, its end is the end of the part
pub end_at_last : (at : ℕ) (ts : List Lexeme) (last : Lexeme) → end_from at (ts ++ last ∷ []) ≡ last.end
end_at_last at [] last = refl
end_at_last at (t ∷ ts) last = end_at_last t.end ts last
