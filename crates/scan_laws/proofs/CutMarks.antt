-- A text that is cut: a mark that lies in front of the cut is the same as in the whole text, but that a `?` which stands in
-- front of a `.` and a digit is no longer one where the cut parts these two.
use Rattle.std.proofs.Common.{◌≡◌, ◌≢◌, ℕ, ◌≤◌, List, [], ◌∷◌, ◌++◌, length, drop, codes, Bool, true, false, cond, refl, sym, ◌∙◌, ap, subst, arith, Option, Some, None, ◌⊎◌, inl, inr, true≢false}
use Rattle.std.specs.Prelude.{◌&&◌, ◌||◌, ◌==◌, not, nat_le, find, IfSome}
use Rattle.std.specs.Char.{is_digit}
use Rattle.std.specs.List.{list_all}
use Rattle.std.specs.Str.{bytes_eq}
use Rattle.std.proofs.lemmas.Bool.{eqb-true, leb-true, or_parts, or_from}
use Rattle.std.proofs.lemmas.List.{drop-append-le}
use Rattle.std.proofs.lemmas.Slice.Eq.{bytes_eq-Decides}
use Rattle.script_scanner.specs.Blanks.{begins}
use Rattle.script_scanner.specs.Escapes.{begins_with_digit}
use Rattle.script_scanner.specs.Marks.{Mark, mark, mark_before_no_digit, marks, fits, begins_no_token, mark_at}
use Rattle.script_scanner.specs.Tokens.{mark_piece}
use Rattle.script_scanner.proofs.Lists.{and_left, and_right, not_equal, find_satisfies}
use Rattle.scan_laws.proofs.CutBlanks.{begins_whole, begins_cut, begins_neither, begins_long}
use Rattle.scan_laws.proofs.CutNumbers.{PieceWithin, PieceCut}

-- a `.` before a digit stands at the front
abbrev pub point_digit : List ℕ → Bool
point_digit [] = false
point_digit (c ∷ codes) = (c == 0x2E) && begins_with_digit codes

-- A text may be cut here, after a token of this length: no `.` before a digit stands after the token, or the token is all.
pub record MayCut (cs ds : List ℕ) (n : ℕ) : Type 0 where
  pub within : n ≤ length cs
  pub apart : (n ≡ length cs) ⊎ (point_digit (drop n (cs ++ ds)) ≡ false)

-- How long marks are.

has_text : Mark → Bool
has_text m = nat_le 1 (length m.text)

fit_begins : (codes : List ℕ) (m : Mark) → fits codes m ≡ true → begins m.text codes ≡ true
fit_begins codes m e = by m.before_digit e
  where
    by : (b : Bool) → cond b (begins m.text codes) (begins m.text codes && not (begins_with_digit (drop (length m.text) codes))) ≡ true → begins m.text codes ≡ true
    by true f = f
    by false f = and_left (begins m.text codes) (not (begins_with_digit (drop (length m.text) codes))) f

found_within : (codes : List ℕ) (o : Option Mark) → IfSome o (λ m. (fits codes m ≡ true) × (has_text m ≡ true)) → PieceWithin (length codes) (mark_piece o)
unfolding has_text
found_within codes None h = tt
found_within codes (Some m) h = (leb-true 1 (length m.text) h.1, begins_long m.text codes (fit_begins codes m h.0))

pub mark_within : (codes : List ℕ) → PieceWithin (length codes) (mark_piece (mark_at codes))
unfolding mark_at has_text
mark_within codes = by (begins_no_token codes)
  where
    by : (b : Bool) → PieceWithin (length codes) (mark_piece (cond b None (find (fits codes) marks)))
    by true = tt
    by false = found_within codes (find (fits codes) marks) (find_satisfies (fits codes) has_text marks refl)

-- A mark that fits the whole text fits the one that is cut after it.

digit_cut : (xs ds : List ℕ) → begins_with_digit (xs ++ ds) ≡ false → begins_with_digit xs ≡ false
digit_cut [] ds e = refl
digit_cut (x ∷ xs) ds e = e

not_true : (b : Bool) → not b ≡ true → b ≡ false
not_true true e = absurd (cc)
not_true false e = refl

fits_cut : (cs ds : List ℕ) (m : Mark) → length m.text ≤ length cs → fits (cs ++ ds) m ≡ true → fits cs m ≡ true
fits_cut cs ds m le e = by m.before_digit e
  where
    same : begins m.text (cs ++ ds) ≡ begins m.text cs
    same = begins_cut m.text cs ds le

    by : (b : Bool) → cond b (begins m.text (cs ++ ds)) (begins m.text (cs ++ ds) && not (begins_with_digit (drop (length m.text) (cs ++ ds)))) ≡ true
        → cond b (begins m.text cs) (begins m.text cs && not (begins_with_digit (drop (length m.text) cs))) ≡ true
    by true f = sym same ∙ f
    by false f =
        let here : begins m.text cs ≡ true = sym same ∙ and_left (begins m.text (cs ++ ds)) (not (begins_with_digit (drop (length m.text) (cs ++ ds)))) f in
        let there : begins_with_digit (drop (length m.text) (cs ++ ds)) ≡ false = not_true (begins_with_digit (drop (length m.text) (cs ++ ds))) (and_right (begins m.text (cs ++ ds)) (not (begins_with_digit (drop (length m.text) (cs ++ ds)))) f) in
        let behind : begins_with_digit (drop (length m.text) cs) ≡ false = digit_cut (drop (length m.text) cs) ds (sym (ap begins_with_digit (drop-append-le (length m.text) cs ds le)) ∙ there) in
        ap (λ b. b && not (begins_with_digit (drop (length m.text) cs))) here ∙ ap not behind

-- A mark that fits the text that is cut fits the whole one, but `?.` and `.` right before the cut.

abbrev may_be_any : Mark → Bool
may_be_any m = m.before_digit || (bytes_eq m.text (codes "?.") || bytes_eq m.text (codes "."))

all_cut : (text cs : List ℕ) → begins text cs ≡ true → drop (length text) cs ≡ [] → cs ≡ text
all_cut [] cs e f = f
all_cut (m ∷ text) [] e f = absurd (cc)
all_cut (m ∷ text) (c ∷ cs) e f =
    let first : c ≡ m = eqb-true c m (and_left (c == m) (begins text cs) e) in
    let rest : cs ≡ text = all_cut text cs (and_right (c == m) (begins text cs) e) f in
    cc

-- the cut parts neither of these from a digit
record IsSafe (cs ds : List ℕ) : Type 0 where
  question : cs ≡ codes "?." → begins_with_digit ds ≡ true → ⊥
  point : cs ≡ codes "." → begins_with_digit ds ≡ true → ⊥

safe_text : (cs ds : List ℕ) (m : Mark) → IsSafe cs ds → may_be_any m ≡ true → m.before_digit ≡ false → cs ≡ m.text → begins_with_digit ds ≡ false
safe_text cs ds m safe ok plain is = by (begins_with_digit ds) refl
  where
    which : (x y : Bool) → bytes_eq m.text (codes "?.") ≡ x → bytes_eq m.text (codes ".") ≡ y → (x || y) ≡ true → begins_with_digit ds ≡ true → ⊥
    which true y e f g h = safe.question (is ∙ (bytes_eq-Decides m.text (codes "?.")).0 e) h
    which false true e f g h = safe.point (is ∙ (bytes_eq-Decides m.text (codes ".")).0 f) h
    which false false e f g h = cc

    known : (bytes_eq m.text (codes "?.") || bytes_eq m.text (codes ".")) ≡ true
    known = sym (ap (λ b. b || (bytes_eq m.text (codes "?.") || bytes_eq m.text (codes "."))) plain) ∙ ok

    by : (b : Bool) → begins_with_digit ds ≡ b → b ≡ false
    by true e = absurd (which (bytes_eq m.text (codes "?.")) (bytes_eq m.text (codes ".")) refl refl known e)
    by false e = refl

fits_whole : (cs ds : List ℕ) → IsSafe cs ds → (m : Mark) → may_be_any m ≡ true → fits cs m ≡ true → fits (cs ++ ds) m ≡ true
fits_whole cs ds safe m ok e = by m.before_digit refl e
  where
    digit_whole : (xs : List ℕ) → drop (length m.text) cs ≡ xs → begins m.text cs ≡ true → m.before_digit ≡ false → begins_with_digit xs ≡ false → begins_with_digit (xs ++ ds) ≡ false
    digit_whole [] f g h k = safe_text cs ds m safe ok h (all_cut m.text cs g f)
    digit_whole (x ∷ xs) f g h k = k

    by : (b : Bool) → m.before_digit ≡ b → cond b (begins m.text cs) (begins m.text cs && not (begins_with_digit (drop (length m.text) cs))) ≡ true
        → cond b (begins m.text (cs ++ ds)) (begins m.text (cs ++ ds) && not (begins_with_digit (drop (length m.text) (cs ++ ds)))) ≡ true
    by true p f = begins_whole m.text cs ds f
    by false p f =
        let here : begins m.text cs ≡ true = and_left (begins m.text cs) (not (begins_with_digit (drop (length m.text) cs))) f in
        let behind : begins_with_digit (drop (length m.text) cs) ≡ false = not_true (begins_with_digit (drop (length m.text) cs)) (and_right (begins m.text cs) (not (begins_with_digit (drop (length m.text) cs))) f) in
        let there : begins_with_digit (drop (length m.text) (cs ++ ds)) ≡ false = ap begins_with_digit (drop-append-le (length m.text) cs ds (begins_long m.text cs here)) ∙ digit_whole (drop (length m.text) cs) refl here p behind in
        ap (λ b. b && not (begins_with_digit (drop (length m.text) (cs ++ ds)))) (begins_whole m.text cs ds here) ∙ ap not there

-- The first mark that fits.

find_cut : (p q ok : Mark → Bool) (ms : List Mark) (m : Mark) → list_all ok ms ≡ true → ((x : Mark) → ok x ≡ true → q x ≡ true → p x ≡ true) → q m ≡ true → find p ms ≡ Some m → find q ms ≡ Some m
find_cut p q ok [] m all back here found = absurd (cc)
find_cut p q ok (x ∷ ms) m all back here found = by (p x) (q x) refl refl found (find_cut p q ok ms m (and_right (ok x) (list_all ok ms) all) back here)
  where
    by : (a b : Bool) → p x ≡ a → q x ≡ b → cond a (Some x) (find p ms) ≡ Some m → (find p ms ≡ Some m → find q ms ≡ Some m) → cond b (Some x) (find q ms) ≡ Some m
    by true true e f g k = g
    by true false e f g k = let same : x ≡ m = cc in absurd (true≢false (sym here ∙ sym (ap q same) ∙ f))
    by false true e f g k = absurd (true≢false (sym (back x (and_left (ok x) (list_all ok ms) all) f) ∙ e))
    by false false e f g k = k g

-- What stands at a `.` before a digit, and at a `?` before that.

no_point : (d : ℕ) → is_digit d 10 ≡ true → d ≢ 0x2E
no_point d e same = let f : is_digit 0x2E 10 ≡ true = sym (ap (λ x. is_digit x 10) same) ∙ e in cc

pub point_no_mark : (ds : List ℕ) → begins_with_digit ds ≡ true → mark_at (0x2E ∷ ds) ≡ None
unfolding mark_at
point_no_mark [] e = absurd (cc)
point_no_mark (d ∷ ds) e =
    ap (λ b. cond (b && begins (0x2E ∷ []) ds) (Some (mark 52 (codes "..."))) (cond (not (is_digit d 10)) (Some (mark_before_no_digit 51 (codes "."))) None)) (not_equal d 0x2E (no_point d e))
    ∙ ap (λ b. cond (not b) (Some (mark_before_no_digit 51 (codes "."))) None) e

question_mark : (ds : List ℕ) → begins_with_digit ds ≡ true → mark_at (0x3F ∷ 0x2E ∷ ds) ≡ Some (mark 35 (codes "?"))
unfolding mark_at
question_mark [] e = absurd (cc)
question_mark (d ∷ ds) e = ap (λ b. cond (not b) (Some (mark_before_no_digit 53 (codes "?."))) (Some (mark 35 (codes "?")))) e

no_question : (ds : List ℕ) (m : Mark) → begins_with_digit ds ≡ true → mark_at (codes "?." ++ ds) ≡ Some m → MayCut (codes "?.") ds (length m.text) → ⊥
no_question ds m digit found may = by may.apart
  where
    same : mark 35 (codes "?") ≡ m
    same = let e : Some (mark 35 (codes "?")) ≡ Some m = sym (question_mark ds digit) ∙ found in cc

    size : 1 ≡ length m.text
    size = ap (λ (x : Mark). length x.text) same

    by : (length m.text ≡ 2) ⊎ (point_digit (drop (length m.text) (codes "?." ++ ds)) ≡ false) → ⊥
    by (inl e) = omega (arith, e, size)
    by (inr e) = true≢false (sym (ap (λ n. point_digit (drop n (codes "?." ++ ds))) (sym size) ∙ digit) ∙ e)

no_single : (ds : List ℕ) (m : Mark) → begins_with_digit ds ≡ true → mark_at (codes "." ++ ds) ≡ Some m → ⊥
no_single ds m digit found = let e : ◌≡◌ {A = Option Mark} None (Some m) = sym (point_no_mark ds digit) ∙ found in cc

safe_at : (cs ds : List ℕ) (m : Mark) → mark_at (cs ++ ds) ≡ Some m → MayCut cs ds (length m.text) → IsSafe cs ds
safe_at cs ds m found may = record {
  question = λ e digit. subst (λ xs. mark_at (xs ++ ds) ≡ Some m → MayCut xs ds (length m.text) → ⊥) (sym e) (no_question ds m digit) found may;
  point = λ e digit. subst (λ xs. mark_at (xs ++ ds) ≡ Some m → ⊥) (sym e) (no_single ds m digit) found;
}

mark_kept : (cs ds : List ℕ) (m : Mark) → mark_at (cs ++ ds) ≡ Some m → MayCut cs ds (length m.text) → mark_at cs ≡ Some m
unfolding mark_at
mark_kept cs ds m found may = by (begins_no_token (cs ++ ds)) refl found
  where
    by : (b : Bool) → begins_no_token (cs ++ ds) ≡ b → cond b None (find (fits (cs ++ ds)) marks) ≡ Some m → mark_at cs ≡ Some m
    by true e f = absurd (cc)
    by false e f =
        let parts : (begins (codes "<!--") (cs ++ ds) ≡ false) × (begins (codes "/*") (cs ++ ds) ≡ false) = or_parts (begins (codes "<!--") (cs ++ ds)) (begins (codes "/*") (cs ++ ds)) e in
        let stays : begins_no_token cs ≡ false = or_from (begins (codes "<!--") cs) (begins (codes "/*") cs) (begins_neither (codes "<!--") cs ds parts.0) (begins_neither (codes "/*") cs ds parts.1) in
        let fit : fits (cs ++ ds) m ≡ true = fit_of (find (fits (cs ++ ds)) marks) f (find_satisfies (fits (cs ++ ds)) may_be_any marks refl) in
        ap (λ b. cond b None (find (fits cs) marks)) stays
        ∙ find_cut (fits (cs ++ ds)) (fits cs) may_be_any marks m refl (fits_whole cs ds (safe_at cs ds m found may)) (fits_cut cs ds m may.within fit) f
      where
        fit_of : (o : Option Mark) → o ≡ Some m → IfSome o (λ x. (fits (cs ++ ds) x ≡ true) × (may_be_any x ≡ true)) → fits (cs ++ ds) m ≡ true
        fit_of None g h = absurd (cc)
        fit_of (Some x) g h = let same : x ≡ m = cc in subst (λ (y : Mark). fits (cs ++ ds) y ≡ true) same h.0

pub mark_cut : (cs ds : List ℕ) → PieceCut (MayCut cs ds) (mark_piece (mark_at (cs ++ ds))) (mark_piece (mark_at cs))
mark_cut cs ds = by (mark_at (cs ++ ds)) refl
  where
    by : (o : Option Mark) → mark_at (cs ++ ds) ≡ o → PieceCut (MayCut cs ds) (mark_piece o) (mark_piece (mark_at cs))
    by None e = tt
    by (Some m) e = λ may. ap mark_piece (mark_kept cs ds m e may)
