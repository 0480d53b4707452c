-- A text that is cut: the blanks that lie in front of the cut are the same as in the whole text.
use Rattle.std.proofs.Common.{◌≡◌, ℕ, suc, ◌+◌, ◌<◌, ◌≤◌, List, [], ◌∷◌, ◌++◌, length, drop, Bool, true, false, cond, refl, sym, ◌∙◌, ap, subst₂, arith, Option, Some, None, length-drop, ◌-◌}
use Rattle.std.specs.Prelude.{◌&&◌, ◌==◌, not, option_map}
use Rattle.std.specs.List.{list_any, prefix_len}
use Rattle.std.proofs.lemmas.List.{take-append-le}
use Rattle.std.proofs.lemmas.List.Sums.{prefix_len-le-length}
use Rattle.std.proofs.lemmas.Bool.{eqb-true}
use Rattle.script_scanner.proofs.Lists.{and_left, and_right}
use Rattle.script_scanner.specs.declared.blanks.Blank.{Blank}
use Rattle.script_scanner.specs.Blanks.{is_white_space, is_line_end, line_length, begins, length_to_star_slash, block_comment, comment_at, blank_at}

-- the longest front whose items pass a test, where it ends before the cut
pub prefix_cut : (p : ℕ → Bool) (cs ds : List ℕ) → prefix_len p (cs ++ ds) ≤ length cs → prefix_len p (cs ++ ds) ≡ prefix_len p cs
prefix_cut p [] ds le = omega (arith, le)
prefix_cut p (c ∷ cs) ds le = by (p c) (prefix_cut p cs ds) le
  where
    by : (b : Bool) → (prefix_len p (cs ++ ds) ≤ length cs → prefix_len p (cs ++ ds) ≡ prefix_len p cs) → cond b (1 + prefix_len p (cs ++ ds)) 0 ≤ suc (length cs)
        → cond b (1 + prefix_len p (cs ++ ds)) 0 ≡ cond b (1 + prefix_len p cs) 0
    by true k le = let e : prefix_len p (cs ++ ds) ≡ prefix_len p cs = k (omega (arith, le)) in ap (λ n. 1 + n) e
    by false k le = refl

-- what begins with a text when it is cut begins with it whole
pub begins_whole : (text cs ds : List ℕ) → begins text cs ≡ true → begins text (cs ++ ds) ≡ true
begins_whole [] cs ds e = refl
begins_whole (m ∷ text) [] ds e = absurd (cc)
begins_whole (m ∷ text) (c ∷ cs) ds e = by (c == m) (and_left (c == m) (begins text cs) e) (begins_whole text cs ds (and_right (c == m) (begins text cs) e))
  where
    by : (b : Bool) → b ≡ true → begins text (cs ++ ds) ≡ true → (b && begins text (cs ++ ds)) ≡ true
    by true f g = g
    by false f g = absurd (cc)

-- and what begins with a text whole begins with it when it is cut after that
pub begins_cut : (text cs ds : List ℕ) → length text ≤ length cs → begins text (cs ++ ds) ≡ begins text cs
begins_cut [] cs ds le = refl
begins_cut (m ∷ text) [] ds le = absurd (omega (arith, le))
begins_cut (m ∷ text) (c ∷ cs) ds le = ap (λ b. (c == m) && b) (begins_cut text cs ds (omega (arith, le)))

-- what does not begin with a text whole does not when it is cut
pub begins_neither : (text cs ds : List ℕ) → begins text (cs ++ ds) ≡ false → begins text cs ≡ false
begins_neither text cs ds e = by (begins text cs) refl
  where
    by : (b : Bool) → begins text cs ≡ b → b ≡ false
    by true f = let g : begins text (cs ++ ds) ≡ true = begins_whole text cs ds f in absurd (cc)
    by false f = refl

-- what begins with a text is as long
pub begins_long : (text codes : List ℕ) → begins text codes ≡ true → length text ≤ length codes
begins_long [] codes e = omega arith
begins_long (m ∷ text) [] e = absurd (cc)
begins_long (m ∷ text) (c ∷ codes) e = let h : length text ≤ length codes = begins_long text codes (and_right (c == m) (begins text codes) e) in omega (arith, h)

-- The first `*/`.

abbrev StarWithin : ℕ → Option ℕ → Type 0
StarWithin high None = Unit {0}
StarWithin high (Some n) = (2 ≤ n) × (n ≤ high)

star_next : (high : ℕ) (o : Option ℕ) → StarWithin high o → StarWithin (suc high) (option_map (λ n. 1 + n) o)
star_next high None h = tt
star_next high (Some n) h = (omega (arith, h.0), omega (arith, h.1))

star_within : (codes : List ℕ) → StarWithin (length codes) (length_to_star_slash codes)
star_within [] = tt
star_within (c ∷ codes) = by (begins (0x2A ∷ 0x2F ∷ []) (c ∷ codes)) refl (star_next (length codes) (length_to_star_slash codes) (star_within codes))
  where
    by : (b : Bool) → begins (0x2A ∷ 0x2F ∷ []) (c ∷ codes) ≡ b → StarWithin (suc (length codes)) (option_map (λ n. 1 + n) (length_to_star_slash codes))
        → StarWithin (suc (length codes)) (cond b (Some 2) (option_map (λ n. 1 + n) (length_to_star_slash codes)))
    by true e k = let h : 2 ≤ suc (length codes) = begins_long (0x2A ∷ 0x2F ∷ []) (c ∷ codes) e in (omega arith, h)
    by false e k = k

abbrev StarCut : ℕ → Option ℕ → Option ℕ → Type 0
StarCut room None cut = cut ≡ None
StarCut room (Some n) cut = n ≤ room → cut ≡ Some n

star_cut_next : (room : ℕ) (o cut : Option ℕ) → StarCut room o cut → StarCut (suc room) (option_map (λ n. 1 + n) o) (option_map (λ n. 1 + n) cut)
star_cut_next room None cut h = ap (option_map (λ n. 1 + n)) h
star_cut_next room (Some n) cut h = λ le. ap (option_map (λ n. 1 + n)) (h (omega (arith, le)))

star_one : (c : ℕ) → length_to_star_slash (c ∷ []) ≡ None
star_one c = by (c == 0x2A)
  where
    by : (b : Bool) → ◌≡◌ {A = Option ℕ} (cond (b && false) (Some 2) None) None
    by true = refl
    by false = refl

star_short : (high room : ℕ) (o cut : Option ℕ) → room < 2 → StarWithin high o → cut ≡ None → StarCut room o cut
star_short high room None cut lt h e = e
star_short high room (Some n) cut lt h e = λ le. absurd (omega (arith, lt, h.0, le))

-- it is the same in a text that is cut after it
star_cut : (cs ds : List ℕ) → StarCut (length cs) (length_to_star_slash (cs ++ ds)) (length_to_star_slash cs)
star_cut [] ds = star_short (length ds) 0 (length_to_star_slash ds) None (omega arith) (star_within ds) refl
star_cut (c ∷ []) ds = star_short (length (c ∷ ds)) 1 (length_to_star_slash (c ∷ ds)) (length_to_star_slash (c ∷ [])) (omega arith) (star_within (c ∷ ds)) (star_one c)
star_cut (c ∷ d ∷ cs) ds = by ((c == 0x2A) && ((d == 0x2F) && true)) (star_cut (d ∷ cs) ds)
  where
    by : (b : Bool) → StarCut (suc (length cs)) (length_to_star_slash (d ∷ (cs ++ ds))) (length_to_star_slash (d ∷ cs))
        → StarCut (suc (suc (length cs))) (cond b (Some 2) (option_map (λ n. 1 + n) (length_to_star_slash (d ∷ (cs ++ ds))))) (cond b (Some 2) (option_map (λ n. 1 + n) (length_to_star_slash (d ∷ cs))))
    by true k = λ le. refl
    by false k = star_cut_next (suc (length cs)) (length_to_star_slash (d ∷ (cs ++ ds))) (length_to_star_slash (d ∷ cs)) k

-- Blanks.

-- a blank takes n code points at least and m at most
abbrev pub BlankWithin : ℕ → ℕ → Option Blank → Type 0
BlankWithin low high None = Unit {0}
BlankWithin low high (Some b) = (low ≤ b.length) × (b.length ≤ high)

blank_lower : (high : ℕ) (o : Option Blank) → BlankWithin 2 high o → BlankWithin 1 high o
blank_lower high None h = tt
blank_lower high (Some b) h = (omega (arith, h.0), h.1)

line_long : (codes : List ℕ) → begins (0x2F ∷ 0x2F ∷ []) codes ≡ true → 2 ≤ line_length codes
line_long [] e = absurd (cc)
line_long (c ∷ []) e = let f : begins (0x2F ∷ []) [] ≡ true = and_right (c == 0x2F) false e in absurd (cc)
line_long (c ∷ d ∷ codes) e =
    let f : c ≡ 0x2F = eqb-true c 0x2F (and_left (c == 0x2F) ((d == 0x2F) && true) e) in
    let g : d ≡ 0x2F = eqb-true d 0x2F (and_left (d == 0x2F) true (and_right (c == 0x2F) ((d == 0x2F) && true) e)) in
    subst₂ (λ x y. 2 ≤ line_length (x ∷ y ∷ codes)) (sym f) (sym g) (long (line_length codes))
  where
    long : (n : ℕ) → 2 ≤ 1 + (1 + n)
    long n = omega arith

block_within : (codes : List ℕ) (o : Option ℕ) → 2 ≤ length codes → StarWithin (length (drop 2 codes)) o → BlankWithin 2 (length codes) (block_comment o (drop 2 codes))
block_within codes None le h = tt
block_within codes (Some n) le h = let e : length (drop 2 codes) ≡ length codes - 2 = length-drop 2 codes in (omega (arith, h.0), omega (arith, e, h.1, le))

comment_within : (codes : List ℕ) → BlankWithin 2 (length codes) (comment_at codes)
comment_within codes = by (begins (0x2F ∷ 0x2F ∷ []) codes) (begins (0x2F ∷ 0x2A ∷ []) codes) refl refl
  where
    by : (x y : Bool) → begins (0x2F ∷ 0x2F ∷ []) codes ≡ x → begins (0x2F ∷ 0x2A ∷ []) codes ≡ y
        → BlankWithin 2 (length codes) (cond x (Some (record { length = line_length codes; breaks = false })) (cond y (block_comment (length_to_star_slash (drop 2 codes)) (drop 2 codes)) None))
    by true y e f = (line_long codes e, prefix_len-le-length (λ c. not (is_line_end c)) codes)
    by false true e f = block_within codes (length_to_star_slash (drop 2 codes)) (begins_long (0x2F ∷ 0x2A ∷ []) codes f) (star_within (drop 2 codes))
    by false false e f = tt

either_blank : (low high : ℕ) (b : Bool) (o p : Option Blank) → BlankWithin low high o → BlankWithin low high p → BlankWithin low high (cond b o p)
either_blank low high true o p h k = h
either_blank low high false o p h k = k

-- a blank takes a code point at least, and no more than there are
pub blank_within : (codes : List ℕ) → BlankWithin 1 (length codes) (blank_at codes)
blank_within [] = tt
blank_within (c ∷ codes) =
    either_blank 1 (suc (length codes)) (is_white_space c) (Some (record { length = 1; breaks = false })) _ (omega arith, omega arith)
    (either_blank 1 (suc (length codes)) (is_line_end c) (Some (record { length = 1; breaks = true })) _ (omega arith, omega arith)
    (blank_lower (suc (length codes)) (comment_at (c ∷ codes)) (comment_within (c ∷ codes))))

-- what is in front of the cut is the same in the text that is cut, and where nothing is nothing is
abbrev pub BlankCut : ℕ → Option Blank → Option Blank → Type 0
BlankCut room None cut = cut ≡ None
BlankCut room (Some b) cut = b.length ≤ room → cut ≡ Some b

comment_one : (c : ℕ) → comment_at (c ∷ []) ≡ None
comment_one c = by (c == 0x2F) _ _
  where
    by : (b : Bool) (x y : Option Blank) → cond (b && false) x (cond (b && false) y None) ≡ None
    by true x y = refl
    by false x y = refl

blank_short : (high room : ℕ) (o cut : Option Blank) → room < 2 → BlankWithin 2 high o → cut ≡ None → BlankCut room o cut
blank_short high room None cut lt h e = e
blank_short high room (Some b) cut lt h e = λ le. absurd (omega (arith, lt, h.0, le))

line_cut : (cs ds : List ℕ) → BlankCut (length cs) (Some (record { length = line_length (cs ++ ds); breaks = false })) (Some (record { length = line_length cs; breaks = false }))
line_cut cs ds = λ le. ap (λ (n : ℕ). Some (record { length = n; breaks = false })) (sym (prefix_cut (λ c. not (is_line_end c)) cs ds le))

block_cut : (cs ds : List ℕ) (o cut : Option ℕ) → StarCut (length cs) o cut → BlankCut (suc (suc (length cs))) (block_comment o (cs ++ ds)) (block_comment cut cs)
block_cut cs ds None cut h = ap (λ (x : Option ℕ). block_comment x cs) h
block_cut cs ds (Some n) cut h = λ le. let within : n ≤ length cs = omega (arith, le) in
    ap (λ (x : Option ℕ). block_comment x cs) (h within)
    ∙ ap (λ (front : List ℕ). Some (record { length = 2 + n; breaks = list_any is_line_end front })) (sym (take-append-le n cs ds within))

cut_either : (room : ℕ) (b : Bool) (o p o_cut p_cut : Option Blank) → BlankCut room o o_cut → BlankCut room p p_cut → BlankCut room (cond b o p) (cond b o_cut p_cut)
cut_either room true o p o_cut p_cut h k = h
cut_either room false o p o_cut p_cut h k = k

comment_cut : (cs ds : List ℕ) → BlankCut (length cs) (comment_at (cs ++ ds)) (comment_at cs)
comment_cut [] ds = blank_short (length ds) 0 (comment_at ds) None (omega arith) (comment_within ds) refl
comment_cut (c ∷ []) ds = blank_short (length (c ∷ ds)) 1 (comment_at (c ∷ ds)) (comment_at (c ∷ [])) (omega arith) (comment_within (c ∷ ds)) (comment_one c)
comment_cut (c ∷ d ∷ cs) ds =
    cut_either (suc (suc (length cs))) ((c == 0x2F) && ((d == 0x2F) && true)) _ _ _ _ (line_cut (c ∷ d ∷ cs) ds)
    (cut_either (suc (suc (length cs))) ((c == 0x2F) && ((d == 0x2A) && true)) _ None _ None (block_cut cs ds (length_to_star_slash (cs ++ ds)) (length_to_star_slash cs) (star_cut cs ds)) refl)

pub blank_cut : (c : ℕ) (cs ds : List ℕ) → BlankCut (suc (length cs)) (blank_at (c ∷ (cs ++ ds))) (blank_at (c ∷ cs))
blank_cut c cs ds =
    cut_either (suc (length cs)) (is_white_space c) (Some (record { length = 1; breaks = false })) _ (Some (record { length = 1; breaks = false })) _ (λ le. refl)
    (cut_either (suc (length cs)) (is_line_end c) (Some (record { length = 1; breaks = true })) _ (Some (record { length = 1; breaks = true })) _ (λ le. refl)
    (comment_cut (c ∷ cs) ds))
