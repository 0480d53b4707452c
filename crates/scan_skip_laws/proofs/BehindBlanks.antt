-- A text in front of a `{`: a blank that lies in it is the same whatever stands after the brace.
use Rattle.std.proofs.Common.{◌≡◌, ℕ, suc, ◌+◌, ◌≤◌, List, [], ◌∷◌, ◌++◌, length, take, drop, subst, Bool, true, false, cond, refl, sym, ◌∙◌, ap, arith, Option, Some, None}
use Rattle.std.specs.Prelude.{◌&&◌, ◌==◌, not, option_map}
use Rattle.std.specs.List.{list_any, prefix_len}
use Rattle.std.proofs.lemmas.List.{take-append-le}
use Rattle.script_scanner.specs.declared.blanks.Blank.{Blank}
use Rattle.script_scanner.specs.Blanks.{is_white_space, is_line_end, line_length, begins, length_to_star_slash, block_comment, comment_at, blank_at}

-- the longest front whose items pass a test that the brace does not pass
pub prefix_front : (p : ℕ → Bool) → p 0x7B ≡ false → (xs ds es : List ℕ) → (prefix_len p (xs ++ 0x7B ∷ ds) ≡ prefix_len p (xs ++ 0x7B ∷ es)) × (prefix_len p (xs ++ 0x7B ∷ ds) ≤ length xs)
prefix_front p out [] ds es =
    let here : (rest : List ℕ) → prefix_len p (0x7B ∷ rest) ≡ 0 = λ rest. ap (λ b. cond b (1 + prefix_len p rest) 0) out in
    (here ds ∙ sym (here es), let e : prefix_len p (0x7B ∷ ds) ≡ 0 = here ds in omega (arith, e))
prefix_front p out (x ∷ xs) ds es = by (p x) (prefix_front p out xs ds es)
  where
    by : (b : Bool) → (prefix_len p (xs ++ 0x7B ∷ ds) ≡ prefix_len p (xs ++ 0x7B ∷ es)) × (prefix_len p (xs ++ 0x7B ∷ ds) ≤ length xs)
        → (cond b (1 + prefix_len p (xs ++ 0x7B ∷ ds)) 0 ≡ cond b (1 + prefix_len p (xs ++ 0x7B ∷ es)) 0) × (cond b (1 + prefix_len p (xs ++ 0x7B ∷ ds)) 0 ≤ suc (length xs))
    by true h = (ap (λ n. 1 + n) h.0, let le = h.1 in omega (arith, le))
    by false h = (refl, omega arith)

-- and a test that it passes, where the front ends before it
prefix_before : (p : ℕ → Bool) → p 0x7B ≡ true → (xs ds es : List ℕ) → prefix_len p (xs ++ 0x7B ∷ ds) ≤ length xs → prefix_len p (xs ++ 0x7B ∷ es) ≡ prefix_len p (xs ++ 0x7B ∷ ds)
prefix_before p within [] ds es le = absurd (let e : prefix_len p (0x7B ∷ ds) ≡ 1 + prefix_len p ds = ap (λ b. cond b (1 + prefix_len p ds) 0) within in omega (arith, le, e))
prefix_before p within (x ∷ xs) ds es le = by (p x) (prefix_before p within xs ds es) le
  where
    by : (b : Bool) → (prefix_len p (xs ++ 0x7B ∷ ds) ≤ length xs → prefix_len p (xs ++ 0x7B ∷ es) ≡ prefix_len p (xs ++ 0x7B ∷ ds)) → cond b (1 + prefix_len p (xs ++ 0x7B ∷ ds)) 0 ≤ suc (length xs)
        → cond b (1 + prefix_len p (xs ++ 0x7B ∷ es)) 0 ≡ cond b (1 + prefix_len p (xs ++ 0x7B ∷ ds)) 0
    by true k h = ap (λ n. 1 + n) (k (omega (arith, h)))
    by false k h = refl

-- two code points at the front of which the second is no brace
abbrev pub two : ℕ → ℕ → List ℕ → Bool
two a b codes = begins (a ∷ b ∷ []) codes

two_front : (a b : ℕ) → (0x7B == b) ≡ false → (c : ℕ) (xs ds es : List ℕ) → two a b (c ∷ (xs ++ 0x7B ∷ ds)) ≡ two a b (c ∷ (xs ++ 0x7B ∷ es))
two_front a b out c [] ds es = refl
two_front a b out c (x ∷ xs) ds es = refl

-- ---- comments

abbrev StarSame : ℕ → Option ℕ → Option ℕ → Type 0
StarSame room None there = Unit {0}
StarSame room (Some n) there = n ≤ room → there ≡ Some n

star_more : (room : ℕ) (o there : Option ℕ) → StarSame room o there → StarSame (suc room) (option_map (λ n. 1 + n) o) (option_map (λ n. 1 + n) there)
star_more room None there h = tt
star_more room (Some n) there h = λ le. ap (option_map (λ m. 1 + m)) (h (omega (arith, le)))

star_none : (o there : Option ℕ) → StarSame 0 (option_map (λ n. 1 + n) o) there
star_none None there = tt
star_none (Some n) there = λ le. absurd (omega (arith, le))

star_front : (xs ds es : List ℕ) → StarSame (length xs) (length_to_star_slash (xs ++ 0x7B ∷ ds)) (length_to_star_slash (xs ++ 0x7B ∷ es))
star_front [] ds es = star_none (length_to_star_slash ds) (length_to_star_slash (0x7B ∷ es))
star_front (x ∷ xs) ds es =
    by (two 0x2A 0x2F (x ∷ (xs ++ 0x7B ∷ ds))) (two 0x2A 0x2F (x ∷ (xs ++ 0x7B ∷ es))) (two_front 0x2A 0x2F refl x xs ds es) (star_more (length xs) (length_to_star_slash (xs ++ 0x7B ∷ ds)) (length_to_star_slash (xs ++ 0x7B ∷ es)) (star_front xs ds es))
  where
    by : (a b : Bool) → a ≡ b → StarSame (suc (length xs)) (option_map (λ n. 1 + n) (length_to_star_slash (xs ++ 0x7B ∷ ds))) (option_map (λ n. 1 + n) (length_to_star_slash (xs ++ 0x7B ∷ es)))
        → StarSame (suc (length xs)) (cond a (Some 2) (option_map (λ n. 1 + n) (length_to_star_slash (xs ++ 0x7B ∷ ds)))) (cond b (Some 2) (option_map (λ n. 1 + n) (length_to_star_slash (xs ++ 0x7B ∷ es))))
    by true true e h = λ le. refl
    by false false e h = h
    by true false e h = absurd (cc)
    by false true e h = absurd (cc)

-- ---- blanks

abbrev BlankSame : ℕ → Option Blank → Option Blank → Type 0
BlankSame room None there = Unit {0}
BlankSame room (Some b) there = b.length ≤ room → there ≡ Some b

blank_either : (room : ℕ) (b : Bool) (o o_there p p_there : Option Blank) → BlankSame room o o_there → BlankSame room p p_there → BlankSame room (cond b o p) (cond b o_there p_there)
blank_either room true o o_there p p_there h k = h
blank_either room false o o_there p p_there h k = k

-- the test may be another one, that says the same
blank_test : (room : ℕ) (b c : Bool) → b ≡ c → (o o_there p p_there : Option Blank) → BlankSame room o o_there → BlankSame room p p_there → BlankSame room (cond b o p) (cond c o_there p_there)
blank_test room true true e o o_there p p_there h k = h
blank_test room false false e o o_there p p_there h k = k
blank_test room true false e o o_there p p_there h k = absurd (cc)
blank_test room false true e o o_there p p_there h k = absurd (cc)

block_same : (room : ℕ) (o there : Option ℕ) (codes codes_there : List ℕ) → StarSame room o there → ((n : ℕ) → n ≤ room → take n codes_there ≡ take n codes) → BlankSame (suc (suc room)) (block_comment o codes) (block_comment there codes_there)
block_same room None there codes codes_there h k = tt
block_same room (Some n) there codes codes_there h k = λ le.
    let within : n ≤ room = omega (arith, le) in
    ap (λ o. block_comment o codes_there) (h within) ∙ ap (λ front. Some (record { length = 2 + n; breaks = list_any is_line_end front })) (k n within)

block_front : (xs ds es : List ℕ) → BlankSame (suc (length xs)) (block_comment (length_to_star_slash (drop 1 (xs ++ 0x7B ∷ ds))) (drop 1 (xs ++ 0x7B ∷ ds))) (block_comment (length_to_star_slash (drop 1 (xs ++ 0x7B ∷ es))) (drop 1 (xs ++ 0x7B ∷ es)))
block_front [] ds es = short (length_to_star_slash ds) (block_comment (length_to_star_slash es) es)
  where
    short : (o : Option ℕ) (there : Option Blank) → BlankSame 1 (block_comment o ds) there
    short None there = tt
    short (Some n) there = λ le. absurd (omega (arith, le))
block_front (x ∷ xs) ds es =
    block_same (length xs) (length_to_star_slash (xs ++ 0x7B ∷ ds)) (length_to_star_slash (xs ++ 0x7B ∷ es)) (xs ++ 0x7B ∷ ds) (xs ++ 0x7B ∷ es) (star_front xs ds es)
    (λ n le. take-append-le n xs (0x7B ∷ es) le ∙ sym (take-append-le n xs (0x7B ∷ ds) le))

comment_front : (c : ℕ) (xs ds es : List ℕ) → BlankSame (suc (length xs)) (comment_at (c ∷ (xs ++ 0x7B ∷ ds))) (comment_at (c ∷ (xs ++ 0x7B ∷ es)))
comment_front c xs ds es =
    blank_test (suc (length xs)) (two 0x2F 0x2F (c ∷ (xs ++ 0x7B ∷ ds))) (two 0x2F 0x2F (c ∷ (xs ++ 0x7B ∷ es))) (two_front 0x2F 0x2F refl c xs ds es) _ _ _ _
    (λ le. ap (λ n. Some (record { length = n; breaks = false })) (prefix_before (λ x. not (is_line_end x)) refl (c ∷ xs) ds es le))
    (blank_test (suc (length xs)) (two 0x2F 0x2A (c ∷ (xs ++ 0x7B ∷ ds))) (two 0x2F 0x2A (c ∷ (xs ++ 0x7B ∷ es))) (two_front 0x2F 0x2A refl c xs ds es) _ _ None None (block_front xs ds es) tt)

blank_same : (c : ℕ) (xs ds es : List ℕ) → BlankSame (suc (length xs)) (blank_at (c ∷ (xs ++ 0x7B ∷ ds))) (blank_at (c ∷ (xs ++ 0x7B ∷ es)))
blank_same c xs ds es =
    blank_either (suc (length xs)) (is_white_space c) (Some (record { length = 1; breaks = false })) (Some (record { length = 1; breaks = false })) _ _ (λ le. refl)
    (blank_either (suc (length xs)) (is_line_end c) (Some (record { length = 1; breaks = true })) (Some (record { length = 1; breaks = true })) _ _ (λ le. refl) (comment_front c xs ds es))

-- a blank in front of the brace
pub blank_front : (xs ds es : List ℕ) (b : Blank) → 1 ≤ b.length → blank_at (xs ++ 0x7B ∷ ds) ≡ Some b → b.length ≤ length xs → blank_at (xs ++ 0x7B ∷ es) ≡ Some b
blank_front [] ds es b some e le = absurd (omega (arith, some, le))
blank_front (c ∷ xs) ds es b some e le = subst (λ o. BlankSame (suc (length xs)) o (blank_at (c ∷ (xs ++ 0x7B ∷ es)))) e (blank_same c xs ds es) le

-- ---- where none stands

no_comment : (c : ℕ) (xs ds es : List ℕ) → two 0x2F 0x2A (c ∷ (xs ++ 0x7B ∷ ds)) ≡ false → comment_at (c ∷ (xs ++ 0x7B ∷ ds)) ≡ None → comment_at (c ∷ (xs ++ 0x7B ∷ es)) ≡ None
no_comment c xs ds es out e =
    by (two 0x2F 0x2F (c ∷ (xs ++ 0x7B ∷ ds))) (two 0x2F 0x2A (c ∷ (xs ++ 0x7B ∷ ds))) (two 0x2F 0x2F (c ∷ (xs ++ 0x7B ∷ es))) (two 0x2F 0x2A (c ∷ (xs ++ 0x7B ∷ es)))
    (two_front 0x2F 0x2F refl c xs ds es) (two_front 0x2F 0x2A refl c xs ds es) out _ _ _ _ e
  where
    by : (a b a_there b_there : Bool) → a ≡ a_there → b ≡ b_there → b ≡ false → (line line_there : Blank) (block block_there : Option Blank) → cond a (Some line) (cond b block None) ≡ None → cond a_there (Some line_there) (cond b_there block_there None) ≡ None
    by true b c d e f g line line_there block block_there h = absurd (cc)
    by false true c d e f g line line_there block block_there h = absurd (cc)
    by false false true d e f g line line_there block block_there h = absurd (cc)
    by false false false true e f g line line_there block block_there h = absurd (cc)
    by false false false false e f g line line_there block block_there h = refl

none_here : (c : ℕ) (xs ds es : List ℕ) → two 0x2F 0x2A (c ∷ (xs ++ 0x7B ∷ ds)) ≡ false → blank_at (c ∷ (xs ++ 0x7B ∷ ds)) ≡ None → blank_at (c ∷ (xs ++ 0x7B ∷ es)) ≡ None
none_here c xs ds es out e = by (is_white_space c) (is_line_end c) (comment_at (c ∷ (xs ++ 0x7B ∷ ds))) (comment_at (c ∷ (xs ++ 0x7B ∷ es))) (no_comment c xs ds es out) e
  where
    by : (a b : Bool) (o there : Option Blank) → (o ≡ None → there ≡ None) → cond a (Some (record { length = 1; breaks = false })) (cond b (Some (record { length = 1; breaks = true })) o) ≡ None
        → cond a (Some (record { length = 1; breaks = false })) (cond b (Some (record { length = 1; breaks = true })) there) ≡ None
    by true b o there k h = absurd (cc)
    by false true o there k h = absurd (cc)
    by false false o there k h = k h

-- where none stands and no comment is open, none does there
pub bare_front : (xs ds es : List ℕ) → two 0x2F 0x2A (xs ++ 0x7B ∷ ds) ≡ false → blank_at (xs ++ 0x7B ∷ ds) ≡ None → blank_at (xs ++ 0x7B ∷ es) ≡ None
bare_front [] ds es out e = refl
bare_front (c ∷ xs) ds es out e = none_here c xs ds es out e
