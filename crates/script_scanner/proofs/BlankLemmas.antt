-- How a comment of many lines is read.
use Rattle.std.proofs.Common.{◌≡◌, ℕ, ◌+◌, ◌<◌, List, [], ◌∷◌, map, length, drop, true, false, cond, refl, sym, ◌∙◌, ap, subst, arith, length-drop, true≢false}
use Rattle.std.specs.Prelude.{◌≤◌, Option, Some, None, option_map}
use Rattle.std.proofs.Math.Dec.{eqb, leb}
use Rattle.std.proofs.lemmas.Bool.{lt-leb, ne_eqb}
use Rattle.std.proofs.lemmas.List.{length-map}
use Rattle.unit_text.specs.declared.Point.{Point}
use Rattle.unit_text.specs.Points.{code_of}
use Rattle.script_scanner.specs.Blanks.{begins, blank_at, is_white_space, is_line_end, length_to_star_slash}
use Rattle.script_scanner.proofs.Lists.{place_in, and_right}

one_more : (at : ℕ) (o : Option ℕ) → option_map (λ n. at + n) (option_map (λ n. 1 + n) o) ≡ option_map (λ n. (at + 1) + n) o
one_more at None = refl
one_more at (Some n) = ap Some (let e : at + (1 + n) ≡ (at + 1) + n = omega arith in e)

-- no `*/` begins at the point
not_here : (c : ℕ) (codes : List ℕ) → begins (0x2A ∷ 0x2F ∷ []) (c ∷ codes) ≡ false → length_to_star_slash (c ∷ codes) ≡ option_map (λ n. 1 + n) (length_to_star_slash codes)
not_here c codes absent = ap (λ b. cond b (Some 2) (option_map (λ n. 1 + n) (length_to_star_slash codes))) absent

-- the points passed have no `*/`, and neither has the next one
pub star_more : (points : List Point) (at : ℕ) → at < length points → begins (0x2A ∷ 0x2F ∷ []) (map code_of (drop at points)) ≡ false
    → length_to_star_slash (map code_of points) ≡ option_map (λ n. at + n) (length_to_star_slash (map code_of (drop at points)))
    → length_to_star_slash (map code_of points) ≡ option_map (λ n. (at + 1) + n) (length_to_star_slash (map code_of (drop (at + 1) points)))
star_more points at lt absent before = let (p, rest, here, next) = place_in points at lt in
    before
    ∙ ap (λ ps. option_map (λ n. at + n) (length_to_star_slash (map code_of ps))) here
    ∙ ap (option_map (λ n. at + n)) (not_here p.code (map code_of rest) (subst (λ (ps : List Point). begins (0x2A ∷ 0x2F ∷ []) (map code_of ps) ≡ false) here absent))
    ∙ one_more at (length_to_star_slash (map code_of rest))
    ∙ ap (λ ps. option_map (λ n. (at + 1) + n) (length_to_star_slash (map code_of ps))) (sym next)

-- a `*/` is two code points
two_long : (codes : List ℕ) → begins (0x2A ∷ 0x2F ∷ []) codes ≡ true → 2 ≤ length codes
two_long [] e = absurd (true≢false (sym e))
two_long (c ∷ []) e = absurd (true≢false (sym (and_right (eqb c 0x2A) false e)))
two_long (c ∷ d ∷ codes) e = omega arith

pub star_within : (points : List Point) (at : ℕ) → at ≤ length points → begins (0x2A ∷ 0x2F ∷ []) (map code_of (drop at points)) ≡ true → at + 2 ≤ length points
star_within points at le here =
    let long : 2 ≤ length (map code_of (drop at points)) = two_long (map code_of (drop at points)) here in
    omega (arith, long, length-map (drop at points) code_of, length-drop at points, le)

nothing_white : (c : ℕ) → 0x21 ≤ c → c ≤ 0x7E → is_white_space c ≡ false
nothing_white c low high =
    let tab : eqb c 0x9 ≡ false = ne_eqb c 0x9 (λ e. absurd (omega (arith, low, e))) in
    let vt : eqb c 0xB ≡ false = ne_eqb c 0xB (λ e. absurd (omega (arith, low, e))) in
    let ff : eqb c 0xC ≡ false = ne_eqb c 0xC (λ e. absurd (omega (arith, low, e))) in
    let sp : eqb c 0x20 ≡ false = ne_eqb c 0x20 (λ e. absurd (omega (arith, low, e))) in
    let nbsp : eqb c 0xA0 ≡ false = ne_eqb c 0xA0 (λ e. absurd (omega (arith, high, e))) in
    let mark : eqb c 0xFEFF ≡ false = ne_eqb c 0xFEFF (λ e. absurd (omega (arith, high, e))) in
    let ogham : eqb c 0x1680 ≡ false = ne_eqb c 0x1680 (λ e. absurd (omega (arith, high, e))) in
    let spaces : leb 0x2000 c ≡ false = lt-leb 0x2000 c (omega (arith, high)) in
    let narrow : eqb c 0x202F ≡ false = ne_eqb c 0x202F (λ e. absurd (omega (arith, high, e))) in
    let mathematical : eqb c 0x205F ≡ false = ne_eqb c 0x205F (λ e. absurd (omega (arith, high, e))) in
    let wide : eqb c 0x3000 ≡ false = ne_eqb c 0x3000 (λ e. absurd (omega (arith, high, e))) in
    cc

nothing_ends : (c : ℕ) → 0x21 ≤ c → c ≤ 0x7E → is_line_end c ≡ false
nothing_ends c low high =
    let lf : eqb c 0xA ≡ false = ne_eqb c 0xA (λ e. absurd (omega (arith, low, e))) in
    let cr : eqb c 0xD ≡ false = ne_eqb c 0xD (λ e. absurd (omega (arith, low, e))) in
    let ls : eqb c 0x2028 ≡ false = ne_eqb c 0x2028 (λ e. absurd (omega (arith, high, e))) in
    let ps : eqb c 0x2029 ≡ false = ne_eqb c 0x2029 (λ e. absurd (omega (arith, high, e))) in
    cc

-- no blank begins with a visible ASCII character other than `/`
pub plain_is_no_blank : (c : ℕ) (codes : List ℕ) → 0x21 ≤ c → c ≤ 0x7E → (c ≡ 0x2F → ⊥) → blank_at (c ∷ codes) ≡ None
plain_is_no_blank c codes low high apart =
    let white : is_white_space c ≡ false = nothing_white c low high in
    let ends : is_line_end c ≡ false = nothing_ends c low high in
    let slash : eqb c 0x2F ≡ false = ne_eqb c 0x2F apart in
    cc

pub space_is_blank : (c : ℕ) (codes : List ℕ) → c ≡ 0x20 → blank_at (c ∷ codes) ≡ Some (record { length = 1; breaks = false })
space_is_blank c codes is = ap (λ d. blank_at (d ∷ codes)) is

pub line_feed_is_blank : (c : ℕ) (codes : List ℕ) → c ≡ 0xA → blank_at (c ∷ codes) ≡ Some (record { length = 1; breaks = true })
line_feed_is_blank c codes is = ap (λ d. blank_at (d ∷ codes)) is
