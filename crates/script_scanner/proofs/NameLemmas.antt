-- Which characters of ASCII stand in a name, and which others.
use Rattle.std.proofs.Common.{◌≡◌, ℕ, ◌+◌, ◌≤◌, ◌<◌, List, [], ◌∷◌, map, length, drop, Bool, true, false, ◌||◌, ◌&&◌, ◌==◌, refl, ◌∙◌, ap, arith}
use Rattle.std.proofs.Math.Dec.{leb}
use Rattle.std.proofs.lemmas.Bool.{ne_eqb, le-leb, lt-leb}
use Rattle.std.specs.Char.{is_ascii_alphabetic, is_ascii_alphanumeric}
use Rattle.std.specs.Int.{is_in_range}
use Rattle.std.specs.List.{prefix_len}
use Rattle.unicode_ident.specs.Ident.{is_xid_start, is_xid_continue}
use Rattle.unicode_ident.proofs.IdentLemmas.{is_xid_start-ascii, is_xid_continue-ascii}
use Rattle.unit_text.specs.declared.Point.{Point}
use Rattle.unit_text.specs.Points.{code_of}
use Rattle.script_scanner.specs.Names.{is_name_start, is_name_part, name_length}

or_false : (a : Bool) → (a || false) ≡ a
or_false true = refl
or_false false = refl

or_swap : (a b c : Bool) → ((a || b) || c) ≡ ((a || c) || b)
or_swap true b c = refl
or_swap false true true = refl
or_swap false true false = refl
or_swap false false true = refl
or_swap false false false = refl

or_neither : (a b c : Bool) → b ≡ false → c ≡ false → ((a || b) || c) ≡ a
or_neither a b c no_b no_c = ap (λ x. (a || x) || c) no_b ∙ ap (λ x. (a || false) || x) no_c ∙ or_false (a || false) ∙ or_false a

pub start_ascii : (c : ℕ) → c < 128 → is_name_start c ≡ ((is_ascii_alphabetic c || (c == 0x24)) || (c == 0x5F))
start_ascii c low = ap (λ b. (b || (c == 0x24)) || (c == 0x5F)) (is_xid_start-ascii c low)

pub start_other : (c : ℕ) → 128 ≤ c → is_name_start c ≡ is_xid_start c
start_other c high = or_neither (is_xid_start c) (c == 0x24) (c == 0x5F) (ne_eqb c 0x24 (λ e. absurd (omega (arith, high, e)))) (ne_eqb c 0x5F (λ e. absurd (omega (arith, high, e))))

part_ascii : (c : ℕ) → c < 128 → is_name_part c ≡ ((is_ascii_alphanumeric c || (c == 0x24)) || (c == 0x5F))
part_ascii c low =
    or_neither ((is_xid_continue c || (c == 0x24))) (c == 0x200C) (c == 0x200D) (ne_eqb c 0x200C (λ e. absurd (omega (arith, low, e)))) (ne_eqb c 0x200D (λ e. absurd (omega (arith, low, e))))
    ∙ ap (λ b. b || (c == 0x24)) (is_xid_continue-ascii c low)
    ∙ or_swap (is_ascii_alphanumeric c) (c == 0x5F) (c == 0x24)

or_last : (a b c d e : Bool) → a ≡ false → b ≡ false → c ≡ false → e ≡ false → ((((a || b) || c) || d) || e) ≡ d
or_last a b c d e no_a no_b no_c no_e =
    ap (λ x. (((x || b) || c) || d) || e) no_a ∙ ap (λ x. ((x || c) || d) || e) no_b ∙ ap (λ x. (x || d) || e) no_c ∙ ap (λ x. d || x) no_e ∙ or_false d

-- in front of the digits there is only the dollar sign
pub part_low : (c : ℕ) → c < 48 → is_name_part c ≡ (c == 0x24)
part_low c low =
    let digit : is_in_range 48 57 c ≡ false = ap (λ b. b && leb c 57) (lt-leb 48 c low) in
    let capital : is_in_range 65 90 c ≡ false = ap (λ b. b && leb c 90) (lt-leb 65 c (omega (arith, low))) in
    let small : is_in_range 97 122 c ≡ false = ap (λ b. b && leb c 122) (lt-leb 97 c (omega (arith, low))) in
    let line : (c == 0x5F) ≡ false = ne_eqb c 0x5F (λ e. absurd (omega (arith, low, e))) in
    part_ascii c (omega (arith, low)) ∙ or_last (is_in_range 48 57 c) (is_in_range 65 90 c) (is_in_range 97 122 c) (c == 0x24) (c == 0x5F) digit capital small line

-- and from them on no dollar sign
pub part_middle : (c : ℕ) → 48 ≤ c → c < 128 → is_name_part c ≡ (is_ascii_alphanumeric c || (c == 0x5F))
part_middle c high low =
    part_ascii c low
    ∙ ap (λ x. x || (c == 0x5F)) (ap (λ x. is_ascii_alphanumeric c || x) (ne_eqb c 0x24 (λ e. absurd (omega (arith, high, e)))) ∙ or_false (is_ascii_alphanumeric c))

or_second : (a b c d : Bool) → b ≡ true → (((a || b) || c) || d) ≡ true
or_second true b c d e = refl
or_second false b c d e = ap (λ x. (x || c) || d) e

pub part_small : (c : ℕ) → 0x61 ≤ c → c ≤ 0x7A → is_name_part c ≡ true
part_small c low high =
    let from : leb 97 c ≡ true = le-leb 97 c low in
    let to : leb c 122 ≡ true = le-leb c 122 high in
    let small : is_in_range 97 122 c ≡ true = cc in
    part_ascii c (omega (arith, high)) ∙ or_second (is_in_range 48 57 c || is_in_range 65 90 c) (is_in_range 97 122 c) (c == 0x24) (c == 0x5F) small

pub part_other : (c : ℕ) → 128 ≤ c → is_name_part c ≡ ((is_xid_continue c || (c == 0x200C)) || (c == 0x200D))
part_other c high =
    ap (λ b. ((b || (c == 0x200C)) || (c == 0x200D))) (ap (λ b. is_xid_continue c || b) (ne_eqb c 0x24 (λ e. absurd (omega (arith, high, e)))) ∙ or_false (is_xid_continue c))

-- how far the name reaches that the first point begins
pub name_begins : (points : List Point) → 0 < length points → 1 + prefix_len is_name_part (map code_of (drop 1 points)) ≡ name_length (map code_of points)
name_begins [] some = absurd (omega (arith, some))
name_begins (p ∷ points) some = refl
