-- The tokens of a whole file of ASCII that begins with no `#!`.
use Rattle.std.proofs.Common.{◌≡◌, ℕ, zero, suc, ◌+◌, ◌≤◌, List, [], ◌∷◌, ◌++◌, length, drop, Bool, true, false, cond, refl, sym, ◌∙◌, ap, arith}
use Rattle.std.specs.Prelude.{◌&&◌, nat_lt, IsUtf8}
use Rattle.std.specs.Char.{len_utf8}
use Rattle.std.specs.Str.{IsAscii}
use Rattle.std.proofs.lemmas.Bool.{le-leb, lt-ltb, ltb-true}
use Rattle.std.proofs.lemmas.List.Folds.{list_all-append}
use Rattle.std.proofs.lemmas.Str.{IsUtf8-from_ascii, chars-IsAscii}
use Rattle.script_grammar.specs.Lexeme.{Lexeme}
use Rattle.unit_text.specs.declared.Point.{Point}
use Rattle.unit_text.specs.Points.{points, points_from}
use Rattle.unit_text.proofs.Decoding.{codes_of-utf8, codes_of-points_from}
use Rattle.script_scanner.specs.Blanks.{begins, first_line_length, line_length}
use Rattle.script_scanner.specs.Lexemes.{lexemes}
use Rattle.script_scanner.specs.Tokens.{part, without_first_line}
use Rattle.session_trial_laws.proofs.Scanning.{scan, is_ascii, points_ascii}

both : (a b : Bool) → a && b ≡ true → (a ≡ true) × (b ≡ true)
both true b e = (refl, e)
both false b e = absurd (cc)

pub ascii_both : (xs ys : List ℕ) → is_ascii xs ≡ true → is_ascii ys ≡ true → is_ascii (xs ++ ys) ≡ true
ascii_both xs ys e f = list_all-append (λ c. nat_lt c 128) xs ys ∙ ap (λ (b : Bool). b && is_ascii ys) e ∙ f

ascii_bytes : (bs : List ℕ) → is_ascii bs ≡ true → IsAscii bs
ascii_bytes [] e i = omega arith
ascii_bytes (b ∷ bs) e zero = ltb-true b 128 (both (nat_lt b 128) (is_ascii bs) e).0
ascii_bytes (b ∷ bs) e (suc i) = ascii_bytes bs (both (nat_lt b 128) (is_ascii bs) e).1 i

pub ascii_utf8 : (bs : List ℕ) → is_ascii bs ≡ true → IsUtf8 bs
ascii_utf8 bs e = IsUtf8-from_ascii bs (ascii_bytes bs e)

points_are : (bs : List ℕ) → is_ascii bs ≡ true → points bs ≡ points_from 0 bs
points_are bs e = ap (λ (cs : List ℕ). points_from 0 cs) (codes_of-utf8 bs (ascii_utf8 bs e) ∙ chars-IsAscii bs (ascii_bytes bs e))

points_count : (at : ℕ) (cs : List ℕ) → length (points_from at cs) ≡ length cs
points_count at [] = refl
points_count at (c ∷ cs) = ap suc (points_count (at + len_utf8 c) cs)

-- all points of a text lie in it
all_inside : (to at : ℕ) (cs : List ℕ) → is_ascii cs ≡ true → at + length cs ≤ to → part 0 to (points_from at cs) ≡ points_from at cs
all_inside to at [] e le = refl
all_inside to at (c ∷ cs) e le =
    let (here, there) = both (nat_lt c 128) (is_ascii cs) e in
    ap (λ (ps : List Point). part 0 to ps) (points_ascii at c cs here)
    ∙ ap (λ (b : Bool). cond (b && nat_lt at to) (point ∷ part 0 to (points_from (at + 1) cs)) (part 0 to (points_from (at + 1) cs))) (le-leb 0 at (omega arith))
    ∙ ap (λ (b : Bool). cond b (point ∷ part 0 to (points_from (at + 1) cs)) (part 0 to (points_from (at + 1) cs))) (lt-ltb at to (omega (arith, le)))
    ∙ ap (λ (ps : List Point). point ∷ ps) (all_inside to (at + 1) cs there (omega (arith, le)))
    ∙ sym (points_ascii at c cs here)
  where
    point : Point
    point = record { code = c; start = at; end = at + 1 }

-- the tokens of a file, from its points
pub whole_text : (file : List ℕ) → is_ascii file ≡ true → begins (0x23 ∷ 0x21 ∷ []) file ≡ false → lexemes file ≡ scan (suc (length file)) (length file) [] false (points_from 0 file)
unfolding lexemes
whole_text file e no_hash =
    ap (λ (ps : List Point). of_part (part 0 (length file) ps)) (points_are file e)
    ∙ ap of_part (all_inside (length file) 0 file e (omega arith))
    ∙ ap (λ (codes : List ℕ). of_text (drop (first_line_length codes) (points_from 0 file))) (codes_of-points_from 0 file)
    ∙ ap (λ (b : Bool). of_text (drop (cond b (line_length file) 0) (points_from 0 file))) no_hash
    ∙ ap (λ n. scan (suc n) (length file) [] false (points_from 0 file)) (points_count 0 file)
  where
    of_text : List Point → List Lexeme
    of_text text = scan (suc (length text)) (length file) [] false text

    of_part : List Point → List Lexeme
    of_part ps = of_text (without_first_line 0 ps)
