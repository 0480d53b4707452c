-- What the first code points tell.
use Rattle.std.proofs.Common.{◌≡◌, ◌≢◌, ℕ, ◌<◌, ◌≤◌, List, [], ◌∷◌, Bool, true, false, refl, sym, ◌∙◌, ap, subst, arith, inl, inr, map}
use Rattle.std.specs.Prelude.{Option, Some, None, ◌==◌, ◌||◌, ◌&&◌}
use Rattle.std.proofs.Math.Dec.{eqb, leb}
use Rattle.std.proofs.lemmas.Bool.{cases_Bool, leb-true}
use Rattle.std.specs.Char.{is_digit, is_ascii_alphabetic}
use Rattle.std.specs.Int.{is_in_range}
use Rattle.script_grammar.specs.declared.token.Token.{Token}
use Rattle.unit_text.specs.declared.Point.{Point}
use Rattle.unit_text.specs.Points.{code_of}
use Rattle.script_scanner.specs.declared.braces.Brace.{Brace}
use Rattle.script_scanner.specs.declared.fronts.Front.TheVariants.{Name, Quote, Mark, Close}
use Rattle.script_scanner.specs.declared.scanning.Scanner.{Scanner}
use Rattle.script_scanner.specs.Advances.{TakesToken, Moves}
use Rattle.script_scanner.specs.Blanks.{blank_at}
use Rattle.script_scanner.specs.Braces.{in_substitution}
use Rattle.script_scanner.specs.Fronts.{StandsAt, BeginsEnded, lone_mark, found_mark}
use Rattle.script_scanner.specs.Marks.{mark_at}
use Rattle.script_scanner.specs.Reads.{FindsPiece}
use Rattle.script_scanner.specs.Tokens.{Piece, token_at, mark_piece}
use Rattle.script_scanner.proofs.BlankLemmas.{plain_is_no_blank}
use Rattle.script_scanner.proofs.Lists.{not_equal, and_left, and_right}
use Rattle.script_scanner.proofs.NameLemmas.{start_ascii}
use Rattle.script_scanner.proofs.PieceLemmas.{token_is_mark, token_is_string}
use Rattle.script_scanner.proofs.ScanLemmas.{moves_blank, moves_token}

-- a code point that begins neither a name nor a number, a string or a template is the first of a mark
mark_here : (b : Bool) (c i : ℕ) (codes : List ℕ) → c < 128 → ((is_ascii_alphabetic c || (c == 0x24)) || (c == 0x5F)) ≡ false → is_digit c 10 ≡ false → (c == 0x22) || (c == 0x27) ≡ false
    → (c == 0x60) ≡ false → (c == 0x7D) && b ≡ false → mark_piece (mark_at (c ∷ codes)) ≡ Some (lone_mark i) → token_at b (c ∷ codes) ≡ Some (lone_mark i)
mark_here b c i codes low letter digit quote back brace is = token_is_mark b c codes (start_ascii c low ∙ letter) digit quote back brace ∙ is

pub stands_40 : (codes : List ℕ) → StandsAt (40 ∷ codes) (Mark 2)
unfolding mark_at
stands_40 codes = (refl, λ b. mark_here b 40 2 codes (omega arith) refl refl refl refl refl refl)

pub stands_41 : (codes : List ℕ) → StandsAt (41 ∷ codes) (Mark 3)
unfolding mark_at
stands_41 codes = (refl, λ b. mark_here b 41 3 codes (omega arith) refl refl refl refl refl refl)

pub stands_44 : (codes : List ℕ) → StandsAt (44 ∷ codes) (Mark 7)
unfolding mark_at
stands_44 codes = (refl, λ b. mark_here b 44 7 codes (omega arith) refl refl refl refl refl refl)

pub stands_59 : (codes : List ℕ) → StandsAt (59 ∷ codes) (Mark 6)
unfolding mark_at
stands_59 codes = (refl, λ b. mark_here b 59 6 codes (omega arith) refl refl refl refl refl refl)

pub stands_58 : (codes : List ℕ) → StandsAt (58 ∷ codes) (Mark 36)
unfolding mark_at
stands_58 codes = (refl, λ b. mark_here b 58 36 codes (omega arith) refl refl refl refl refl refl)

pub stands_91 : (codes : List ℕ) → StandsAt (91 ∷ codes) (Mark 4)
unfolding mark_at
stands_91 codes = (refl, λ b. mark_here b 91 4 codes (omega arith) refl refl refl refl refl refl)

pub stands_93 : (codes : List ℕ) → StandsAt (93 ∷ codes) (Mark 5)
unfolding mark_at
stands_93 codes = (refl, λ b. mark_here b 93 5 codes (omega arith) refl refl refl refl refl refl)

pub stands_123 : (codes : List ℕ) → StandsAt (123 ∷ codes) (Mark 0)
unfolding mark_at
stands_123 codes = (refl, λ b. mark_here b 123 0 codes (omega arith) refl refl refl refl refl refl)

pub stands_125 : (codes : List ℕ) → StandsAt (125 ∷ codes) Close
unfolding mark_at
stands_125 codes = (refl, mark_here false 125 1 codes (omega arith) refl refl refl refl refl refl)

-- `$` and `_` begin names
pub stands_36 : (codes : List ℕ) → StandsAt (36 ∷ codes) Name
stands_36 codes = (refl, start_ascii 36 (omega arith))

pub stands_95 : (codes : List ℕ) → StandsAt (95 ∷ codes) Name
stands_95 codes = (refl, start_ascii 95 (omega arith))

-- a quote begins a string
pub stands_34 : (codes : List ℕ) → StandsAt (34 ∷ codes) (Quote 34)
stands_34 codes = (refl, λ b. token_is_string b 34 codes (start_ascii 34 (omega arith)) refl refl)

pub stands_39 : (codes : List ℕ) → StandsAt (39 ∷ codes) (Quote 39)
stands_39 codes = (refl, λ b. token_is_string b 39 codes (start_ascii 39 (omega arith)) refl refl)

letter_range : (c : ℕ) → is_ascii_alphabetic c ≡ true → (65 ≤ c) × (c ≤ 122)
letter_range c e = elim (cases_Bool (is_in_range 65 90 c)) as (λ _. (65 ≤ c) × (c ≤ 122)) [
  | inl y ↦ (leb-true 65 c (and_left (leb 65 c) (leb c 90) y), (let h : c ≤ 90 = leb-true c 90 (and_right (leb 65 c) (leb c 90) y) in omega (arith, h)))
  | inr n ↦ let r : is_in_range 97 122 c ≡ true = sym (ap (λ (b : Bool). b || is_in_range 97 122 c) n) ∙ e in
      ((let h : 97 ≤ c = leb-true 97 c (and_left (leb 97 c) (leb c 122) r) in omega (arith, h)), leb-true c 122 (and_right (leb 97 c) (leb c 122) r))
]

-- a letter begins a name
pub stands_letter : (c : ℕ) (codes : List ℕ) → is_ascii_alphabetic c ≡ true → StandsAt (c ∷ codes) Name
stands_letter c codes e = let r : (65 ≤ c) × (c ≤ 122) = letter_range c e in (
  plain_is_no_blank c codes (omega (arith, r.0)) (omega (arith, r.1)) (λ is. absurd (omega (arith, r.0, is))),
  start_ascii c (omega (arith, r.1)) ∙ ap (λ (x : Bool). (x || (c == 0x24)) || (c == 0x5F)) e,
)

-- a dot before what is neither a dot nor a digit
pub stands_46 : (d : ℕ) (codes : List ℕ) → d ≢ 46 → is_digit d 10 ≡ false → StandsAt (46 ∷ d ∷ codes) (Mark 51)
unfolding mark_at
stands_46 d codes other digit = let dot : eqb d 46 ≡ false = not_equal d 46 other in
    (refl, λ b. mark_here b 46 51 (d ∷ codes) (omega arith) refl refl refl refl refl (rw (dot, digit)))

pub stands_61 : (codes : List ℕ) → BeginsEnded codes → StandsAt (61 ∷ codes) (Mark 37)
unfolding mark_at
stands_61 [] e = absurd e
stands_61 (d ∷ codes) e = let n_equals : eqb d 61 ≡ false = not_equal d 61 e.equals in let n_greater : eqb d 62 ≡ false = not_equal d 62 e.greater in
    (refl, λ b. mark_here b 61 37 (d ∷ codes) (omega arith) refl refl refl refl refl (rw (n_equals, n_greater)))

pub stands_43 : (codes : List ℕ) → BeginsEnded codes → StandsAt (43 ∷ codes) (Mark 16)
unfolding mark_at
stands_43 [] e = absurd e
stands_43 (d ∷ codes) e = let n_plus : eqb d 43 ≡ false = not_equal d 43 e.plus in let n_equals : eqb d 61 ≡ false = not_equal d 61 e.equals in
    (refl, λ b. mark_here b 43 16 (d ∷ codes) (omega arith) refl refl refl refl refl (rw (n_plus, n_equals)))

pub stands_45 : (codes : List ℕ) → BeginsEnded codes → StandsAt (45 ∷ codes) (Mark 17)
unfolding mark_at
stands_45 [] e = absurd e
stands_45 (d ∷ codes) e = let n_minus : eqb d 45 ≡ false = not_equal d 45 e.minus in let n_equals : eqb d 61 ≡ false = not_equal d 61 e.equals in
    (refl, λ b. mark_here b 45 17 (d ∷ codes) (omega arith) refl refl refl refl refl (rw (n_minus, n_equals)))

pub stands_42 : (codes : List ℕ) → BeginsEnded codes → StandsAt (42 ∷ codes) (Mark 18)
unfolding mark_at
stands_42 [] e = absurd e
stands_42 (d ∷ codes) e = let n_star : eqb d 42 ≡ false = not_equal d 42 e.star in let n_equals : eqb d 61 ≡ false = not_equal d 61 e.equals in
    (refl, λ b. mark_here b 42 18 (d ∷ codes) (omega arith) refl refl refl refl refl (rw (n_star, n_equals)))

pub stands_60 : (codes : List ℕ) → BeginsEnded codes → StandsAt (60 ∷ codes) (Mark 8)
unfolding mark_at
stands_60 [] e = absurd e
stands_60 (d ∷ codes) e = let n_bang : eqb d 33 ≡ false = not_equal d 33 e.bang in let n_less : eqb d 60 ≡ false = not_equal d 60 e.less in let n_equals : eqb d 61 ≡ false = not_equal d 61 e.equals in
    (refl, λ b. mark_here b 60 8 (d ∷ codes) (omega arith) refl refl refl refl refl (rw (n_bang, n_less, n_equals)))

pub stands_62 : (codes : List ℕ) → BeginsEnded codes → StandsAt (62 ∷ codes) (Mark 9)
unfolding mark_at
stands_62 [] e = absurd e
stands_62 (d ∷ codes) e = let n_greater : eqb d 62 ≡ false = not_equal d 62 e.greater in let n_equals : eqb d 61 ≡ false = not_equal d 61 e.equals in
    (refl, λ b. mark_here b 62 9 (d ∷ codes) (omega arith) refl refl refl refl refl (rw (n_greater, n_equals)))

pub stands_33 : (codes : List ℕ) → BeginsEnded codes → StandsAt (33 ∷ codes) (Mark 30)
unfolding mark_at
stands_33 [] e = absurd e
stands_33 (d ∷ codes) e = let n_equals : eqb d 61 ≡ false = not_equal d 61 e.equals in
    (refl, λ b. mark_here b 33 30 (d ∷ codes) (omega arith) refl refl refl refl refl (rw n_equals))

pub stands_63 : (codes : List ℕ) → BeginsEnded codes → StandsAt (63 ∷ codes) (Mark 35)
unfolding mark_at
stands_63 [] e = absurd e
stands_63 (d ∷ codes) e = let n_question : eqb d 63 ≡ false = not_equal d 63 e.question in let n_dot : eqb d 46 ≡ false = not_equal d 46 e.dot in
    (refl, λ b. mark_here b 63 35 (d ∷ codes) (omega arith) refl refl refl refl refl (rw (n_question, n_dot)))

or_false : (a : Bool) → a ≡ a || false
or_false true = refl
or_false false = refl

or_true : (a : Bool) → true ≡ a || true
or_true true = refl
or_true false = refl

-- a blank of one code point
pub moves_space : (to : ℕ) (rest : List Point) (tokens : List Token) (braces : List Brace) (after : Bool) (texts : List (List ℕ)) → blank_at (map code_of rest) ≡ Some (record { length = 1; breaks = false })
    → Moves to rest tokens tokens braces braces after after texts texts 1
moves_space to rest tokens braces after texts is = moves_blank to rest tokens braces after after texts (record { length = 1; breaks = false }) is (omega arith) (or_false after)

-- a line end of one code point
pub moves_line : (to : ℕ) (rest : List Point) (tokens : List Token) (braces : List Brace) (after : Bool) (texts : List (List ℕ)) → blank_at (map code_of rest) ≡ Some (record { length = 1; breaks = true })
    → Moves to rest tokens tokens braces braces after true texts texts 1
moves_line to rest tokens braces after texts is = moves_blank to rest tokens braces after true texts (record { length = 1; breaks = true }) is (omega arith) (or_true after)

-- a mark of one code point
pub moves_mark : (to i : ℕ) (rest : List Point) (before now : Scanner) (texts : List (List ℕ)) (taken : ℕ)
    → blank_at (map code_of rest) ≡ None → token_at (in_substitution before.braces.items) (map code_of rest) ≡ Some (lone_mark i) → TakesToken to rest (found_mark i) before now texts texts → taken ≡ 1
    → Moves to rest before.tokens.items now.tokens.items before.braces.items now.braces.items before.after_line now.after_line texts texts taken
moves_mark to i rest before now texts taken bare is t took =
    moves_token to rest (found_mark i) before now texts texts taken t took (omega arith) bare
    (subst (λ (o : Option Piece). FindsPiece o (Some (found_mark i)) before.units.items) (sym is) (refl, refl, tt))
