-- A line with a name and a number in it, between parts that are spelled out, and its tokens.
use Rattle.std.proofs.Common.{◌≡◌, ℕ, suc, ◌+◌, ◌-◌, ◌<◌, ◌≤◌, List, [], ◌∷◌, ◌++◌, length, Bool, true, false, sym, ◌∙◌, ap, subst, arith, append_assoc, length-append}
use Rattle.std.specs.Prelude.{◌&&◌, fold}
use Rattle.std.specs.List.{prefix_len}
use Rattle.script_grammar.specs.declared.token.Kind.TheVariants as kind
use Rattle.script_grammar.specs.Lexeme.{Lexeme}
use Rattle.unit_text.specs.Points.{points_from}
use Rattle.script_scanner.specs.declared.braces.Brace.{Brace}
use Rattle.script_scanner.specs.Braces.{in_substitution}
use Rattle.script_scanner.specs.Names.{is_name_part}
use Rattle.script_scanner.specs.Numbers.{with_digit}
use Rattle.script_scanner.specs.Tokens.{Text, Number}
use Rattle.session_trial_laws.proofs.Digits.{AreDigits, digit_is_bare, digits_ascii}
use Rattle.session_trial_laws.proofs.NamesAndNumbers.{IsLetter, StopsNumber, name_token, number_token}
use Rattle.session_trial_laws.proofs.Scanning.{more, more_is, scan, is_ascii, token_of, one_token}

-- The parts of a line: a head, a letter that the name begins with, a middle and a tail, the steps that each takes, and its
-- tokens by the offset where it begins.
pub record Shape : Type 0 where
  pub head : List ℕ
  pub letter : ℕ
  pub middle : List ℕ
  pub tail : List ℕ
  pub inside : List Brace
  pub head_steps : ℕ
  pub middle_steps : ℕ
  pub tail_steps : ℕ
  pub head_tokens : ℕ → Bool → List Lexeme
  pub middle_tokens : ℕ → List Lexeme
  pub tail_tokens : ℕ → List Lexeme

-- a text that is not empty
pub record Begins (text : List ℕ) : Type 0 where
  pub first : ℕ
  pub more : List ℕ
  pub split : text ≡ first ∷ more

-- The parts are those of a line.
pub record IsShape (s : Shape) : Type 0 where
  pub letter : IsLetter s.letter
  pub head_ascii : is_ascii s.head ≡ true
  pub middle_ascii : is_ascii s.middle ≡ true
  pub tail_ascii : is_ascii s.tail ≡ true
  pub middle_begins : Begins s.middle
  pub tail_begins : Begins s.tail
  pub stops_name : (rest : List ℕ) → prefix_len is_name_part (s.middle ++ rest) ≡ 0
  pub stops_number : (rest : List ℕ) → StopsNumber (s.tail ++ rest)
  pub few : s.head_steps + (s.middle_steps + s.tail_steps) ≤ length s.head + (length s.middle + length s.tail)
  pub head_read : (fuel to at : ℕ) (after : Bool) (rest : List ℕ)
      → scan (more s.head_steps fuel) to [] after (points_from at (s.head ++ rest)) ≡ s.head_tokens at after ++ scan fuel to [] false (points_from (at + length s.head) rest)
  pub middle_read : (fuel to at : ℕ) (rest : List ℕ)
      → scan (more s.middle_steps fuel) to [] false (points_from at (s.middle ++ rest)) ≡ s.middle_tokens at ++ scan fuel to s.inside false (points_from (at + length s.middle) rest)
  pub tail_read : (fuel to at : ℕ) (rest : List ℕ)
      → scan (more s.tail_steps fuel) to s.inside false (points_from at (s.tail ++ rest)) ≡ s.tail_tokens at ++ scan fuel to [] true (points_from (at + length s.tail) rest)

-- the line with a number's text in it
abbrev pub line : Shape → List ℕ → List ℕ
line s n = s.head ++ (s.letter ∷ (n ++ (s.middle ++ (n ++ s.tail))))

-- its tokens, by the offsets of the head, the name, the middle, the number and the tail
abbrev pub tokens : Shape → Bool → (o b m k t : ℕ) → List ℕ → ℕ → List Lexeme
tokens s after o b m k t n i =
    s.head_tokens o after ++ (token_of kind.Name (Text (s.letter ∷ n)) b m false ∷ (s.middle_tokens m ++ (token_of kind.Number (Number i) k t false ∷ s.tail_tokens t)))

-- how many steps it takes beside those after it
abbrev pub steps : Shape → ℕ → ℕ
steps s fuel = more s.head_steps (suc (more s.middle_steps (suc (more s.tail_steps fuel))))

-- the five offsets and that after the line
pub record Offsets (s : Shape) (n : List ℕ) (o b m k t e : ℕ) : Type 0 where
  pub name : b ≡ o + length s.head
  pub middle : m ≡ b + (1 + length n)
  pub number : k ≡ m + length s.middle
  pub tail : t ≡ k + length n
  pub end : e ≡ t + length s.tail

pub line_length : (s : Shape) (n : List ℕ) → length (line s n) ≡ length s.head + suc (length n + (length s.middle + (length n + length s.tail)))
line_length s n =
    length-append s.head (s.letter ∷ (n ++ (s.middle ++ (n ++ s.tail))))
    ∙ ap (λ x. length s.head + suc x) (length-append n (s.middle ++ (n ++ s.tail)) ∙ ap (λ x. length n + x) (length-append s.middle (n ++ s.tail) ∙ ap (λ x. length s.middle + x) (length-append n s.tail)))

name_in : (s : Shape) → IsLetter s.letter → (fuel to b m : ℕ) (c : ℕ) (cs text : List ℕ) → AreDigits (c ∷ cs) → Begins text → prefix_len is_name_part text ≡ 0 → m ≡ b + (1 + length (c ∷ cs))
    → scan (suc fuel) to [] false (points_from b (s.letter ∷ c ∷ (cs ++ text))) ≡ token_of kind.Name (Text (s.letter ∷ c ∷ cs)) b m false ∷ scan fuel to [] false (points_from m text)
name_in s letter fuel to b m c cs text digits begins stops at =
    ap (λ (rest : List ℕ). scan (suc fuel) to [] false (points_from b (s.letter ∷ c ∷ (cs ++ rest)))) begins.split
    ∙ one_token fuel to b [] false s.letter (c ∷ cs) begins.first begins.more kind.Name (Text (s.letter ∷ c ∷ cs))
    (ap (λ (b : Bool). b && is_ascii (c ∷ cs)) letter.ascii ∙ digits_ascii (c ∷ cs) digits)
    (letter.bare (c ∷ (cs ++ begins.first ∷ begins.more)))
    (name_token (in_substitution []) s.letter c cs (begins.first ∷ begins.more) letter digits (ap (prefix_len is_name_part) (sym begins.split) ∙ stops))
    ∙ ap (λ (x : ℕ). token_of kind.Name (Text (s.letter ∷ c ∷ cs)) b x false ∷ scan fuel to [] false (points_from x (begins.first ∷ begins.more))) (sym at)
    ∙ ap (λ (rest : List ℕ). token_of kind.Name (Text (s.letter ∷ c ∷ cs)) b m false ∷ scan fuel to [] false (points_from m rest)) (sym begins.split)

number_in : (inside : List Brace) (fuel to k t i : ℕ) (c : ℕ) (cs text : List ℕ) → AreDigits (c ∷ cs) → fold (with_digit 10) 0 (c ∷ cs) ≡ i → i ≤ 9007199254740991
    → (c ≡ 48 → (i ≡ 0) × (cs ≡ [])) → Begins text → StopsNumber text → t ≡ k + (1 + length cs)
    → scan (suc fuel) to inside false (points_from k (c ∷ (cs ++ text))) ≡ token_of kind.Number (Number i) k t false ∷ scan fuel to inside false (points_from t text)
number_in inside fuel to k t i c cs text digits value small lead begins stops at =
    ap (λ (rest : List ℕ). scan (suc fuel) to inside false (points_from k (c ∷ (cs ++ rest)))) begins.split
    ∙ one_token fuel to k inside false c cs begins.first begins.more kind.Number (Number i) (digits_ascii (c ∷ cs) digits) (digit_is_bare (cs ++ begins.first ∷ begins.more) c digits.0)
    (number_token (in_substitution inside) i c cs (begins.first ∷ begins.more) digits value small lead (subst StopsNumber begins.split stops))
    ∙ ap (λ (x : ℕ). token_of kind.Number (Number i) k x false ∷ scan fuel to inside false (points_from x (begins.first ∷ begins.more))) (sym at)
    ∙ ap (λ (rest : List ℕ). token_of kind.Number (Number i) k t false ∷ scan fuel to inside false (points_from t rest)) (sym begins.split)

longer : (text rest : List ℕ) → Begins text → Begins (text ++ rest)
longer text rest h = record { first = h.first; more = h.more ++ rest; split = ap (λ (xs : List ℕ). xs ++ rest) h.split }

-- the line in front of a text, with its parts nested to the right
flat : (s : Shape) (n rest : List ℕ) → line s n ++ rest ≡ s.head ++ (s.letter ∷ (n ++ (s.middle ++ (n ++ (s.tail ++ rest)))))
flat s n rest = simp append_assoc

-- the tokens in front of others, nested to the right
flat_tokens : (s : Shape) (after : Bool) (o b m k t : ℕ) (n : List ℕ) (i : ℕ) (ts : List Lexeme) → tokens s after o b m k t n i ++ ts
    ≡ s.head_tokens o after ++ (token_of kind.Name (Text (s.letter ∷ n)) b m false ∷ (s.middle_tokens m ++ (token_of kind.Number (Number i) k t false ∷ (s.tail_tokens t ++ ts))))
flat_tokens s after o b m k t n i ts = simp append_assoc

-- The tokens of a line, whatever follows it.
pub line_read : (s : Shape) → IsShape s → (fuel to : ℕ) (after : Bool) (o b m k t e i : ℕ) (c : ℕ) (cs rest : List ℕ) → AreDigits (c ∷ cs) → fold (with_digit 10) 0 (c ∷ cs) ≡ i → i ≤ 9007199254740991
    → (c ≡ 48 → (i ≡ 0) × (cs ≡ [])) → Offsets s (c ∷ cs) o b m k t e
    → scan (steps s fuel) to [] after (points_from o (line s (c ∷ cs) ++ rest)) ≡ tokens s after o b m k t (c ∷ cs) i ++ scan fuel to [] true (points_from e rest)
line_read s is fuel to after o b m k t e i c cs rest digits value small lead at =
    ap (λ (text : List ℕ). scan (steps s fuel) to [] after (points_from o text)) (flat s n rest)
    ∙ is.head_read (suc (more s.middle_steps (suc (more s.tail_steps fuel)))) to o after (s.letter ∷ (n ++ behind_name))
    ∙ ap (λ (x : ℕ). s.head_tokens o after ++ scan (suc (more s.middle_steps (suc (more s.tail_steps fuel)))) to [] false (points_from x (s.letter ∷ (n ++ behind_name)))) (sym at.name)
    ∙ ap (λ (ts : List Lexeme). s.head_tokens o after ++ ts)
    (name_in s is.letter (more s.middle_steps (suc (more s.tail_steps fuel))) to b m c cs behind_name digits (longer s.middle (n ++ (s.tail ++ rest)) is.middle_begins) (is.stops_name (n ++ (s.tail ++ rest))) at.middle
    ∙ ap (λ (ts : List Lexeme). named ∷ ts)
    (is.middle_read (suc (more s.tail_steps fuel)) to m (n ++ (s.tail ++ rest))
    ∙ ap (λ (x : ℕ). s.middle_tokens m ++ scan (suc (more s.tail_steps fuel)) to s.inside false (points_from x (n ++ (s.tail ++ rest)))) (sym at.number)
    ∙ ap (λ (ts : List Lexeme). s.middle_tokens m ++ ts)
    (number_in s.inside (more s.tail_steps fuel) to k t i c cs (s.tail ++ rest) digits value small lead (longer s.tail rest is.tail_begins) (is.stops_number rest) (let size : 1 + length cs ≡ suc (length cs) = omega arith in at.tail ∙ ap (λ x. k + x) (sym size))
    ∙ ap (λ (ts : List Lexeme). numbered ∷ ts)
    (is.tail_read fuel to t rest ∙ ap (λ (x : ℕ). s.tail_tokens t ++ scan fuel to [] true (points_from x rest)) (sym at.end)))))
    ∙ sym (flat_tokens s after o b m k t n i (scan fuel to [] true (points_from e rest)))
  where
    n : List ℕ
    n = c ∷ cs

    behind_name : List ℕ
    behind_name = s.middle ++ (n ++ (s.tail ++ rest))

    named : Lexeme
    named = token_of kind.Name (Text (s.letter ∷ n)) b m false

    numbered : Lexeme
    numbered = token_of kind.Number (Number i) k t false

-- enough steps for a line and a text are those of the line and enough for the text
pub enough : (s : Shape) → IsShape s → (fuel : ℕ) (n rest : List ℕ) → 0 < length n → length (line s n ++ rest) < fuel → (left : ℕ) × (length rest < left) × (fuel ≡ steps s left)
enough s is fuel n rest some lt =
    let size : length (line s n ++ rest) ≡ length s.head + suc (length n + (length s.middle + (length n + (length s.tail + length rest)))) = simp (flat s n rest, length-append) in
    let left : ℕ = fuel - (s.head_steps + suc (s.middle_steps + suc s.tail_steps)) in
    let one : more s.tail_steps left ≡ s.tail_steps + left = more_is s.tail_steps left in
    let two : more s.middle_steps (suc (more s.tail_steps left)) ≡ s.middle_steps + suc (more s.tail_steps left) = more_is s.middle_steps (suc (more s.tail_steps left)) in
    let three : steps s left ≡ s.head_steps + suc (more s.middle_steps (suc (more s.tail_steps left))) = more_is s.head_steps (suc (more s.middle_steps (suc (more s.tail_steps left)))) in
    (left, omega (arith, size, is.few, some, lt), omega (arith, one, two, three, size, is.few, some, lt))
