-- The text of a number: its digits as parts of a name, and their value.
use Rattle.std.proofs.Common.{◌≡◌, ℕ, zero, suc, ◌+◌, ◌-◌, ◌*◌, ◌/◌, ◌%◌, ◌^◌, ◌<◌, ◌≤◌, List, [], ◌∷◌, ◌++◌, length, get_or, Bool, true, false, cond, refl, sym, ◌∙◌, ap, subst, arith}
use Rattle.std.specs.Prelude.{◌&&◌, ◌==◌, nat_lt, fold, None}
use Rattle.std.specs.Char.{is_digit}
use Rattle.std.specs.Fmt.{decimal}
use Rattle.std.specs.List.{prefix_len, list_all}
use Rattle.std.proofs.lemmas.Fmt.{decimal_by_steps, decimal_digit, first_decimal}
use Rattle.std.proofs.lemmas.Bool.{le-leb, lt-ltb}
use Rattle.std.proofs.lemmas.List.Sums.{fold-append}
use Rattle.unicode_ident.proofs.Computing.{unicode_ident}
use Rattle.unit_text.specs.Units.{text_units}
use Rattle.script_scanner.specs.Blanks.{blank_at}
use Rattle.script_scanner.specs.Names.{is_name_start, is_name_part}
use Rattle.script_scanner.specs.Numbers.{more_digits, with_digit}

-- a decimal digit
pub record IsDigit (c : ℕ) : Type 0 where
  pub low : 48 ≤ c
  pub high : c ≤ 57

abbrev pub AreDigits : List ℕ → Type 0
AreDigits [] = Unit {0}
AreDigits (c ∷ cs) = IsDigit c × AreDigits cs

-- what holds of the ten digits holds of each digit
pub digit_cases : (P : ℕ → Type 0) → P 48 → P 49 → P 50 → P 51 → P 52 → P 53 → P 54 → P 55 → P 56 → P 57 → (c : ℕ) → IsDigit c → P c
digit_cases P p0 p1 p2 p3 p4 p5 p6 p7 p8 p9 c h = by (c - 48) (omega (arith, h.low))
  where
    by : (k : ℕ) → c ≡ 48 + k → P c
    by zero e = subst P (sym e) p0
    by (suc zero) e = subst P (sym e) p1
    by (suc (suc zero)) e = subst P (sym e) p2
    by (suc (suc (suc zero))) e = subst P (sym e) p3
    by (suc (suc (suc (suc zero)))) e = subst P (sym e) p4
    by (suc (suc (suc (suc (suc zero))))) e = subst P (sym e) p5
    by (suc (suc (suc (suc (suc (suc zero)))))) e = subst P (sym e) p6
    by (suc (suc (suc (suc (suc (suc (suc zero))))))) e = subst P (sym e) p7
    by (suc (suc (suc (suc (suc (suc (suc (suc zero)))))))) e = subst P (sym e) p8
    by (suc (suc (suc (suc (suc (suc (suc (suc (suc zero))))))))) e = subst P (sym e) p9
    by (suc (suc (suc (suc (suc (suc (suc (suc (suc (suc k)))))))))) e = absurd (omega (arith, e, h.high))

-- What a digit is to the scanner.

pub digit_no_start : (c : ℕ) → IsDigit c → is_name_start c ≡ false
unfolding unicode_ident
digit_no_start = digit_cases (λ c. is_name_start c ≡ false) refl refl refl refl refl refl refl refl refl refl

pub digit_is_part : (c : ℕ) → IsDigit c → is_name_part c ≡ true
unfolding unicode_ident
digit_is_part = digit_cases (λ c. is_name_part c ≡ true) refl refl refl refl refl refl refl refl refl refl

pub digit_is_digit : (c : ℕ) → IsDigit c → is_digit c 10 ≡ true
digit_is_digit = digit_cases (λ c. is_digit c 10 ≡ true) refl refl refl refl refl refl refl refl refl refl

digit_adds : (v c : ℕ) → IsDigit c → with_digit 10 v c ≡ v * 10 + (c - 48)
digit_adds v = digit_cases (λ c. with_digit 10 v c ≡ v * 10 + (c - 48)) refl refl refl refl refl refl refl refl refl refl

pub digit_is_bare : (codes : List ℕ) (c : ℕ) → IsDigit c → blank_at (c ∷ codes) ≡ None
digit_is_bare codes = digit_cases (λ c. blank_at (c ∷ codes) ≡ None) refl refl refl refl refl refl refl refl refl refl

pub digits_ascii : (ds : List ℕ) → AreDigits ds → list_all (λ c. nat_lt c 128) ds ≡ true
digits_ascii [] h = refl
digits_ascii (c ∷ ds) h = ap (λ (b : Bool). b && list_all (λ x. nat_lt x 128) ds) (lt-ltb c 128 (omega (arith, h.0.high))) ∙ digits_ascii ds h.1

-- What digits are.

pub digits_units : (ds : List ℕ) → AreDigits ds → text_units ds ≡ ds
digits_units [] h = refl
digits_units (c ∷ ds) h =
    ap (λ (b : Bool). (cond b (c ∷ []) (((c - 0x1_0000) / 0x400 + 0xD800) ∷ ((c - 0x1_0000) % 0x400 + 0xDC00) ∷ [])) ++ text_units ds) (le-leb c 0xFFFF (omega (arith, h.0.high)))
    ∙ ap (λ (us : List ℕ). c ∷ us) (digits_units ds h.1)

-- a name goes on over digits up to what is no part of it
pub digits_prefix : (ds rest : List ℕ) → AreDigits ds → prefix_len is_name_part rest ≡ 0 → prefix_len is_name_part (ds ++ rest) ≡ length ds
digits_prefix [] rest h e = e
digits_prefix (c ∷ ds) rest h e =
    ap (λ (b : Bool). cond b (1 + prefix_len is_name_part (ds ++ rest)) 0) (digit_is_part c h.0)
    ∙ (let more : prefix_len is_name_part (ds ++ rest) ≡ length ds = digits_prefix ds rest h.1 e in omega (arith, more))

-- and so does a number
pub digits_more : (ds rest : List ℕ) → AreDigits ds → more_digits 10 rest ≡ 0 → more_digits 10 (ds ++ rest) ≡ length ds
digits_more [] rest h e = e
digits_more (c ∷ []) [] h e = ap (λ (b : Bool). cond {A = ℕ} b 1 0) (digit_is_digit c h.0)
digits_more (c ∷ []) (r ∷ rest) h e =
    ap (λ (b : Bool). cond b (1 + more_digits 10 (r ∷ rest)) (cond ((c == 0x5F) && is_digit r 10) (2 + more_digits 10 rest) 0)) (digit_is_digit c h.0) ∙ omega (arith, e)
digits_more (c ∷ d ∷ ds) rest h e =
    ap (λ (b : Bool). cond b (1 + more_digits 10 (d ∷ (ds ++ rest))) (cond ((c == 0x5F) && is_digit d 10) (2 + more_digits 10 (ds ++ rest)) 0)) (digit_is_digit c h.0)
    ∙ (let more : more_digits 10 (d ∷ (ds ++ rest)) ≡ suc (length ds) = digits_more (d ∷ ds) rest h.1 e in omega (arith, more))

-- What `decimal` writes.

record Writes (n : ℕ) (ds : List ℕ) : Type 0 where
  digits : AreDigits ds
  value : fold (with_digit 10) 0 ds ≡ n

behind : (ds : List ℕ) (c : ℕ) → AreDigits ds → IsDigit c → AreDigits (ds ++ c ∷ [])
behind [] c h k = (k, tt)
behind (d ∷ ds) c h k = (h.0, behind ds c h.1 k)

writes : (n : ℕ) → n < 2 ^ 64 → Writes n (decimal n)
writes = decimal_by_steps Writes one more
  where
    last : (k : ℕ) → k < 10 → IsDigit (48 + k)
    last k lt = record { low = omega arith; high = omega (arith, lt) }

    one : (n : ℕ) → n < 10 → Writes n ((48 + n) ∷ [])
    one n lt = record { digits = (last n lt, tt); value = digit_adds 0 (48 + n) (last n lt) ∙ omega arith }

    more : (n : ℕ) (ds : List ℕ) → 10 ≤ n → Writes (n / 10) ds → Writes n (ds ++ (48 + n % 10) ∷ [])
    more n ds le h =
        let lt : n % 10 < 10 = omega arith in
        record {
          digits = behind ds (48 + n % 10) h.digits (last (n % 10) lt);
          value = fold-append (with_digit 10) 0 ds ((48 + n % 10) ∷ [])
              ∙ ap (λ (v : ℕ). with_digit 10 v (48 + n % 10)) h.value
              ∙ digit_adds (n / 10) (48 + n % 10) (last (n % 10) lt)
              ∙ omega arith;
        }

-- The text of a number: its digits, their value, and that only that of 0 begins with `0`.
pub record IsNumber (n : ℕ) (text : List ℕ) : Type 0 where
  pub first : ℕ
  pub more : List ℕ
  pub split : text ≡ first ∷ more
  pub digits : AreDigits (first ∷ more)
  pub value : fold (with_digit 10) 0 (first ∷ more) ≡ n
  pub lead : first ≡ 48 → (n ≡ 0) × (more ≡ [])

pub decimal_is : (n : ℕ) → n < 2 ^ 64 → IsNumber n (decimal n)
decimal_is zero lt = record { first = 48; more = []; split = decimal_digit 0 (omega arith); digits = (record { low = omega arith; high = omega arith }, tt); value = refl; lead = λ _. (refl, refl) }
decimal_is (suc n) lt = by (decimal (suc n)) (writes (suc n) lt) (first_decimal (suc n) (omega arith) lt)
  where
    by : (text : List ℕ) → Writes (suc n) text → 48 < get_or text 0 0 → IsNumber (suc n) text
    by [] h first = absurd (omega (arith, first))
    by (c ∷ cs) h first = record { first = c; more = cs; split = refl; digits = h.digits; value = h.value; lead = λ e. absurd (omega (arith, first, e)) }
