-- A number in five digits.
use Rattle.std.proofs.Common.{◌≡◌, ℕ, ◌+◌, ◌-◌, ◌/◌, ◌%◌, ◌^◌, ◌<◌, List, [], ◌∷◌, ◌++◌, length, inl, inr, eq-zero-or-pos, ap, sym, ◌∙◌, arith, append_assoc, length-append}
use Rattle.std.specs.Prelude.{replicate}
use Rattle.std.specs.Fmt.{decimal}
use Rattle.std.proofs.lemmas.Fmt.{decimal_digit, decimal_step}
use Rattle.std.proofs.lemmas.Grind.{replicate_next}
use Rattle.script_image.specs.Quoted.{padded}

-- a number in at least k digits
abbrev filled : ℕ → ℕ → List ℕ
filled k n = replicate (k - length (decimal n)) 48 ++ decimal n

one_digit : (k n : ℕ) → n < 10 → filled (k + 1) n ≡ replicate k 48 ++ (48 + n) ∷ []
one_digit k n h =
    let a : k + 1 - 1 ≡ k = omega arith in
    ap (λ (ds : List ℕ). replicate (k + 1 - length ds) 48 ++ ds) (decimal_digit n h) ∙ ap (λ (m : ℕ). replicate m 48 ++ (48 + n) ∷ []) a

-- all digits but the last, and the last
last_digit : (k n : ℕ) → n < 2 ^ 64 → filled (k + 1 + 1) n ≡ filled (k + 1) (n / 10) ++ (48 + n % 10) ∷ []
last_digit k n h =
    elim (eq-zero-or-pos (n / 10)) [
      | inl z ↦
          let short : n < 10 = omega arith in
          let front : 48 + n / 10 ≡ 48 = omega arith in
          let last : 48 + n ≡ 48 + n % 10 = omega arith in
          one_digit (k + 1) n short
          ∙ ap (λ (ds : List ℕ). ds ++ (48 + n) ∷ []) (replicate_next k 48)
          ∙ ap (λ (d : ℕ). (replicate k 48 ++ 48 ∷ []) ++ d ∷ []) last
          ∙ ap (λ (d : ℕ). (replicate k 48 ++ d ∷ []) ++ (48 + n % 10) ∷ []) (sym front)
          ∙ ap (λ (ds : List ℕ). ds ++ (48 + n % 10) ∷ []) (sym (one_digit k (n / 10) (omega arith)))
      | inr g ↦
          let step : decimal n ≡ decimal (n / 10) ++ (48 + n % 10) ∷ [] = decimal_step n (omega arith) h in
          let longer : length (decimal n) ≡ length (decimal (n / 10)) + 1 = ap length step ∙ length-append _ _ in
          let zeros : k + 1 + 1 - length (decimal n) ≡ k + 1 - length (decimal (n / 10)) = omega arith in
          ap (λ (m : ℕ). replicate m 48 ++ decimal n) zeros
          ∙ ap (λ (ds : List ℕ). replicate (k + 1 - length (decimal (n / 10))) 48 ++ ds) step
          ∙ sym (append_assoc (replicate (k + 1 - length (decimal (n / 10))) 48) (decimal (n / 10)) ((48 + n % 10) ∷ []))
    ]

pub padded_five : (n : ℕ) → n < 100000 → padded n ≡ (48 + n / 10000) ∷ (48 + n / 1000 % 10) ∷ (48 + n / 100 % 10) ∷ (48 + n / 10 % 10) ∷ (48 + n % 10) ∷ []
padded_five n h =
    let hundreds : n / 10 / 10 ≡ n / 100 = omega arith in
    let thousands : n / 100 / 10 ≡ n / 1000 = omega arith in
    let most : n / 1000 / 10 ≡ n / 10000 = omega arith in
    last_digit 3 n (omega arith)
    ∙ ap (λ (ds : List ℕ). ds ++ (48 + n % 10) ∷ []) (last_digit 2 (n / 10) (omega arith))
    ∙ ap (λ (m : ℕ). (filled 3 m ++ (48 + n / 10 % 10) ∷ []) ++ (48 + n % 10) ∷ []) hundreds
    ∙ ap (λ (ds : List ℕ). (ds ++ (48 + n / 10 % 10) ∷ []) ++ (48 + n % 10) ∷ []) (last_digit 1 (n / 100) (omega arith))
    ∙ ap (λ (m : ℕ). ((filled 2 m ++ (48 + n / 100 % 10) ∷ []) ++ (48 + n / 10 % 10) ∷ []) ++ (48 + n % 10) ∷ []) thousands
    ∙ ap (λ (ds : List ℕ). ((ds ++ (48 + n / 100 % 10) ∷ []) ++ (48 + n / 10 % 10) ∷ []) ++ (48 + n % 10) ∷ []) (last_digit 0 (n / 1000) (omega arith))
    ∙ ap (λ (m : ℕ). (((filled 1 m ++ (48 + n / 1000 % 10) ∷ []) ++ (48 + n / 100 % 10) ∷ []) ++ (48 + n / 10 % 10) ∷ []) ++ (48 + n % 10) ∷ []) most
    ∙ ap (λ (ds : List ℕ). (((ds ++ (48 + n / 1000 % 10) ∷ []) ++ (48 + n / 100 % 10) ∷ []) ++ (48 + n / 10 % 10) ∷ []) ++ (48 + n % 10) ∷ []) (one_digit 0 (n / 10000) (omega arith))
