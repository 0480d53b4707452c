-- The functions that are in no other, found one after another.
use Rattle.std.proofs.Common.{◌≡◌, ℕ, ◌+◌, ◌<◌, ◌≤◌, Bool, true, false, if◌then◌else◌, List, [], ◌∷◌, ◌++◌, length, drop, get_or, sym, ◌∙◌, ap, append_assoc, append-nil, arith}
use Rattle.std.proofs.lemmas.List.{drop_more, drop_all, length-map}
use Rattle.stencil_data.specs.Views.{RecordView}
use Rattle.stencil_merge.specs.Functions.{inner_of, is_inside, outermost_from, outermost}

module _ (all : List (List ℕ)) (place : ℕ) (now : List ℕ) (lt : place < length all) (so_far : now ++ outermost_from all (place + 1) (drop place all) ≡ outermost all) where
  here : outermost_from all (place + 1) (drop place all) ≡ (if is_inside all (place + 1) then outermost_from all (place + 1 + 1) (drop (place + 1) all) else ((place + 1) ∷ outermost_from all (place + 1 + 1) (drop (place + 1) all)))
  here = ap (outermost_from all (place + 1)) (drop_more all place [] lt)

  pub passed : is_inside all (place + 1) ≡ true → now ++ outermost_from all (place + 1 + 1) (drop (place + 1) all) ≡ outermost all
  passed inside =
      sym (ap (λ (l : List ℕ). now ++ l) (here ∙ ap (λ (b : Bool). if b then outermost_from all (place + 1 + 1) (drop (place + 1) all) else ((place + 1) ∷ outermost_from all (place + 1 + 1) (drop (place + 1) all))) inside)) ∙ so_far

  pub counted : is_inside all (place + 1) ≡ false → (now ++ (place + 1) ∷ []) ++ outermost_from all (place + 1 + 1) (drop (place + 1) all) ≡ outermost all
  counted outside =
      append_assoc now ((place + 1) ∷ []) (outermost_from all (place + 1 + 1) (drop (place + 1) all))
      ∙ (sym (ap (λ (l : List ℕ). now ++ l) (here ∙ ap (λ (b : Bool). if b then outermost_from all (place + 1 + 1) (drop (place + 1) all) else ((place + 1) ∷ outermost_from all (place + 1 + 1) (drop (place + 1) all))) outside)) ∙ so_far)

pub all_found : (all : List (List ℕ)) (place : ℕ) (now : List ℕ) → length all ≤ place → now ++ outermost_from all (place + 1) (drop place all) ≡ outermost all → now ≡ outermost all
all_found all place now end so_far = sym (ap (λ (l : List (List ℕ)). now ++ outermost_from all (place + 1) l) (drop_all place all end) ∙ append-nil now) ∙ so_far

pub as_many : (records : List RecordView) → length (inner_of records) ≡ length records
as_many records = length-map records (λ (l : RecordView). l.inner)

-- ---- by flags

pub place_within : (records : List RecordView) (flags items : List Bool) (place : ℕ) → items ≡ flags → length flags ≡ length records → place < length items → place < length (inner_of records)
place_within records flags items place is many lt = omega (arith, lt, ap length is, many, as_many records)

pub all_passed : (records : List RecordView) (flags items : List Bool) (place : ℕ) → items ≡ flags → length flags ≡ length records → length items ≤ place → length (inner_of records) ≤ place
all_passed records flags items place is many le = omega (arith, le, ap length is, many, as_many records)

pub flag_is : (records : List RecordView) (flags items : List Bool) (place : ℕ) (b : Bool) → items ≡ flags → length flags ≡ length records → ((k : ℕ) → k < length records → get_or flags k false ≡ is_inside (inner_of records) (k + 1)) → place < length items → get_or items place false ≡ b
    → is_inside (inner_of records) (place + 1) ≡ b
flag_is records flags items place b is many are lt here =
    sym (are place (omega (arith, lt, ap length is, many))) ∙ (ap (λ (l : List Bool). get_or l place false) (sym is) ∙ here)
