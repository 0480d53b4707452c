-- A region is entered: a row is pushed, and its number told to the present region.
use Rattle.std.proofs.Common.{◌≡◌, ℕ, ◌^◌, ◌<◌, List, [], ◌∷◌, ◌++◌, length, map, sym, ap, subst, ◌∙◌, arith, Option, Some, ◌⊎◌, inl, inr}
use Rattle.std.proofs.lemmas.List.{map-append, length-map}
use Rattle.parse_track.specs.declared.region.Region.{Region}
use Rattle.parse_track.specs.declared.track.RegionRow.{RegionRow}
use Rattle.parse_track.specs.Log.{Inner, Part, tell}
use Rattle.parse_track.specs.Rows.{row_of, IsInOrder}
use Rattle.parse_track.proofs.Order.{inner_in_order, entered_in_order, tell_append}

abbrev pub empty_part : Region → ℕ → Option ℕ → Part
empty_part kind off at = record { kind = kind; at = off; around = at; items = [] }

-- what the code knows when a row was pushed
pub record Pushed (kind : Region) (off : ℕ) (at : Option ℕ) (rows pushed : List RegionRow) (row : RegionRow) (n : ℕ) : Type 0 where
  pub pushes : pushed ≡ rows ++ row ∷ []
  pub part : row_of row ≡ empty_part kind off at
  pub number : n ≡ length rows
  pub few : n < 2 ^ 31
  pub order : IsInOrder (map row_of rows) at

parts_of : (kind : Region) (off : ℕ) (at : Option ℕ) (rows pushed : List RegionRow) (row : RegionRow) (n : ℕ) → Pushed kind off at rows pushed row n
    → map row_of pushed ≡ map row_of rows ++ empty_part kind off at ∷ []
parts_of kind off at rows pushed row n p =
    ap (map row_of) p.pushes ∙ (map-append row_of rows (row ∷ []) ∙ ap (λ (x : Part). map row_of rows ++ x ∷ []) p.part)

number_of : (kind : Region) (off : ℕ) (at : Option ℕ) (rows pushed : List RegionRow) (row : RegionRow) (n : ℕ) → Pushed kind off at rows pushed row n → n ≡ length (map row_of rows)
number_of kind off at rows pushed row n p = p.number ∙ sym (length-map rows row_of)

told_as : (at : Option ℕ) (n m : ℕ) (now old ps : List Part) → n ≡ m → old ≡ ps → now ≡ tell at (Inner n) old → now ≡ tell at (Inner m) ps
told_as at n m now old ps e f g = g ∙ (ap (λ (k : ℕ). tell at (Inner k) old) e ∙ ap (tell at (Inner m)) f)

pub still_in_order : (kind : Region) (off : ℕ) (at : Option ℕ) (rows pushed now : List RegionRow) (row : RegionRow) (n : ℕ) → Pushed kind off at rows pushed row n
    → (map row_of now ≡ tell at (Inner n) (map row_of pushed)) ⊎ (map row_of now ≡ map row_of pushed) → IsInOrder (map row_of now) at
still_in_order kind off at rows pushed now row n p e =
    let l : n ≡ length (map row_of rows) = number_of kind off at rows pushed row n p in
    let f = parts_of kind off at rows pushed row n p in
    let few = p.few in
    let short : length (map row_of rows) < 2 ^ 31 = omega arith in
    inner_in_order kind off at (map row_of rows) (map row_of now) short p.order
    (elim e [ inl g ↦ inl (told_as at n (length (map row_of rows)) (map row_of now) (map row_of pushed) (map row_of rows ++ empty_part kind off at ∷ []) l f g) | inr g ↦ inr (g ∙ f) ])

pub now_in_order : (kind : Region) (off : ℕ) (at : Option ℕ) (rows pushed now : List RegionRow) (row : RegionRow) (n : ℕ) → Pushed kind off at rows pushed row n
    → map row_of now ≡ tell at (Inner n) (map row_of pushed) → IsInOrder (map row_of now) (Some n)
now_in_order kind off at rows pushed now row n p g =
    let l : n ≡ length (map row_of rows) = number_of kind off at rows pushed row n p in
    let f = parts_of kind off at rows pushed row n p in
    let few = p.few in
    let short : length (map row_of rows) < 2 ^ 31 = omega arith in
    subst (λ (k : ℕ). IsInOrder (map row_of now) (Some k)) (sym l)
    (entered_in_order kind off at (map row_of rows) (map row_of now) short p.order
    (told_as at n (length (map row_of rows)) (map row_of now) (map row_of pushed) (map row_of rows ++ empty_part kind off at ∷ []) l f g))

pub now_parts : (kind : Region) (off : ℕ) (at : Option ℕ) (rows pushed now : List RegionRow) (row : RegionRow) (n : ℕ) → Pushed kind off at rows pushed row n
    → map row_of now ≡ tell at (Inner n) (map row_of pushed)
    → map row_of now ≡ tell at (Inner (length (map row_of rows))) (map row_of rows) ++ empty_part kind off at ∷ []
now_parts kind off at rows pushed now row n p g =
    told_as at n (length (map row_of rows)) (map row_of now) (map row_of pushed) (map row_of rows ++ empty_part kind off at ∷ [])
    (number_of kind off at rows pushed row n p) (parts_of kind off at rows pushed row n p) g
    ∙ tell_append (Inner (length (map row_of rows))) at (map row_of rows) (empty_part kind off at) p.order.inside
