-- What a pass has at hand, as it comes to know a cell or keeps something beside it.
use Rattle.std.proofs.Common.{◌≡◌, ◌≢◌, ◌∙◌, ℕ, zero, suc, ◌-◌, ◌<◌, ◌≤◌, Bool, true, false, inl, inr, ◌⊎◌, List, length, Option, Some, None, refl, sym, ap, subst, arith}
use Rattle.std.specs.Prelude.{if◌then◌else◌, slice_index_or, slice_set}
use Rattle.std.proofs.lemmas.List.{get_or-set_same, get_or-set_other, length-set}
use Rattle.lazy_compile.specs.declared.Delazified.{Delazified}
use Rattle.stencil_board.specs.Views.{ResultView, BoardView, PassView}
use Rattle.stencil_board.specs.Passes.{BelongsTo, HasAnother, IsNumberOf, HasNumber, Keeps, Stands, at_hand, first_of, fitting, is_of, kept_of, known_of, own_of, with_known, with_own}

-- ---- lists

same_place : (i j : ℕ) → (j ≡ i) ⊎ (j ≢ i)
same_place zero zero = inl refl
same_place zero (suc j) = inr (λ e. absurd (omega (arith, e)))
same_place (suc i) zero = inr (λ e. absurd (omega (arith, e)))
same_place (suc i) (suc j) = elim (same_place i j) [ inl e ↦ inl (ap suc e) | inr apart ↦ inr (λ e. apart (omega (arith, e))) ]

set_stands : (xs : List (Option ResultView)) (i j : ℕ) (o : Option ResultView) → i < length xs → Stands (slice_index_or xs i None) o → Stands (slice_index_or xs j None) (slice_index_or (slice_set xs i o) j None)
set_stands xs i j o lt stands r e = elim (same_place i j) [
  | inl same ↦
      subst (λ (k : ℕ). slice_index_or (slice_set xs i o) k None ≡ Some r) (sym same)
      (get_or-set_same xs i o None lt ∙ stands r (subst (λ (k : ℕ). slice_index_or xs k None ≡ Some r) same e))
  | inr apart ↦ get_or-set_other xs i j o None apart ∙ e
]

-- ---- results that fit

fits_or_not : (b : Bool) (x y : Delazified) → (if b then Some x else None) ≡ Some y → (b ≡ true) × (x ≡ y)
fits_or_not true x y e = (refl, cc)
fits_or_not false x y e = absurd (cc)

fitting_stands : (file number : ℕ) (old new : Option ResultView) (made : Delazified) → Stands old new → fitting file number old ≡ Some made → fitting file number new ≡ Some made
fitting_stands file number None new made h e = absurd (cc)
fitting_stands file number (Some r) new made h e = ap (fitting file number) (h r refl) ∙ e

first_stands : (a b c d : Option Delazified) (made : Delazified) → ((x : Delazified) → a ≡ Some x → c ≡ Some x) → (a ≡ None → c ≡ None) → ((x : Delazified) → b ≡ Some x → d ≡ Some x) → first_of a b ≡ Some made → first_of c d ≡ Some made
first_stands None b c d made h none k e = ap (λ (o : Option Delazified). first_of o d) (none refl) ∙ k made e
first_stands (Some x) b c d made h none k e = ap (λ (o : Option Delazified). first_of o d) (h x refl) ∙ e

pub fits : (file number : ℕ) (r : ResultView) → is_of file number r ≡ true → fitting file number (Some r) ≡ Some r.made
fits file number r e = ap (λ (b : Bool). if b then Some r.made else None) e

pub fits_not : (file number : ℕ) (r : ResultView) → is_of file number r ≡ false → fitting file number (Some r) ≡ None
fits_not file number r e = ap (λ (b : Bool). if b then Some r.made else None) e

-- ---- passes

pub keeps_itself : (pass : PassView) → Keeps pass pass
keeps_itself pass = record { hands = λ k made low e. e; known = λ k r e. e }

pub keeps_both : (a b c : PassView) → Keeps a b → Keeps b c → Keeps a c
keeps_both a b c h k = record { hands = λ n made low e. k.hands n made low (h.hands n made low e); known = λ n r e. k.known n r (h.known n r e) }

pub in_range : (pass : PassView) (board : BoardView) (number : ℕ) → BelongsTo pass board → IsNumberOf board number → HasNumber pass number
in_range pass board number b n = (n.0, let high = n.1 in let own = b.own in omega (arith, high, own))

module _ (pass : PassView) (board : BoardView) (number : ℕ) (belongs : BelongsTo pass board) (n : IsNumberOf board number) where
  place_known : number - 1 < length pass.known
  place_known = let low = n.0 in let high = n.1 in let known = belongs.known in omega (arith, low, high, known)

  place_own : number - 1 < length pass.own
  place_own = let low = n.0 in let high = n.1 in let own = belongs.own in omega (arith, low, high, own)

  -- what was another function's result is known still
  another_known : (o : Option ResultView) → Stands (known_of pass number) o → (k : ℕ) → HasAnother pass k → HasAnother (with_known pass number o) k
  another_known o stands k a = record { other = a.other; known = set_stands pass.known (number - 1) (k - 1) o place_known stands a.other a.known; apart = a.apart }

  pub belongs_known : (o : Option ResultView) → Stands (known_of pass number) o → BelongsTo (with_known pass number o) board
  belongs_known o stands = record {
    file = belongs.file;
    cells = belongs.cells;
    known = length-set pass.known (number - 1) o ∙ belongs.known;
    own = belongs.own;
    beside = record { another = λ k r low e. another_known o stands k (belongs.beside.another k r low e) };
  }

  another_own : (o : Option ResultView) → HasAnother pass number → (k : ℕ) (s : ResultView) → 1 ≤ k → kept_of (with_own pass number o) k ≡ Some s → HasAnother (with_own pass number o) k
  another_own o a k s low e = by (same_place (number - 1) (k - 1))
    where
      moved : HasAnother pass k → HasAnother (with_own pass number o) k
      moved b = record { other = b.other; known = b.known; apart = b.apart }

      by : (k - 1 ≡ number - 1) ⊎ (k - 1 ≢ number - 1) → HasAnother (with_own pass number o) k
      by (inl same) =
          let one = n.0 in
          let here : number ≡ k = omega (arith, low, one, same) in
          moved (subst (HasAnother pass) here a)
      by (inr apart) = moved (belongs.beside.another k s low (sym (get_or-set_other pass.own (number - 1) (k - 1) o None apart) ∙ e))

  -- it keeps something beside another function's result
  pub belongs_own : (o : Option ResultView) → HasAnother pass number → BelongsTo (with_own pass number o) board
  belongs_own o a = record {
    file = belongs.file;
    cells = belongs.cells;
    known = belongs.known;
    own = length-set pass.own (number - 1) o ∙ belongs.own;
    beside = record { another = another_own o a };
  }

  pub known_then : (o : Option ResultView) → known_of (with_known pass number o) number ≡ o
  known_then o = get_or-set_same pass.known (number - 1) o None place_known

  pub own_then : (o : Option ResultView) → own_of (with_own pass number o) number ≡ fitting pass.file number o
  own_then o = ap (fitting pass.file number) (get_or-set_same pass.own (number - 1) o None place_own)

  -- it comes to know a cell
  pub keeps_known : (o : Option ResultView) → Stands (known_of pass number) o → Keeps pass (with_known pass number o)
  keeps_known o stands = record {
    hands = λ k made low e.
        first_stands (own_of pass k) (fitting pass.file k (known_of pass k)) (own_of pass k) (fitting pass.file k (known_of (with_known pass number o) k)) made (λ x f. f) (λ f. f)
        (λ x f. fitting_stands pass.file k (known_of pass k) (known_of (with_known pass number o) k) x (set_stands pass.known (number - 1) (k - 1) o place_known stands) f) e;
    known = λ k. set_stands pass.known (number - 1) (k - 1) o place_known stands;
  }

  -- it keeps something, where it had nothing
  pub keeps_own : (r : ResultView) → at_hand pass number ≡ None → Keeps pass (with_own pass number (Some r))
  keeps_own r none = record {
    hands = λ k made low e. by k made low e (same_place (number - 1) (k - 1));
    known = λ k s e. e;
  }
    where
      by : (k : ℕ) (made : Delazified) → 1 ≤ k → at_hand pass k ≡ Some made → (k - 1 ≡ number - 1) ⊎ (k - 1 ≢ number - 1) → at_hand (with_own pass number (Some r)) k ≡ Some made
      by k made low e (inr apart) = ap (λ (o : Option ResultView). first_of (fitting pass.file k o) (fitting pass.file k (known_of pass k))) (get_or-set_other pass.own (number - 1) (k - 1) (Some r) None apart) ∙ e
      by k made low e (inl same) =
          let one = n.0 in
          let here : k ≡ number = omega (arith, low, one, same) in
          let clash : ◌≡◌ {A = Option Delazified} None (Some made) = sym none ∙ subst (λ (m : ℕ). at_hand pass m ≡ Some made) here e in
          absurd (cc)

  pub hand_known : (o : Option ResultView) → own_of pass number ≡ None → at_hand (with_known pass number o) number ≡ fitting pass.file number o
  hand_known o none = ap (λ (a : Option Delazified). first_of a (fitting pass.file number (known_of (with_known pass number o) number))) none ∙ ap (fitting pass.file number) (known_then o)

  pub hand_own : (o : Option ResultView) (made : Delazified) → fitting pass.file number o ≡ Some made → at_hand (with_own pass number o) number ≡ Some made
  hand_own o made e = ap (λ (a : Option Delazified). first_of a (fitting pass.file number (known_of (with_own pass number o) number))) (own_then o ∙ e)

pub own_none : (pass : PassView) (number : ℕ) → at_hand pass number ≡ None → own_of pass number ≡ None
own_none pass number e = by (own_of pass number) refl e
  where
    by : (o : Option Delazified) → own_of pass number ≡ o → first_of o (fitting pass.file number (known_of pass number)) ≡ None → own_of pass number ≡ None
    by None f e = f
    by (Some made) f e = absurd (cc)

pub own_first : (pass : PassView) (number : ℕ) (made : Delazified) → own_of pass number ≡ Some made → at_hand pass number ≡ Some made
own_first pass number made e = ap (λ (a : Option Delazified). first_of a (fitting pass.file number (known_of pass number))) e
