-- What is told twice has the same first early error, and closed names that stand for one another.
use Rattle.std.proofs.Common.{◌≡◌, ℕ, Bool, Option, List, [], ◌∷◌, map, refl, sym, ap, subst, ◌∙◌}
use Rattle.std.proofs.lemmas.List.{map-id}
use Rattle.std.proofs.Math.Path.{fun_ext}
use Rattle.parse_track.specs.declared.region.Early.{Early}
use Rattle.parse_track.specs.Told.{Region, Lambda, Told, nothing, leaf, inner, KnownNames}
use Rattle.parse_track.specs.EarlyErrors.{first_error}
use Rattle.parse_track.specs.ClosedNames.{Bound, closed}
use Rattle.track_renaming_laws.specs.Renaming.{renamed_region, rewritten, renamed, renamed_bound, same_by}
use Rattle.track_renaming_laws.specs.Starts.{if_function, starts_with_function, IsAroundFunction, AreAroundFunctions}
use Rattle.track_renaming_laws.specs.Alike.{AreToldAlike, AreKnownAlike, IsOneToOne, AreBoundAlike}
use Rattle.track_renaming_laws.proofs.Names.{is_function-renamed}
use Rattle.track_renaming_laws.proofs.EarlyErrors.{first_error-rewritten, first_error-renamed}
use Rattle.track_renaming_laws.proofs.ClosedNames.{closed-rewritten, closed-renamed, keeps_functions}
use Rattle.track_renaming_laws.proofs.Twins.{Twin, left, right, twin, twin_known, left_told, right_told}

-- whether regions of names are around functions does not depend on names and offsets
starts-rewritten : {A B : Type 0} (f : A → B) (place : Region A → ℕ → ℕ) (t : Told A) → starts_with_function (rewritten f place t) ≡ starts_with_function t
starts-rewritten f place nothing = refl
starts-rewritten f place (leaf l t) = starts-rewritten f place t
starts-rewritten f place (inner k at i t) = is_function-renamed f k

is_around : {A B : Type 0} (f : A → B) (place : Region A → ℕ → ℕ) (k : Region A) (i : Told A) → IsAroundFunction k i → IsAroundFunction (renamed_region f k) (rewritten f place i)
is_around f place (Lambda x) i h = starts-rewritten f place i ∙ h
is_around f place _ i h = tt

was_around : {A B : Type 0} (f : A → B) (place : Region A → ℕ → ℕ) (k : Region A) (i : Told A) → IsAroundFunction (renamed_region f k) (rewritten f place i) → IsAroundFunction k i
was_around f place (Lambda x) i h = sym (starts-rewritten f place i) ∙ h
was_around f place _ i h = tt

are_around : {A B : Type 0} (f : A → B) (place : Region A → ℕ → ℕ) (t : Told A) → AreAroundFunctions t → AreAroundFunctions (rewritten f place t)
are_around f place nothing h = tt
are_around f place (leaf l t) h = are_around f place t h
are_around f place (inner k at i t) h = (is_around f place k i h.0, (are_around f place i h.1.0, are_around f place t h.1.1))

were_around : {A B : Type 0} (f : A → B) (place : Region A → ℕ → ℕ) (t : Told A) → AreAroundFunctions (rewritten f place t) → AreAroundFunctions t
were_around f place nothing h = tt
were_around f place (leaf l t) h = were_around f place t h
were_around f place (inner k at i t) h = (was_around f place k i h.0, (were_around f place i h.1.0, were_around f place t h.1.1))

module _ {A B : Type 0} (Means : A → B → Type 0) (same : A → A → Bool) (equal : B → B → Bool) (one : IsOneToOne Means same equal)
    (known : KnownNames A) (other : KnownNames B) (knowns : AreKnownAlike Means known other) (t : Told A) (u : Told B) (alike : AreToldAlike Means t u) where
  both : Told (Twin Means)
  both = twin Means t u alike

  both_known : KnownNames (Twin Means)
  both_known = twin_known Means known other knowns

  same_tests : same_by (right Means) equal ≡ same_by (left Means) same
  same_tests = fun_ext (λ v. fun_ext (λ w. one v.left w.left v.right w.right v.means w.means))

  pub first_error-alike : (noted : Option Early) → first_error equal other noted u ≡ first_error same known noted t
  unfolding both both_known
  first_error-alike noted =
      sym (first_error-rewritten (λ y. y) if_function equal other noted u)
      ∙ (ap (first_error equal other noted) (sym (right_told Means t u alike))
      ∙ (first_error-rewritten (right Means) if_function equal both_known noted both
      ∙ (ap (λ test. first_error test both_known noted both) same_tests
      ∙ (sym (first_error-renamed (left Means) (same_by (left Means) same) same (λ x y. refl) both_known noted both)
      ∙ ap (first_error same known noted) (left_told Means t u alike)))))

  -- the closed names of the pairs
  closed_pairs : List (Bound (Twin Means))
  closed_pairs = closed (same_by (left Means) same) both_known both

  closed_left : closed same known t ≡ map (renamed_bound (left Means)) closed_pairs
  unfolding both both_known closed_pairs
  closed_left =
      ap (closed same known) (sym (left_told Means t u alike))
      ∙ closed-renamed (left Means) (same_by (left Means) same) same (λ x y. refl) both_known both

  around_both : AreAroundFunctions u → AreAroundFunctions both
  unfolding both
  around_both h =
      were_around (right Means) if_function both
      (subst AreAroundFunctions (sym (right_told Means t u alike)) (are_around (λ y. y) if_function u h))

  closed_right : AreAroundFunctions u → closed equal other u ≡ map (renamed_bound (right Means)) closed_pairs
  unfolding both both_known closed_pairs
  closed_right h =
      sym (closed-rewritten (λ y. y) if_function equal other u (keeps_functions (λ y. y) u h) ∙ map-id (closed equal other u))
      ∙ (ap (closed equal other) (sym (right_told Means t u alike))
      ∙ (closed-rewritten (right Means) if_function equal both_known both (keeps_functions (right Means) both (around_both h))
      ∙ ap (λ test. map (renamed_bound (right Means)) (closed test both_known both)) same_tests))

  pairs_alike : (bs : List (Bound (Twin Means))) → AreBoundAlike Means (map (renamed_bound (left Means)) bs) (map (renamed_bound (right Means)) bs)
  pairs_alike [] = tt
  pairs_alike (b ∷ bs) = (refl, (refl, (b.name.means, pairs_alike bs)))

  bounds_alike : closed equal other u ≡ map (renamed_bound (right Means)) closed_pairs → AreBoundAlike Means (closed same known t) (closed equal other u)
  bounds_alike e =
      subst (λ bs. AreBoundAlike Means bs (closed equal other u)) (sym closed_left)
      (subst (AreBoundAlike Means (map (renamed_bound (left Means)) closed_pairs)) (sym e) (pairs_alike closed_pairs))

  pub closed-alike : AreAroundFunctions u → AreBoundAlike Means (closed same known t) (closed equal other u)
  closed-alike h = bounds_alike (closed_right h)

  -- the same where no offset differs, wherever names of function expressions stand
  pub closed-alike_exactly : renamed (right Means) (twin Means t u alike) ≡ u → AreBoundAlike Means (closed same known t) (closed equal other u)
  unfolding both both_known closed_pairs
  closed-alike_exactly e =
      bounds_alike
      (ap (closed equal other) (sym e)
      ∙ (closed-renamed (right Means) (same_by (right Means) equal) equal (λ x y. refl) both_known both
      ∙ ap (λ test. map (renamed_bound (right Means)) (closed test both_known both)) same_tests))
