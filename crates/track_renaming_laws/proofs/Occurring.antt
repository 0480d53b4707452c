-- Names that are renamed, where the names that occur are renamed to different ones.
use Rattle.std.proofs.Common.{◌≡◌, ℕ, Bool, Option, None, Some, List, [], ◌∷◌, map, refl, sym, ap, ◌∙◌}
use Rattle.parse_track.specs.declared.region.Early.{Early}
use Rattle.parse_track.specs.Told.{Name, Region, Function, Arrow, Lambda, Label, Leaf, Declared, Used, Jumped, Told, nothing, leaf, inner, KnownNames}
use Rattle.parse_track.specs.EarlyErrors.{first_error}
use Rattle.parse_track.specs.ClosedNames.{Bound, closed}
use Rattle.track_renaming_laws.specs.Renaming.{renamed_label, renamed_region, renamed_leaf, rewritten, renamed, renamed_known, renamed_bound}
use Rattle.track_renaming_laws.specs.Alike.{AreOneLabel, AreOneRegion, AreOneLeaf, AreToldAlike, IsOneToOne, AreBoundAlike}
use Rattle.track_renaming_laws.specs.Occurring.{OfLabel, OfRegion, OfLeaf, OfEachName, OfKnownNames}
use Rattle.track_renaming_laws.proofs.Twins.{image_told}
use Rattle.track_renaming_laws.proofs.ToldAlike.{first_error-alike, closed-alike_exactly}

-- Bindings that are the same but for how their names are written down, where a function gives the second way.
pub bounds_read : {A B : Type 0} (Means : A → B → Type 0) (f : A → B) → ((x : A) (y : B) → Means x y → f x ≡ y) → (bs : List (Bound A)) (cs : List (Bound B))
    → AreBoundAlike Means bs cs → cs ≡ map (renamed_bound f) bs
bounds_read Means f read [] [] h = refl
bounds_read Means f read (b ∷ bs) (c ∷ cs) h = ap (λ d. d ∷ cs) same ∙ ap (λ ds. renamed_bound f b ∷ ds) (bounds_read Means f read bs cs h.1.1.1) where
  same : c ≡ renamed_bound f b
  same =
      ap (λ o. record { func = o; scope = c.scope; name = c.name }) (sym h.0)
      ∙ (ap (λ n. record { func = b.func; scope = n; name = c.name }) (sym h.1.0)
      ∙ ap (λ x. record { func = b.func; scope = b.scope; name = x }) (sym (read b.name c.name h.1.1.0)))
bounds_read Means f read _ _ h = absurd h

-- What is told and the same with names renamed is told alike, where each name that occurs means what it is renamed to.
module _ {A B : Type 0} (Means : A → B → Type 0) (f : A → B) (place : Region A → ℕ → ℕ)
    (of_function : (at : ℕ) → at ≡ place Function at) (of_arrow : (at : ℕ) → at ≡ place Arrow at) where
  label-alike : (x : Option (Name A)) → OfLabel (λ y. Means y (f y)) x → AreOneLabel Means x (renamed_label f x)
  label-alike None h = tt
  label-alike (Some x) h = (h, refl)

  region-alike : (k : Region A) (at : ℕ) → OfRegion (λ y. Means y (f y)) k → AreOneRegion Means k at (renamed_region f k) (place k at)
  region-alike Function at h = of_function at
  region-alike Arrow at h = of_arrow at
  region-alike (Lambda x) at h = (h, refl)
  region-alike (Label x) at h = (h, refl)
  region-alike _ at h = tt

  leaf-alike : (l : Leaf A) → OfLeaf (λ y. Means y (f y)) l → AreOneLeaf Means l (renamed_leaf f l)
  leaf-alike (Declared how x) h = (refl, (h, refl))
  leaf-alike (Used x) h = h
  leaf-alike (Jumped word at x) h = (refl, (refl, label-alike x h))

  pub alike-rewritten : (t : Told A) → OfEachName (λ y. Means y (f y)) t → AreToldAlike Means t (rewritten f place t)
  alike-rewritten nothing h = tt
  alike-rewritten (leaf l t) h = (leaf-alike l h.0, alike-rewritten t h.1)
  alike-rewritten (inner k at i t) h = (region-alike k at h.0, (alike-rewritten i h.1.0, alike-rewritten t h.1.1))

-- a fact of each name that follows from another
weaker_label : {A : Type 0} (Holds Follows : A → Type 0) → ((x : A) → Holds x → Follows x) → (x : Option (Name A)) → OfLabel Holds x → OfLabel Follows x
weaker_label Holds Follows by None h = tt
weaker_label Holds Follows by (Some x) h = by x.name h

weaker_region : {A : Type 0} (Holds Follows : A → Type 0) → ((x : A) → Holds x → Follows x) → (k : Region A) → OfRegion Holds k → OfRegion Follows k
weaker_region Holds Follows by (Lambda x) h = by x.name h
weaker_region Holds Follows by (Label x) h = by x.name h
weaker_region Holds Follows by _ h = tt

weaker_leaf : {A : Type 0} (Holds Follows : A → Type 0) → ((x : A) → Holds x → Follows x) → (l : Leaf A) → OfLeaf Holds l → OfLeaf Follows l
weaker_leaf Holds Follows by (Declared how x) h = by x.name h
weaker_leaf Holds Follows by (Used x) h = by x h
weaker_leaf Holds Follows by (Jumped word at label) h = weaker_label Holds Follows by label h

pub weaker : {A : Type 0} (Holds Follows : A → Type 0) → ((x : A) → Holds x → Follows x) → (t : Told A) → OfEachName Holds t → OfEachName Follows t
weaker Holds Follows by nothing h = tt
weaker Holds Follows by (leaf l t) h = (weaker_leaf Holds Follows by l h.0, weaker Holds Follows by t h.1)
weaker Holds Follows by (inner k at i t) h = (weaker_region Holds Follows by k h.0, (weaker Holds Follows by i h.1.0, weaker Holds Follows by t h.1.1))

-- The names that occur, among which names are the same exactly where they are renamed to the same.
module _ {A B : Type 0} (Occurs : A → Type 0) (f : A → B) (same : A → A → Bool) (equal : B → B → Bool)
    (one : (x y : A) → Occurs x → Occurs y → equal (f x) (f y) ≡ same x y)
    (known : KnownNames A) (knowns : OfKnownNames Occurs known) (t : Told A) (names : OfEachName Occurs t) where
  abbrev Means : A → B → Type 0
  Means x y = Occurs x × (f x ≡ y)

  one_to_one : IsOneToOne Means same equal
  one_to_one x y u v h k = ap (λ z. equal z v) (sym h.1) ∙ (ap (equal (f x)) (sym k.1) ∙ one x y h.0 k.0)

  alike : AreToldAlike Means t (renamed f t)
  alike = alike-rewritten Means f (λ k at. at) (λ at. refl) (λ at. refl) t (weaker Occurs (λ x. Means x (f x)) (λ x h. (h, refl)) t names)

  pub first_error-occurring : (noted : Option Early) → first_error equal (renamed_known f known) noted (renamed f t) ≡ first_error same known noted t
  first_error-occurring noted =
      first_error-alike Means same equal one_to_one known (renamed_known f known) ((knowns.0, refl), ((knowns.1.0, refl), (knowns.1.1, refl))) t (renamed f t) alike noted

  pub closed-occurring : closed equal (renamed_known f known) (renamed f t) ≡ map (renamed_bound f) (closed same known t)
  closed-occurring =
      bounds_read Means f (λ x y m. m.1) (closed same known t) (closed equal (renamed_known f known) (renamed f t))
      (closed-alike_exactly Means same equal one_to_one known (renamed_known f known) ((knowns.0, refl), ((knowns.1.0, refl), (knowns.1.1, refl))) t (renamed f t) alike
      (image_told Means f t alike))
