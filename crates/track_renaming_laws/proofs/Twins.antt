-- What is told twice, told once with pairs of names that stand for one another.
use Rattle.std.proofs.Common.{◌≡◌, ℕ, Option, None, Some, refl, ap, ◌∙◌}
use Rattle.parse_track.specs.Told.{Name, Region, Script, Function, Arrow, Lambda, Block, Switch, ForHead, Catch, Loop, Label, VarBody, Leaf, Declared, Used, Jumped, Told, nothing, leaf, inner, KnownNames}
use Rattle.track_renaming_laws.specs.Renaming.{renamed_name, renamed_label, renamed_region, renamed_leaf, rewritten, renamed}
use Rattle.track_renaming_laws.specs.Starts.{if_function}
use Rattle.track_renaming_laws.specs.Alike.{AreOneName, AreOneLabel, AreOneRegion, AreOneLeaf, AreToldAlike, AreKnownAlike}

-- two names, the first of which stands for the second
pub record Twin {A B : Type 0} (Means : A → B → Type 0) : Type 0 where
  pub left : A
  pub right : B
  pub means : Means left right

inner_same : {A : Type 0} (k j : Region A) (at there : ℕ) (i h t u : Told A) → k ≡ j → at ≡ there → i ≡ h → t ≡ u → inner k at i t ≡ inner j there h u
inner_same k j at there i h t u a b c d =
    ap (λ x. inner x at i t) a ∙ (ap (λ x. inner j x i t) b ∙ (ap (λ x. inner j there x t) c ∙ ap (λ x. inner j there h x) d))

leaf_same : {A : Type 0} (l m : Leaf A) (t u : Told A) → l ≡ m → t ≡ u → leaf l t ≡ leaf m u
leaf_same l m t u a b = ap (λ x. leaf x t) a ∙ ap (λ x. leaf m x) b

module _ {A B : Type 0} (Means : A → B → Type 0) where
  abbrev pub left : Twin Means → A
  left w = w.left

  abbrev pub right : Twin Means → B
  right w = w.right

  abbrev pub twin_known : (known : KnownNames A) (other : KnownNames B) → AreKnownAlike Means known other → KnownNames (Twin Means)
  twin_known known other h = record {
    eval = record { left = known.eval; right = other.eval; means = h.0 };
    arguments = record { left = known.arguments; right = other.arguments; means = h.1.0 };
    this = record { left = known.this; right = other.this; means = h.1.1 };
  }

  abbrev twin_name : (x : Name A) (y : Name B) → AreOneName Means x y → Name (Twin Means)
  twin_name x y h = record { name = record { left = x.name; right = y.name; means = h.0 }; at = x.at }

  abbrev twin_label : (x : Option (Name A)) (y : Option (Name B)) → AreOneLabel Means x y → Option (Name (Twin Means))
  twin_label None None h = None
  twin_label (Some x) (Some y) h = Some (twin_name x y h)
  twin_label _ _ h = absurd h

  abbrev twin_region : (k : Region A) (at : ℕ) (j : Region B) (there : ℕ) → AreOneRegion Means k at j there → Region (Twin Means)
  twin_region Script at Script there h = Script
  twin_region Function at Function there h = Function
  twin_region Arrow at Arrow there h = Arrow
  twin_region (Lambda x) at (Lambda y) there h = Lambda (twin_name x y h)
  twin_region Block at Block there h = Block
  twin_region Switch at Switch there h = Switch
  twin_region ForHead at ForHead there h = ForHead
  twin_region Catch at Catch there h = Catch
  twin_region Loop at Loop there h = Loop
  twin_region (Label x) at (Label y) there h = Label (twin_name x y h)
  twin_region VarBody at VarBody there h = VarBody
  twin_region _ at _ there h = absurd h

  abbrev twin_leaf : (l : Leaf A) (m : Leaf B) → AreOneLeaf Means l m → Leaf (Twin Means)
  twin_leaf (Declared how x) (Declared so y) h = Declared how (twin_name x y h.1)
  twin_leaf (Used x) (Used y) h = Used (record { left = x; right = y; means = h })
  twin_leaf (Jumped word at x) (Jumped jump there y) h = Jumped word at (twin_label x y h.1.1)
  twin_leaf _ _ h = absurd h

  abbrev pub twin : (t : Told A) (u : Told B) → AreToldAlike Means t u → Told (Twin Means)
  twin nothing nothing h = nothing
  twin (leaf l t) (leaf m u) h = leaf (twin_leaf l m h.0) (twin t u h.1)
  twin (inner k at i t) (inner j there o u) h = inner (twin_region k at j there h.0) at (twin i o h.1.0) (twin t u h.1.1)
  twin _ _ h = absurd h

  -- the first of each pair
  left_label : (x : Option (Name A)) (y : Option (Name B)) (h : AreOneLabel Means x y) → renamed_label left (twin_label x y h) ≡ x
  left_label None None h = refl
  left_label (Some x) (Some y) h = refl
  left_label _ _ h = absurd h

  left_region : (k : Region A) (at : ℕ) (j : Region B) (there : ℕ) (h : AreOneRegion Means k at j there) → renamed_region left (twin_region k at j there h) ≡ k
  left_region Script at Script there h = refl
  left_region Function at Function there h = refl
  left_region Arrow at Arrow there h = refl
  left_region (Lambda x) at (Lambda y) there h = refl
  left_region Block at Block there h = refl
  left_region Switch at Switch there h = refl
  left_region ForHead at ForHead there h = refl
  left_region Catch at Catch there h = refl
  left_region Loop at Loop there h = refl
  left_region (Label x) at (Label y) there h = refl
  left_region VarBody at VarBody there h = refl
  left_region _ at _ there h = absurd h

  left_leaf : (l : Leaf A) (m : Leaf B) (h : AreOneLeaf Means l m) → renamed_leaf left (twin_leaf l m h) ≡ l
  left_leaf (Declared how x) (Declared so y) h = refl
  left_leaf (Used x) (Used y) h = refl
  left_leaf (Jumped word at x) (Jumped jump there y) h = ap (Jumped word at) (left_label x y h.1.1)
  left_leaf _ _ h = absurd h

  pub left_told : (t : Told A) (u : Told B) (h : AreToldAlike Means t u) → renamed left (twin t u h) ≡ t
  left_told nothing nothing h = refl
  left_told (leaf l t) (leaf m u) h =
      leaf_same (renamed_leaf left (twin_leaf l m h.0)) l (renamed left (twin t u h.1)) t (left_leaf l m h.0) (left_told t u h.1)
  left_told (inner k at i t) (inner j there o u) h =
      inner_same (renamed_region left (twin_region k at j there h.0)) k at at (renamed left (twin i o h.1.0)) i (renamed left (twin t u h.1.1)) t
      (left_region k at j there h.0) refl (left_told i o h.1.0) (left_told t u h.1.1)
  left_told _ _ h = absurd h

  -- the second of each pair
  right_name : (x : Name A) (y : Name B) (h : AreOneName Means x y) → renamed_name right (twin_name x y h) ≡ y
  right_name x y h = ap (λ (n : ℕ). record { name = y.name; at = n }) h.1

  right_label : (x : Option (Name A)) (y : Option (Name B)) (h : AreOneLabel Means x y) → renamed_label right (twin_label x y h) ≡ y
  right_label None None h = refl
  right_label (Some x) (Some y) h = ap Some (right_name x y h)
  right_label _ _ h = absurd h

  right_region : (k : Region A) (at : ℕ) (j : Region B) (there : ℕ) (h : AreOneRegion Means k at j there)
      → renamed_region right (twin_region k at j there h) ≡ renamed_region (λ y. y) j
  right_region Script at Script there h = refl
  right_region Function at Function there h = refl
  right_region Arrow at Arrow there h = refl
  right_region (Lambda x) at (Lambda y) there h = ap Lambda (right_name x y h)
  right_region Block at Block there h = refl
  right_region Switch at Switch there h = refl
  right_region ForHead at ForHead there h = refl
  right_region Catch at Catch there h = refl
  right_region Loop at Loop there h = refl
  right_region (Label x) at (Label y) there h = ap Label (right_name x y h)
  right_region VarBody at VarBody there h = refl
  right_region _ at _ there h = absurd h

  right_offset : (k : Region A) (at : ℕ) (j : Region B) (there : ℕ) (h : AreOneRegion Means k at j there) → if_function (twin_region k at j there h) at ≡ if_function j there
  right_offset Script at Script there h = refl
  right_offset Function at Function there h = h
  right_offset Arrow at Arrow there h = h
  right_offset (Lambda x) at (Lambda y) there h = refl
  right_offset Block at Block there h = refl
  right_offset Switch at Switch there h = refl
  right_offset ForHead at ForHead there h = refl
  right_offset Catch at Catch there h = refl
  right_offset Loop at Loop there h = refl
  right_offset (Label x) at (Label y) there h = refl
  right_offset VarBody at VarBody there h = refl
  right_offset _ at _ there h = absurd h

  same_label : (y : Option (Name B)) → y ≡ renamed_label (λ x. x) y
  same_label None = refl
  same_label (Some y) = refl

  right_leaf : (l : Leaf A) (m : Leaf B) (h : AreOneLeaf Means l m) → renamed_leaf right (twin_leaf l m h) ≡ renamed_leaf (λ y. y) m
  right_leaf (Declared how x) (Declared so y) h = ap (λ d. Declared d (renamed_name right (twin_name x y h.1))) h.0 ∙ ap (Declared so) (right_name x y h.1)
  right_leaf (Used x) (Used y) h = refl
  right_leaf (Jumped word at x) (Jumped jump there y) h =
      ap (λ w. Jumped w at (renamed_label right (twin_label x y h.1.1))) h.0
      ∙ (ap (λ n. Jumped jump n (renamed_label right (twin_label x y h.1.1))) h.1.0 ∙ ap (Jumped jump there) (right_label x y h.1.1 ∙ same_label y))
  right_leaf _ _ h = absurd h

  pub right_told : (t : Told A) (u : Told B) (h : AreToldAlike Means t u) → rewritten right if_function (twin t u h) ≡ rewritten (λ y. y) if_function u
  right_told nothing nothing h = refl
  right_told (leaf l t) (leaf m u) h =
      leaf_same (renamed_leaf right (twin_leaf l m h.0)) (renamed_leaf (λ y. y) m) (rewritten right if_function (twin t u h.1)) (rewritten (λ y. y) if_function u)
      (right_leaf l m h.0) (right_told t u h.1)
  right_told (inner k at i t) (inner j there o u) h =
      inner_same (renamed_region right (twin_region k at j there h.0)) (renamed_region (λ y. y) j)
      (if_function (twin_region k at j there h.0) at) (if_function j there)
      (rewritten right if_function (twin i o h.1.0)) (rewritten (λ y. y) if_function o)
      (rewritten right if_function (twin t u h.1.1)) (rewritten (λ y. y) if_function u)
      (right_region k at j there h.0) (right_offset k at j there h.0) (right_told i o h.1.0) (right_told t u h.1.1)
  right_told _ _ h = absurd h

  -- the second of each pair, where a function gives it and all offsets are as they are
  image_label : (f : A → B) (x : Option (Name A)) (h : AreOneLabel Means x (renamed_label f x)) → renamed_label right (twin_label x (renamed_label f x) h) ≡ renamed_label f x
  image_label f None h = refl
  image_label f (Some x) h = refl

  image_region : (f : A → B) (k : Region A) (at : ℕ) (h : AreOneRegion Means k at (renamed_region f k) at)
      → renamed_region right (twin_region k at (renamed_region f k) at h) ≡ renamed_region f k
  image_region f (Lambda x) at h = refl
  image_region f (Label x) at h = refl
  image_region f _ at h = refl

  image_leaf : (f : A → B) (l : Leaf A) (h : AreOneLeaf Means l (renamed_leaf f l)) → renamed_leaf right (twin_leaf l (renamed_leaf f l) h) ≡ renamed_leaf f l
  image_leaf f (Declared how x) h = refl
  image_leaf f (Used x) h = refl
  image_leaf f (Jumped word at x) h = ap (Jumped word at) (image_label f x h.1.1)

  pub image_told : (f : A → B) (t : Told A) (h : AreToldAlike Means t (renamed f t)) → renamed right (twin t (renamed f t) h) ≡ renamed f t
  image_told f nothing h = refl
  image_told f (leaf l t) h =
      leaf_same (renamed_leaf right (twin_leaf l (renamed_leaf f l) h.0)) (renamed_leaf f l) (renamed right (twin t (renamed f t) h.1)) (renamed f t)
      (image_leaf f l h.0) (image_told f t h.1)
  image_told f (inner k at i t) h =
      inner_same (renamed_region right (twin_region k at (renamed_region f k) at h.0)) (renamed_region f k) at at
      (renamed right (twin i (renamed f i) h.1.0)) (renamed f i) (renamed right (twin t (renamed f t) h.1.1)) (renamed f t)
      (image_region f k at h.0) refl (image_told f i h.1.0) (image_told f t h.1.1)
