-- Texts that stand in a list, named by their places.
use Rattle.std.proofs.Common.{◌≡◌, ◌≢◌, ℕ, zero, suc, ◌<◌, nat_eq, Option, None, Some, List, [], ◌∷◌, ◌++◌, length, refl, sym, ap, subst, ◌∙◌}
use Rattle.std.specs.Str.{bytes_eq}
use Rattle.std.proofs.lemmas.Bool.Decides.{same_from_decides, Decides-eqb}
use Rattle.std.proofs.lemmas.Slice.Eq.{bytes_eq-Decides}
use Rattle.std.proofs.lemmas.Option.{get_or_from_slice_get, slice_get-get_or}
use Rattle.parse_track.specs.Told.{Name, Region, Function, Arrow, Lambda, Label, Leaf, Declared, Used, Jumped, Told, nothing, leaf, inner, KnownNames}
use Rattle.parse_track.specs.Tells.{Text, known_texts}
use Rattle.track_renaming_laws.specs.Renaming.{renamed_label, renamed_region, renamed_leaf, rewritten, renamed_known}
use Rattle.track_renaming_laws.specs.Alike.{AreToldAlike, AreKnownAlike, IsOneToOne}
use Rattle.track_renaming_laws.specs.Occurring.{OfLabel, OfRegion, OfLeaf, OfEachName}
use Rattle.track_renaming_laws.specs.Texts.{StandsAt, AreWithoutEquals, text_at}
use Rattle.track_renaming_laws.proofs.Occurring.{alike-rewritten, weaker}

pub stands_read : (texts : List Text) (atom : ℕ) (text : Text) → StandsAt texts atom text → text_at texts atom ≡ text
stands_read texts atom text h = get_or_from_slice_get texts atom text [] h

pub stands_within : (texts : List Text) (atom : ℕ) → atom < length texts → StandsAt texts atom (text_at texts atom)
stands_within texts atom h = slice_get-get_or texts atom [] h

-- an atom that has a text stands for it
pub stands_nonempty : (texts : List Text) (atom : ℕ) → text_at texts atom ≢ [] → StandsAt texts atom (text_at texts atom)
stands_nonempty [] atom h = absurd (h refl)
stands_nonempty (text ∷ texts) zero h = refl
stands_nonempty (text ∷ texts) (suc atom) h = stands_nonempty texts atom h

pub stands_more : (texts more : List Text) (atom : ℕ) (text : Text) → StandsAt texts atom text → StandsAt (texts ++ more) atom text
stands_more [] more atom text h = cc
stands_more (one ∷ texts) more zero text h = h
stands_more (one ∷ texts) more (suc atom) text h = stands_more texts more atom text h

-- Among texts without equals, atoms are equal exactly where their texts are.
pub one_to_one : (texts : List Text) → AreWithoutEquals texts → IsOneToOne (StandsAt texts) nat_eq bytes_eq
one_to_one texts once x y u v h k =
    same_from_decides (bytes_eq u v) (nat_eq x y) (bytes_eq-Decides u v) (λ e. texts_same ((Decides-eqb x y).0 e), λ e. (Decides-eqb x y).1 (atoms_same e))
  where
    texts_same : x ≡ y → u ≡ v
    texts_same e = sym (stands_read texts x u h) ∙ (ap (text_at texts) e ∙ stands_read texts y v k)

    atoms_same : u ≡ v → x ≡ y
    atoms_same e = once u x y h (subst (StandsAt texts y) (sym e) k)

-- a fact of each name renamed, read of the name
of_label : {A B : Type 0} (Holds : B → Type 0) (f : A → B) (x : Option (Name A)) → OfLabel Holds (renamed_label f x) → OfLabel (λ y. Holds (f y)) x
of_label Holds f None h = tt
of_label Holds f (Some x) h = h

of_region : {A B : Type 0} (Holds : B → Type 0) (f : A → B) (k : Region A) → OfRegion Holds (renamed_region f k) → OfRegion (λ y. Holds (f y)) k
of_region Holds f (Lambda x) h = h
of_region Holds f (Label x) h = h
of_region Holds f _ h = tt

of_leaf : {A B : Type 0} (Holds : B → Type 0) (f : A → B) (l : Leaf A) → OfLeaf Holds (renamed_leaf f l) → OfLeaf (λ y. Holds (f y)) l
of_leaf Holds f (Declared how x) h = h
of_leaf Holds f (Used x) h = h
of_leaf Holds f (Jumped word at label) h = of_label Holds f label h

pub of_each : {A B : Type 0} (Holds : B → Type 0) (f : A → B) (place : Region A → ℕ → ℕ) (t : Told A) → OfEachName Holds (rewritten f place t) → OfEachName (λ y. Holds (f y)) t
of_each Holds f place nothing h = tt
of_each Holds f place (leaf l t) h = (of_leaf Holds f l h.0, of_each Holds f place t h.1)
of_each Holds f place (inner k at i t) h = (of_region Holds f k h.0, (of_each Holds f place i h.1.0, of_each Holds f place t h.1.1))

-- What is told with texts is what was told with atoms, where each atom is read as its text, and no name is empty.
pub alike_by_texts : (texts : List Text) (place : Region ℕ → ℕ → ℕ) → ((at : ℕ) → at ≡ place Function at) → ((at : ℕ) → at ≡ place Arrow at)
    → (t : Told ℕ) (u : Told Text) → rewritten (text_at texts) place t ≡ u → OfEachName (λ text. text ≢ []) u → AreToldAlike (StandsAt texts) t u
alike_by_texts texts place of_function of_arrow t u e h =
    subst (AreToldAlike (StandsAt texts) t) e
    (alike-rewritten (StandsAt texts) (text_at texts) place of_function of_arrow t
    (weaker (λ atom. text_at texts atom ≢ []) (λ atom. StandsAt texts atom (text_at texts atom)) (stands_nonempty texts) t
    (of_each (λ text. text ≢ []) (text_at texts) place t (subst (OfEachName (λ text. text ≢ [])) (sym e) h))))

-- the same where each atom is the number of a text
pub alike_by_range : (texts : List Text) (place : Region ℕ → ℕ → ℕ) → ((at : ℕ) → at ≡ place Function at) → ((at : ℕ) → at ≡ place Arrow at)
    → (t : Told ℕ) (u : Told Text) → rewritten (text_at texts) place t ≡ u → OfEachName (λ atom. atom < length texts) t → AreToldAlike (StandsAt texts) t u
alike_by_range texts place of_function of_arrow t u e h =
    subst (AreToldAlike (StandsAt texts) t) e
    (alike-rewritten (StandsAt texts) (text_at texts) place of_function of_arrow t
    (weaker (λ atom. atom < length texts) (λ atom. StandsAt texts atom (text_at texts atom)) (stands_within texts) t h))

-- the known names, read as their texts, none of which is empty
pub knows_by_texts : (texts : List Text) (known : KnownNames ℕ) → renamed_known (text_at texts) known ≡ known_texts → AreKnownAlike (StandsAt texts) known known_texts
knows_by_texts texts known e = (
  by known.eval known_texts.eval (ap (λ names. names.eval) e) (λ f. cc),
  (
    by known.arguments known_texts.arguments (ap (λ names. names.arguments) e) (λ f. cc),
    by known.this known_texts.this (ap (λ names. names.this) e) (λ f. cc),
  ),
)
  where
    by : (atom : ℕ) (text : Text) → text_at texts atom ≡ text → text ≢ [] → StandsAt texts atom text
    by atom text e full = subst (StandsAt texts atom) e (stands_nonempty texts atom (λ g. full (sym e ∙ g)))
