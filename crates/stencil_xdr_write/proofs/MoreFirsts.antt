-- First texts where one text more is named.
use Rattle.std.proofs.Common.{◌≡◌, ℕ, zero, suc, ◌<◌, Bool, true, false, not, cond, List, [], ◌∷◌, ◌++◌, length, filter, Some, refl, sym, ◌∙◌, ap, subst, slice_get, arith, inl, inr, append-nil}
use Rattle.std.specs.Prelude.{bytes_eq}
use Rattle.std.specs.Cmp.Lexicographic.{nat_list_eq_equiv}
use Rattle.std.proofs.lemmas.List.Elements.{filter-append}
use Rattle.std.proofs.lemmas.Option.{slice_get_within, get_or_from_slice_get}
use Rattle.stencil_data.specs.StandsFor.{text_at}
use Rattle.parser_atoms.specs.Places.{AreWithoutEquals, StandsIn, Interns}
use Rattle.parser_atoms.proofs.Interning.{slice_get-append_old, slice_get-append_last}
use Rattle.stencil_xdr_specs.specs.Image.{firsts, place_in}
use Rattle.stencil_xdr_read.specs.Reading.{Each}
use Rattle.stencil_xdr_read.proofs.Firsts.{has, either, itself, stands_at, place_itself, place_found, each_first}

abbrev Texts : Type 0
Texts = List (List ℕ)

abbrev other_than : List ℕ → Texts → Texts
other_than t ts = filter (λ u. not (bytes_eq u t)) ts

-- ---- one text more

more_by : (u t : List ℕ) (fs all : Texts) (b e : Bool) → bytes_eq t u ≡ e → all ≡ cond b fs (fs ++ t ∷ []) → u ∷ other_than u all ≡ cond (cond e true b) (u ∷ other_than u fs) ((u ∷ other_than u fs) ++ t ∷ [])
more_by u t fs all true true same is = ap (λ (l : Texts). u ∷ other_than u l) is
more_by u t fs all true false same is = ap (λ (l : Texts). u ∷ other_than u l) is
more_by u t fs all false true same is =
    ap (λ (l : Texts). u ∷ other_than u l) is
    ∙ ap (λ (l : Texts). u ∷ l) (filter-append (λ v. not (bytes_eq v u)) fs (t ∷ []) ∙ (ap (λ (b : Bool). other_than u fs ++ cond (not b) (t ∷ []) []) same ∙ append-nil (other_than u fs)))
more_by u t fs all false false same is =
    ap (λ (l : Texts). u ∷ other_than u l) is
    ∙ ap (λ (l : Texts). u ∷ l) (filter-append (λ v. not (bytes_eq v u)) fs (t ∷ []) ∙ ap (λ (b : Bool). other_than u fs ++ cond (not b) (t ∷ []) []) same)

-- a text that was named before adds nothing, every other one stands at the end
pub firsts_more : (ts : Texts) (t : List ℕ) → firsts (ts ++ t ∷ []) ≡ cond (has ts t) (firsts ts) (firsts ts ++ t ∷ [])
firsts_more [] t = refl
firsts_more (u ∷ ts) t = more_by u t (firsts ts) (firsts (ts ++ t ∷ [])) (has ts t) (bytes_eq u t) (nat_list_eq_equiv.symm t u) (firsts_more ts t)

-- ---- whether a text was named

has_head : (u : List ℕ) (us : Texts) (t : List ℕ) → bytes_eq u t ≡ true → has (u ∷ us) t ≡ true
has_head u us t h = ap (λ (b : Bool). cond b true (has us t)) h

has_tail : (u : List ℕ) (us : Texts) (t : List ℕ) → has us t ≡ true → has (u ∷ us) t ≡ true
has_tail u us t h = elim (either (bytes_eq u t)) [ inl e ↦ has_head u us t e | inr e ↦ ap (λ (b : Bool). cond b true (has us t)) e ∙ h ]

has_placed : (ts : Texts) (i : ℕ) (t : List ℕ) → slice_get ts i ≡ Some t → has ts t ≡ true
has_placed [] i t h = absurd (cc)
has_placed (u ∷ ts) zero t h = let e : u ≡ t = cc in has_head u ts t (subst (λ (x : List ℕ). bytes_eq x t ≡ true) (sym e) (itself t))
has_placed (u ∷ ts) (suc i) t h = has_tail u ts t (has_placed ts i t h)

filtered_by : (p : List ℕ → Bool) (u t : List ℕ) (ts : Texts) (b : Bool) → has (cond b (u ∷ filter p ts) (filter p ts)) t ≡ true → (has (filter p ts) t ≡ true → has ts t ≡ true) → has (u ∷ ts) t ≡ true
filtered_by p u t ts true h further = elim (either (bytes_eq u t)) [
  | inl e ↦ has_head u ts t e
  | inr e ↦ has_tail u ts t (further (sym (ap (λ (b : Bool). cond b true (has (filter p ts) t)) e) ∙ h))
]
filtered_by p u t ts false h further = has_tail u ts t (further h)

has_filtered : (p : List ℕ → Bool) (ts : Texts) (t : List ℕ) → has (filter p ts) t ≡ true → has ts t ≡ true
has_filtered p [] t h = h
has_filtered p (u ∷ ts) t h = filtered_by p u t ts (p u) h (has_filtered p ts t)

has_of_first : (ts : Texts) (t : List ℕ) → has (firsts ts) t ≡ true → has ts t ≡ true
has_of_first [] t h = h
has_of_first (u ∷ ts) t h = elim (either (bytes_eq u t)) [
  | inl e ↦ has_head u ts t e
  | inr e ↦ has_tail u ts t (has_of_first ts t (has_filtered (λ v. not (bytes_eq v u)) (firsts ts) t (sym (ap (λ (b : Bool). cond b true (has (other_than u (firsts ts)) t)) e) ∙ h)))
]

each_at : (P : List ℕ → Type 0) (ts : Texts) (i : ℕ) → i < length ts → Each P ts → P (text_at ts i)
each_at P [] i more h = absurd (omega arith)
each_at P (t ∷ ts) zero more h = h.0
each_at P (t ∷ ts) (suc i) more h = each_at P ts i (omega arith) h.1

first_of_has : (ts : Texts) (t : List ℕ) → has ts t ≡ true → has (firsts ts) t ≡ true
first_of_has ts t h = let p = place_found ts t h in subst (λ (x : List ℕ). has (firsts ts) x ≡ true) p.is (each_at (λ x. has (firsts ts) x ≡ true) ts (place_in ts t) p.inside (each_first ts))

has_then_stands : (ts : Texts) (t : List ℕ) → has ts t ≡ true → StandsIn ts t
has_then_stands ts t h = let p = place_found ts t h in (place_in ts t, stands_at ts (place_in ts t) p.inside ∙ ap (λ (x : List ℕ). Some x) p.is)

-- a text that stands among the first ones adds nothing
pub firsts_again : (ts : Texts) (t : List ℕ) (k : ℕ) → slice_get (firsts ts) k ≡ Some t → firsts (ts ++ t ∷ []) ≡ firsts ts
firsts_again ts t k h = firsts_more ts t ∙ ap (λ (b : Bool). cond b (firsts ts) (firsts ts ++ t ∷ [])) (has_of_first ts t (has_placed (firsts ts) k t h))

-- a text that does not stand among them stands at their end
pub firsts_new : (ts : Texts) (t : List ℕ) → ¬ (StandsIn (firsts ts) t) → firsts (ts ++ t ∷ []) ≡ firsts ts ++ t ∷ []
firsts_new ts t h = firsts_more ts t ∙ ap (λ (b : Bool). cond b (firsts ts) (firsts ts ++ t ∷ [])) absent
  where
    absent : has ts t ≡ false
    absent = elim (either (has ts t)) [ inl e ↦ absurd (h (has_then_stands (firsts ts) t (first_of_has ts t e))) | inr e ↦ e ]

-- ---- a text that is interned

-- interning the named texts one after another gives the first ones
pub interned_firsts : (ts before after : Texts) (text : List ℕ) (k : ℕ) → before ≡ firsts ts → Interns before after text k → after ≡ firsts (ts ++ text ∷ [])
interned_firsts ts before after text k old (inl h) = h.1 ∙ (old ∙ sym (firsts_again ts text k (subst (λ (l : Texts). slice_get l k ≡ Some text) old h.0)))
interned_firsts ts before after text k old (inr h) = h.2 ∙ (ap (λ (l : Texts). l ++ text ∷ []) old ∙ sym (firsts_new ts text (subst (λ (l : Texts). ¬ (StandsIn l text)) old h.0)))

-- the text stands at its number
pub interned_there : (before after : Texts) (text : List ℕ) (k : ℕ) → Interns before after text k → slice_get after k ≡ Some text
interned_there before after text k (inl h) = subst (λ (l : Texts). slice_get l k ≡ Some text) (sym h.1) h.0
interned_there before after text k (inr h) = ap (λ (l : Texts). slice_get l k) h.2 ∙ (ap (slice_get (before ++ text ∷ [])) h.1 ∙ slice_get-append_last before text)

-- every text stays at its number
pub interned_keeps : (before after : Texts) (text : List ℕ) (k : ℕ) → Interns before after text k → (j : ℕ) (t : List ℕ) → slice_get before j ≡ Some t → slice_get after j ≡ Some t
interned_keeps before after text k (inl h) j t at = subst (λ (l : Texts). slice_get l j ≡ Some t) (sym h.1) at
interned_keeps before after text k (inr h) j t at = ap (λ (l : Texts). slice_get l j) h.2 ∙ slice_get-append_old before (text ∷ []) j t at

-- a text of texts without equals has its place
pub place_at : (ts : Texts) (k : ℕ) (t : List ℕ) → AreWithoutEquals ts → slice_get ts k ≡ Some t → place_in ts t ≡ k
place_at ts k t apart h = ap (place_in ts) (sym (get_or_from_slice_get ts k t [] h)) ∙ place_itself ts k apart (slice_get_within ts k t h)
