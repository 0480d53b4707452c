-- Tests of inner extents and of texts without equals.
use Rattle.std.proofs.Common.{◌≡◌, ℕ, zero, suc, ◌+◌, ◌<◌, Bool, false, List, [], ◌∷◌, ◌++◌, length, map, take, get_or, Some, None, refl, sym, ◌∙◌, ap, ap₂, arith, slice_get, slice_index, inl, inr, length-take-le}
use Rattle.std.specs.Prelude.{IsTrue, ◌↔◌}
use Rattle.std.proofs.lemmas.Bool.{false≢true}
use Rattle.std.proofs.lemmas.List.{take_more}
use Rattle.stencil_data.specs.declared.functions.Extent.{Extent}
use Rattle.stencil_data.specs.Views.{RecordView}
use Rattle.bytecode_buf.specs.InRange.{extent_of}
use Rattle.parser_atoms.specs.Places.{AreWithoutEquals, Interns}
use Rattle.stencil_xdr_read.specs.Within.{EachFrom, AreExtentsOf}

-- ---- extents

-- the numbers from a place on
abbrev AreFrom : List ℕ → ℕ → List ℕ → Type 0
AreFrom all at numbers = (k : ℕ) → slice_index numbers k ≡ slice_index all (at + k)

from_next : (all : List ℕ) (at n : ℕ) (numbers : List ℕ) → AreFrom all at (n ∷ numbers) → AreFrom all (at + 1) numbers
from_next all at n numbers h k = let e : at + suc k ≡ (at + 1) + k = omega arith in h (suc k) ∙ ap (slice_index all) e

from_here : (all : List ℕ) (at n : ℕ) (numbers : List ℕ) → AreFrom all at (n ∷ numbers) → slice_index all at ≡ n
from_here all at n numbers h = let e : at + 0 ≡ at = omega arith in sym (h 0 ∙ ap (slice_index all) e)

extents_to : (f : ℕ → Extent) (all : List ℕ) (at : ℕ) (numbers : List ℕ) (extents : List Extent) → AreFrom all at numbers → length numbers ≡ length extents → EachFrom (λ k (e : Extent). e ≡ f (slice_index all k)) at extents → extents ≡ map f numbers
extents_to f all at [] [] from many h = refl
extents_to f all at [] (e ∷ extents) from many h = absurd (omega arith)
extents_to f all at (n ∷ numbers) [] from many h = absurd (omega arith)
extents_to f all at (n ∷ numbers) (e ∷ extents) from many h = ap₂ (λ x l. x ∷ l) (h.0 ∙ ap f (from_here all at n numbers from)) (extents_to f all (at + 1) numbers extents (from_next all at n numbers from) (omega arith) h.1)

extents_back : (f : ℕ → Extent) (all : List ℕ) (at : ℕ) (numbers : List ℕ) (extents : List Extent) → AreFrom all at numbers → extents ≡ map f numbers → EachFrom (λ k (e : Extent). e ≡ f (slice_index all k)) at extents
extents_back f all at numbers [] from is = tt
extents_back f all at [] (e ∷ extents) from is = absurd (cc)
extents_back f all at (n ∷ numbers) (e ∷ extents) from is =
    let first : e ≡ f n = cc in let rest : extents ≡ map f numbers = cc in
    (first ∙ ap f (sym (from_here all at n numbers from)), extents_back f all (at + 1) numbers extents (from_next all at n numbers from) rest)

pub inner_extents : (records : List RecordView) (numbers : List ℕ) (extents : List Extent) (b : Bool) → length numbers ≡ length extents → IsTrue b ↔ AreExtentsOf records numbers extents → IsTrue b ↔ (extents ≡ map (extent_of records) numbers)
inner_extents records numbers extents b many h =
    (λ t. extents_to (extent_of records) numbers 0 numbers extents from many (h.0 t), λ e. h.1 (extents_back (extent_of records) numbers 0 numbers extents from e))
  where
    from : AreFrom numbers 0 numbers
    from k = let e : 0 + k ≡ k = omega arith in sym (ap (slice_index numbers) e)

-- ---- texts

taken_at : (n : ℕ) (ts : List (List ℕ)) (k : ℕ) (t : List ℕ) → slice_get (take n ts) k ≡ Some t → slice_get ts k ≡ Some t
taken_at zero ts k t h = absurd (cc)
taken_at (suc n) [] k t h = h
taken_at (suc n) (u ∷ ts) zero t h = h
taken_at (suc n) (u ∷ ts) (suc k) t h = taken_at n ts k t h

none_taken : (n : ℕ) (ts : List (List ℕ)) → slice_get (take n ts) n ≡ None
none_taken zero ts = refl
none_taken (suc n) [] = refl
none_taken (suc n) (u ∷ ts) = none_taken n ts

stands_at : (ts : List (List ℕ)) (n : ℕ) (t : List ℕ) → n < length ts → t ≡ get_or ts n t → slice_get ts n ≡ Some t
stands_at [] n t h is = absurd (omega arith)
stands_at (u ∷ ts) zero t h is = ap (λ (x : List ℕ). Some x) (sym is)
stands_at (u ∷ ts) (suc n) t h is = stands_at ts n t (omega arith) is

-- one text more without an equal
pub interned_more : (texts before after : List (List ℕ)) (units text : List ℕ) (number place : ℕ) → number < length texts → before ≡ take number texts → units ≡ text → text ≡ get_or texts number text → Interns before after units place → place ≡ number → after ≡ take (number + 1) texts
interned_more texts before after units text number place more old same is (inl h) there =
    let none : slice_get before place ≡ None = ap₂ slice_get old there ∙ none_taken number texts in absurd (cc)
interned_more texts before after units text number place more old same is (inr h) there =
    h.2 ∙ (ap₂ (λ (l : List (List ℕ)) (t : List ℕ). l ++ t ∷ []) old (same ∙ is) ∙ sym (take_more texts number text more))

-- a text that has an equal
pub interned_other : (texts before after : List (List ℕ)) (units text : List ℕ) (number place : ℕ) → number < length texts → before ≡ take number texts → units ≡ text → text ≡ get_or texts number text → Interns before after units place → (place ≡ number → ⊥) → IsTrue false ↔ AreWithoutEquals texts
interned_other texts before after units text number place more old same is (inl h) other =
    (λ f. absurd (false≢true f), λ apart. absurd (other (apart text place number (taken_at number texts place text (ap (λ (l : List (List ℕ)). slice_get l place) (sym old) ∙ (h.0 ∙ ap (λ (t : List ℕ). Some t) same))) (stands_at texts number text more is))))
interned_other texts before after units text number place more old same is (inr h) other =
    absurd (other (h.1 ∙ (ap length old ∙ length-take-le number texts (omega arith))))
