-- A stencil's texts anew: the empty text and then those that it has, each once. What an atom reads as has a number there, and
-- an atom that is the number of no text reads as the empty one.
use Rattle.std.proofs.Common.{◌≡◌, ℕ, zero, suc, ◌+◌, ◌^◌, ◌<◌, ◌≤◌, Bool, true, false, not, cond, List, [], ◌∷◌, length, filter, arith}
use Rattle.std.specs.Prelude.{All, bytes_eq}
use Rattle.stencil_data.specs.StandsFor.{text_at}
use Rattle.bytecode_buf.specs.InRange.{Small, TextsSmall}
use Rattle.stencil_xdr_specs.specs.Image.{firsts, place_in}
use Rattle.stencil_xdr_specs.specs.Widths.{TextFits}
use Rattle.stencil_xdr_laws.specs.Texts.{TextsStand}
use Rattle.stencil_xdr_read.specs.Reading.{Each}
use Rattle.stencil_xdr_read.proofs.Anew.{all_each}
use Rattle.stencil_xdr_read.proofs.Firsts.{has, place_found, each_first, each_filter, firsts_without_equals}
use Rattle.stencil_xdr_read.proofs.Ranges.{each_all}
use Rattle.stencil_xdr_read.proofs.Renamed.{AreSmall}

abbrev pub new_texts : List (List ℕ) → List (List ℕ)
new_texts texts = firsts ([] ∷ texts)

abbrev pub new_number : List (List ℕ) → ℕ → ℕ
new_number texts atom = place_in (new_texts texts) (text_at texts atom)

-- the new numbers are below the count of the new texts, small, and of the same texts as before
pub record NamesSame (texts order : List (List ℕ)) (N : ℕ → ℕ) : Type 0 where
  pub below : (a : ℕ) → N a < length order
  pub small : AreSmall N
  pub same : (a : ℕ) → text_at order (N a) ≡ text_at texts a

-- ---- lists of texts

-- what holds of each text and of the empty one holds of what an atom reads as
each_read : (P : List ℕ → Type 0) (texts : List (List ℕ)) (a : ℕ) → P [] → Each P texts → P (text_at texts a)
each_read P [] a none h = none
each_read P (t ∷ texts) zero none h = h.0
each_read P (t ∷ texts) (suc a) none h = each_read P texts a none h.1

each_firsts : (P : List ℕ → Type 0) (ts : List (List ℕ)) → Each P ts → Each P (firsts ts)
each_firsts P [] h = tt
each_firsts P (t ∷ ts) h = (h.0, each_filter P (λ u. not (bytes_eq u t)) (firsts ts) (each_firsts P ts h.1))

few_filtered : (p : List ℕ → Bool) (ts : List (List ℕ)) → length (filter p ts) ≤ length ts
few_filtered p [] = omega arith
few_filtered p (t ∷ ts) =
    let rest : length (filter p ts) ≤ length ts = few_filtered p ts in
    elim (p t) as (λ b. length (cond b (t ∷ filter p ts) (filter p ts)) ≤ suc (length ts)) [ true ↦ omega arith | false ↦ omega arith ]

few_firsts : (ts : List (List ℕ)) → length (firsts ts) ≤ length ts
few_firsts [] = omega arith
few_firsts (t ∷ ts) = omega (arith, few_filtered (λ u. not (bytes_eq u t)) (firsts ts), few_firsts ts)

small_each : (ts : List (List ℕ)) → TextsSmall ts → Each (λ t. Small (length t)) ts
small_each [] h = tt
small_each (t ∷ ts) h = (h.0, small_each ts h.1)

each_small : (ts : List (List ℕ)) → Each (λ t. Small (length t)) ts → TextsSmall ts
each_small [] h = tt
each_small (t ∷ ts) h = (h.0, each_small ts h.1)

-- ---- the new texts

pub few_new : (texts : List (List ℕ)) → length texts + 1 < 2 ^ 32 → Small (length (new_texts texts))
few_new texts few = let low : length (new_texts texts) ≤ suc (length texts) = few_firsts ([] ∷ texts) in omega arith

pub new_texts_stand : (texts : List (List ℕ)) → length texts + 1 < 2 ^ 32 → TextsSmall texts → TextsStand (new_texts texts)
new_texts_stand texts few small = record {
  few = few_new texts few;
  short = each_small (new_texts texts) (each_firsts (λ t. Small (length t)) ([] ∷ texts) (omega arith, small_each texts small));
  different = firsts_without_equals ([] ∷ texts);
}

pub new_texts_fit : (texts : List (List ℕ)) → All TextFits texts → All TextFits (new_texts texts)
new_texts_fit texts fit = each_all TextFits (new_texts texts) (each_firsts TextFits ([] ∷ texts) (each_all (λ unit. unit < 2 ^ 16) [] tt, all_each TextFits texts fit))

pub names_same : (texts : List (List ℕ)) → length texts + 1 < 2 ^ 32 → NamesSame texts (new_texts texts) (new_number texts)
names_same texts few = record {
  below = λ a. (place_found (new_texts texts) (text_at texts a) (found a)).inside;
  small = λ a. let low = (place_found (new_texts texts) (text_at texts a) (found a)).inside in let small = few_new texts few in omega arith;
  same = λ a. (place_found (new_texts texts) (text_at texts a) (found a)).is;
}
  where
    found : (a : ℕ) → has (new_texts texts) (text_at texts a) ≡ true
    found a = let all = each_first ([] ∷ texts) in each_read (λ t. has (new_texts texts) t ≡ true) texts a all.0 all.1
