-- The loop over the functions of a script.
use Rattle.std.proofs.Common.{◌≡◌, ℕ, zero, suc, ◌+◌, ◌<◌, ◌≤◌, min, List, [], ◌∷◌, ◌++◌, length, drop, map, get_or, refl, sym, ap, ap₂, ◌∙◌, append_assoc, append-nil, arith}
use Rattle.std.proofs.lemmas.List.{map-append}
use Rattle.serde_json.specs.Data.{Data}
use Rattle.serde_json.specs.View.{view}
use Rattle.serde_json.specs.declared.value.Value.{Value}
use Rattle.stencil_data.specs.declared.stencils.Entry.{Entry}
use Rattle.stencil_data.specs.StandsFor.{named_record}
use Rattle.stencil_data.specs.Views.{RecordView}
use Rattle.script_image.specs.Listed.{listed_entry}
use Rattle.holzikra_objects.specs.Objects.{Shown, function_data, functions_data}

-- the functions from a place on
abbrev pub left_from : Shown → List (List ℕ) → ℕ → ℕ → List RecordView → List Entry → List Data
left_from s texts n k rs es = functions_data s n (map (named_record texts) (drop k rs)) (map (listed_entry texts) (drop k es))

functions_next : (s : Shown) (texts : List (List ℕ)) (n k : ℕ) (rs : List RecordView) (es : List Entry) (r : RecordView) (e : Entry) → k < length rs → k < length es → r ≡ get_or rs k r → e ≡ get_or es k e
    → left_from s texts n k rs es ≡ function_data s n (named_record texts r) (listed_entry texts e) ∷ left_from s texts (n + 1) (suc k) rs es
functions_next s texts n k [] es r e in_rs in_es r_is e_is = absurd (omega (arith, in_rs))
functions_next s texts n k (x ∷ rs) [] r e in_rs in_es r_is e_is = absurd (omega (arith, in_es))
functions_next s texts n zero (x ∷ rs) (y ∷ es) r e in_rs in_es r_is e_is =
    ap₂ (λ (a : RecordView) (b : Entry). function_data s n (named_record texts a) (listed_entry texts b) ∷ functions_data s (n + 1) (map (named_record texts) rs) (map (listed_entry texts) es)) (sym r_is) (sym e_is)
functions_next s texts n (suc k) (x ∷ rs) (y ∷ es) r e in_rs in_es r_is e_is = functions_next s texts n k rs es r e (omega (arith, in_rs)) (omega (arith, in_es)) r_is e_is

-- the value of the function at a place goes behind those in front of it
pub one_more : (s : Shown) (texts : List (List ℕ)) (n k : ℕ) (rs : List RecordView) (es : List Entry) (r : RecordView) (e : Entry) (now new all : List Data) → k < length rs → k < length es → r ≡ get_or rs k r → e ≡ get_or es k e
    → new ≡ now ++ function_data s n (named_record texts r) (listed_entry texts e) ∷ [] → now ++ left_from s texts n k rs es ≡ all → new ++ left_from s texts (n + 1) (k + 1) rs es ≡ all
one_more s texts n k rs es r e now new all in_rs in_es r_is e_is new_is is =
    let one : k + 1 ≡ suc k = omega arith in
    ap₂ (λ (l : List Data) (m : ℕ). l ++ left_from s texts (n + 1) m rs es) new_is one
    ∙ append_assoc now (function_data s n (named_record texts r) (listed_entry texts e) ∷ []) (left_from s texts (n + 1) (suc k) rs es)
    ∙ ap (λ (l : List Data). now ++ l) (sym (functions_next s texts n k rs es r e in_rs in_es r_is e_is))
    ∙ is

none_left : (s : Shown) (texts : List (List ℕ)) (n k : ℕ) (rs : List RecordView) (es : List Entry) → min (length rs) (length es) ≤ k → left_from s texts n k rs es ≡ []
none_left s texts n zero [] es done = refl
none_left s texts n (suc k) [] es done = refl
none_left s texts n zero (x ∷ rs) [] done = refl
none_left s texts n zero (x ∷ rs) (y ∷ es) done = absurd (omega (arith, done))
none_left s texts n (suc k) (x ∷ rs) [] done = no_entries s texts n (drop k rs)
  where
    no_entries : (s : Shown) (texts : List (List ℕ)) (n : ℕ) (rs : List RecordView) → functions_data s n (map (named_record texts) rs) [] ≡ []
    no_entries s texts n [] = refl
    no_entries s texts n (r ∷ rs) = refl
none_left s texts n (suc k) (x ∷ rs) (y ∷ es) done = none_left s texts n k rs es (omega (arith, done))

-- all were put in
pub all_there : (s : Shown) (texts : List (List ℕ)) (n k : ℕ) (rs : List RecordView) (es : List Entry) (now all : List Data) → min (length rs) (length es) ≤ k → now ++ left_from s texts n k rs es ≡ all → now ≡ all
all_there s texts n k rs es now all done is = sym (append-nil now) ∙ ap (λ (l : List Data). now ++ l) (sym (none_left s texts n k rs es done)) ∙ is

-- one more value goes behind others
pub pushed : (old new : List Value) (v : Value) (d : Data) → new ≡ old ++ v ∷ [] → view v ≡ d → map view new ≡ map view old ++ d ∷ []
pushed old new v d new_is v_is = ap (map view) new_is ∙ map-append view old (v ∷ []) ∙ ap (λ (x : Data). map view old ++ x ∷ []) v_is
