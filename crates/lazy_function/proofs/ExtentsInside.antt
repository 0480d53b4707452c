-- Extents that are taken from records one after another.
use Rattle.std.proofs.Common.{◌≡◌, ◌∙◌, ℕ, zero, suc, ◌+◌, ◌-◌, ◌<◌, List, [], ◌∷◌, ◌++◌, length, map, take, slice_index_or, Option, Some, refl, sym, ap, ap₂, arith}
use Rattle.std.specs.Prelude.{slice_get}
use Rattle.std.proofs.lemmas.List.{map-append, take_more}
use Rattle.stencil_data.specs.declared.functions.Extent.{Extent}
use Rattle.stencil_data.specs.Views.{RecordView}
use Rattle.compile_lazy_laws.specs.Inside.{extents_at}

at_place : (records : List RecordView) (k : ℕ) (d : RecordView) → k < length records → slice_get (map (λ (r : RecordView). r.extent) records) k ≡ Some (slice_index_or records k d).extent
at_place [] k d lt = absurd (omega (arith, lt))
at_place (r ∷ records) zero d lt = refl
at_place (r ∷ records) (suc k) d lt = at_place records k d (omega (arith, lt))

pub one_more : (records : List RecordView) (numbers : List ℕ) (extents : List Extent) (k n d : ℕ) (e : RecordView) (made : Extent) → k < length numbers → n ≡ slice_index_or numbers k d → n - 1 < length records → made ≡ (slice_index_or records (n - 1) e).extent
    → map (λ (x : Extent). Some x) extents ≡ extents_at records (take k numbers) → map (λ (x : Extent). Some x) (extents ++ made ∷ []) ≡ extents_at records (take (k + 1) numbers)
one_more records numbers extents k n d e made lt is within same before =
    map-append (λ (x : Extent). Some x) extents (made ∷ [])
    ∙ ap₂ (λ (xs ys : List (Option Extent)). xs ++ ys) before (ap (λ (x : Extent). Some x ∷ []) same ∙ ap (λ (o : Option Extent). o ∷ []) (sym (at_place records (n - 1) e within)) ∙ ap (λ m. extents_at records (m ∷ [])) is)
    ∙ sym (map-append (λ m. slice_get (map (λ (r : RecordView). r.extent) records) (m - 1)) (take k numbers) (slice_index_or numbers k d ∷ []))
    ∙ ap (extents_at records) (sym (take_more numbers k d lt))
