-- The narrowest of the functions that contain an offset is the innermost one.
use Rattle.std.proofs.Common.{◌≡◌, ℕ, ◌+◌, ◌-◌, ◌<◌, ◌≤◌, List, [], ◌∷◌, ◌++◌, length, take, get_or, Option, Some, None, refl, sym, ap, ap₂, subst, ◌∙◌, arith}
use Rattle.stencil_data.specs.declared.functions.Extent.{Extent}
use Rattle.stencil_data.specs.Views.{RecordView}
use Rattle.holzikra_finding.specs.declared.places.Found.{Found}
use Rattle.holzikra_finding.specs.Finding.{Contains, IsInside, IsInnermost, IsInnermostAt, IsNarrowestAt}

same_extent : (a b : Extent) → a.start ≡ b.start → a.end ≡ b.end → a ≡ b
same_extent a b starts ends = ap₂ (λ (x y : ℕ). record { start = x; end = y }) starts ends

-- an extent inside another one that contains the offset too is narrower
inside_is_narrower : (a b : Extent) (offset : ℕ) → IsInside a b → Contains a offset → Contains b offset → b.end - b.start ≤ a.end - a.start → ⊥
inside_is_narrower a b offset inside in_a in_b wide =
    inside.2 (same_extent a b (omega (arith, inside.0, inside.1, in_a.0, in_a.1, in_b.0, in_b.1, wide)) (omega (arith, inside.0, inside.1, in_a.0, in_a.1, in_b.0, in_b.1, wide)))

pub narrowest_is_innermost : (records : List RecordView) (offset : ℕ) (found : Found) → IsNarrowestAt records records offset (Some found) → IsInnermostAt records offset (Some found.place)
narrowest_is_innermost records offset found n = (n.0, λ d. here (get_or records found.place d) (n.1 d))
  where
    here : (lazy : RecordView) → lazy.extent ≡ found.extent → IsInnermost records offset lazy
    here lazy same = (
      subst (λ (e : Extent). Contains e offset) (sym same) n.2,
      λ k d more inside contains. inside_is_narrower (get_or records k d).extent found.extent offset (subst (λ (e : Extent). IsInside (get_or records k d).extent e) same inside) contains n.2 (n.3 k d more contains),
    )
