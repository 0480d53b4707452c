-- What is read of a slot.
use Rattle.std.proofs.Common.{◌≡◌, ◌∙◌, ℕ, true, Option, Some, None, is_some, sym, ap}
use Rattle.std.specs.Arc.{arc_value}
use Rattle.lazy_compile.specs.declared.Delazified.{Delazified}
use Rattle.relazy_board.specs.declared.place.Kept.{Kept}
use Rattle.relazy_board.specs.Held.{read_by}

-- where something is there, a claim with the right to read reads it
pub reads : (right : ℕ) (value : Option (Option Kept)) (there : Option Kept) → right ≡ 1 → Some there ≡ value → is_some there ≡ true → (made : Delazified) × (read_by right value ≡ Some made)
reads right value None one is some = absurd (cc)
reads right value (Some kept) one is some = (arc_value kept.made, ap (λ (n : ℕ). read_by n value) one ∙ ap (read_by 1) (sym is))
