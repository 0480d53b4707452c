-- Extents by rising start.
use Rattle.std.specs.Prelude.{ℕ, ◌≤◌, List, [], ◌∷◌}
use Rattle.std.specs.Coded.{×_prop, Unit-prop, le_prop}
use Rattle.stencil_data.specs.declared.functions.Extent.{Extent}

-- no start is below the one before it, nor below this one
abbrev pub Rises : ℕ → List Extent → Type 0
Rises low [] = Unit {0}
Rises low (e ∷ es) = (low ≤ e.start) × Rises e.start es

-- it has one proof at most
pub Rises-prop : (low : ℕ) (es : List Extent) → IsProp (Rises low es)
Rises-prop low [] = Unit-prop
Rises-prop low (e ∷ es) = ×_prop le_prop (Rises-prop e.start es)
