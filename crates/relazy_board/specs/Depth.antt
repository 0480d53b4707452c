-- How deep a function stands in its script: how many functions are around it, and one more. This project's own choice.
use Rattle.std.specs.Prelude.{ℕ, zero, suc}
use Rattle.compile_initial.specs.declared.InitialStencil.{InitialStencil}
use Rattle.lazy_function.specs.Numbered.{around_in}

-- the function of this number with those around it, as far as `most` reaches; the script is no function
abbrev pub depth_within : (most : ℕ) → InitialStencil → (number : ℕ) → ℕ
depth_within zero initial number = 0
depth_within (suc most) initial zero = 0
depth_within (suc most) initial (suc place) = suc (depth_within most initial (around_in initial (suc place)).number)

-- each function around another has a smaller number
abbrev pub depth_of : InitialStencil → (number : ℕ) → ℕ
depth_of initial number = depth_within number initial number
