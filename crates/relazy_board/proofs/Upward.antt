-- Functions around others have smaller numbers.
use Rattle.std.proofs.Common.{ℕ, ◌<◌, List}
use Rattle.compile_initial.specs.declared.InitialStencil.{InitialStencil}
use Rattle.compile_initial.specs.Initial.{IsInitialOf}
use Rattle.lazy_function.specs.Numbered.{IsNumberIn, around_in}
use Rattle.lazy_function.proofs.Numbered.{found_at}

abbrev pub Upward : InitialStencil → Type 0
Upward initial = (number : ℕ) → IsNumberIn initial number → (around_in initial number).number < number

pub upward : (bytes : List ℕ) (initial : InitialStencil) → IsInitialOf bytes initial → Upward initial
upward bytes initial is number n = (found_at bytes initial is number n).around.before
