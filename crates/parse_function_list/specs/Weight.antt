-- How much there is to walk over in bodies: the measure by which a walk ends.
use Rattle.std.specs.Prelude.{ℕ, ◌+◌, ◌*◌, max, List, [], ◌∷◌}
use Rattle.parse_handlers.specs.declared.found.FoundFunction.{FoundFunction, size-FoundFunction}
use Rattle.parse_function_list.specs.declared.list.FoundBody.{FoundBody}

-- the depth of the deepest function
abbrev pub depth : List FoundFunction → ℕ
depth [] = 0
depth (f ∷ fs) = max (size-FoundFunction f) (depth fs)

abbrev pub weight : List FoundBody → ℕ
weight [] = 0
weight (body ∷ bodies) = 3 * depth body.found.found.items + 4 + weight bodies
