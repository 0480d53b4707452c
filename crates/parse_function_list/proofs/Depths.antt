-- The depth of what was found in bodies.
use denote.Param.Weighed.{most}
use Rattle.std.proofs.Common.{◌≡◌, ◌+◌, ◌*◌, List, [], ◌∷◌, ◌++◌, arith, refl, ap}
use Rattle.std.specs.Prelude.{max}
use Rattle.parse_handlers.specs.declared.found.FoundFunction.{FoundFunction, size-FoundFunction}
use Rattle.parse_function_list.specs.declared.list.FoundBody.{FoundBody}
use Rattle.parse_function_list.specs.Weight.{depth, weight}

pub most_depth : (fs : List FoundFunction) → most size-FoundFunction fs ≡ depth fs
most_depth [] = refl
most_depth (f ∷ fs) = ap (max (size-FoundFunction f)) (most_depth fs)

pub weight_push : (bodies : List FoundBody) (body : FoundBody) → weight (bodies ++ body ∷ []) ≡ weight bodies + (3 * depth body.found.found.items + 4)
weight_push [] body = omega arith
weight_push (b ∷ bodies) body = let e = weight_push bodies body in omega (arith, e)
