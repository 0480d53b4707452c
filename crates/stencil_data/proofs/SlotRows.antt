-- Worked rows of the definition of slots, each computed.
use Rattle.std.proofs.Common.{◌≡◌, true, false, List, [], ◌∷◌, refl}
use Rattle.stencil_data.specs.declared.scopes.BindKind.{BindKind}
use Rattle.stencil_data.specs.declared.scopes.BindKind.TheVariants as bind
use Rattle.stencil_data.specs.declared.scopes.ScopeKind.TheVariants as scope
use Rattle.stencil_data.specs.declared.scopes.Slot.TheVariants as slot
use Rattle.stencil_data.specs.Slots.{Unplaced, slots, frame_after, env_slots}

abbrev free : BindKind → Unplaced
free kind = record { kind = kind; closed = false }

abbrev found : BindKind → Unplaced
found kind = record { kind = kind; closed = true }

-- `function (a, b, c) { var x, y; .. arguments .. this .. }`, where inner functions find b and y
abbrev parameters : List Unplaced
parameters =
    free bind.Param ∷ found bind.Param ∷ free bind.Param ∷ free bind.Var ∷ found bind.Var ∷ free bind.Arguments ∷ found bind.This ∷ []

pub of_a_function : slots scope.Function 0 parameters ≡ slot.Arg 0 ∷ slot.Env 0 ∷ slot.Arg 2 ∷ slot.Frame 0 ∷ slot.Env 1 ∷ slot.Frame 1 ∷ slot.Env 2 ∷ []
of_a_function = refl

pub leaves_two : frame_after scope.Function 0 parameters ≡ 2
leaves_two = refl

pub three_slots : env_slots scope.Function parameters ≡ 3
three_slots = refl

-- a block inside it
pub of_a_block : slots scope.Lexical 2 (free bind.Let ∷ found bind.Const ∷ free bind.Function ∷ []) ≡ slot.Frame 2 ∷ slot.Env 0 ∷ slot.Frame 3 ∷ []
of_a_block = refl

-- the own name of a function expression, used by itself alone and by an inner function
pub a_callee : slots scope.StrictNamedLambda 0 (free bind.Callee ∷ []) ≡ slot.Callee ∷ []
a_callee = refl

pub a_found_callee : slots scope.StrictNamedLambda 0 (found bind.Callee ∷ []) ≡ slot.Env 0 ∷ []
a_found_callee = refl

-- the script: no frame and no environment
pub of_the_script : slots scope.Global 0 (free bind.Var ∷ found bind.Let ∷ []) ≡ slot.Global ∷ slot.Global ∷ []
of_the_script = refl

pub no_environment : env_slots scope.Global (free bind.Var ∷ found bind.Let ∷ []) ≡ 0
no_environment = refl
