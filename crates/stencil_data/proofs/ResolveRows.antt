-- Worked rows of the definition of `resolve`, each computed.
use Rattle.std.proofs.Common.{◌≡◌, ℕ, true, false, List, [], ◌∷◌, refl}
use Rattle.stencil_data.specs.declared.chains.LinkName.{LinkName}
use Rattle.stencil_data.specs.declared.scopes.BindKind.{BindKind}
use Rattle.stencil_data.specs.declared.scopes.BindKind.TheVariants as bind
use Rattle.stencil_data.specs.declared.scopes.ScopeKind.TheVariants as scope
use Rattle.stencil_data.specs.declared.scopes.Slot.{Slot}
use Rattle.stencil_data.specs.declared.scopes.Slot.TheVariants as slot
use Rattle.stencil_data.specs.declared.scopes.Place.TheVariants as place
use Rattle.stencil_data.specs.LinkView.{LinkView}
use Rattle.stencil_data.specs.Resolve.{resolve, environment_count}

-- the text of one letter, given by its code
abbrev letter : ℕ → List ℕ
letter code = code ∷ []

abbrev named : ℕ → BindKind → Slot → LinkName
named code kind where_ = record { text = letter code; kind = kind; slot = where_ }

-- `var g; function (a, b) { let x; { let y, z; .. } }`, where inner functions find b, x and z: the chain
-- inside the block, innermost first
abbrev chain : List LinkView
chain =
    record { kind = scope.Lexical; env = true; names = named 121 bind.Let (slot.Frame 1) ∷ named 122 bind.Let (slot.Env 0) ∷ [] } ∷
    record { kind = scope.FunctionLexical; env = true; names = named 120 bind.Let (slot.Env 0) ∷ [] } ∷
    record { kind = scope.Function; env = true; names = named 97 bind.Param (slot.Arg 0) ∷ named 98 bind.Param (slot.Env 0) ∷ [] } ∷
    record { kind = scope.Global; env = false; names = named 103 bind.Var slot.Global ∷ [] } ∷ []

pub three_environments : environment_count chain ≡ 3
three_environments = refl

-- y is in the frame, z in the innermost environment, x one environment further out, b two
pub in_frame : resolve chain (letter 121) ≡ place.Frame 1 bind.Let
in_frame = refl

pub in_own_environment : resolve chain (letter 122) ≡ place.Env 0 0 bind.Let
in_own_environment = refl

pub one_out : resolve chain (letter 120) ≡ place.Env 1 0 bind.Let
one_out = refl

pub two_out : resolve chain (letter 98) ≡ place.Env 2 0 bind.Param
two_out = refl

pub an_argument : resolve chain (letter 97) ≡ place.Arg 0
an_argument = refl

-- a global name, and one that is declared nowhere
pub a_global : resolve chain (letter 103) ≡ place.Global
a_global = refl

pub not_declared : resolve chain (letter 104) ≡ place.Global
not_declared = refl
