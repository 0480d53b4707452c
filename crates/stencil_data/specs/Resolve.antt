-- Where a name lives, seen from a place of the source: the walk along the scopes around it from the
-- innermost one out, as ECMA-262 resolves an identifier reference along environment records
-- (clause 9.1.2.1, GetIdentifierReference). How environments are counted is this project's own choice.
use Rattle.std.specs.Prelude.{ℕ, ◌+◌, Bool, true, false, if◌then◌else◌, bytes_eq, List, [], ◌∷◌, find, sum_by, Option, Some, None}
use Rattle.stencil_data.specs.declared.chains.LinkName.{LinkName}
use Rattle.stencil_data.specs.declared.scopes.ScopeKind.{ScopeKind}
use Rattle.stencil_data.specs.declared.scopes.ScopeKind.TheVariants as scope
use Rattle.stencil_data.specs.declared.scopes.BindKind.{BindKind}
use Rattle.stencil_data.specs.declared.scopes.Slot.{Slot}
use Rattle.stencil_data.specs.declared.scopes.Slot.TheVariants as slot
use Rattle.stencil_data.specs.declared.scopes.Place.{Place}
use Rattle.stencil_data.specs.declared.scopes.Place.TheVariants as place
use Rattle.stencil_data.specs.LinkView.{LinkView}

abbrev pub is_global : ScopeKind → Bool
is_global scope.Global = true
is_global scope.Function = false
is_global scope.FunctionLexical = false
is_global scope.Lexical = false
is_global scope.SimpleCatch = false
is_global scope.StrictNamedLambda = false
is_global scope.FunctionBodyVar = false

-- the environments of a link: one, or none
abbrev pub environments_of : LinkView → ℕ
environments_of link = if link.env then 1 else 0

-- the environments of a chain
abbrev pub environment_count : List LinkView → ℕ
environment_count chain = sum_by environments_of chain

-- the first binding of a name in one scope
abbrev pub first_named : List ℕ → List LinkName → Option LinkName
first_named name names = find (λ binding. bytes_eq binding.text name) names

-- the bindings of the innermost scope of a chain
abbrev pub innermost_names : List LinkView → List LinkName
innermost_names [] = []
innermost_names (link ∷ outer) = link.names

-- a slot, seen from a use that passes this many environments before the slot's own
abbrev pub place_of : ℕ → BindKind → Slot → Place
place_of hops kind slot.Global = place.Global
place_of hops kind (slot.Arg index) = place.Arg index
place_of hops kind (slot.Frame index) = place.Frame index kind
place_of hops kind (slot.Env index) = place.Env hops index kind
place_of hops kind slot.Callee = place.Callee

-- the place of this binding, or else what the scopes further out give
abbrev pub place_or : ℕ → Option LinkName → Place → Place
place_or hops None further = further
place_or hops (Some binding) further = place_of hops binding.kind binding.slot

-- the same for a use that has passed this many environments
abbrev pub resolve_beyond : ℕ → List LinkView → List ℕ → Place
resolve_beyond hops [] name = place.Global
resolve_beyond hops (link ∷ outer) name =
    if is_global link.kind then place.Global else place_or hops (first_named name link.names)
    (resolve_beyond (hops + environments_of link) outer name)

-- The place of the first binding of this name on the chain; the hops are the environments of the
-- scopes inside the binding's own. Global where the global scope is reached.
abbrev pub resolve : List LinkView → List ℕ → Place
resolve chain name = resolve_beyond 0 chain name
