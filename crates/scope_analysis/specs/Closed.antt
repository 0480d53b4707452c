-- Which names of a function, by its scopes, functions inside it close over; and the list of them that is left while its
-- scopes are made. This project's own choice.
use Rattle.std.specs.Prelude.{ℕ, ◌+◌, Bool, true, false, ◌&&◌, nat_eq, bytes_eq, if◌then◌else◌, not, List, [], ◌∷◌, ◌++◌, map, filter, drop}
use Rattle.std.specs.List.{list_any}
use Rattle.stencil_data.specs.declared.chains.LinkName.{LinkName}
use Rattle.stencil_data.specs.declared.records.ClosedName.{ClosedName}
use Rattle.stencil_data.specs.declared.scopes.Slot.{Slot}
use Rattle.stencil_data.specs.declared.scopes.Slot.TheVariants as slot
use Rattle.stencil_data.specs.Named.{NamedScope, NamedClosed}
use Rattle.stencil_data.specs.StandsFor.{named_closed}
use Rattle.scope_analysis.specs.DeclaredNames.{Text}

-- a binding outside the global scope has an environment slot where a function inside finds it
abbrev pub is_env : Slot → Bool
is_env slot.Global = false
is_env (slot.Arg index) = false
is_env (slot.Frame index) = false
is_env (slot.Env index) = true
is_env slot.Callee = false

-- of the bindings of the scope with this number
abbrev pub closed_bindings : ℕ → List LinkName → List NamedClosed
closed_bindings scope [] = []
closed_bindings scope (b ∷ bs) = (if is_env b.slot then record { scope = scope; text = b.text } ∷ [] else []) ++ closed_bindings scope bs

-- of these scopes, numbered from here on
abbrev pub closed_from : ℕ → List NamedScope → List NamedClosed
closed_from number [] = []
closed_from number (s ∷ ss) = closed_bindings number s.bindings ++ closed_from (number + 1) ss

-- The names of a function's scopes, the global one left out, that functions inside it close over: in order of scope, and
-- then of the scope's bindings.
abbrev pub closed_over : List NamedScope → List NamedClosed
closed_over scopes = closed_from 0 scopes

-- what is left of the closed names from a place on
abbrev pub named_left : List (List ℕ) → List ClosedName → ℕ → List NamedClosed
named_left texts closed place = map (named_closed texts) (drop place closed)

-- the first of them is this name of this scope
abbrev pub first_is : ℕ → Text → List NamedClosed → Bool
first_is scope text [] = false
first_is scope text (c ∷ cs) = nat_eq c.scope scope && bytes_eq c.text text

-- the closed names of the scopes inside the global one
abbrev pub inside_global : List ClosedName → List ClosedName
inside_global closed = filter (λ (c : ClosedName). not (nat_eq c.scope 0)) closed

-- the name of this scope is one of them
abbrev pub has_closed : ℕ → Text → List NamedClosed → Bool
has_closed scope text closed = list_any (λ (c : NamedClosed). nat_eq c.scope scope && bytes_eq c.text text) closed
