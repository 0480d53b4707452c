-- A worked row of what parts stand for, computed.
use Rattle.std.proofs.Common.{◌≡◌, ℕ, List, [], ◌∷◌, Some, refl, lit<, true}
use Rattle.stencil_data.specs.declared.functions.FuncKind.TheVariants as func
use Rattle.stencil_data.specs.declared.scopes.BindKind.TheVariants as bind
use Rattle.stencil_data.specs.declared.scopes.ScopeKind.TheVariants as scope
use Rattle.stencil_data.specs.declared.scopes.Slot.TheVariants as slot
use Rattle.stencil_data.specs.Named.{NamedScope}
use Rattle.stencil_data.specs.StandsFor.{ScopesStandFor, RecordStandsFor, link_of}
use Rattle.stencil_data.specs.Views.{ScopeView, RecordView}

-- the texts `b`, `a` and `f`
abbrev texts : List (List ℕ)
texts = (98 ∷ []) ∷ (97 ∷ []) ∷ (102 ∷ []) ∷ []

-- a block with `a` in its environment and `b` in the frame
abbrev numbered : ScopeView
numbered = record {
  kind = scope.Lexical;
  parent = Some 0;
  bindings = record { atom = 1; kind = bind.Let; slot = slot.Env 0 } ∷ record { atom = 0; kind = bind.Const; slot = slot.Frame 2 } ∷ [];
  env_slots = 1;
}

abbrev named : NamedScope
named = record {
  kind = scope.Lexical;
  parent = Some 0;
  bindings = record { text = 97 ∷ []; kind = bind.Let; slot = slot.Env 0 } ∷ record { text = 98 ∷ []; kind = bind.Const; slot = slot.Frame 2 } ∷ [];
  env_slots = 1;
}

pub a_scope : ScopesStandFor texts (numbered ∷ []) (named ∷ [])
a_scope = record { within = ((lit< tt, (lit< tt, tt)), tt); are = refl }

-- its link has an environment
pub its_link : link_of named ≡ record { kind = scope.Lexical; env = true; names = named.bindings }
its_link = refl

-- a function `f` that closes over `a` of its scope 2
abbrev lazy : RecordView
lazy = record { extent = record { start = 10; end = 30 }; kind = func.Expression; name = Some 2; inner = 4 ∷ []; closed = record { scope = 2; atom = 1 } ∷ [] }

pub a_record : RecordStandsFor texts lazy (record { extent = record { start = 10; end = 30 }; kind = func.Expression; name = Some (102 ∷ []); inner = 4 ∷ []; closed = record { scope = 2; text = 97 ∷ [] } ∷ [] })
a_record = record { within = (lit< tt, (lit< tt, tt)); is = refl }
