-- Bounds on slots, places and chains, within which their numbers fit the operands of instructions:
-- hops and arguments below 2^16, slots below 2^24. This project's own choice.
use Rattle.std.specs.Prelude.{ℕ, ◌^◌, ◌<◌, ◌≤◌, List, [], ◌∷◌, length}
use Rattle.stencil_data.specs.declared.chains.LinkName.{LinkName}
use Rattle.stencil_data.specs.declared.scopes.Slot.{Slot}
use Rattle.stencil_data.specs.declared.scopes.Slot.TheVariants as slot
use Rattle.stencil_data.specs.declared.scopes.Place.{Place}
use Rattle.stencil_data.specs.declared.scopes.Place.TheVariants as place
use Rattle.stencil_data.specs.LinkView.{LinkView}

abbrev pub SlotFits : Slot → Type 0
SlotFits slot.Global = Unit {0}
SlotFits (slot.Arg index) = index < 2 ^ 16
SlotFits (slot.Frame index) = index < 2 ^ 24
SlotFits (slot.Env index) = index < 2 ^ 24
SlotFits slot.Callee = Unit {0}

abbrev pub PlaceFits : Place → Type 0
PlaceFits place.Global = Unit {0}
PlaceFits (place.Arg index) = index < 2 ^ 16
PlaceFits (place.Frame index kind) = index < 2 ^ 24
PlaceFits (place.Env hops index kind) = (hops < 2 ^ 16) × (index < 2 ^ 24)
PlaceFits place.Callee = Unit {0}

abbrev pub NamesFit : List LinkName → Type 0
NamesFit [] = Unit {0}
NamesFit (name ∷ names) = SlotFits name.slot × NamesFit names

abbrev pub LinksFit : List LinkView → Type 0
LinksFit [] = Unit {0}
LinksFit (link ∷ links) = NamesFit link.names × LinksFit links

-- a chain of at most this many links, all of whose slots fit
pub record ChainFits (limit : ℕ) (chain : List LinkView) : Type 0 where
  pub links : length chain ≤ limit
  pub slots : LinksFit chain
