-- That the slots of a chain fit has one proof at most.
use Rattle.std.specs.Prelude.{List, [], ◌∷◌}
use Rattle.std.specs.Coded.{×_prop, Unit-prop, le_prop}
use Rattle.stencil_data.specs.declared.chains.LinkName.{LinkName}
use Rattle.stencil_data.specs.declared.scopes.Slot.{Slot}
use Rattle.stencil_data.specs.declared.scopes.Slot.TheVariants as slot
use Rattle.stencil_data.specs.LinkView.{LinkView}
use Rattle.stencil_data.specs.Fits.{SlotFits, NamesFit, LinksFit}

pub SlotFits-prop : (s : Slot) → IsProp (SlotFits s)
SlotFits-prop slot.Global = Unit-prop
SlotFits-prop (slot.Arg index) = le_prop
SlotFits-prop (slot.Frame index) = le_prop
SlotFits-prop (slot.Env index) = le_prop
SlotFits-prop slot.Callee = Unit-prop

pub NamesFit-prop : (names : List LinkName) → IsProp (NamesFit names)
NamesFit-prop [] = Unit-prop
NamesFit-prop (n ∷ ns) = ×_prop (SlotFits-prop n.slot) (NamesFit-prop ns)

pub LinksFit-prop : (links : List LinkView) → IsProp (LinksFit links)
LinksFit-prop [] = Unit-prop
LinksFit-prop (l ∷ ls) = ×_prop (NamesFit-prop l.names) (LinksFit-prop ls)
