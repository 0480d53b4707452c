use Rattle.std.proofs.Common.{◌∙◌, sym, ap}
use Rattle.relazy_board.specs.Held.{held_by}
use Rattle.relazy_board.proofs.reading.Reading.value.Goals as goal

pub read-requires : goal.read-requires
read-requires c = (c.self.inside.made.value, sym (ap held_by c.in-Slot.is) ∙ c.self.invariant)
