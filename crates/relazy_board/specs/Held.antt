-- What is read of a slot, and what a reading holds. This project's own choice.
use Rattle.std.specs.Prelude.{ℕ, zero, suc, Option, Some, None}
use Rattle.std.specs.Arc.{arc_value}
use Rattle.lazy_compile.specs.declared.Delazified.{Delazified}
use Rattle.relazy_board.specs.declared.place.Kept.{Kept}
use Rattle.relazy_board.specs.declared.reading.Held.{Held}
use Rattle.relazy_board.specs.declared.reading.Held.TheVariants.{Slot, Own}

-- what a claim on a slot reads: with the right to read, what is there
abbrev pub read_by : (right : ℕ) → Option (Option Kept) → Option Delazified
read_by (suc zero) (Some (Some kept)) = Some (arc_value kept.made)
read_by _ _ = None

abbrev pub held_by : Held → Option Delazified
held_by (Slot claim) = read_by claim.right claim.value
held_by (Own made) = Some (arc_value made)
