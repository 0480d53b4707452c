use Rattle.std.proofs.Common.{◌≡◌, ◌+◌, ◌^◌, ◌<◌, length, take}
use Rattle.compile_specs.specs.Shown as shown
use Rattle.emit_limit_laws.specs.Offsets.{OffsetsRise}
use Rattle.compile_numbers.proofs.numbering.numbers_of.Given as goal

abbrev pub invariant-loop-extent : goal.invariant-loop-extent
invariant-loop-extent l = OffsetsRise 0 l.starts → length l.starts + 1 < 2 ^ 32 → l.numbers.items ≡ shown.numbers_of l.starts (take l.extent-index l.extents)
