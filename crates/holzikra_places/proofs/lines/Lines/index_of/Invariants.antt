use Rattle.std.proofs.Common.{◌<◌, ◌≤◌, ◌-◌, length, get_or}
use Rattle.holzikra_places.proofs.lines.Lines.index_of.Given as goal

abbrev pub invariant-loop-high : goal.invariant-loop-high
invariant-loop-high l =
    (l.low < l.high) × (l.high ≤ length l.self.starts.items)
    × (get_or l.self.starts.items l.low 0 ≤ l.offset)
    × (l.high < length l.self.starts.items → l.offset < get_or l.self.starts.items l.high 0)

abbrev pub decreases-loop-high : goal.decreases-loop-high
decreases-loop-high l = l.high - l.low
