use Rattle.std.proofs.Common.{◌≡◌, ℕ, false, Option, drop, length, map, nat_eq}
use Rattle.parse_track.specs.EarlyErrors.{has}
use Rattle.parse_track.specs.AtomTables.{entry}
use Rattle.parse_track.proofs.atom_table.put_back.Given as goal

abbrev pub invariant-loop-atom : goal.invariant-loop-atom
invariant-loop-atom g l =
    (tops : ℕ → Option g.row.V.Denot) → l.saved ≡ map tops l.atoms → ((y : ℕ) → has nat_eq y l.atoms ≡ false → entry l.fn.table.entries.items y ≡ tops y)
    → (y : ℕ) → has nat_eq y (drop (length l.yielded) l.atoms) ≡ false → entry l.table.entries.items y ≡ tops y
