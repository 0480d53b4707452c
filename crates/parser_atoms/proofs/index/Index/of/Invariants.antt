use Rattle.std.proofs.Common.{◌<◌, length}
use Rattle.parser_atoms.specs.Indexed.{IsIndexed}
use Rattle.parser_atoms.proofs.index.Index.of.Given as goal

abbrev pub invariant-loop-place : goal.invariant-loop-place
invariant-loop-place l = IsIndexed l.texts.items l.place l.index.cells.entries.items l.index.others × (0 < length l.index.cells.entries.items)
