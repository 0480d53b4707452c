use Rattle.std.specs.Str.Iter.{char_indices_rest, char_indices_offset}
use Rattle.unit_text.proofs.Decoding.{IsDecoded}
use Rattle.unit_text.proofs.unicode_points.Given as goal

abbrev pub invariant-loop-start : goal.invariant-loop-start
invariant-loop-start l = IsDecoded l.text (char_indices_rest l.start-iterator) (char_indices_offset l.start-iterator) l.points.items
