-- The parts of a function's text that hold what stands in some bodies.
use Rattle.scan_skip_laws.specs.Spans.{Span}
use Rattle.grammar_skip_laws.specs.Holes.{Hole}

abbrev pub span_of : Hole → Span
span_of hole = record { from = hole.from; to = hole.to }
