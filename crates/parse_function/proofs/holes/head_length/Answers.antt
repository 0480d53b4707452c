use Rattle.std.proofs.Common.{sym}
use Rattle.script_grammar.specs.Matching.{kinds_of}
use Rattle.parse_function.proofs.HoleKinds.{pairs_of}
use Rattle.parse_function.proofs.holes.head_length.Goals as goal

pub params_length-requires-clause-pairs : goal.params_length-requires-clause-pairs
params_length-requires-clause-pairs c = pairs_of (kinds_of c.args.tokens.now) _ c.in_ok-brackets.ensures c.in-Some.closer (sym c.in-Some.ensures)
