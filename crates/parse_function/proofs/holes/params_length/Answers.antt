use Rattle.script_grammar.specs.Matching.{kinds_of}
use Rattle.parse_function.proofs.HoleKinds.{params_head, arrow_head}
use Rattle.parse_function.proofs.holes.params_length.Goals as goal

pub returns-then-is_mark : goal.returns-then-is_mark
returns-then-is_mark c = arrow_head (kinds_of c.args.tokens.now) c.requires.opens c.args.closer c.requires.pairs (c.is_mark.ensures c.if-is_mark.true)

pub returns-else-is_mark : goal.returns-else-is_mark
returns-else-is_mark c = params_head (kinds_of c.args.tokens.now) c.requires.opens c.args.closer c.requires.pairs
