use Rattle.parse_function.proofs.HoleKinds.{name_head}
use Rattle.script_grammar.specs.Matching.{kinds_of}
use Rattle.parse_function.proofs.holes.name_length.Goals as goal

pub returns-then-is_mark : goal.returns-then-is_mark
returns-then-is_mark c = name_head (kinds_of c.args.tokens.now) c.requires (c.is_mark.ensures c.if-is_mark.true)
