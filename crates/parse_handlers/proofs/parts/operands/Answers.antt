use Rattle.script_grammar.specs.TreeOf.{operand_of}
use Rattle.parse_handlers.specs.Kept.{kept_operand}
use Rattle.parse_handlers.proofs.KeptLists.{converted-map}
use Rattle.parse_handlers.proofs.parts.operands.Goals as goal

pub returns : goal.returns
returns c = converted-map _ kept_operand operand_of (λ n t h. h) c.args.nodes.items c.converted.result c.converted.ensures
