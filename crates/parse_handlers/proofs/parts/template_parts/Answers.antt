use Rattle.script_grammar.specs.TreeOf.{part_of}
use Rattle.parse_handlers.specs.Kept.{kept_part}
use Rattle.parse_handlers.proofs.KeptLists.{converted-map}
use Rattle.parse_handlers.proofs.parts.template_parts.Goals as goal

pub returns : goal.returns
returns c = converted-map _ kept_part part_of (λ n t h. h) c.args.nodes.items c.converted.result c.converted.ensures
