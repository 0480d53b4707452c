use Rattle.script_grammar.specs.TreeOf.{tail_of}
use Rattle.parse_handlers.specs.Kept.{kept_tail}
use Rattle.parse_handlers.proofs.KeptLists.{converted-map}
use Rattle.parse_handlers.proofs.parts.tails.Goals as goal

pub returns : goal.returns
returns c = converted-map _ kept_tail tail_of (λ n t h. h) c.args.nodes.items c.converted.result c.converted.ensures
