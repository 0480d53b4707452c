use Rattle.script_grammar.specs.TreeOf.{bind_of}
use Rattle.parse_handlers.specs.Kept.{kept_bind}
use Rattle.parse_handlers.proofs.KeptLists.{converted-map}
use Rattle.parse_handlers.proofs.parts.binds.Goals as goal

pub returns : goal.returns
returns c = converted-map _ kept_bind bind_of (λ n t h. h) c.args.nodes.items c.converted.result c.converted.ensures
