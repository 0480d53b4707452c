use Rattle.script_grammar.specs.TreeOf.{param_of}
use Rattle.parse_handlers.specs.Kept.{kept_param}
use Rattle.parse_handlers.proofs.KeptLists.{converted-map}
use Rattle.parse_handlers.proofs.parts.params.Goals as goal

pub returns : goal.returns
returns c = converted-map _ kept_param param_of (λ n t h. h) c.args.nodes.items c.converted.result c.converted.ensures
