use Rattle.script_grammar.specs.TreeOf.{clause_of}
use Rattle.parse_handlers.specs.Kept.{kept_clause}
use Rattle.parse_handlers.proofs.KeptLists.{converted-map}
use Rattle.parse_handlers.proofs.parts.clauses.Goals as goal

pub returns : goal.returns
returns c = converted-map _ kept_clause clause_of (λ n t h. h) c.args.nodes.items c.converted.result c.converted.ensures
