use Rattle.std.proofs.Common.{ap}
use Rattle.script_grammar.specs.TreeLists.{stmts_of}
use Rattle.parse_handlers.proofs.KeptShown.{stmts_shown}
use Rattle.parse_handlers.proofs.full.FullHandler.body.Goals as goal

pub returns : goal.returns
returns c = λ i ss h. ap stmts_of (stmts_shown i c.args.items.items ss h)
