use Rattle.std.proofs.Common.{refl}
use Rattle.script_grammar.specs.Tree as model
use Rattle.script_grammar.specs.TreeLists.{items_of}
use Rattle.parse_skim_handler.proofs.Made.{expr-made}
use Rattle.parse_skim_handler.proofs.Meanings.{begun}
use Rattle.parse_skim_handler.proofs.StandingParts.{items-stand}
use Rattle.parse_skim_handler.proofs.handler.SkimmingHandler.make_array.Goals as goal

pub returns : goal.returns
returns c = λ i ts h. expr-made i c.in_ok-node.node (model.Array c.args.at (items_of ts) c.args._comma) _ _ c.in_ok-node.ensures (begun i (c.nothing.ensures i) (c.in_ok-kept.ensures i)) (items-stand i c.args.items.items ts h) (λ e k. (refl, refl))
