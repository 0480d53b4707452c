use Rattle.std.proofs.Common.{refl}
use Rattle.script_grammar.specs.Tree as model
use Rattle.parse_skim_handler.proofs.Made.{expr-made}
use Rattle.parse_skim_handler.proofs.StandingFunctions.{named-stands}
use Rattle.parse_skim_handler.proofs.handler.SkimmingHandler.make_func.Goals as goal

pub returns : goal.returns
returns c = λ i f h. expr-made i c.in_ok-node.node (model.Func c.args.at f) _ _ c.in_ok-node.ensures (c.in_ok-kept.ensures i) (named-stands i c.args.func f h) (λ e k. (refl, refl))
