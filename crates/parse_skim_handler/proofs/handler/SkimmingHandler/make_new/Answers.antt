use Rattle.std.proofs.Common.{refl}
use Rattle.script_grammar.specs.Tree as model
use Rattle.script_grammar.specs.TreeLists.{maybe_args_of}
use Rattle.parse_skim_handler.proofs.Made.{expr-made}
use Rattle.parse_skim_handler.proofs.Meanings.{from}
use Rattle.parse_skim_handler.proofs.Standing.{then-stands}
use Rattle.parse_skim_handler.proofs.StandingParts.{maybe_args-stand}
use Rattle.parse_skim_handler.proofs.handler.SkimmingHandler.make_new.Goals as goal

pub returns : goal.returns
returns c = λ i t a h q. expr-made i c.in_ok-node.node (model.New c.args.at t (maybe_args_of a)) _ _ c.in_ok-node.ensures (from i (c.of_expr.ensures i) (c.in_ok-kept.ensures i)) (then-stands i h.stands (maybe_args-stand i c.args.args a q)) (λ e k. (refl, refl))
