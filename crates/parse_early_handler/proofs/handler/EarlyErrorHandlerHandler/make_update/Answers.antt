use Rattle.std.proofs.Common.{refl}
use Rattle.script_grammar.specs.Tree as model
use Rattle.parse_early_handler.proofs.Made.{other-made}
use Rattle.parse_early_handler.proofs.Parting.{same-first}
use Rattle.parse_early_handler.proofs.Targets.{target-first, update-start}
use Rattle.parse_early_handler.proofs.handler.EarlyErrorHandlerHandler.make_update.Goals as goal

pub returns : goal.returns
returns c = λ i t h. other-made i c.other.result (model.Update c.args.at c.args._op c.args.prefix t) _ _ c.other.ensures refl (λ e k. (same-first c.target_first-first.ensures (target-first c.args.of t (h.holds e k)), update-start c.args.at c.args._op c.update_start-start.result c.args.prefix c.args.of t (h.holds e k) c.update_start-start.ensures))
