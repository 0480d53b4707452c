use Rattle.std.proofs.Common.{◌∙◌, ap}
use Rattle.script_grammar.specs.Tree as model
use Rattle.script_grammar.specs.TreeLists.{binds_of}
use Rattle.script_grammar.specs.Shows.{ShowBind}
use Rattle.parse_handlers.specs.Kept.{IsExpr, kept_bind}
use Rattle.parse_handlers.proofs.KeptLists.{map-shown}
use Rattle.parse_handlers.proofs.KeptShown.{bind_shown}
use Rattle.parse_handlers.proofs.full.FullHandler.make_binds.Goals as goal

pub returns : goal.returns
returns c = λ i bs h. c.binds-2.ensures i ∙ ap (λ xs. model.Binding c.args.decl (binds_of xs) c.args.semi) (c.in_ok-binds.ensures i ∙ map-shown (ShowBind i (IsExpr i)) (kept_bind i) (bind_shown i) c.args.binds.items bs h)
