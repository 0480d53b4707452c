use Rattle.std.proofs.Common.{false, refl}
use Rattle.script_grammar.specs.Tree as model
use Rattle.script_grammar.specs.TreeLists.{binds_of}
use Rattle.parse_skim_handler.proofs.Made.{stmt-made}
use Rattle.parse_skim_handler.proofs.Meanings.{begun}
use Rattle.parse_skim_handler.proofs.StandingParts.{binds-stand}
use Rattle.parse_skim_handler.proofs.handler.SkimmingHandler.make_binds.Goals as goal

pub returns : goal.returns
returns c = λ i bs h. stmt-made i c.in_ok-node.node (model.Binding c.args.decl (binds_of bs) c.args._semi) false c.in_ok-node.ensures refl refl (begun i (c.nothing.ensures i) (c.in_ok-kept.ensures i)) (λ top. binds-stand i c.args.decl c.args.binds.items bs h)
