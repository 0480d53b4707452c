use Rattle.std.proofs.Common.{refl}
use Rattle.script_grammar.specs.Interpretation.{text_of}
use Rattle.script_grammar.specs.Tree as model
use Rattle.script_grammar.specs.TreeLists.{parts_of}
use Rattle.parse_skim_handler.proofs.Made.{expr-made}
use Rattle.parse_skim_handler.proofs.Meanings.{begun}
use Rattle.parse_skim_handler.proofs.StandingParts.{parts-stand}
use Rattle.parse_skim_handler.proofs.handler.SkimmingHandler.make_template.Goals as goal

pub returns : goal.returns
returns c = λ i ps h. expr-made i c.in_ok-node.node (model.Template c.args.at (text_of i c.args._first) (parts_of ps)) _ _ c.in_ok-node.ensures (begun i (c.nothing.ensures i) (c.in_ok-kept.ensures i)) (parts-stand i c.args.parts.items ps h) (λ e k. (refl, refl))
