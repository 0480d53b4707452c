use Rattle.std.proofs.Common.{◌∙◌, ap}
use Rattle.script_grammar.specs.Interpretation.{text_of}
use Rattle.script_grammar.specs.Tree as model
use Rattle.script_grammar.specs.TreeLists.{parts_of}
use Rattle.script_grammar.specs.Shows.{ShowPart}
use Rattle.parse_handlers.specs.Kept.{IsExpr, kept_part}
use Rattle.parse_handlers.proofs.KeptLists.{map-shown}
use Rattle.parse_handlers.proofs.KeptShown.{part_shown}
use Rattle.parse_handlers.proofs.full.FullHandler.make_template.Goals as goal

pub returns : goal.returns
returns c = λ i ps h. c.template.ensures i ∙ ap (λ xs. model.Template c.args.at (text_of i c.args.first) (parts_of xs)) (c.in_ok-parts.ensures i ∙ map-shown (ShowPart i (IsExpr i)) (kept_part i) (part_shown i) c.args.parts.items ps h)
