use Rattle.std.proofs.Common.{◌∙◌, ap, map}
use Rattle.script_grammar.specs.Tree as model
use Rattle.script_grammar.specs.TreeLists.{operands_of}
use Rattle.script_grammar.specs.TreeOf.{operand_of}
use Rattle.script_grammar.specs.Shows.{ShowOperand}
use Rattle.parse_handlers.specs.Kept.{IsExpr, kept_operand}
use Rattle.parse_handlers.proofs.KeptLists.{map-shown}
use Rattle.parse_handlers.proofs.KeptShown.{if_ok, operand_shown}
use Rattle.parse_handlers.proofs.full.FullHandler.make_binary.Goals as goal

pub returns : goal.returns
returns c = λ i t os h g. if_ok c.binary.result (λ made p. p i ∙ ap (λ x. model.Binary x (operands_of (map (operand_of i) c.in_ok-rest.rest.items))) h ∙ ap (λ xs. model.Binary t (operands_of xs)) (c.in_ok-rest.ensures i ∙ map-shown (ShowOperand (IsExpr i)) (kept_operand i) (operand_shown i) c.args.rest.items os g)) c.binary.ensures
