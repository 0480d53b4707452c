-- What a part stands for, as one value and a fact of it.
use Rattle.std.proofs.Common.{Option, Some, None, refl, subst}
use Rattle.script_grammar.specs.declared.node.NodeTemplatePart.{NodeTemplatePart}
use Rattle.script_grammar.specs.declared.node.NodeOperand.{NodeOperand}
use Rattle.script_grammar.specs.Interpretation.{Interpretation, text_of}
use Rattle.script_grammar.specs.Shows.{ShowMaybe, MaybeOf, ShowPart, PartOf, ShowOperand, OperandOf}
use Rattle.script_grammar.specs.Tree.{Expr}
use Rattle.script_grammar.specs.TreeLists.{Part, Operand}

pub maybe_shown : {E A : Type 0} (shows : E → A → Type 0) (n : Option E) (k : Option A → Type 0) → MaybeOf shows n k → (x : Option A) × ShowMaybe shows n x × k x
maybe_shown shows None k h = (None, tt, h)
maybe_shown shows (Some e) k h = (Some h.0, h.1, h.2)

pub maybe_stands : {E A : Type 0} (shows : E → A → Type 0) (n : Option E) (x : Option A) (k : Option A → Type 0) → ShowMaybe shows n x → k x → MaybeOf shows n k
maybe_stands shows None None k h f = f
maybe_stands shows None (Some x) k h f = absurd h
maybe_stands shows (Some e) None k h f = absurd h
maybe_stands shows (Some e) (Some x) k h f = (x, h, f)

pub part_shown : {E : Type 0} (i : Interpretation) (shows : E → Expr → Type 0) (n : NodeTemplatePart E) (k : Part → Type 0) → PartOf i shows n k → (x : Part) × ShowPart i shows n x × k x
part_shown i shows n k h = (record { value = h.0; behind = text_of i n.after }, (h.0, h.1, refl), h.2)

pub part_stands : {E : Type 0} (i : Interpretation) (shows : E → Expr → Type 0) (n : NodeTemplatePart E) (x : Part) (k : Part → Type 0) → ShowPart i shows n x → k x → PartOf i shows n k
part_stands i shows n x k h f = (h.0, h.1, subst k h.2 f)

pub operand_shown : {E : Type 0} (shows : E → Expr → Type 0) (n : NodeOperand E) (k : Operand → Type 0) → OperandOf shows n k → (x : Operand) × ShowOperand shows n x × k x
operand_shown shows n k h = (record { op = n.op; is_word = n.is_word; value = h.0 }, (h.0, h.1, refl), h.2)
