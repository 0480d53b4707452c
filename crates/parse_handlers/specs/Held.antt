-- The functions that parts over syntax nodes hold, in the order of their fields.
use Rattle.std.specs.Prelude.{List, [], ◌++◌, Bool, true, false, not, ◌&&◌, Option, None, Some, is_none}
use Rattle.std.specs.List.{flat_map}
use Rattle.script_grammar.specs.declared.node.NodeArgs.{NodeArgs}
use Rattle.script_grammar.specs.declared.node.NodeOperand.{NodeOperand}
use Rattle.script_grammar.specs.declared.node.NodeTemplatePart.{NodeTemplatePart}
use Rattle.script_grammar.specs.declared.node.NodeTail.{NodeTail}
use Rattle.script_grammar.specs.declared.node.NodeTail.TheVariants as tails
use Rattle.script_grammar.specs.declared.node.NodeKey.{NodeKey}
use Rattle.script_grammar.specs.declared.node.NodeKey.TheVariants as keys
use Rattle.script_grammar.specs.declared.node.NodeFuncBody.{NodeFuncBody}
use Rattle.script_grammar.specs.declared.node.NodeFuncBody.TheVariants as bodies
use Rattle.script_grammar.specs.declared.node.NodeParam.{NodeParam}
use Rattle.script_grammar.specs.declared.node.NodeBind.{NodeBind}
use Rattle.script_grammar.specs.declared.node.NodeInit.{NodeInit}
use Rattle.script_grammar.specs.declared.node.NodeInit.TheVariants as inits
use Rattle.script_grammar.specs.declared.node.NodeEach.{NodeEach}
use Rattle.script_grammar.specs.declared.node.NodeEach.TheVariants as eaches
use Rattle.script_grammar.specs.declared.node.NodeClause.{NodeClause}
use Rattle.parse_handlers.specs.declared.found.FoundFunction.{FoundFunction}
use Rattle.parse_handlers.specs.declared.found.SyntaxNode.{SyntaxNode}
use Rattle.parse_handlers.specs.declared.found.SyntaxBody.{SyntaxBody}

abbrev pub held : SyntaxNode → List FoundFunction
held n = n.found.items

abbrev pub held_maybe : {A : Type 0} → (A → List FoundFunction) → Option A → List FoundFunction
held_maybe f None = []
held_maybe f (Some a) = f a

abbrev pub held_args : NodeArgs SyntaxNode → List FoundFunction
held_args n = flat_map held n.items.items

abbrev pub held_operand : NodeOperand SyntaxNode → List FoundFunction
held_operand n = n.value.found.items

abbrev pub held_part : NodeTemplatePart SyntaxNode → List FoundFunction
held_part n = n.value.found.items

abbrev pub held_tail : NodeTail SyntaxNode → List FoundFunction
held_tail (tails.Dot atom) = []
held_tail (tails.Index e) = e.found.items
held_tail (tails.Call n) = flat_map held n.items.items

abbrev pub held_key : NodeKey SyntaxNode → List FoundFunction
held_key (keys.Word name) = []
held_key (keys.Str name) = []
held_key (keys.Number at value) = []
held_key (keys.Computed e) = e.found.items

abbrev pub held_body : NodeFuncBody SyntaxNode SyntaxBody → List FoundFunction
held_body (bodies.Braced b) = []
held_body (bodies.Short e) = e.found.items
held_body (bodies.Passed) = []

-- whether a body stands in braces, read or passed over
abbrev pub has_braces : NodeFuncBody SyntaxNode SyntaxBody → Bool
has_braces (bodies.Braced b) = true
has_braces (bodies.Short e) = false
has_braces (bodies.Passed) = true

-- whether a parameter has neither an initializer nor a rest mark
abbrev pub is_plain : NodeParam SyntaxNode → Bool
is_plain n = is_none n.value && not n.rest

abbrev pub held_param : NodeParam SyntaxNode → List FoundFunction
held_param n = held_maybe held n.value

abbrev pub held_bind : NodeBind SyntaxNode → List FoundFunction
held_bind n = held_maybe held n.value

abbrev pub held_init : NodeInit SyntaxNode → List FoundFunction
held_init (inits.Nothing) = []
held_init (inits.Value e) = e.found.items
held_init (inits.Binds decl ns) = flat_map held_bind ns.items

abbrev pub held_each : NodeEach SyntaxNode → List FoundFunction
held_each (eaches.Target e) = e.found.items
held_each (eaches.Bind decl name) = []

abbrev pub held_clause : NodeClause SyntaxNode SyntaxNode → List FoundFunction
held_clause n = held_maybe held n.test ++ flat_map held n.items.items
