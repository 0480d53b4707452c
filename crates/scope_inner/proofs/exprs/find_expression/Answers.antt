use Rattle.std.proofs.Common.{sym, ◌∙◌, ap}
use Rattle.script_grammar.specs.Tree.{Function}
use Rattle.script_grammar.specs.TreeOf.{func_of}
use Rattle.script_grammar.proofs.PartEquations.{func_of-fields}
use Rattle.scope_analysis.specs.Functions.{expression_kind, function_form, named_inner}
use Rattle.stencil_data.specs.declared.functions.FuncKind.{FuncKind}
use Rattle.scope_inner.proofs.FindRows.{found_as}
use Rattle.scope_inner.proofs.exprs.find_expression.Goals as goal

pub returns : goal.returns
returns c = found_as (λ i r. ap (λ (kind : FuncKind). named_inner kind (func_of i c.args.func.now) r) (c.expression_kind.ensures ∙ sym (ap (λ (f : Function). expression_kind (function_form f)) (func_of-fields i c.args.func.now)))) c.in_ok-find_named.ensures
