use Rattle.std.proofs.Common.{List, ◌+◌, ◌++◌, ◌∙◌, ap, map, drop, drop_of_length-le}
use Rattle.script_grammar.specs.declared.tree.Param.{Param}
use Rattle.script_grammar.specs.TreeLists as part
use Rattle.script_grammar.specs.TreeLists.{params_of, maybe_expr_of}
use Rattle.script_grammar.specs.TreeOf.{param_of}
use Rattle.script_grammar.proofs.PartEquations.{param_of-fields}
use Rattle.scope_analysis.specs.Functions.{inner_params, inner_maybe}
use Rattle.emit_exprs.proofs.Lists.{next_of}
use Rattle.scope_inner.proofs.FindRows.{going_begin, going_step, going_end}
use Rattle.scope_inner.proofs.parts.find_params.Goals as goal

pub loop-param-init : goal.loop-param-init
loop-param-init c = going_begin _ _ _

pub loop-param-preserved : goal.loop-param-preserved
loop-param-preserved c = going_step c.in_ok-find_maybe.ensures (λ i r. ap (λ (l : List Param). inner_params (params_of (map (param_of i) l)) r) (next_of c.args.params.now c.loop-param.param-index c.param-item.result c.loop-param-test.true c.param-item.is) ∙ ap (λ (q : part.Param). inner_maybe (maybe_expr_of q.value) r ++ inner_params (params_of (map (param_of i) (drop (c.loop-param.param-index + 1) c.args.params.now))) r) (param_of-fields i c.param-item.result)) c.loop-param.invariant

pub returns : goal.returns
returns c = going_end (λ i r. ap (λ (l : List Param). inner_params (params_of (map (param_of i) l)) r) (drop_of_length-le c.args.params.now c.loop-param-test.false)) c.loop-param.invariant
