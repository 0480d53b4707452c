use Rattle.std.proofs.Common.{List, ◌+◌, ◌++◌, ◌∙◌, ap, map, drop, drop_of_length-le}
use Rattle.script_grammar.specs.declared.tree.Bind.{Bind}
use Rattle.script_grammar.specs.TreeLists as part
use Rattle.script_grammar.specs.TreeLists.{binds_of, maybe_expr_of}
use Rattle.script_grammar.specs.TreeOf.{bind_of}
use Rattle.script_grammar.proofs.PartEquations.{bind_of-fields}
use Rattle.scope_analysis.specs.Functions.{inner_binds, inner_maybe}
use Rattle.emit_exprs.proofs.Lists.{next_of}
use Rattle.scope_inner.proofs.FindRows.{going_begin, going_step, going_end}
use Rattle.scope_inner.proofs.parts.find_binds.Goals as goal

pub loop-bind-init : goal.loop-bind-init
loop-bind-init c = going_begin _ _ _

pub loop-bind-preserved : goal.loop-bind-preserved
loop-bind-preserved c = going_step c.in_ok-find_maybe.ensures (λ i r. ap (λ (l : List Bind). inner_binds (binds_of (map (bind_of i) l)) r) (next_of c.args.binds.now c.loop-bind.bind-index c.bind-item.result c.loop-bind-test.true c.bind-item.is) ∙ ap (λ (q : part.Bind). inner_maybe (maybe_expr_of q.value) r ++ inner_binds (binds_of (map (bind_of i) (drop (c.loop-bind.bind-index + 1) c.args.binds.now))) r) (bind_of-fields i c.bind-item.result)) c.loop-bind.invariant

pub returns : goal.returns
returns c = going_end (λ i r. ap (λ (l : List Bind). inner_binds (binds_of (map (bind_of i) l)) r) (drop_of_length-le c.args.binds.now c.loop-bind-test.false)) c.loop-bind.invariant
