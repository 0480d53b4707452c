use Rattle.std.proofs.Common.{◌+◌, ◌++◌, List, map, drop, refl, ◌∙◌, ap}
use Rattle.script_grammar.specs.declared.tree.Stmt.{Stmt}
use Rattle.script_grammar.specs.TreeLists as part
use Rattle.script_grammar.specs.TreeLists.{stmts_of, clauses_of}
use Rattle.script_grammar.specs.TreeOf.{stmt_of, clause_of}
use Rattle.script_grammar.proofs.PartEquations.{clause_of-fields}
use Rattle.scope_analysis.specs.DeclaredNames.{lexical_names, clauses_lexical_names}
use Rattle.scope_analysis.specs.Kept.{declarations_in}
use Rattle.scope_analysis.proofs.Appending.{step_on, all_done}
use Rattle.scope_analysis.proofs.names.push_clauses_lexical_names.Goals as goal

pub loop-clause-preserved : goal.loop-clause-preserved
loop-clause-preserved c = λ i.
    step_on (λ clauses. clauses_lexical_names (clauses_of (map (clause_of i) clauses))) c.args.clauses.now c.loop-clause.clause-index c.clause-item.result
    (declarations_in i c.loop-clause.names.items) (declarations_in i c.push_lexical_names.new.names.items)
    (lexical_names (stmts_of (map (stmt_of i) c.clause-item.result.items.items)))
    (declarations_in i c.args.names.now.items ++ clauses_lexical_names (clauses_of (map (clause_of i) c.args.clauses.now)))
    c.loop-clause-test.true c.clause-item.is
    (ap (λ (p : part.Clause). lexical_names (stmts_of p.items) ++ clauses_lexical_names (clauses_of (map (clause_of i) (drop (c.loop-clause.clause-index + 1) c.args.clauses.now))))
    (clause_of-fields i c.clause-item.result))
    (c.in_ok-push_lexical_names.ensures i
    ∙ ap (λ (items : List Stmt). declarations_in i c.loop-clause.names.items ++ lexical_names (stmts_of (map (stmt_of i) items))) c.deref.ensures.value)
    (c.loop-clause.invariant i)

pub returns : goal.returns
returns c = λ i.
    all_done (λ clauses. clauses_lexical_names (clauses_of (map (clause_of i) clauses))) c.args.clauses.now c.loop-clause.clause-index
    (declarations_in i c.loop-clause.names.items)
    (declarations_in i c.args.names.now.items ++ clauses_lexical_names (clauses_of (map (clause_of i) c.args.clauses.now)))
    c.loop-clause-test.false refl (c.loop-clause.invariant i)
