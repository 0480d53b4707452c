use Rattle.std.proofs.Common.{List, map, refl, sym, ap, ◌∙◌, arith}
use Rattle.script_grammar.specs.declared.tree.Stmt.{Stmt}
use Rattle.script_grammar.specs.declared.tree.Clause.{Clause}
use Rattle.script_grammar.specs.TreeLists as part
use Rattle.script_grammar.specs.TreeLists.{binds_of, stmts_of, clauses_of}
use Rattle.script_grammar.specs.TreeOf.{stmt_of, clause_of}
use Rattle.script_grammar.proofs.PartEquations.{clause_of-fields}
use Rattle.scope_analysis.specs.DeclaredNames.{has_text, texts_of, lexical_names, clauses_lexical_names}
use Rattle.scope_analysis.specs.Kept.{under}
use Rattle.scope_functions.proofs.OwnUses.{has_either_named}
use Rattle.scope_functions.proofs.Turns.{turn_found, turn_on, turns_end}
use Rattle.scope_functions.proofs.declared.is_lexical_in_clauses.Goals as goal

pub returns-then-is_lexical : goal.returns-then-is_lexical
returns-then-is_lexical c = λ bodies.
    turn_found (λ (ys : List Clause). texts_of (clauses_lexical_names (clauses_of (map (clause_of (under c.args.wanted.now.texts.now bodies)) ys)))) (λ (x : Clause). texts_of (lexical_names (stmts_of (clause_of (under c.args.wanted.now.texts.now bodies) x).items))) c.args.wanted.now.units.now (λ (x : Clause) (xs : List Clause). has_either_named (lexical_names (stmts_of (clause_of (under c.args.wanted.now.texts.now bodies) x).items)) (clauses_lexical_names (clauses_of (map (clause_of (under c.args.wanted.now.texts.now bodies)) xs))) c.args.wanted.now.units.now) c.args.clauses.now c.loop-clause.clause-index c.clause-item.result c.is_lexical.result (omega arith) c.clause-item.is (c.is_lexical.ensures bodies ∙ (ap (λ (xs : List Stmt). has_text (texts_of (lexical_names (stmts_of (map (stmt_of (under c.args.wanted.now.texts.now bodies)) xs)))) c.args.wanted.now.units.now) c.deref.ensures.value ∙ ap (λ (p : part.Clause). has_text (texts_of (lexical_names (stmts_of p.items))) c.args.wanted.now.units.now) (sym (clause_of-fields (under c.args.wanted.now.texts.now bodies) c.clause-item.result)))) (c.loop-clause.invariant bodies) c.if-is_lexical.true

pub loop-clause-preserved : goal.loop-clause-preserved
loop-clause-preserved c = λ bodies.
    turn_on (λ (ys : List Clause). texts_of (clauses_lexical_names (clauses_of (map (clause_of (under c.args.wanted.now.texts.now bodies)) ys)))) (λ (x : Clause). texts_of (lexical_names (stmts_of (clause_of (under c.args.wanted.now.texts.now bodies) x).items))) c.args.wanted.now.units.now (λ (x : Clause) (xs : List Clause). has_either_named (lexical_names (stmts_of (clause_of (under c.args.wanted.now.texts.now bodies) x).items)) (clauses_lexical_names (clauses_of (map (clause_of (under c.args.wanted.now.texts.now bodies)) xs))) c.args.wanted.now.units.now) c.args.clauses.now c.loop-clause.clause-index c.clause-item.result c.is_lexical.result (omega arith) c.clause-item.is (c.is_lexical.ensures bodies ∙ (ap (λ (xs : List Stmt). has_text (texts_of (lexical_names (stmts_of (map (stmt_of (under c.args.wanted.now.texts.now bodies)) xs)))) c.args.wanted.now.units.now) c.deref.ensures.value ∙ ap (λ (p : part.Clause). has_text (texts_of (lexical_names (stmts_of p.items))) c.args.wanted.now.units.now) (sym (clause_of-fields (under c.args.wanted.now.texts.now bodies) c.clause-item.result)))) (c.loop-clause.invariant bodies) c.if-is_lexical.false

pub returns : goal.returns
returns c = λ bodies.
    turns_end (λ (ys : List Clause). texts_of (clauses_lexical_names (clauses_of (map (clause_of (under c.args.wanted.now.texts.now bodies)) ys)))) c.args.wanted.now.units.now refl c.args.clauses.now c.loop-clause.clause-index (omega arith) (c.loop-clause.invariant bodies)
