use Rattle.std.proofs.Common.{List, map, refl, arith}
use Rattle.script_grammar.specs.declared.tree.Stmt.{Stmt}
use Rattle.script_grammar.specs.TreeLists.{stmts_of}
use Rattle.script_grammar.specs.TreeOf.{stmt_of}
use Rattle.scope_analysis.specs.DeclaredNames.{texts_of, top_lexical_name, top_lexical_names}
use Rattle.scope_analysis.specs.Kept.{under}
use Rattle.scope_functions.proofs.OwnUses.{has_either_named}
use Rattle.scope_functions.proofs.Turns.{turn_found, turn_on, turns_end}
use Rattle.scope_functions.proofs.declared.is_top_lexical.Goals as goal

pub returns-then-is_top_lexical_name : goal.returns-then-is_top_lexical_name
returns-then-is_top_lexical_name c = λ bodies.
    turn_found (λ (ys : List Stmt). texts_of (top_lexical_names (stmts_of (map (stmt_of (under c.args.wanted.now.texts.now bodies)) ys)))) (λ (x : Stmt). texts_of (top_lexical_name (stmt_of (under c.args.wanted.now.texts.now bodies) x))) c.args.wanted.now.units.now (λ (x : Stmt) (xs : List Stmt). has_either_named (top_lexical_name (stmt_of (under c.args.wanted.now.texts.now bodies) x)) (top_lexical_names (stmts_of (map (stmt_of (under c.args.wanted.now.texts.now bodies)) xs))) c.args.wanted.now.units.now) c.args.items.now c.loop-item.item-index c.item-item.result c.is_top_lexical_name.result (omega arith) c.item-item.is (c.is_top_lexical_name.ensures bodies) (c.loop-item.invariant bodies) c.if-is_top_lexical_name.true

pub loop-item-preserved : goal.loop-item-preserved
loop-item-preserved c = λ bodies.
    turn_on (λ (ys : List Stmt). texts_of (top_lexical_names (stmts_of (map (stmt_of (under c.args.wanted.now.texts.now bodies)) ys)))) (λ (x : Stmt). texts_of (top_lexical_name (stmt_of (under c.args.wanted.now.texts.now bodies) x))) c.args.wanted.now.units.now (λ (x : Stmt) (xs : List Stmt). has_either_named (top_lexical_name (stmt_of (under c.args.wanted.now.texts.now bodies) x)) (top_lexical_names (stmts_of (map (stmt_of (under c.args.wanted.now.texts.now bodies)) xs))) c.args.wanted.now.units.now) c.args.items.now c.loop-item.item-index c.item-item.result c.is_top_lexical_name.result (omega arith) c.item-item.is (c.is_top_lexical_name.ensures bodies) (c.loop-item.invariant bodies) c.if-is_top_lexical_name.false

pub returns : goal.returns
returns c = λ bodies.
    turns_end (λ (ys : List Stmt). texts_of (top_lexical_names (stmts_of (map (stmt_of (under c.args.wanted.now.texts.now bodies)) ys)))) c.args.wanted.now.units.now refl c.args.items.now c.loop-item.item-index (omega arith) (c.loop-item.invariant bodies)
