use Rattle.std.proofs.Common.{List, map, refl, arith}
use Rattle.script_grammar.specs.declared.tree.Stmt.{Stmt}
use Rattle.script_grammar.specs.TreeLists.{stmts_of}
use Rattle.script_grammar.specs.TreeOf.{stmt_of}
use Rattle.scope_analysis.specs.DeclaredNames.{top_var_names_in, all_top_var_names}
use Rattle.scope_analysis.specs.Kept.{under}
use Rattle.scope_functions.proofs.OwnUses.{has_either}
use Rattle.scope_functions.proofs.Turns.{turn_found, turn_on, turns_end}
use Rattle.scope_functions.proofs.declared.is_top_var.Goals as goal

pub returns-then-is_top_var_name : goal.returns-then-is_top_var_name
returns-then-is_top_var_name c = λ bodies.
    turn_found (λ (ys : List Stmt). all_top_var_names (stmts_of (map (stmt_of (under c.args.wanted.now.texts.now bodies)) ys))) (λ (x : Stmt). top_var_names_in (stmt_of (under c.args.wanted.now.texts.now bodies) x)) c.args.wanted.now.units.now (λ (x : Stmt) (xs : List Stmt). has_either (top_var_names_in (stmt_of (under c.args.wanted.now.texts.now bodies) x)) (all_top_var_names (stmts_of (map (stmt_of (under c.args.wanted.now.texts.now bodies)) xs))) c.args.wanted.now.units.now) c.args.items.now c.loop-item.item-index c.item-item.result c.is_top_var_name.result (omega arith) c.item-item.is (c.is_top_var_name.ensures bodies) (c.loop-item.invariant bodies) c.if-is_top_var_name.true

pub loop-item-preserved : goal.loop-item-preserved
loop-item-preserved c = λ bodies.
    turn_on (λ (ys : List Stmt). all_top_var_names (stmts_of (map (stmt_of (under c.args.wanted.now.texts.now bodies)) ys))) (λ (x : Stmt). top_var_names_in (stmt_of (under c.args.wanted.now.texts.now bodies) x)) c.args.wanted.now.units.now (λ (x : Stmt) (xs : List Stmt). has_either (top_var_names_in (stmt_of (under c.args.wanted.now.texts.now bodies) x)) (all_top_var_names (stmts_of (map (stmt_of (under c.args.wanted.now.texts.now bodies)) xs))) c.args.wanted.now.units.now) c.args.items.now c.loop-item.item-index c.item-item.result c.is_top_var_name.result (omega arith) c.item-item.is (c.is_top_var_name.ensures bodies) (c.loop-item.invariant bodies) c.if-is_top_var_name.false

pub returns : goal.returns
returns c = λ bodies.
    turns_end (λ (ys : List Stmt). all_top_var_names (stmts_of (map (stmt_of (under c.args.wanted.now.texts.now bodies)) ys))) c.args.wanted.now.units.now refl c.args.items.now c.loop-item.item-index (omega arith) (c.loop-item.invariant bodies)
