use Rattle.std.proofs.Common.{◌++◌, map}
use Rattle.script_grammar.specs.TreeLists.{stmts_of}
use Rattle.script_grammar.specs.TreeOf.{stmt_of}
use Rattle.scope_analysis.specs.DeclaredNames.{texts_of, top_lexical_names}
use Rattle.scope_analysis.specs.Kept.{under}
use Rattle.scope_analysis.specs.Uses.{body_vars, uses_stmts}
use Rattle.scope_functions.proofs.OwnUses.{used_unbound, used_bound}
use Rattle.scope_functions.proofs.functions.uses_braced.Goals as goal

pub returns-then-not-is_bound_in : goal.returns-then-not-is_bound_in
returns-then-not-is_bound_in c = λ bodies.
    used_unbound ((texts_of (top_lexical_names (stmts_of (map (stmt_of (under c.args.wanted.now.texts.now bodies)) c.args.items.now)))) ++ (body_vars c.args.initialized (stmts_of (map (stmt_of (under c.args.wanted.now.texts.now bodies)) c.args.items.now)))) (uses_stmts (stmts_of (map (stmt_of (under c.args.wanted.now.texts.now bodies)) c.args.items.now))).own c.args.wanted.now.units.now _ _ (c.is_bound_in.ensures bodies) c.if-not-is_bound_in.true (c.uses_stmts.ensures bodies)

pub returns-else-not-is_bound_in : goal.returns-else-not-is_bound_in
returns-else-not-is_bound_in c = λ bodies.
    used_bound ((texts_of (top_lexical_names (stmts_of (map (stmt_of (under c.args.wanted.now.texts.now bodies)) c.args.items.now)))) ++ (body_vars c.args.initialized (stmts_of (map (stmt_of (under c.args.wanted.now.texts.now bodies)) c.args.items.now)))) (uses_stmts (stmts_of (map (stmt_of (under c.args.wanted.now.texts.now bodies)) c.args.items.now))).own c.args.wanted.now.units.now _ (c.is_bound_in.ensures bodies) c.if-not-is_bound_in.false
