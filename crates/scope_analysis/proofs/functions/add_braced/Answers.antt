use Rattle.std.proofs.Common.{map}
use Rattle.script_grammar.specs.Tree.{Stmts}
use Rattle.script_grammar.specs.TreeLists.{stmts_of}
use Rattle.script_grammar.specs.TreeOf.{stmt_of}
use Rattle.stencil_data.specs.declared.scopes.ScopeKind.TheVariants as scope_kind
use Rattle.scope_analysis.specs.DeclaredNames.{top_lexical_names}
use Rattle.scope_analysis.specs.Kept.{under}
use Rattle.scope_analysis.specs.Scopes.{body_var_inner, block_inner, scopes_stmts, scope_around}
use Rattle.scope_analysis.proofs.functions.add_braced.Goals as goal

pub returns : goal.returns
returns c = λ bodies.
    let m : Stmts = stmts_of (map (stmt_of (under c.args.known.now.texts.now bodies)) c.args.items.now) in
    (c.in_ok-vars.ensures bodies).opens (body_var_inner m) (scope_around scope_kind.FunctionLexical (top_lexical_names m) (block_inner m) (scopes_stmts m)) c.add_stmts.new.made.scopes.items c.add_stmts.new.made.closed
    ((c.in_ok-lexical.ensures bodies).opens (block_inner m) (scopes_stmts m) c.add_stmts.new.made.scopes.items c.add_stmts.new.made.closed (c.in_ok-add_stmts.ensures bodies).added)
