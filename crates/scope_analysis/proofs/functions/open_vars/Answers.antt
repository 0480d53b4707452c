use Rattle.std.proofs.Common.{map, ap, ◌∙◌}
use Rattle.script_grammar.specs.Tree.{Stmts}
use Rattle.script_grammar.specs.TreeLists.{stmts_of}
use Rattle.script_grammar.specs.TreeOf.{stmt_of}
use Rattle.stencil_data.specs.declared.scopes.ScopeKind.TheVariants as scope_kind
use Rattle.scope_analysis.specs.Kept.{declarations_of, under}
use Rattle.scope_analysis.specs.Scopes.{body_var_names}
use Rattle.scope_analysis.proofs.Adding.{opens_at}
use Rattle.scope_analysis.proofs.functions.open_vars.Goals as goal

pub returns : goal.returns
returns c = λ bodies.
    let m : Stmts = stmts_of (map (stmt_of (under c.args.known.now.texts.now bodies)) c.args.items.now) in
    opens_at c.args.known.now.texts.now c.args.known.now.closed.now c.args.made.now.scopes.items c.open_scope.new.made.scopes.items c.args.made.now.closed c.open_scope.new.made.closed scope_kind.FunctionBodyVar
    (declarations_of c.args.known.now.texts.now c.deref.result.now) (body_var_names c.args.initialized m) c.args.around c.in_ok-inside.inside
    (ap (declarations_of c.args.known.now.texts.now) c.deref.ensures.value ∙ c.in_ok-names.ensures bodies) c.in_ok-inside.ensures
