use Rattle.std.proofs.Common.{◌++◌, List, map, ap, ◌∙◌}
use Rattle.script_grammar.specs.TreeLists.{stmts_of}
use Rattle.script_grammar.specs.TreeOf.{stmt_of}
use Rattle.stencil_data.specs.StandsFor.{text_at}
use Rattle.stencil_data.specs.declared.scopes.BindKind.TheVariants as bind
use Rattle.scope_analysis.specs.declared.names.DeclaredName.{DeclaredName}
use Rattle.scope_analysis.specs.DeclaredNames.{Declaration, declarations, top_lexical_names}
use Rattle.scope_analysis.specs.Kept.{declarations_of, under}
use Rattle.scope_analysis.proofs.toplevel.global_names.Goals as goal

pub returns : goal.returns
returns c = λ bodies.
    c.in_ok-push_top_lexical_names.ensures (under c.args.texts.now bodies)
    ∙ ap (λ (ds : List Declaration). ds ++ top_lexical_names (stmts_of (map (stmt_of (under c.args.texts.now bodies)) c.args.items.now)))
    (c.in_ok-push_all.ensures c.args.texts.now
    ∙ (ap (λ (ns : List DeclaredName). declarations_of c.args.texts.now ns ++ declarations bind.Var (map (text_at c.args.texts.now) c.deref.result.now)) c.new-names.ensures.items
    ∙ ap (declarations bind.Var) (ap (map (text_at c.args.texts.now)) c.deref.ensures.value ∙ c.in_ok-vars.ensures bodies)))
