use Rattle.std.proofs.Common.{◌≡◌, ◌++◌, List, ◌∙◌, ap}
use Rattle.script_grammar.specs.TreeOf.{init_of}
use Rattle.scope_analysis.specs.DeclaredNames.{init_lexical_names}
use Rattle.stencil_data.specs.declared.scopes.ScopeKind.TheVariants as scope_kind
use Rattle.scope_analysis.specs.declared.names.DeclaredName.{DeclaredName}
use Rattle.scope_analysis.specs.Kept.{declarations_of, under}
use Rattle.scope_analysis.proofs.Adding.{opens_at}
use Rattle.scope_analysis.proofs.scoping.open_init.Goals as goal

pub returns : goal.returns
returns c = λ bodies.
    let names : declarations_of c.args.known.now.texts.now c.deref.result.now ≡ init_lexical_names (init_of (under c.args.known.now.texts.now bodies) c.args.init.now) =
    ap (declarations_of c.args.known.now.texts.now) c.deref.ensures.value
    ∙ (c.in_ok-push_init_lexical_names.ensures (under c.args.known.now.texts.now bodies)
    ∙ ap (λ (ns : List DeclaredName). declarations_of c.args.known.now.texts.now ns ++ init_lexical_names (init_of (under c.args.known.now.texts.now bodies) c.args.init.now)) c.new-names.ensures.items) in
    opens_at c.args.known.now.texts.now c.args.known.now.closed.now c.args.made.now.scopes.items c.open_scope.new.made.scopes.items c.args.made.now.closed c.open_scope.new.made.closed scope_kind.Lexical
    (declarations_of c.args.known.now.texts.now c.deref.result.now) (init_lexical_names (init_of (under c.args.known.now.texts.now bodies) c.args.init.now)) c.args.around c.in_ok-inside.inside names c.in_ok-inside.ensures
