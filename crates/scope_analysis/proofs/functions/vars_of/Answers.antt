use Rattle.std.proofs.Common.{◌++◌, List, map, ap, ◌∙◌}
use Rattle.stencil_data.specs.StandsFor.{text_at}
use Rattle.stencil_data.specs.declared.scopes.BindKind.TheVariants as bind
use Rattle.scope_analysis.specs.declared.names.DeclaredName.{DeclaredName}
use Rattle.scope_analysis.specs.DeclaredNames.{declarations}
use Rattle.scope_analysis.specs.Kept.{declarations_of}
use Rattle.scope_analysis.proofs.functions.vars_of.Goals as goal

pub returns : goal.returns
returns c = λ bodies.
    c.in_ok-push_all.ensures c.args.known.now.texts.now
    ∙ (ap (λ (ns : List DeclaredName). declarations_of c.args.known.now.texts.now ns ++ declarations bind.Var (map (text_at c.args.known.now.texts.now) c.deref.result.now)) c.new-names.ensures.items
    ∙ ap (declarations bind.Var) (ap (map (text_at c.args.known.now.texts.now)) c.deref.ensures.value ∙ c.in_ok-vars.ensures bodies))
