use Rattle.std.proofs.Common.{◌≡◌, ℕ, ◌++◌, List, map, ap, ◌∙◌}
use Rattle.script_grammar.specs.Interpretation.{Interpretation}
use Rattle.script_grammar.specs.TreeLists.{params_of}
use Rattle.script_grammar.specs.TreeOf.{param_of}
use Rattle.stencil_data.specs.StandsFor.{text_at}
use Rattle.stencil_data.specs.declared.scopes.BindKind.TheVariants as bind
use Rattle.scope_analysis.specs.declared.names.DeclaredName.{DeclaredName}
use Rattle.scope_analysis.specs.DeclaredNames.{Text, Declaration, declarations, texts_without, param_names}
use Rattle.scope_analysis.specs.Kept.{declarations_of, under}
use Rattle.scope_analysis.specs.Uses.{beside_params}
use Rattle.scope_analysis.proofs.functions.own_names.Goals as goal

pub returns : goal.returns
returns c = λ bodies b is.
    let texts : List (List ℕ) = c.args.known.now.texts.now in
    let i : Interpretation = under texts bodies in
    let ps : List Text = param_names (params_of (map (param_of i) c.args.params.now)) in
    let params : map (text_at texts) c.push_param_names.new.atoms.items ≡ ps =
    c.in_ok-push_param_names.ensures i ∙ ap (λ (xs : List ℕ). map (text_at texts) xs ++ ps) c.new-atoms.ensures.items in
    let first : declarations_of texts c.push_all.new.names.items ≡ declarations bind.Param ps =
    c.in_ok-push_all.ensures texts
    ∙ (ap (λ (ns : List DeclaredName). declarations_of texts ns ++ declarations bind.Param (map (text_at texts) c.deref-3.result.now)) c.new-names.ensures.items
    ∙ ap (declarations bind.Param) (ap (map (text_at texts)) c.deref-3.ensures.value ∙ params)) in
    let vars : map (text_at texts) c.deref-4.result.now ≡ texts_without ps (beside_params c.args.initialized b) =
    ap (map (text_at texts)) c.deref-4.ensures.value
    ∙ (c.in_ok-vars.ensures
    ∙ (ap (λ (ts : List Text). texts_without ts (map (text_at texts) c.deref-2.result.now)) (ap (map (text_at texts)) c.deref.ensures.value ∙ params)
    ∙ ap (texts_without ps) (ap (map (text_at texts)) c.deref-2.ensures.value ∙ c.in_ok-all_vars.ensures bodies b is))) in
    c.in_ok-push_all-2.ensures texts
    ∙ (ap (λ (ds : List Declaration). ds ++ declarations bind.Var (map (text_at texts) c.deref-4.result.now)) first
    ∙ ap (λ (ts : List Text). declarations bind.Param ps ++ declarations bind.Var ts) vars)
