use Rattle.std.proofs.Common.{◌≡◌, ℕ, ◌++◌, ◌||◌, List, Bool, Option, None, map, option_map, unwrap_or, length, sym, subst, ap, ◌∙◌}
use Rattle.script_grammar.specs.declared.tree.Func.{out-Func}
use Rattle.script_grammar.specs.declared.tree.Param.{Param}
use Rattle.script_grammar.specs.Interpretation.{Interpretation, maybe_named}
use Rattle.script_grammar.specs.Tree as model
use Rattle.script_grammar.specs.TreeLists.{params_of}
use Rattle.script_grammar.specs.TreeOf.{param_of, func_of}
use Rattle.script_grammar.proofs.PartEquations.{func_of-fields}
use Rattle.stencil_data.specs.declared.scopes.BindKind.TheVariants as bind
use Rattle.stencil_data.specs.declared.scopes.ScopeKind.TheVariants as scope_kind
use Rattle.stencil_data.specs.StandsFor.{text_at, named_closed, named_scope}
use Rattle.stencil_data.specs.Views.{ScopeView}
use Rattle.scope_analysis.specs.DeclaredNames.{Text, Declaration, declarations, texts_without, param_names, has_initializer}
use Rattle.scope_analysis.specs.Closed.{has_closed}
use Rattle.scope_analysis.specs.FunctionTree.{specials}
use Rattle.scope_analysis.specs.Kept.{declarations_of, under}
use Rattle.scope_analysis.specs.Scopes.{function_scopes, scopes_body}
use Rattle.scope_analysis.specs.Uses.{beside_params, arguments_text, this_text}
use Rattle.scope_analysis.specs.Walked.{within, Adds, OpensAny, CloseOver}
use Rattle.scope_analysis.proofs.FunctionScopes.{function_made}
use Rattle.scope_analysis.proofs.functions.scopes_using.Goals as goal

pub returns : goal.returns
returns c = λ bodies b has knows uses told.
    let texts : List (List ℕ) = c.args.texts.now in
    let i : Interpretation = under texts bodies in
    let name : Option Text = option_map (text_at texts) c.args.name in
    let params : model.Params = params_of (map (param_of i) (out-Func c.args.func.now).params.items) in
    let tree : func_of i c.args.func.now ≡ model.function (out-Func c.args.func.now).form (out-Func c.args.func.now).start (out-Func c.args.func.now).end (maybe_named i (out-Func c.args.func.now).name) params (out-Func c.args.func.now).comma (out-Func c.args.func.now).bare b =
    func_of-fields i c.args.func.now
    ∙ ap (λ (o : Option model.Body). model.function (out-Func c.args.func.now).form (out-Func c.args.func.now).start (out-Func c.args.func.now).end (maybe_named i (out-Func c.args.func.now).name) params (out-Func c.args.func.now).comma (out-Func c.args.func.now).bare (unwrap_or o (model.BracedBody (i.bodies (out-Func c.args.func.now).start)))) has in
    let initialized : c.has_initializer-initialized.result ≡ has_initializer params =
    c.has_initializer-initialized.ensures i ∙ ap (λ (xs : List Param). has_initializer (params_of (map (param_of i) xs))) c.deref-2.ensures.value in
    let names_of : Bool → List Param → List Declaration = λ (x : Bool) (xs : List Param).
    declarations bind.Param (param_names (params_of (map (param_of i) xs))) ++ declarations bind.Var (texts_without (param_names (params_of (map (param_of i) xs))) (beside_params x b)) in
    let special : List Declaration = specials (out-Func c.args.func.now).form (c.args.own.arguments || has_closed c.len-number.result arguments_text (map (named_closed texts) c.args.closed.now)) (c.args.own.this || has_closed c.len-number.result this_text (map (named_closed texts) c.args.closed.now)) in
    let names : declarations_of texts c.deref-4.result.now ≡ names_of (has_initializer params) (out-Func c.args.func.now).params.items ++ special =
    ap (declarations_of texts) c.deref-4.ensures.value
    ∙ (c.in_ok-push_specials.ensures knows
    ∙ ap (λ (ds : List Declaration). ds ++ special)
    (c.in_ok-names.ensures bodies b has
    ∙ (ap (names_of c.has_initializer-initialized.result) c.deref-3.ensures.value
    ∙ ap (λ (x : Bool). names_of x (out-Func c.args.func.now).params.items) initialized))) in
    ap (map (named_scope texts)) c.shrink_to_fit.ensures.items
    ∙ function_made texts c.args.closed.now (out-Func c.args.func.now).form c.args.kind name params b c.args.own c.deref.result.now c.deref-4.result.now c.in_ok-named.named c.in_ok-inside.inside
    c.open_scope.new.made.scopes.items c.push_scope.new.made.scopes.items c.add_body.new.made.scopes.items c.open_scope.new.made.closed c.push_scope.new.made.closed c.add_body.new.made.closed c.len-number.result
    knows uses (ap (declarations_of texts) c.deref.ensures.value ∙ c.in_ok-own_name.ensures texts) (c.len-number.ensures ∙ c.open_scope.new.made.scopes.ok.0)
    (subst (λ (ss : List ScopeView). OpensAny texts c.args.closed.now ss 0 c.open_scope.new.made.scopes.items c.open_scope.new.made.closed scope_kind.StrictNamedLambda (declarations_of texts c.deref.result.now) (record { parent = None; frame = 0 }) c.in_ok-named.named) c.in_ok-with_capacity.ensures.items c.in_ok-named.ensures)
    names c.in_ok-inside.ensures
    (subst (λ (x : Bool). Adds texts c.args.closed.now c.push_scope.new.made.scopes.items c.push_scope.new.made.closed c.add_body.new.made.scopes.items c.add_body.new.made.closed (scopes_body x b (within c.in_ok-inside.inside (length c.push_scope.new.made.scopes.items)))) initialized (c.in_ok-add_body.ensures bodies b has))
    (subst (λ (f : model.Function). CloseOver texts c.args.closed.now (function_scopes c.args.kind name f)) tree told)
    ∙ ap (function_scopes c.args.kind name) (sym tree)
