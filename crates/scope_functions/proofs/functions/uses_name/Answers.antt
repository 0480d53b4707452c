use Rattle.std.proofs.Common.{◌≡◌, Bool, List, map, ap, ◌∙◌}
use Rattle.script_grammar.specs.declared.tree.Param.{Param}
use Rattle.script_grammar.specs.Interpretation.{Interpretation}
use Rattle.script_grammar.specs.Tree.{Params}
use Rattle.script_grammar.specs.TreeLists.{params_of}
use Rattle.script_grammar.specs.TreeOf.{param_of}
use Rattle.scope_analysis.specs.DeclaredNames.{has_text, has_initializer}
use Rattle.scope_analysis.specs.FunctionTree.{params_in}
use Rattle.scope_analysis.specs.Kept.{under}
use Rattle.scope_analysis.specs.Uses.{uses_params, uses_body}
use Rattle.scope_functions.proofs.OwnUses.{used_first, used_behind}
use Rattle.scope_functions.proofs.functions.uses_name.Goals as goal

pub returns-then-uses_params : goal.returns-then-uses_params
returns-then-uses_params c = λ bodies b has.
    let i : Interpretation = under c.args.texts.now bodies in
    let params : Params = params_in i c.args.func.now in
    let of_params : c.uses_params.result ≡ has_text (uses_params params).own c.args.units.now =
    c.uses_params.ensures bodies ∙ ap (λ (xs : List Param). has_text (uses_params (params_of (map (param_of i) xs))).own c.args.units.now) c.deref-2.ensures.value in
    used_first (uses_params params).own (uses_body (has_initializer params) b).own c.args.units.now _ of_params c.if-uses_params.true

pub returns-else-uses_params : goal.returns-else-uses_params
returns-else-uses_params c = λ bodies b has.
    let i : Interpretation = under c.args.texts.now bodies in
    let params : Params = params_in i c.args.func.now in
    let of_params : c.uses_params.result ≡ has_text (uses_params params).own c.args.units.now =
    c.uses_params.ensures bodies ∙ ap (λ (xs : List Param). has_text (uses_params (params_of (map (param_of i) xs))).own c.args.units.now) c.deref-2.ensures.value in
    let initialized : c.has_initializer-initialized.result ≡ has_initializer params =
    c.has_initializer-initialized.ensures i ∙ ap (λ (xs : List Param). has_initializer (params_of (map (param_of i) xs))) c.deref.ensures.value in
    used_behind (uses_params params).own (uses_body (has_initializer params) b).own c.args.units.now _ _ of_params c.if-uses_params.false
    (c.uses_body.ensures bodies b has ∙ ap (λ (x : Bool). has_text (uses_body x b).own c.args.units.now) initialized)
