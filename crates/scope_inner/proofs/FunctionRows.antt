-- Functions that were found in scripts, in bodies and in whole functions.
use Rattle.std.proofs.Common.{◌≡◌, ℕ, ◌+◌, ◌≤◌, Bool, true, List, [], ◌∷◌, ◌++◌, map, length, Option, Some, None, refl, sym, ◌∙◌, ap, ap₂, subst, arith, unwrap_or}
use Rattle.std.specs.declared.alloc.Global.{Global}
use Rattle.std.specs.declared.boxed.Box.{Box}
use Rattle.std.specs.declared.vec.Vec.{Vec}
use Rattle.script_grammar.specs.declared.tree.Expr.{Expr}
use Rattle.script_grammar.specs.declared.tree.Func.{Func, out-Func}
use Rattle.script_grammar.specs.declared.tree.FuncBody.{FuncBody}
use Rattle.script_grammar.specs.declared.tree.FuncBody.TheVariants as in_body
use Rattle.script_grammar.specs.declared.tree.Param.{Param}
use Rattle.script_grammar.specs.declared.tree.Stmt.{Stmt}
use Rattle.script_grammar.specs.Interpretation.{Interpretation, maybe_named}
use Rattle.script_grammar.specs.Tree.{Body, BracedBody, ShortBody, Function, function, Params, Stmts}
use Rattle.script_grammar.specs.TreeLists.{params_of}
use Rattle.script_grammar.specs.TreeOf.{body_of, expr_of, func_of, param_of}
use Rattle.script_grammar.proofs.PartEquations.{func_of-fields}
use Rattle.script_grammar.proofs.StmtEquations.{body_of-Braced, body_of-Short, body_of-Passed}
use Rattle.stencil_data.specs.LinkView.{LinkView}
use Rattle.stencil_data.specs.Named.{NamedScope}
use Rattle.stencil_data.specs.StandsFor.{named_scope}
use Rattle.stencil_data.specs.Views.{ScopeView}
use Rattle.scope_analysis.specs.DeclaredNames.{Declaration, has_initializer}
use Rattle.scope_analysis.specs.FunctionTree.{HasBody}
use Rattle.scope_analysis.specs.Functions.{Inner, inner_expr, inner_params, inner_stmts, inner_body, inner_function, inner_script, params_around}
use Rattle.scope_analysis.specs.Kept.{under}
use Rattle.scope_analysis.specs.Scopes.{scope_count, count_stmts, callee_names, function_scopes}
use Rattle.scope_analysis.proofs.FunctionScopes.{same_some}
use Rattle.emit_stmts.specs.Declares.{declares}
use Rattle.emit_stmts.specs.Frames.{scope_at, chain_link, global_link}
use Rattle.emit_stmts.specs.ScriptCode.{script_in}
use Rattle.scope_inner.specs.declared.places.Walk.{Walk}
use Rattle.scope_inner.specs.declared.sites.FunctionSite.{FunctionSite}
use Rattle.scope_inner.specs.Finding.{chain_around, FindsBy, FindsAt}
use Rattle.scope_inner.specs.FunctionSites.{AreFunctionSites, AreScriptSites}
use Rattle.scope_inner.specs.OwnKinds.{is_of_name, is_of_vars, is_of_top}
use Rattle.scope_inner.specs.Sites.{sited, sited_in}
use Rattle.scope_inner.specs.Spots.{Spot, inside_spot, scope_in, entered, entered_count}
use Rattle.scope_inner.specs.StmtFinds.{stmts_in, vars_in, tops_in, body_count, BodyStands, InBody, BodyFinds, BracedFinds, StmtsFind}
use Rattle.scope_inner.proofs.OwnScopes.{name_scope, vars_scope, top_scope}
use Rattle.scope_inner.proofs.ScopeCounts.{of_script, of_function}
use Rattle.scope_inner.proofs.StmtRows.{joined, inside_of, scoped_at, Inside}

-- ---- scripts

abbrev pub spot_in : List (List ℕ) → List ScopeView → List LinkView → Spot
spot_in texts scopes chain = record { scopes = map (named_scope texts) scopes; chain = chain }

-- as many as those that they stand for
as_many : {all named : List NamedScope} {count : ℕ} → all ≡ named → length named ≡ count → count ≤ length all
as_many are long =
    let same = ap length are ∙ long in
    omega (arith, same)

pub script_row : {start new : Walk} (texts : List (List ℕ)) (scopes : List ScopeView) (chain : List LinkView) (ss : List Stmt) → chain ≡ global_link ∷ [] → start.sites.items ≡ [] → start.next ≡ 1
    → StmtsFind (spot_in texts scopes chain) start new ss → AreScriptSites texts scopes ss new.sites.items
script_row {start} {new} texts scopes chain ss chain_is none next_is x bodies stand =
    subst (λ (n : ℕ). n + count_stmts m ≤ length all → map (sited i) new.sites.items ≡ map (sited i) start.sites.items ++ map (sited_in all []) (inner n)) next_is
    (λ fits. (x.all.finds i).found [] (0 ∷ []) fits (chain_is ∙ ap (λ (l : List NamedScope). chain_link (scope_at l 0) ∷ []) (sym stand)))
    (as_many stand (of_script m))
    ∙ ap₂ (λ (l : List FunctionSite) (sc : List NamedScope). map (sited i) l ++ map (sited_in sc []) (inner_script m)) none stand
  where
    i : Interpretation
    i = under texts bodies

    m : Stmts
    m = script_in texts bodies ss

    all : List NamedScope
    all = map (named_scope texts) scopes

    inner : ℕ → List Inner
    inner n = inner_stmts m n (0 ∷ [])

-- ---- bodies

pub braced_row : {old new : Walk} {j l : ℕ} {has_vars has_top : Bool} {vars top : List LinkView} (p around inside : Spot) (ss : List Stmt)
    → has_vars ≡ is_of_vars (scope_in p old.next).kind → (old.next + entered_count has_vars ≤ length p.scopes → j ≡ old.next + entered_count has_vars) → vars ≡ entered p old.next has_vars → around ≡ inside_spot vars p
    → has_top ≡ is_of_top (scope_in around j).kind → (j + entered_count has_top ≤ length around.scopes → l ≡ j + entered_count has_top) → top ≡ entered around j has_top → inside ≡ inside_spot top around
    → StmtsFind inside (record { sites = old.sites; next = l }) new ss → BracedFinds p old new ss
braced_row {old} {new} {j} {l} {has_vars} {has_top} {vars} {top} p around inside ss vars_is vars_next vars_chain around_is top_is top_next top_chain inside_is x = record {
  found = λ i initialized stands outer rs is.
      let one : Inside p old.next j vars (vars_in initialized (BracedBody (stmts_in i ss))) = inside_of p has_vars (vars_in initialized (BracedBody (stmts_in i ss))) (vars_is ∙ stands.vars) vars_next vars_chain in
      let numbered = stands.numbered in
      let at : j ≡ old.next + scope_count (vars_in initialized (BracedBody (stmts_in i ss))) = one.next (omega (arith, numbered)) in
      let flag : has_top ≡ declares (tops_in (BracedBody (stmts_in i ss))) = top_is ∙ (ap₂ (λ (q : Spot) (n : ℕ). is_of_top (scope_in q n).kind) around_is at ∙ stands.top) in
      let two : Inside (inside_spot vars p) j l top (tops_in (BracedBody (stmts_in i ss))) = inside_of (inside_spot vars p) has_top (tops_in (BracedBody (stmts_in i ss))) flag (subst (λ (q : Spot). j + entered_count has_top ≤ length q.scopes → l ≡ j + entered_count has_top) around_is top_next) (top_chain ∙ ap (λ (q : Spot). entered q j has_top) around_is) in
      let all : FindsAt i (inside_spot top (inside_spot vars p)) old.sites.items new.sites.items l new.next (count_stmts (stmts_in i ss)) (inner_stmts (stmts_in i ss)) =
      subst (λ (q : Spot). FindsAt i q old.sites.items new.sites.items l new.next (count_stmts (stmts_in i ss)) (inner_stmts (stmts_in i ss))) (inside_is ∙ ap (inside_spot top) around_is) (x.all.finds i) in
      (scoped_at (vars_in initialized (BracedBody (stmts_in i ss))) one (scoped_at (tops_in (BracedBody (stmts_in i ss))) two all)).found outer rs numbered is;
}

pub body_braced : {p : Spot} {old new : Walk} (b : FuncBody) (items : Vec Stmt Global) (xs : List Stmt) → b ≡ in_body.Braced items → xs ≡ items.items → BracedFinds p old new xs → BodyFinds p old new b
body_braced {p} {old} {new} b items xs is same x = record {
  found = λ i initialized body has stands.
      let tree : BracedBody (stmts_in i xs) ≡ body = ap (λ (l : List Stmt). BracedBody (stmts_in i l)) same ∙ same_some _ _ (sym (body_of-Braced i items) ∙ (sym (ap (body_of i) is) ∙ has)) in
      subst (InBody i p old.sites.items new.sites.items old.next initialized) tree (x.found i initialized (subst (BodyStands p.scopes old.next initialized) (sym tree) stands));
}

pub body_short : {p : Spot} {old new : Walk} (b : FuncBody) (boxed : Box Expr Global) (value : Expr) → b ≡ in_body.Short boxed → value ≡ boxed.value → FindsBy old.sites.items new.sites.items p.chain (λ i. inner_expr (expr_of i value)) → BodyFinds p old new b
body_short {p} {old} {new} b boxed value is same x = record {
  found = λ i initialized body has stands.
      let tree : ShortBody (expr_of i value) ≡ body = ap (λ (e : Expr). ShortBody (expr_of i e)) same ∙ same_some _ _ (sym (body_of-Short i boxed) ∙ (sym (ap (body_of i) is) ∙ has)) in
      subst (InBody i p old.sites.items new.sites.items old.next initialized) tree (λ outer rs same_chain. (x.finds i).found p.scopes outer rs same_chain);
}

abbrev Absent : Option Body → Type 0
Absent None = Unit {0}
Absent (Some body) = ⊥

none_some : {body : Body} → None ≡ Some body → ⊥
none_some e = subst Absent e tt

pub body_passed : (p : Spot) (old : Walk) (b : FuncBody) → b ≡ in_body.Passed → BodyFinds p old old b
body_passed p old b is = record { found = λ i initialized body has stands. absurd (none_some (sym (body_of-Passed i) ∙ (sym (ap (body_of i) is) ∙ has))) }

-- ---- whole functions

-- a function by the fields of the code's own
tree_is : (i : Interpretation) (f : Func) (body : Body) → HasBody i f body
    → func_of i f ≡ function (out-Func f).form (out-Func f).start (out-Func f).end (maybe_named i (out-Func f).name) (params_of (map (param_of i) (out-Func f).params.items)) (out-Func f).comma (out-Func f).bare body
tree_is i f body has =
    func_of-fields i f
    ∙ ap (λ (o : Option Body). function (out-Func f).form (out-Func f).start (out-Func f).end (maybe_named i (out-Func f).name) (params_of (map (param_of i) (out-Func f).params.items)) (out-Func f).comma (out-Func f).bare (unwrap_or o (BracedBody (i.bodies (out-Func f).start)))) has

pub function_row : {new : Walk} {sites : Vec FunctionSite Global} {j l : ℕ} {has_name : Bool} {named own : List LinkView} (texts : List (List ℕ)) (scopes : List ScopeView) (chain : List LinkView) (f : Func) (ps : List Param) (start : Walk) (around inside : Spot)
    → start.sites.items ≡ [] → start.next ≡ 0
    → has_name ≡ is_of_name (scope_in (spot_in texts scopes chain) 0).kind → (start.next + entered_count has_name ≤ length (spot_in texts scopes chain).scopes → j ≡ start.next + entered_count has_name) → named ≡ entered (spot_in texts scopes chain) start.next has_name → around ≡ inside_spot named (spot_in texts scopes chain)
    → (j + 1 ≤ length around.scopes → l ≡ j + 1) → own ≡ entered around j true → inside ≡ inside_spot own around
    → ps ≡ (out-Func f).params.items → FindsBy start.sites.items sites.items own (λ i. inner_params (params_of (map (param_of i) ps)))
    → BodyFinds inside (record { sites = sites; next = l }) new (out-Func f).body → AreFunctionSites texts scopes chain f new.sites.items
function_row {new} {sites} {j} {l} {has_name} {named} {own} texts scopes chain f ps start around inside none first_is name_is name_next name_chain around_is own_next own_chain inside_is ps_are x y bodies body kind name has stand =
    joined (sited_in all chain) (map (sited i) start.sites.items) (inner_params params (params_around kind name)) (inner_body (has_initializer params) body (scope_count callee + 1) (params_around kind name)) in_params in_body_found
    ∙ (ap (λ (s : List FunctionSite). map (sited i) s ++ map (sited_in all chain) (inner_function kind name tree)) none
    ∙ ap₂ (λ (sc : List NamedScope) (t : Function). map (sited_in sc chain) (inner_function kind name t)) stand (sym tree_same))
  where
    i : Interpretation
    i = under texts bodies

    params : Params
    params = params_of (map (param_of i) (out-Func f).params.items)

    tree : Function
    tree = function (out-Func f).form (out-Func f).start (out-Func f).end (maybe_named i (out-Func f).name) params (out-Func f).comma (out-Func f).bare body

    tree_same : func_of i f ≡ tree
    tree_same = tree_is i f body has

    all : List NamedScope
    all = map (named_scope texts) scopes

    all_are : all ≡ function_scopes kind name tree
    all_are = stand ∙ ap (function_scopes kind name) tree_same

    callee : List Declaration
    callee = callee_names kind name

    numbered : scope_count callee + (1 + body_count (has_initializer params) body) ≤ length all
    numbered = as_many all_are (of_function kind name tree)

    p : Spot
    p = spot_in texts scopes chain

    -- the scope of the name
    one : Inside p 0 j named callee
    one = inside_of p has_name callee (name_is ∙ (ap (λ (sc : List NamedScope). is_of_name (scope_at sc 0).kind) all_are ∙ name_scope kind name tree))
        (subst (λ (n : ℕ). n + entered_count has_name ≤ length all → j ≡ n + entered_count has_name) first_is name_next) (name_chain ∙ ap (λ (n : ℕ). entered p n has_name) first_is)

    name_count : j ≡ scope_count callee
    name_count =
        let at = one.next (omega (arith, numbered)) in
        omega (arith, at)

    -- the function's own
    next_is : l ≡ scope_count callee + 1
    next_is =
        let long : length around.scopes ≡ length all = ap (λ (q : Spot). length q.scopes) around_is in
        let at = own_next (omega (arith, numbered, name_count, long)) in
        omega (arith, at, name_count)

    own_is : own ≡ chain_around all chain (params_around kind name)
    own_is = own_chain ∙ (ap (λ (q : Spot). entered q j true) around_is ∙ ap₂ (λ (n : ℕ) (c : List LinkView). chain_link (scope_at all n) ∷ c) name_count (one.around chain [] refl))

    in_params : map (sited i) sites.items ≡ map (sited i) start.sites.items ++ map (sited_in all chain) (inner_params params (params_around kind name))
    in_params = (x.finds i).found all chain (params_around kind name) own_is ∙ ap (λ (qs : List Param). map (sited i) start.sites.items ++ map (sited_in all chain) (inner_params (params_of (map (param_of i) qs)) (params_around kind name))) ps_are

    stands : BodyStands all (scope_count callee + 1) (has_initializer params) body
    stands = record {
      vars = ap (λ (sc : List NamedScope). is_of_vars (scope_at sc (scope_count callee + 1)).kind) all_are ∙ vars_scope kind name tree;
      top = ap (λ (sc : List NamedScope). is_of_top (scope_at sc (scope_count callee + 1 + scope_count (vars_in (has_initializer params) body))).kind) all_are ∙ top_scope kind name tree;
      numbered = omega (arith, numbered);
    }

    inside_same : inside ≡ record { scopes = all; chain = own }
    inside_same = inside_is ∙ ap (inside_spot own) around_is

    found_body : BodyFinds (record { scopes = all; chain = own }) (record { sites = sites; next = scope_count callee + 1 }) new (out-Func f).body
    found_body = subst (λ (n : ℕ). BodyFinds (record { scopes = all; chain = own }) (record { sites = sites; next = n }) new (out-Func f).body) next_is (subst (λ (q : Spot). BodyFinds q (record { sites = sites; next = l }) new (out-Func f).body) inside_same y)

    in_body_found : map (sited i) new.sites.items ≡ map (sited i) sites.items ++ map (sited_in all chain) (inner_body (has_initializer params) body (scope_count callee + 1) (params_around kind name))
    in_body_found = found_body.found i (has_initializer params) body has stands chain (params_around kind name) own_is
