-- Where no name at a place of the print of a function is empty, nor its own name, no name of its scopes is.
use Rattle.std.proofs.Common.{ℕ, Bool, true, false, cond, List, [], ◌∷◌, ◌++◌, Option, Some}
use Rattle.script_grammar.specs.Kinds.{is_arrow_form}
use Rattle.script_grammar.specs.Tree.{Function, function, Body, BracedBody, ShortBody, Stmts}
use Rattle.script_grammar.specs.Pieces.{whole, Piece}
use Rattle.script_grammar.specs.Print.{print_body, print_function, print_stmts, parenthesized, param_depth, arrow_pieces}
use Rattle.stencil_data.specs.declared.functions.FuncKind.{FuncKind}
use Rattle.stencil_data.specs.declared.functions.FuncKind.TheVariants as func
use Rattle.stencil_data.specs.declared.scopes.BindKind.{BindKind}
use Rattle.stencil_data.specs.declared.scopes.BindKind.TheVariants as bind
use Rattle.stencil_data.specs.declared.scopes.ScopeKind.TheVariants as scope
use Rattle.scope_analysis.specs.DeclaredNames.{Text, has_text, texts_of, texts_without, declaration, declarations, top_lexical_names, all_top_var_names, top_var_names, param_names, has_initializer}
use Rattle.scope_analysis.specs.Uses.{Uses, uses_without, beside_params, body_vars, arguments_text, this_text}
use Rattle.scope_analysis.specs.Scopes.{Within, scope_and, scope_around, block_inner, scopes_stmts, callee_names, used_special, special_names, function_uses, function_names, body_var_names, body_var_inner, scopes_body, outermost, function_scopes, global_names, script_scopes}
use Rattle.emit_limit_laws.proofs.Measures.{cons_none}
use Rattle.scope_closed_laws.proofs.Places.{Hold}
use Rattle.emit_limit_laws.specs.FullNames.{ScopesFull, NameFull}
use Rattle.emit_limit_laws.proofs.FullLists.{TextsFull, DeclaredFull, declared_both, declared_full, first_ones_full, without_full, and_full, around_full}
use Rattle.emit_limit_laws.proofs.FullPlaces.{Full, Given, given, so, both, before, past, after}
use Rattle.emit_limit_laws.proofs.FullStatements.{params_full, FullStmts, stmts_full}

-- ---- names of a function's own

arguments_full : Full arguments_text
arguments_full e = cons_none _ _ e

this_full : Full this_text
this_full e = cons_none _ _ e

maybe_one : (b : Bool) (kind : BindKind) (text : Text) → Full text → DeclaredFull (cond b (declaration kind text ∷ []) [])
maybe_one true kind text h = (h, tt)
maybe_one false kind text h = tt

used_full : (u : Uses) → DeclaredFull (used_special u)
used_full u =
    declared_both (cond (has_text (u.own ++ u.inner) arguments_text) (declaration bind.Arguments arguments_text ∷ []) []) (cond (has_text (u.own ++ u.inner) this_text) (declaration bind.This this_text ∷ []) [])
    (maybe_one (has_text (u.own ++ u.inner) arguments_text) bind.Arguments arguments_text arguments_full)
    (maybe_one (has_text (u.own ++ u.inner) this_text) bind.This this_text this_full)

special_full : (arrow : Bool) (u : Uses) → DeclaredFull (cond arrow [] (used_special u))
special_full true u = tt
special_full false u = used_full u

callee_full : (kind : FuncKind) (name : Option Text) → NameFull name → DeclaredFull (callee_names kind name)
callee_full func.Expression (Some name) h = (h, tt)
callee_full _ _ h = tt

top_vars_once : (items : Stmts) → TextsFull (all_top_var_names items) → TextsFull (top_var_names items)
top_vars_once items h = first_ones_full [] (all_top_var_names items) h

-- ---- bodies

record FullBody (x : Body) : Type 0 where
  beside : (initialized : Bool) → TextsFull (beside_params initialized x)
  scopes : (initialized : Bool) (w : Within) → ScopesFull (scopes_body initialized x w)

beside_full : (items : Stmts) (initialized : Bool) → TextsFull (all_top_var_names items) → TextsFull (beside_params initialized (BracedBody items))
beside_full items true h = tt
beside_full items false h = top_vars_once items h

vars_full : (items : Stmts) (initialized : Bool) → TextsFull (all_top_var_names items) → TextsFull (body_vars initialized items)
vars_full items true h = top_vars_once items h
vars_full items false h = tt

body_scopes : (items : Stmts) (initialized : Bool) (w : Within) → FullStmts items → ScopesFull (scopes_body initialized (BracedBody items) w)
body_scopes items initialized w h =
    around_full scope.FunctionBodyVar (body_var_names initialized items) (body_var_inner items) (scope_around scope.FunctionLexical (top_lexical_names items) (block_inner items) (scopes_stmts items)) w
    (declared_full bind.Var (body_vars initialized items) (vars_full items initialized h.top_vars))
    (λ v. around_full scope.FunctionLexical (top_lexical_names items) (block_inner items) (scopes_stmts items) v h.top_lexical h.scopes)

body_full : (d end : ℕ) (x : Body) → Given (FullBody x) (print_body whole d end x)
body_full d end (BracedBody items) =
    so (past (after _ (stmts_full d items))) (λ h. record { beside = λ b. beside_full items b h.top_vars; scopes = λ b w. body_scopes items b w h })
body_full d end (ShortBody value) = given (record { beside = none; scopes = λ b w. tt })
  where
    none : (initialized : Bool) → TextsFull (beside_params initialized (ShortBody value))
    none true = tt
    none false = tt

-- ---- the whole

in_listed : {P : Type 0} (bare : Bool) (start d : ℕ) (comma : Bool) {ps : List Piece} → Given P ps → Given P (parenthesized bare start d ps comma)
in_listed true start d comma k = k
in_listed false start d comma k = past (after _ k)

function_full : (kind : FuncKind) (name : Option Text) (d : ℕ) (f : Function) → NameFull name → Given (ScopesFull (function_scopes kind name f)) (print_function whole d f)
function_full kind name d (function form start end who ps comma bare body) n =
    so (both (in_listed bare start d comma (params_full (param_depth form bare d) d ps)) (before (arrow_pieces form d) (body_full d end body)))
    (λ h.
    let own = declared_both (declarations bind.Param (param_names ps) ++ declarations bind.Var (texts_without (param_names ps) (beside_params (has_initializer ps) body))) (special_names form (function_uses ps body))
    (declared_both (declarations bind.Param (param_names ps)) (declarations bind.Var (texts_without (param_names ps) (beside_params (has_initializer ps) body)))
    (declared_full bind.Param (param_names ps) h.0)
    (declared_full bind.Var (texts_without (param_names ps) (beside_params (has_initializer ps) body)) (without_full (param_names ps) (beside_params (has_initializer ps) body) (h.1.beside (has_initializer ps)))))
    (special_full (is_arrow_form form) (function_uses ps body)) in
    around_full scope.StrictNamedLambda (callee_names kind name) (uses_without (texts_of (function_names form ps body)) (function_uses ps body)).inner
    (scope_and scope.Function (function_names form ps body) (function_uses ps body).inner (scopes_body (has_initializer ps) body)) outermost
    (callee_full kind name n)
    (λ v. and_full scope.Function (function_names form ps body) (function_uses ps body).inner (scopes_body (has_initializer ps) body) v own (h.1.scopes (has_initializer ps))))

pub function_scopes_full : (kind : FuncKind) (name : Option Text) (d : ℕ) (f : Function) → NameFull name → Hold Full (print_function whole d f) → ScopesFull (function_scopes kind name f)
function_scopes_full kind name d f n h = (function_full kind name d f n).holds h

pub script_scopes_full : (items : Stmts) → Hold Full (print_stmts whole 0 items) → ScopesFull (script_scopes items)
script_scopes_full items h =
    let s = (stmts_full 0 items).holds h in
    and_full scope.Global (global_names items) (block_inner items) (scopes_stmts items) outermost
    (declared_both (declarations bind.Var (top_var_names items)) (top_lexical_names items) (declared_full bind.Var (top_var_names items) (top_vars_once items s.top_vars)) s.top_lexical)
    s.scopes
