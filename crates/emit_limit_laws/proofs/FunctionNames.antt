-- The scopes of a function: its names are no more than its tokens, so its slots fit.
use Rattle.std.proofs.Common.{◌≡◌, ℕ, suc, ◌+◌, ◌^◌, ◌≤◌, ◌<◌, Bool, true, false, cond, not, List, [], ◌∷◌, ◌++◌, length, Option, Some, None, refl, sym, true≢false, arith}
use Rattle.std.proofs.lemmas.List.{length-append}
use Rattle.std.proofs.lemmas.List.Sums.{length-filter, count_by-le-length}
use Rattle.script_grammar.specs.declared.token.FuncForm.{FuncForm}
use Rattle.script_grammar.specs.declared.token.FuncForm.TheVariants as form
use Rattle.script_grammar.specs.declared.token.mark.TheConstants as mark
use Rattle.script_grammar.specs.Kinds.{is_arrow_form}
use Rattle.script_grammar.specs.Pieces.{whole, comma_piece, mark_piece, glued_mark, closing_mark}
use Rattle.script_grammar.specs.Print.{print_function, print_params, print_stmts, print_body, parenthesized, arrow_pieces, param_depth}
use Rattle.script_grammar.specs.Proper.{ProperFunction, BareIf}
use Rattle.script_grammar.specs.Tree.{Named, Expr, function, Params, Body, BracedBody, ShortBody, Stmts}
use Rattle.stencil_data.specs.declared.functions.FuncKind.{FuncKind}
use Rattle.stencil_data.specs.declared.functions.FuncKind.TheVariants as func
use Rattle.stencil_data.specs.declared.scopes.BindKind.{BindKind}
use Rattle.stencil_data.specs.declared.scopes.BindKind.TheVariants as bind
use Rattle.stencil_data.specs.declared.scopes.ScopeKind.TheVariants as scope
use Rattle.scope_analysis.specs.DeclaredNames.{Text, has_text, texts_without, texts_of, first_ones_after, Declaration, declaration, declarations, top_lexical_names, all_top_var_names, top_var_names, param_names, has_initializer}
use Rattle.scope_analysis.specs.Uses.{Uses, uses_without, beside_params, body_vars, arguments_text, this_text}
use Rattle.scope_analysis.specs.Scopes.{Within, scope_and, scope_around, scope_count, count_stmts, block_inner, scopes_stmts, callee_names, used_special, special_names, function_uses, function_names, body_var_names, body_var_inner, scopes_body, outermost, function_scopes}
use Rattle.scope_analysis.specs.Walked.{ScopesFit}
use Rattle.emit_functions.specs.BodyCode.{body_count}
use Rattle.emit_functions.specs.FunctionCode.{scopes_in}
use Rattle.emit_limit_laws.specs.Names.{names_stmts, body_names}
use Rattle.emit_limit_laws.specs.Places.{depths_of}
use Rattle.emit_limit_laws.proofs.Measures.{length_both}
use Rattle.emit_limit_laws.proofs.NameTokens.{params_named, top_named, declared_length}
use Rattle.emit_limit_laws.proofs.ScopeNames.{top_names_plain, stmts_scopes_fit, stmts_scopes_few, counts_few}
use Rattle.emit_limit_laws.proofs.Slots.{param_count, param_both, no_params_in, all_params_in, and_fits, around_fits, around_few, scope_count_few}

-- ---- lists of names

either_length : {A : Type 0} (b : Bool) (xs ys : List A) (n : ℕ) → length xs ≤ n → length ys ≤ n → length (cond b xs ys) ≤ n
either_length true xs ys n h k = h
either_length false xs ys n h k = k

first_ones_few : (seen texts : List Text) → length (first_ones_after seen texts) ≤ length texts
first_ones_few seen [] = omega arith
first_ones_few seen (t ∷ ts) =
    let h = first_ones_few seen ts in
    let k = first_ones_few (t ∷ seen) ts in
    either_length (has_text seen t) (first_ones_after seen ts) (t ∷ first_ones_after (t ∷ seen) ts) (suc (length ts)) (omega (arith, h)) (omega (arith, k))

pub top_vars_few : (items : Stmts) → length (top_var_names items) ≤ length (all_top_var_names items)
top_vars_few items = first_ones_few [] (all_top_var_names items)

without_few : (gone texts : List Text) → length (texts_without gone texts) ≤ length texts
without_few gone texts =
    let e = length-filter (λ (t : Text). not (has_text gone t)) texts in
    let h = count_by-le-length (λ (t : Text). not (has_text gone t)) texts in
    omega (arith, e, h)

-- ---- `arguments` and `this`

one_special : (b : Bool) (d : Declaration) → length (cond b (d ∷ []) []) ≤ 1
one_special true d = omega arith
one_special false d = omega arith

either_plain : (b : Bool) (kind : BindKind) (text : Text) → param_count (declarations kind (text ∷ [])) ≡ 0 → param_count (cond b (declaration kind text ∷ []) []) ≡ 0
either_plain true kind text e = e
either_plain false kind text e = refl

used_few : (u : Uses) → length (used_special u) ≤ 2
used_few u =
    let e = length-append (cond (has_text (u.own ++ u.inner) arguments_text) (declaration bind.Arguments arguments_text ∷ []) []) (cond (has_text (u.own ++ u.inner) this_text) (declaration bind.This this_text ∷ []) []) in
    let h = one_special (has_text (u.own ++ u.inner) arguments_text) (declaration bind.Arguments arguments_text) in
    let k = one_special (has_text (u.own ++ u.inner) this_text) (declaration bind.This this_text) in
    omega (arith, e, h, k)

used_plain : (u : Uses) → param_count (used_special u) ≡ 0
used_plain u =
    let e = param_both (cond (has_text (u.own ++ u.inner) arguments_text) (declaration bind.Arguments arguments_text ∷ []) []) (cond (has_text (u.own ++ u.inner) this_text) (declaration bind.This this_text ∷ []) []) in
    let h = either_plain (has_text (u.own ++ u.inner) arguments_text) bind.Arguments arguments_text refl in
    let k = either_plain (has_text (u.own ++ u.inner) this_text) bind.This this_text refl in
    omega (arith, e, h, k)

special_few : (arrow : Bool) (u : Uses) → length (cond arrow [] (used_special u)) ≤ cond arrow 0 2
special_few true u = omega arith
special_few false u = used_few u

special_plain : (arrow : Bool) (u : Uses) → param_count (cond arrow [] (used_special u)) ≡ 0
special_plain true u = refl
special_plain false u = used_plain u

-- ---- the names of a function's own scope

own_length : (form : FuncForm) (ps : Params) (body : Body) → length (function_names form ps body) ≤ length (param_names ps) + (length (beside_params (has_initializer ps) body) + cond (is_arrow_form form) 0 2)
own_length form ps body =
    let params = declarations bind.Param (param_names ps) in
    let vars = declarations bind.Var (texts_without (param_names ps) (beside_params (has_initializer ps) body)) in
    let special = special_names form (function_uses ps body) in
    let e = length-append (params ++ vars) special in
    let f = length-append params vars in
    let a = declared_length bind.Param (param_names ps) in
    let b = declared_length bind.Var (texts_without (param_names ps) (beside_params (has_initializer ps) body)) in
    let c = without_few (param_names ps) (beside_params (has_initializer ps) body) in
    let g = special_few (is_arrow_form form) (function_uses ps body) in
    omega (arith, e, f, a, b, c, g)

own_params : (form : FuncForm) (ps : Params) (body : Body) → param_count (function_names form ps body) ≡ length (param_names ps)
own_params form ps body =
    let params = declarations bind.Param (param_names ps) in
    let vars = declarations bind.Var (texts_without (param_names ps) (beside_params (has_initializer ps) body)) in
    let special = special_names form (function_uses ps body) in
    let e = param_both (params ++ vars) special in
    let f = param_both params vars in
    let a = all_params_in (param_names ps) in
    let b = no_params_in bind.Var (texts_without (param_names ps) (beside_params (has_initializer ps) body)) refl in
    let c = special_plain (is_arrow_form form) (function_uses ps body) in
    omega (arith, e, f, a, b, c)

-- var names stand beside the parameters or in a scope of their own
vars_split : (initialized : Bool) (items : Stmts) → length (beside_params initialized (BracedBody items)) + length (body_var_names initialized items) ≤ length (all_top_var_names items)
vars_split true items =
    let e = declared_length bind.Var (top_var_names items) in
    let h = top_vars_few items in
    omega (arith, e, h)
vars_split false items = let h = top_vars_few items in omega (arith, h)

-- ---- the names are no more than the tokens

listed_tokens : (bare : Bool) (f : FuncForm) (start d : ℕ) (ps : Params) (comma : Bool) → length (param_names ps) + cond bare 0 2 ≤ length (depths_of (parenthesized bare start d (print_params whole (param_depth f bare d) d ps) comma))
listed_tokens true f start d ps comma = let h = (params_named (param_depth f true d) d ps).tokens in omega (arith, h)
listed_tokens false f start d ps comma =
    let h = (params_named (param_depth f false d) d ps).tokens in
    let e = length_both (print_params whole (param_depth f false d) d ps) (comma_piece comma d ++ mark_piece mark.CLOSE_PAREN d ∷ []) in
    let g = length_both (comma_piece comma d) (mark_piece mark.CLOSE_PAREN d ∷ []) in
    omega (arith, h, e, g)

mark_tokens : (arrow : Bool) (d : ℕ) → cond arrow 1 0 ≤ length (depths_of (cond arrow (glued_mark mark.ARROW d ∷ []) []))
mark_tokens true d = omega arith
mark_tokens false d = omega arith

bare_arrow : (f : FuncForm) (start : ℕ) (ps : Params) (comma bare : Bool) → BareIf bare f start ps comma → bare ≡ true → is_arrow_form f ≡ true
bare_arrow f start ps comma false b e = absurd (true≢false (sym e))
bare_arrow form.Arrow start ps comma true b e = refl
bare_arrow form.Script start ps comma true b e = absurd b
bare_arrow form.Function start ps comma true b e = absurd b
bare_arrow form.Method start ps comma true b e = absurd b
bare_arrow form.Getter start ps comma true b e = absurd b
bare_arrow form.Setter start ps comma true b e = absurd b

-- tokens that are no names: the parentheses and braces, or an arrow's mark
spare_braced : (bare arrow : Bool) → (bare ≡ true → arrow ≡ true) → 1 + cond arrow 0 2 ≤ cond bare 0 2 + (cond arrow 1 0 + 2)
spare_braced true true h = omega arith
spare_braced true false h = absurd (true≢false (sym (h refl)))
spare_braced false true h = omega arith
spare_braced false false h = omega arith

spare_short : (arrow : Bool) → arrow ≡ true → 1 + cond arrow 0 2 ≤ cond arrow 1 0
spare_short true e = omega arith
spare_short false e = absurd (true≢false (sym e))

nothing_beside : (initialized : Bool) (value : Expr) → length (beside_params initialized (ShortBody value)) ≤ 0
nothing_beside true value = omega arith
nothing_beside false value = omega arith

pub names_few : (d : ℕ) (form : FuncForm) (start end : ℕ) (who : Option Named) (ps : Params) (comma bare : Bool) (body : Body) → ProperFunction whole (function form start end who ps comma bare body)
    → 1 + (length (function_names form ps body) + body_names (has_initializer ps) body) ≤ length (depths_of (print_function whole d (function form start end who ps comma bare body)))
names_few d form start end who ps comma bare (BracedBody items) p =
    let e = length_both (parenthesized bare start d (print_params whole (param_depth form bare d) d ps) comma) (arrow_pieces form d ++ print_body whole d end (BracedBody items)) in
    let f = length_both (arrow_pieces form d) (print_body whole d end (BracedBody items)) in
    let g = length_both (print_stmts whole d items) (closing_mark mark.CLOSE_BRACE end d ∷ []) in
    let own = own_length form ps (BracedBody items) in
    let vars = vars_split (has_initializer ps) items in
    let top = (top_named d items).tokens in
    let listed = listed_tokens bare form start d ps comma in
    let arrow = mark_tokens (is_arrow_form form) d in
    let spare = spare_braced bare (is_arrow_form form) (bare_arrow form start ps comma bare p.2) in
    omega (arith, e, f, g, own, vars, top, listed, arrow, spare)
names_few d form start end who ps comma bare (ShortBody value) p =
    let e = length_both (parenthesized bare start d (print_params whole (param_depth form bare d) d ps) comma) (arrow_pieces form d ++ print_body whole d end (ShortBody value)) in
    let f = length_both (arrow_pieces form d) (print_body whole d end (ShortBody value)) in
    let own = own_length form ps (ShortBody value) in
    let beside = nothing_beside (has_initializer ps) value in
    let listed = listed_tokens bare form start d ps comma in
    let arrow = mark_tokens (is_arrow_form form) d in
    let spare = spare_short (is_arrow_form form) p.4.0 in
    omega (arith, e, f, own, beside, listed, arrow, spare)

-- ---- slots

callee_few : (kind : FuncKind) (name : Option Text) → length (callee_names kind name) ≤ 1
callee_few func.Expression (Some name) = omega arith
callee_few func.Expression None = omega arith
callee_few func.Declared name = omega arith
callee_few func.Arrow name = omega arith
callee_few func.Method name = omega arith
callee_few func.Getter name = omega arith
callee_few func.Setter name = omega arith

callee_plain : (kind : FuncKind) (name : Option Text) → param_count (callee_names kind name) ≤ 0
callee_plain func.Expression (Some name) = omega arith
callee_plain func.Expression None = omega arith
callee_plain func.Declared name = omega arith
callee_plain func.Arrow name = omega arith
callee_plain func.Method name = omega arith
callee_plain func.Getter name = omega arith
callee_plain func.Setter name = omega arith

body_scopes_fit : (initialized : Bool) (body : Body) (w : Within) → w.frame + body_names initialized body ≤ 2 ^ 24 → ScopesFit (scopes_body initialized body w)
body_scopes_fit initialized (ShortBody value) w h = tt
body_scopes_fit initialized (BracedBody items) w h =
    let vars = no_params_in bind.Var (body_vars initialized items) refl in
    let top = top_names_plain items in
    around_fits scope.FunctionBodyVar (body_var_names initialized items) (body_var_inner items) (scope_around scope.FunctionLexical (top_lexical_names items) (block_inner items) (scopes_stmts items)) w
    (length (top_lexical_names items) + names_stmts items) (omega (arith, vars)) h
    (λ v k. around_fits scope.FunctionLexical (top_lexical_names items) (block_inner items) (scopes_stmts items) v (names_stmts items) (omega (arith, top)) k (stmts_scopes_fit items))

pub function_slots_fit : (kind : FuncKind) (name : Option Text) (form : FuncForm) (start end : ℕ) (who : Option Named) (ps : Params) (comma bare : Bool) (body : Body) → length (param_names ps) < 2 ^ 16
    → 1 + (length (function_names form ps body) + body_names (has_initializer ps) body) ≤ 2 ^ 24 → ScopesFit (function_scopes kind name (function form start end who ps comma bare body))
function_slots_fit kind name form start end who ps comma bare body few room =
    let callee = callee_few kind name in
    let plain = callee_plain kind name in
    let own = own_params form ps body in
    around_fits scope.StrictNamedLambda (callee_names kind name) (uses_without (texts_of (function_names form ps body)) (function_uses ps body)).inner
    (scope_and scope.Function (function_names form ps body) (function_uses ps body).inner (scopes_body (has_initializer ps) body))
    outermost (length (function_names form ps body) + body_names (has_initializer ps) body) (omega (arith, plain)) (omega (arith, callee, room))
    (λ v k. and_fits scope.Function (function_names form ps body) (function_uses ps body).inner (scopes_body (has_initializer ps) body) v (body_names (has_initializer ps) body) (omega (arith, own, few)) k
    (body_scopes_fit (has_initializer ps) body))

-- ---- how many scopes

body_scopes_few : (initialized : Bool) (body : Body) (w : Within) → length (scopes_body initialized body w) ≤ body_count initialized body
body_scopes_few initialized (ShortBody value) w = omega arith
body_scopes_few initialized (BracedBody items) w =
    around_few scope.FunctionBodyVar (body_var_names initialized items) (body_var_inner items) (scope_around scope.FunctionLexical (top_lexical_names items) (block_inner items) (scopes_stmts items)) w
    (scope_count (top_lexical_names items) + count_stmts items)
    (λ v. around_few scope.FunctionLexical (top_lexical_names items) (block_inner items) (scopes_stmts items) v (count_stmts items) (stmts_scopes_few items))

body_count_few : (initialized : Bool) (body : Body) → body_count initialized body ≤ body_names initialized body
body_count_few initialized (ShortBody value) = omega arith
body_count_few initialized (BracedBody items) =
    let a = scope_count_few (body_var_names initialized items) in
    let b = scope_count_few (top_lexical_names items) in
    let c = counts_few items in
    omega (arith, a, b, c)

-- one for the function's name, one of its own, and those of its body
pub scopes_in_few : (kind : FuncKind) (name : Option Text) (form : FuncForm) (start end : ℕ) (who : Option Named) (ps : Params) (comma bare : Bool) (body : Body)
    → scopes_in kind name (function form start end who ps comma bare body) ≤ 2 + body_names (has_initializer ps) body
scopes_in_few kind name form start end who ps comma bare body =
    let a = scope_count_few (callee_names kind name) in
    let b = callee_few kind name in
    let c = body_count_few (has_initializer ps) body in
    omega (arith, a, b, c)

pub function_scopes_few : (kind : FuncKind) (name : Option Text) (form : FuncForm) (start end : ℕ) (who : Option Named) (ps : Params) (comma bare : Bool) (body : Body)
    → length (function_scopes kind name (function form start end who ps comma bare body)) ≤ scopes_in kind name (function form start end who ps comma bare body)
function_scopes_few kind name form start end who ps comma bare body =
    let h = around_few scope.StrictNamedLambda (callee_names kind name) (uses_without (texts_of (function_names form ps body)) (function_uses ps body)).inner
    (scope_and scope.Function (function_names form ps body) (function_uses ps body).inner (scopes_body (has_initializer ps) body))
    outermost (1 + body_count (has_initializer ps) body)
    (λ v. one_more (body_scopes_few (has_initializer ps) body _)) in
    omega (arith, h)
  where
    one_more : {m n : ℕ} → m ≤ n → suc m ≤ 1 + n
    one_more h = omega (arith, h)
