-- The scopes of a function: its special names, and the closed names of its own scope.
use Rattle.std.proofs.Common.{◌≡◌, ℕ, ◌+◌, ◌<◌, Bool, true, false, ◌||◌, ◌&&◌, nat_eq, bytes_eq, if◌then◌else◌, List, [], ◌∷◌, ◌++◌, map, drop, length, get_or, suc, Option, Some, None, refl, sym, ◌∙◌, ap, subst, arith, drop-cons, inl, inr}
use Rattle.std.proofs.lemmas.Bool.{eq-eqb, ne_eqb, cases_Bool}
use Rattle.std.proofs.lemmas.List.{append-nil}
use Rattle.std.proofs.lemmas.List.Folds.{list_any-append}
use Rattle.std.specs.Cmp.Lexicographic.{bytes_decides}
use Rattle.script_grammar.specs.declared.tree.Param.{Param}
use Rattle.script_grammar.specs.Interpretation.{Interpretation}
use Rattle.script_grammar.specs.TreeLists as part
use Rattle.script_grammar.specs.TreeLists.{params_of, maybe_expr_of}
use Rattle.script_grammar.specs.TreeOf.{param_of}
use Rattle.script_grammar.specs.declared.token.FuncForm.{FuncForm}
use Rattle.script_grammar.specs.Kinds.{is_arrow_form}
use Rattle.script_grammar.specs.Tree.{Params, Body}
use Rattle.stencil_data.specs.declared.chains.LinkName.{LinkName}
use Rattle.stencil_data.specs.declared.functions.FuncKind.{FuncKind}
use Rattle.stencil_data.specs.declared.records.ClosedName.{ClosedName}
use Rattle.stencil_data.specs.declared.scopes.BindKind.TheVariants as bind
use Rattle.stencil_data.specs.declared.scopes.ScopeKind.TheVariants as scope
use Rattle.stencil_data.specs.Named.{NamedScope, NamedClosed}
use Rattle.stencil_data.specs.Slots.{slots, own_slot, is_param, takes_frame}
use Rattle.stencil_data.specs.StandsFor.{named_scope, named_closed}
use Rattle.stencil_data.specs.Views.{ScopeView}
use Rattle.scope_analysis.specs.declared.functions.OwnUses.{OwnUses}
use Rattle.scope_analysis.specs.declared.names.DeclaredName.{DeclaredName}
use Rattle.scope_analysis.specs.declared.scoping.ScopePosition.{ScopePosition}
use Rattle.scope_analysis.specs.Closed.{is_env, closed_bindings, closed_from, closed_over, has_closed}
use Rattle.scope_analysis.specs.FunctionTree.{UsesItself, KnowsNames, specials}
use Rattle.scope_analysis.specs.Kept.{declarations_of}
use Rattle.scope_analysis.specs.Placing.{placed_at}
use Rattle.scope_analysis.specs.Scopes.{Within, unplaced, placed, scope_of, inside, scope_and, scope_around, scope_count, outermost, callee_names, used_special, special_names, function_uses, function_names, scopes_body}
use Rattle.scope_analysis.specs.Uses.{Uses, uses_without, beside_params, arguments_text, this_text}
use Rattle.scope_analysis.specs.Walked.{within, Added, Adds, Opens, OpensAny, CloseOver}
use Rattle.scope_analysis.proofs.Adding.{slots_lexical}
use Rattle.scope_analysis.proofs.Placing.{placed_entry, placed_behind, closed_own}
use Rattle.scope_analysis.specs.DeclaredNames.{Text, Declaration, declaration, declarations, has_text, texts_of, texts_without, param_names, has_initializer, is_some_expr}

pub same_some : {A : Type 0} (x y : A) → ◌≡◌ {A = Option A} (Some x) (Some y) → x ≡ y
same_some x y e = cc

init_at : (value rest : Bool) → (if value then true else rest) ≡ (if (if value then true else false) then true else rest)
init_at true rest = refl
init_at false rest = refl

init_cons : (p : part.Param) (ps : List part.Param) → has_initializer (params_of (p ∷ ps)) ≡ (if has_initializer (params_of (p ∷ [])) then true else has_initializer (params_of ps))
init_cons p ps = init_at (is_some_expr (maybe_expr_of p.value)) (has_initializer (params_of ps))

pub init_first : (i : Interpretation) (params : List Param) (k : ℕ) (param : Param) → k < length params → param ≡ get_or params k param
    → has_initializer (params_of (map (param_of i) (drop k params))) ≡ (if has_initializer (params_of (param_of i param ∷ [])) then true else has_initializer (params_of (map (param_of i) (drop (k + 1) params))))
init_first i params k param lt is =
    let one : k + 1 ≡ suc k = omega arith in
    let split : drop k params ≡ param ∷ drop (k + 1) params =
    drop-cons params k param lt ∙ (ap (λ (x : Param). x ∷ drop (suc k) params) (sym is) ∙ ap (λ (n : ℕ). param ∷ drop n params) (sym one)) in
    ap (λ (xs : List Param). has_initializer (params_of (map (param_of i) xs))) split ∙ init_cons (param_of i param) (map (param_of i) (drop (k + 1) params))

-- ---- the closed names of one scope

or_assoc : (a b c : Bool) → ((a || b) || c) ≡ (a || (b || c))
or_assoc true b c = refl
or_assoc false b c = refl

-- this name is closed over, if d is, or if it is among the others and closed over
here_true : (same others inner_t : Bool) → (same ≡ true → inner_t ≡ true) → (same || (others && inner_t)) ≡ ((same || others) && inner_t)
here_true true others true h = refl
here_true true others false h = let e : false ≡ true = h refl in cc
here_true false others inner_t h = refl

here_false : (same others inner_t : Bool) → (same ≡ true → inner_t ≡ false) → (others && inner_t) ≡ ((same || others) && inner_t)
here_false true others true h = let e : true ≡ false = h refl in cc
here_false true true false h = refl
here_false true false false h = refl
here_false false others inner_t h = refl

closed_entry : (n : ℕ) (t : Text) (inner : List Text) (d : Declaration) (ds : List Declaration) (env arg frame : ℕ) (found : Bool) → has_text inner d.text ≡ found
    → ((e a f : ℕ) → has_closed n t (closed_bindings n (placed_at e a f inner ds)) ≡ (has_text (texts_of ds) t && has_text inner t))
    → has_closed n t (closed_bindings n (placed_entry found env arg frame inner d ds)) ≡ ((bytes_eq d.text t || has_text (texts_of ds) t) && has_text inner t)
closed_entry n t inner d ds env arg frame true is h =
    ap (λ (b : Bool). (b && bytes_eq d.text t) || has_closed n t (closed_bindings n (placed_behind true env arg frame inner d ds))) (eq-eqb n n refl)
    ∙ (ap (λ (b : Bool). bytes_eq d.text t || b) (h (env + 1) (arg + (if is_param d.kind then 1 else 0)) (frame + 0))
    ∙ here_true (bytes_eq d.text t) (has_text (texts_of ds) t) (has_text inner t) (λ e. ap (has_text inner) (sym ((bytes_decides d.text t).0 e)) ∙ is))
closed_entry n t inner d ds env arg frame false is h =
    ap (has_closed n t) (closed_own n env arg frame inner d ds)
    ∙ (h (env + 0) (arg + (if is_param d.kind then 1 else 0)) (frame + (if takes_frame (own_slot d.kind arg frame) then 1 else 0))
    ∙ here_false (bytes_eq d.text t) (has_text (texts_of ds) t) (has_text inner t) (λ e. ap (has_text inner) (sym ((bytes_decides d.text t).0 e)) ∙ is))

closed_here : (n : ℕ) (t : Text) (inner : List Text) (ds : List Declaration) (env arg frame : ℕ)
    → has_closed n t (closed_bindings n (placed_at env arg frame inner ds)) ≡ (has_text (texts_of ds) t && has_text inner t)
closed_here n t inner [] env arg frame = refl
closed_here n t inner (d ∷ ds) env arg frame = closed_entry n t inner d ds env arg frame (has_text inner d.text) refl (λ e a f. closed_here n t inner ds e a f)

-- a name of another scope
closed_other_entry : (n m : ℕ) (t : Text) → (m ≡ n → ⊥) → (b : LinkName) (others : List NamedClosed) (env : Bool) → has_closed n t others ≡ false
    → has_closed n t ((if env then record { scope = m; text = b.text } ∷ [] else []) ++ others) ≡ false
closed_other_entry n m t apart b others true h = ap (λ (x : Bool). (x && bytes_eq b.text t) || has_closed n t others) (ne_eqb m n apart) ∙ h
closed_other_entry n m t apart b others false h = h

closed_other : (n m : ℕ) (t : Text) → (m ≡ n → ⊥) → (bs : List LinkName) → has_closed n t (closed_bindings m bs) ≡ false
closed_other n m t apart [] = refl
closed_other n m t apart (b ∷ bs) = closed_other_entry n m t apart b (closed_bindings m bs) (is_env b.slot) (closed_other n m t apart bs)

closed_later : (n m : ℕ) (t : Text) → n < m → (later : List NamedScope) → has_closed n t (closed_from m later) ≡ false
closed_later n m t lt [] = refl
closed_later n m t lt (s ∷ ss) =
    list_any-append (λ (c : NamedClosed). nat_eq c.scope n && bytes_eq c.text t) (closed_bindings m s.bindings) (closed_from (m + 1) ss)
    ∙ (ap (λ (b : Bool). b || has_closed n t (closed_from (m + 1) ss)) (closed_other n m t (λ e. omega (arith, e, lt)) s.bindings)
    ∙ closed_later n (m + 1) t (omega (arith, lt)) ss)

or_false : (b : Bool) → (b || false) ≡ b
or_false true = refl
or_false false = refl

-- of the scope that stands first from here
closed_first : (n : ℕ) (t : Text) (inner : List Text) (ds : List Declaration) (parent : Option ℕ) (frame : ℕ) (later : List NamedScope)
    → has_closed n t (closed_from n (scope_of scope.Function parent frame ds inner ∷ later)) ≡ (has_text (texts_of ds) t && has_text inner t)
closed_first n t inner ds parent frame later =
    let same : placed ds (slots scope.Function frame (unplaced inner ds)) ≡ placed_at 0 0 frame inner ds = ap (placed ds) (slots_lexical scope.Function refl (unplaced inner ds) 0 0 frame) in
    list_any-append (λ (c : NamedClosed). nat_eq c.scope n && bytes_eq c.text t) (closed_bindings n (placed ds (slots scope.Function frame (unplaced inner ds)))) (closed_from (n + 1) later)
    ∙ (ap (λ (b : Bool). has_closed n t (closed_bindings n (placed ds (slots scope.Function frame (unplaced inner ds)))) || b) (closed_later n (n + 1) t (omega arith) later)
    ∙ (or_false (has_closed n t (closed_bindings n (placed ds (slots scope.Function frame (unplaced inner ds)))))
    ∙ (ap (λ (bs : List LinkName). has_closed n t (closed_bindings n bs)) same ∙ closed_here n t inner ds 0 0 frame)))

-- of a function's own scope, after that of its name
pub closed_of_function : (t : Text) (named : List Declaration) (inner_named inner : List Text) (ds : List Declaration) (content : Within → List NamedScope)
    → has_closed (scope_count named) t (closed_over (scope_around scope.StrictNamedLambda named inner_named (scope_and scope.Function ds inner content) outermost)) ≡ (has_text (texts_of ds) t && has_text inner t)
closed_of_function t [] inner_named inner ds content = closed_first 0 t inner ds None 0 (content (inside scope.Function ds inner outermost))
closed_of_function t (d ∷ more) inner_named inner ds content =
    let w : Within = inside scope.StrictNamedLambda (d ∷ more) inner_named outermost in
    let first : NamedScope = scope_of scope.StrictNamedLambda None 0 (d ∷ more) inner_named in
    list_any-append (λ (c : NamedClosed). nat_eq c.scope 1 && bytes_eq c.text t) (closed_bindings 0 first.bindings) (closed_from 1 (scope_and scope.Function ds inner content w))
    ∙ (ap (λ (b : Bool). b || has_closed 1 t (closed_from 1 (scope_and scope.Function ds inner content w))) (closed_other 1 0 t (λ e. omega (arith, e)) first.bindings)
    ∙ closed_first 1 t inner ds w.parent w.frame (content (inside scope.Function ds inner w)))

-- ---- `arguments` and `this`

abbrev plain : Bool → Bool → List Declaration
plain arguments this = (if arguments then declaration bind.Arguments arguments_text ∷ [] else []) ++ (if this then declaration bind.This this_text ∷ [] else [])

-- what is used inside is found by the list of closed names, where it is bound as soon as it is used
found_used : (own in_list among inner_t : Bool) → in_list ≡ (among && inner_t) → ((own || inner_t) ≡ true → among ≡ true) → (own || in_list) ≡ (own || inner_t)
found_used true in_list among inner_t is bound = refl
found_used false in_list among true is bound = is ∙ ap (λ (b : Bool). b && true) (bound refl)
found_used false in_list true false is bound = is
found_used false in_list false false is bound = is

pub same_specials : (form : FuncForm) (u : Uses) (own_arguments own_this in_arguments in_this : Bool)
    → (is_arrow_form form ≡ false → (own_arguments || in_arguments) ≡ has_text (u.own ++ u.inner) arguments_text) → (is_arrow_form form ≡ false → (own_this || in_this) ≡ has_text (u.own ++ u.inner) this_text)
    → specials form (own_arguments || in_arguments) (own_this || in_this) ≡ special_names form u
same_specials form u own_arguments own_this in_arguments in_this arguments this = elim (cases_Bool (is_arrow_form form)) [
  | inl e ↦ ap (λ (b : Bool). if b then [] else plain (own_arguments || in_arguments) (own_this || in_this)) e ∙ ap (λ (b : Bool). if b then [] else used_special u) (sym e)
  | inr n ↦ ap (λ (b : Bool). if b then [] else plain (own_arguments || in_arguments) (own_this || in_this)) n
      ∙ (ap (λ (b : Bool). plain b (own_this || in_this)) (arguments n) ∙ (ap (λ (b : Bool). plain (has_text (u.own ++ u.inner) arguments_text) b) (this n) ∙ ap (λ (b : Bool). if b then [] else used_special u) (sym n)))
]

-- a name that is used is among those that are bound
has_append : (xs ys : List Declaration) (t : Text) → has_text (texts_of (xs ++ ys)) t ≡ (has_text (texts_of xs) t || has_text (texts_of ys) t)
has_append [] ys t = refl
has_append (x ∷ xs) ys t = ap (λ (b : Bool). bytes_eq x.text t || b) (has_append xs ys t) ∙ sym (or_assoc (bytes_eq x.text t) (has_text (texts_of xs) t) (has_text (texts_of ys) t))

or_right : (a b : Bool) → b ≡ true → (a || b) ≡ true
or_right true b h = refl
or_right false b h = h

arguments_in_plain : (a t : Bool) → a ≡ true → has_text (texts_of (plain a t)) arguments_text ≡ true
arguments_in_plain true t h = refl
arguments_in_plain false t h = cc

this_in_plain : (a t : Bool) → t ≡ true → has_text (texts_of (plain a t)) this_text ≡ true
this_in_plain true true h = refl
this_in_plain false true h = refl
this_in_plain a false h = cc

-- a special name that a function uses is among its names
special_bound : (form : FuncForm) (before : List Declaration) (u : Uses) (t : Text) → is_arrow_form form ≡ false
    → ((a b : Bool) → has_text (u.own ++ u.inner) arguments_text ≡ a → has_text (u.own ++ u.inner) this_text ≡ b → has_text (texts_of (plain a b)) t ≡ true)
    → has_text (texts_of (before ++ special_names form u)) t ≡ true
special_bound form before u t other h =
    has_append before (special_names form u) t
    ∙ or_right (has_text (texts_of before) t) (has_text (texts_of (special_names form u)) t)
    (ap (λ (b : Bool). has_text (texts_of (if b then [] else used_special u)) t) other ∙ h (has_text (u.own ++ u.inner) arguments_text) (has_text (u.own ++ u.inner) this_text) refl refl)

-- `used` is what the code finds, and `in_list` that the name is among the closed ones
special_known : (form : FuncForm) (before : List Declaration) (u : Uses) (t : Text) (own in_list : Bool)
    → own ≡ has_text u.own t → in_list ≡ (has_text (texts_of (before ++ special_names form u)) t && has_text u.inner t)
    → (has_text (u.own ++ u.inner) t ≡ true → has_text (texts_of (before ++ special_names form u)) t ≡ true)
    → (own || in_list) ≡ has_text (u.own ++ u.inner) t
special_known form before u t own in_list is_own is_in bound =
    let both : has_text (u.own ++ u.inner) t ≡ (has_text u.own t || has_text u.inner t) = list_any-append (λ (x : Text). bytes_eq x t) u.own u.inner in
    ap (λ (b : Bool). b || in_list) is_own
    ∙ (found_used (has_text u.own t) in_list (has_text (texts_of (before ++ special_names form u)) t) (has_text u.inner t) is_in (λ e. bound (both ∙ e))
    ∙ sym both)

abbrev before_specials : Params → Body → List Declaration
before_specials params body = declarations bind.Param (param_names params) ++ declarations bind.Var (texts_without (param_names params) (beside_params (has_initializer params) body))

abbrev around_none : ScopePosition
around_none = record { parent = None; frame = 0 }

abbrev pub scopes_by : FuncKind → Option Text → FuncForm → Params → Body → List NamedScope
scopes_by kind name form params body =
    scope_around scope.StrictNamedLambda (callee_names kind name) (uses_without (texts_of (function_names form params body)) (function_uses params body)).inner
    (scope_and scope.Function (function_names form params body) (function_uses params body).inner (scopes_body (has_initializer params) body)) outermost

pub function_made : (texts : List (List ℕ)) (closed : List ClosedName) (form : FuncForm) (kind : FuncKind) (name : Option Text) (params : Params) (body : Body) (own : OwnUses) (callee names : List DeclaredName) (named within_it : ScopePosition)
    (s1 s2 s3 : List ScopeView) (at1 at2 at3 number : ℕ)
    → KnowsNames texts → UsesItself own params body → declarations_of texts callee ≡ callee_names kind name → number ≡ length s1
    → OpensAny texts closed [] 0 s1 at1 scope.StrictNamedLambda (declarations_of texts callee) around_none named
    → declarations_of texts names ≡ before_specials params body ++ specials form (own.arguments || has_closed number arguments_text (map (named_closed texts) closed)) (own.this || has_closed number this_text (map (named_closed texts) closed))
    → Opens texts closed s1 at1 s2 at2 scope.Function (declarations_of texts names) named within_it
    → Adds texts closed s2 at2 s3 at3 (scopes_body (has_initializer params) body (within within_it (length s2)))
    → CloseOver texts closed (scopes_by kind name form params body) → map (named_scope texts) s3 ≡ scopes_by kind name form params body
function_made texts closed form kind name params body own callee names named within_it s1 s2 s3 at1 at2 at3 number knows uses callee_is number_is first names_are opened added told =
    let u : Uses = function_uses params body in
    let ds : List Declaration = function_names form params body in
    let cs : List NamedClosed = map (named_closed texts) closed in
    let inner_named : List Text = (uses_without (texts_of ds) u).inner in
    let content : Within → List NamedScope = scopes_body (has_initializer params) body in
    let whole : List NamedScope = scopes_by kind name form params body in
    let counted : number ≡ scope_count (declarations_of texts callee) = omega (arith, number_is, first.opened) in
    let number_known : number ≡ scope_count (callee_names kind name) = counted ∙ ap scope_count callee_is in
    let in_list : (t : Text) → has_closed number t cs ≡ (has_text (texts_of ds) t && has_text u.inner t) = λ t.
    ap (λ (k : ℕ). has_closed k t cs) number_known
    ∙ (ap (has_closed (scope_count (callee_names kind name)) t) told.names
    ∙ closed_of_function t (callee_names kind name) inner_named u.inner ds content) in
    let special : specials form (own.arguments || has_closed number arguments_text cs) (own.this || has_closed number this_text cs) ≡ special_names form u =
    same_specials form u own.arguments own.this (has_closed number arguments_text cs) (has_closed number this_text cs)
    (λ other. special_known form (before_specials params body) u arguments_text own.arguments (has_closed number arguments_text cs) uses.arguments (in_list arguments_text)
    (λ e. special_bound form (before_specials params body) u arguments_text other (λ a b is_a is_b. arguments_in_plain a b (sym is_a ∙ e))))
    (λ other. special_known form (before_specials params body) u this_text own.this (has_closed number this_text cs) uses.this (in_list this_text)
    (λ e. special_bound form (before_specials params body) u this_text other (λ a b is_a is_b. this_in_plain a b (sym is_b ∙ e)))) in
    let names_known : declarations_of texts names ≡ ds = names_are ∙ ap (λ (xs : List Declaration). before_specials params body ++ xs) special in
    let own_scope : Opens texts closed s1 at1 s2 at2 scope.Function ds named within_it =
    subst (λ (xs : List Declaration). Opens texts closed s1 at1 s2 at2 scope.Function xs named within_it) names_known opened in
    let name_scope : OpensAny texts closed [] 0 s1 at1 scope.StrictNamedLambda (callee_names kind name) around_none named =
    subst (λ (xs : List Declaration). OpensAny texts closed [] 0 s1 at1 scope.StrictNamedLambda xs around_none named) callee_is first in
    let all : Adds texts closed [] 0 s3 at3 whole = name_scope.opens inner_named (scope_and scope.Function ds u.inner content) s3 at3 (own_scope.opens u.inner content s3 at3 added) in
    let done : Added texts closed [] s3 at3 whole [] = all.adds [] told.fit (omega (arith, told.few)) (told.names ∙ ap closed_over (sym (append-nil whole))) in
    done.scopes
