-- What a function tells in its own region.
use Rattle.std.proofs.Common.{◌≡◌, ℕ, Option, Some, None, append_assoc, Bool, true, false, cond, if◌then◌else◌, ◌||◌, ◌&&◌, not, bytes_eq, List, [], ◌∷◌, ◌++◌, map, refl, sym, ap, ap₂, subst, ◌∙◌, append-nil, inl, inr, true≢false}
use Rattle.std.proofs.lemmas.List.Elements.{All-nil, All-cons}
use Rattle.script_grammar.specs.declared.token.FuncForm.{FuncForm}
use Rattle.script_grammar.specs.declared.token.FuncForm.TheVariants as form
use Rattle.script_grammar.specs.Kinds.{is_arrow_form}
use Rattle.script_grammar.specs.Pieces.{whole}
use Rattle.script_grammar.specs.Proper.{ProperBody, ProperFunction, IsFuncExpression}
use Rattle.script_grammar.specs.Tree.{Named, no_expr, some_expr, Function, function, Params, no_params, more_params, Body, BracedBody, ShortBody, Stmts}
use Rattle.stencil_data.specs.declared.functions.FuncKind.{FuncKind}
use Rattle.stencil_data.specs.declared.functions.FuncKind.TheVariants as func
use Rattle.grammar_start_laws.specs.Started.{Started, started_params, started_body, started_function}
use Rattle.parse_track.specs.Told as told
use Rattle.parse_track.specs.Told.{Region, Told, nothing, inner}
use Rattle.parse_track.specs.RegionNames.{is_lexical, is_param, directly, vars}
use Rattle.parse_track.specs.EarlyErrors.{has}
use Rattle.parse_track.specs.ClosedNames.{names_of, distinct, scope_if_any, joined, has_body, begins, function_scopes}
use Rattle.parse_track.specs.Tells as tells
use Rattle.parse_track.specs.Tells.{Text, known_texts, body_region, tells_params, tells_body, tells_stmts, tells_expr, tells_function, in_named}
use Rattle.scope_analysis.specs.DeclaredNames.{has_text, texts_without, texts_of, top_lexical_names, all_top_var_names, top_var_names, param_names, has_initializer, name_list, function_name}
use Rattle.scope_analysis.specs.Uses.{Uses, no_uses, uses_both, uses_without, uses_inside, this_text, arguments_text, beside_params, uses_expr, uses_params, uses_body, uses_stmts, uses_function}
use Rattle.scope_analysis.specs.Functions.{Inner, expression_kind, function_form, named_inner}
use Rattle.scope_closed_laws.proofs.Texts.{or_false, equal_sym, has-has_text, has_text-append, has-append, has_text-without, has-distinct, has_text-first_ones}
use Rattle.scope_closed_laws.proofs.Own.{names_in, reaches_in, starts, told_of}
use Rattle.scope_closed_laws.proofs.Quiet.{quiet}
use Rattle.scope_closed_laws.proofs.Declaring.{takes_params, declares_stmts, lexical_at_top, vars_at_top, inside_lexical, inside_vars}
use Rattle.scope_closed_laws.proofs.Reading.{Reads, Found, NameFits, is_used, lexical_has, joined-any, reads_unbound}

-- ---- the body

abbrev pub raw_vars : Bool → Body → List Text
raw_vars true body = []
raw_vars false (BracedBody items) = all_top_var_names items
raw_vars false (ShortBody value) = []

abbrev pub own_lexical : Bool → Body → List Text
own_lexical true body = []
own_lexical false (BracedBody items) = texts_of (top_lexical_names items)
own_lexical false (ShortBody value) = []

-- the uses in a body that its own region, where it has one, does not bind
abbrev pub body_own_uses : Bool → Body → Uses
body_own_uses true body = uses_body true body
body_own_uses false (BracedBody items) = uses_stmts items
body_own_uses false (ShortBody value) = uses_expr value

abbrev pub inside_told : Bool → Params → Body → Told Text
inside_told b params body = tells_params params (body_region b (tells_body body))

body_params : (b : Bool) (body : Body) (f : FuncForm) → ProperBody whole f body → directly is_param (body_region b (tells_body body)) ≡ []
body_params true body f p = refl
body_params false (BracedBody items) f p = (declares_stmts true items true nothing p).params
body_params false (ShortBody value) f p = (quiet value nothing).direct is_param

body_hoisted : (b : Bool) (body : Body) (f : FuncForm) → ProperBody whole f body → names_of (vars (body_region b (tells_body body))) ≡ raw_vars b body
body_hoisted true body f p = refl
body_hoisted false (BracedBody items) f p = inside_vars _ _ _ _ _ (declares_stmts true items true nothing p) (vars_at_top items)
body_hoisted false (ShortBody value) f p = ap names_of (quiet value nothing).hoisted

body_direct : (b : Bool) (body : Body) (f : FuncForm) → ProperBody whole f body → names_of (directly is_lexical (body_region b (tells_body body))) ≡ own_lexical b body
body_direct true body f p = refl
body_direct false (BracedBody items) f p = inside_lexical _ _ _ _ _ (declares_stmts true items true nothing p) (lexical_at_top items)
body_direct false (ShortBody value) f p = ap names_of ((quiet value nothing).direct is_lexical)

body_has : (b : Bool) (body : Body) (f : FuncForm) → ProperBody whole f body → has_body (body_region b (tells_body body)) ≡ b
body_has true body f p = refl
body_has false (BracedBody items) f p = (declares_stmts true items true nothing p).body
body_has false (ShortBody value) f p = (quiet value nothing).body

-- ---- the function's region

pub record IsToldFunction (b : Bool) (params : Params) (body : Body) (i : Told Text) : Type 0 where
  pub taken : names_of (directly is_param i) ≡ param_names params
  pub hoisted : names_of (vars i) ≡ raw_vars b body
  pub direct : names_of (directly is_lexical i) ≡ own_lexical b body
  pub bodied : has_body i ≡ b

pub told_function : (b : Bool) (params : Params) (body : Body) (f : FuncForm) → ProperBody whole f body → IsToldFunction b params body (inside_told b params body)
told_function b params body f p =
    let takes = takes_params params (body_region b (tells_body body)) in
    record {
      taken = takes.params ∙ (ap (λ ds. param_names params ++ names_of ds) (body_params b body f p) ∙ append-nil (param_names params));
      hoisted = ap names_of takes.hoisted ∙ body_hoisted b body f p;
      direct = ap names_of takes.direct ∙ body_direct b body f p;
      bodied = takes.body ∙ body_has b body f p;
    }

abbrev pub implicit_of : Bool → List Text
implicit_of arrow = if arrow then [] else arguments_text ∷ this_text ∷ []

abbrev pub region_of : Bool → Region Text
region_of arrow = cond arrow told.Arrow told.Function

pub function_scopes_are : (arrow : Bool) (i : Told Text) → names_in (region_of arrow) i ≡ joined (function_scopes bytes_eq (implicit_of arrow) (has_body i) i)
function_scopes_are true i = refl
function_scopes_are false i = refl

pub three : (x : Text) (a b c : List Text) → has_text (a ++ b ++ c) x ≡ ((has_text a x || has_text b x) || has_text c x)
three x a b c = has_text-append x (a ++ b) c ∙ ap (λ (h : Bool). h || has_text c x) (has_text-append x a b)

beside_has : (b : Bool) (body : Body) (x : Text) → has_text (beside_params b body) x ≡ has_text (raw_vars b body) x
beside_has true body x = refl
beside_has false (BracedBody items) x = has_text-first_ones x (all_top_var_names items)
beside_has false (ShortBody value) x = refl

-- the names that it binds, and those of its body beside them
pub function_has : (arrow b : Bool) (params : Params) (body : Body) (i : Told Text) → IsToldFunction b params body i → (x : Text)
    → has bytes_eq x (names_in (region_of arrow) i) ≡ (has_text (param_names params ++ beside_params b body ++ implicit_of arrow) x || has_text (own_lexical b body) x)
function_has arrow b params body i is x = ap (has bytes_eq x) (function_scopes_are arrow i ∙ ap (λ (h : Bool). joined (function_scopes bytes_eq (implicit_of arrow) h i)) is.bodied) ∙ by b is where
  by : (b : Bool) → IsToldFunction b params body i → has bytes_eq x (joined (function_scopes bytes_eq (implicit_of arrow) b i)) ≡ (has_text (param_names params ++ beside_params b body ++ implicit_of arrow) x || has_text (own_lexical b body) x)
  by true is =
      ap (has bytes_eq x) (append-nil (distinct bytes_eq (names_of (directly is_param i) ++ implicit_of arrow)))
      ∙ (has-distinct x (names_of (directly is_param i) ++ implicit_of arrow)
      ∙ (has-has_text x (names_of (directly is_param i) ++ implicit_of arrow)
      ∙ (ap (λ (us : List Text). has_text (us ++ implicit_of arrow) x) (is.taken ∙ sym (append-nil (param_names params)))
      ∙ sym (or_false (has_text (param_names params ++ [] ++ implicit_of arrow) x)))))
  by false is =
      has-append x (distinct bytes_eq (names_of (directly is_param i) ++ names_of (vars i) ++ implicit_of arrow)) (joined (scope_if_any (distinct bytes_eq (names_of (directly is_lexical i)))))
      ∙ ap₂ (λ (a l : Bool). a || l)
      (has-distinct x (names_of (directly is_param i) ++ names_of (vars i) ++ implicit_of arrow)
      ∙ (has-has_text x (names_of (directly is_param i) ++ names_of (vars i) ++ implicit_of arrow)
      ∙ (ap₂ (λ (ps vs : List Text). has_text (ps ++ vs ++ implicit_of arrow) x) is.taken is.hoisted
      ∙ (three x (param_names params) (raw_vars false body) (implicit_of arrow)
      ∙ (ap (λ (h : Bool). (has_text (param_names params) x || h) || has_text (implicit_of arrow) x) (sym (beside_has false body x))
      ∙ sym (three x (param_names params) (beside_params false body) (implicit_of arrow)))))))
      (lexical_has x i (own_lexical false body) is.direct)

-- ---- what its uses reach

abbrev pub bound_names_of : Bool → Bool → Params → Body → List Text
bound_names_of arrow b params body = param_names params ++ beside_params b body ++ implicit_of arrow

abbrev pub all_uses : Bool → Params → Body → Uses
all_uses b params body = uses_both (uses_params params) (uses_body b body)

inside_step : (w : Bool) (o : Bool) → ((w && false) || o) ≡ o
inside_step true o = refl
inside_step false o = refl

used_inside : (w : Bool) (gone : List Text) (u : Uses) (x : Text) → is_used w (uses_inside (uses_without gone u)) x ≡ ((not (has_text gone x) && has_text u.own x) || (not (has_text gone x) && has_text u.inner x))
used_inside w gone u x =
    inside_step w _
    ∙ (has_text-append x (uses_without gone u).own (uses_without gone u).inner
    ∙ ap₂ (λ (a b : Bool). a || b) (has_text-without x gone u.own) (has_text-without x gone u.inner))

-- by Bools alone: where the body's region is the function's, and where it is not
apart_step : (a p q : Bool) → (not (a || false) && (p || q)) ≡ ((not a && p) || (not a && q))
apart_step true p q = refl
apart_step false p q = refl

joint_step : (a l q s : Bool) → (not (a || l) && (q || s)) ≡ ((not a && (not l && q)) || (not a && (not l && s)))
joint_step true l q s = refl
joint_step false true q s = refl
joint_step false false q s = refl

braced_step : (a : Bool) (l : List Text) (v : Uses) (x : Text)
    → (not (a || has_text l x) && (has_text v.own x || has_text v.inner x)) ≡ ((not a && has_text (uses_without (l ++ []) v).own x) || (not a && has_text (uses_without (l ++ []) v).inner x))
braced_step a l v x =
    joint_step a (has_text l x) (has_text v.own x) (has_text v.inner x)
    ∙ ap₂ (λ (p q : Bool). (not a && p) || (not a && q)) (same v.own) (same v.inner)
  where
    same : (us : List Text) → (not (has_text l x) && has_text us x) ≡ has_text (texts_without (l ++ []) us) x
    same us = ap (λ (m : List Text). not (has_text m x) && has_text us x) (sym (append-nil l)) ∙ sym (has_text-without x (l ++ []) us)

joint : (a : Bool) (x : Text) (taken : Uses) (b : Bool) (body : Body) → (b ≡ false → taken ≡ no_uses)
    → (not (a || has_text (own_lexical b body) x) && (has_text (uses_both taken (body_own_uses b body)).own x || has_text (uses_both taken (body_own_uses b body)).inner x))
    ≡ ((not a && has_text (uses_both taken (uses_body b body)).own x) || (not a && has_text (uses_both taken (uses_body b body)).inner x))
joint a x taken true body e = apart_step a _ _
joint a x taken false (BracedBody items) e =
    subst (λ (u : Uses). (not (a || has_text (texts_of (top_lexical_names items)) x) && (has_text (uses_both u (uses_stmts items)).own x || has_text (uses_both u (uses_stmts items)).inner x))
    ≡ ((not a && has_text (uses_both u (uses_body false (BracedBody items))).own x) || (not a && has_text (uses_both u (uses_body false (BracedBody items))).inner x)))
    (sym (e refl)) (braced_step a (texts_of (top_lexical_names items)) (uses_stmts items) x)
joint a x taken false (ShortBody value) e = apart_step a _ _

or_true : (w : Bool) → (w || true) ≡ true
or_true true = refl
or_true false = refl

module _ (arrow b : Bool) (params : Params) (body : Body) (f : FuncForm) (p : ProperBody whole f body) (none : b ≡ false → uses_params params ≡ no_uses) (bs : List Started) (fs : List Inner)
    (r : Reads (uses_both (uses_params params) (body_own_uses b body)) bs fs nothing (inside_told b params body)) where
  abbrev i : Told Text
  i = inside_told b params body

  abbrev left : Uses
  left = uses_inside (uses_without (bound_names_of arrow b params body) (all_uses b params body))

  core : (w : Bool) (x : Text) → (not (has bytes_eq x (names_in (region_of arrow) i)) && reaches_in false (w || true) x i) ≡ is_used w left x
  core w x =
      ap (λ (c : Bool). not (has bytes_eq x (names_in (region_of arrow) i)) && reaches_in false c x i) (or_true w)
      ∙ (ap₂ (λ (h c : Bool). not h && c) (function_has arrow b params body i (told_function b params body f p) x) (r.reach true x ∙ or_false _)
      ∙ (joint (has_text (bound_names_of arrow b params body) x) x (uses_params params) b body none
      ∙ sym (used_inside w (bound_names_of arrow b params body) (all_uses b params body) x)))

pub reads_told : (arrow b : Bool) (start : ℕ) (params : Params) (body : Body) (f : FuncForm) (p : ProperBody whole f body) (none : b ≡ false → uses_params params ≡ no_uses) (bs : List Started) (fs : List Inner)
    (r : Reads (uses_both (uses_params params) (body_own_uses b body)) bs fs nothing (inside_told b params body)) (t : Told Text)
    → Reads (uses_inside (uses_without (bound_names_of arrow b params body) (all_uses b params body))) (record { start = start; body = body } ∷ bs) [] t (inner (region_of arrow) start (inside_told b params body) t)
reads_told true b start params body f p none bs fs r t = record {
  reach = λ w x. ap (λ (c : Bool). c || reaches_in false w x t) (core true b params body f p none bs fs r w x);
  start = ap (λ (ns : List ℕ). start ∷ (ns ++ starts false t)) (r.start ∙ append-nil _);
  sited = All-nil (Found _);
  kept = λ g o. inr (inr o);
}
reads_told false b start params body f p none bs fs r t = record {
  reach = λ w x. ap (λ (c : Bool). c || reaches_in false w x t) (core false b params body f p none bs fs r w x);
  start = ap (λ (ns : List ℕ). start ∷ (ns ++ starts false t)) (r.start ∙ append-nil _);
  sited = All-nil (Found _);
  kept = λ g o. inr (inr o);
}

pub same_initializer : (params : Params) → tells.has_initializer params ≡ has_initializer params
same_initializer no_params = refl
same_initializer (more_params name no_expr rest more) = same_initializer more
same_initializer (more_params name (some_expr e) rest more) = refl

pub no_initializer : (params : Params) → has_initializer params ≡ false → uses_params params ≡ no_uses
no_initializer no_params h = refl
no_initializer (more_params name no_expr rest more) h = no_initializer more h
no_initializer (more_params name (some_expr e) rest more) h = absurd (true≢false h)

pub function_of : (form : FuncForm) (start end : ℕ) (name : Option Named) (params : Params) (comma bare : Bool) (body : Body) (fs : List Inner) (t : Told Text) → ProperBody whole form body
    → Reads (uses_both (uses_params params) (body_own_uses (has_initializer params) body)) (started_params params ++ started_body body) fs nothing (inside_told (has_initializer params) params body)
    → Reads (uses_function (function form start end name params comma bare body)) (started_function (function form start end name params comma bare body)) [] t (tells_function (function form start end name params comma bare body) t)
function_of form start end name params comma bare body fs t p r =
    subst (λ (c : Bool). Reads (uses_function (function form start end name params comma bare body)) (started_function (function form start end name params comma bare body)) [] t (inner (region_of (is_arrow_form form)) start (inside_told c params body) t))
    (sym (same_initializer params))
    (reads_told (is_arrow_form form) (has_initializer params) start params body form p (no_initializer params) (started_params params ++ started_body body) fs r t)

-- ---- a function where it stands

begins_yes : (arrow : Bool) → begins false (region_of arrow) ≡ true
begins_yes true = refl
begins_yes false = refl

pub site_of : (kind : FuncKind) (name : Option Text) (around : List ℕ) (f : Function) (u : Uses) (bs : List Started) (t : Told Text) → told_of kind f ≡ tells_function f nothing → NameFits kind name f → ProperFunction whole f
    → Reads u bs [] t (tells_function f t) → Reads u bs (record { func = f; kind = kind; name = name; around = around } ∷ []) t (tells_function f t)
site_of kind name around (function form start end called params comma bare body) u bs t e fits p r = record {
  reach = r.reach;
  start = r.start;
  sited = All-cons (Found _) _ [] (record { there = inl (begins_yes (is_arrow_form form), sym e); proper = p; named = fits }) (All-nil (Found _));
  kept = r.kept;
}

named_step : (n w h r : Bool) (k : Bool) → k ≡ h → ((not n && k) || r) ≡ (((w && false) || (not n && h)) || r)
named_step n true h r k e = ap (λ (c : Bool). (not n && c) || r) e
named_step n false h r k e = ap (λ (c : Bool). (not n && c) || r) e

pub func_of : (at : ℕ) (f : Function) (around : List ℕ) (t : Told Text) → IsFuncExpression at f → ProperFunction whole f
    → Reads (uses_function f) (started_function f) [] t (tells_function f t) → Reads (uses_function f) (started_function f) [] nothing (tells_function f nothing)
    → Reads (uses_without (name_list (function_name f)) (uses_function f)) (started_function f) (named_inner (expression_kind (function_form f)) f around) t (in_named (tells.function_name f) (tells_function f) t)
func_of at (function form.Function start end None params comma bare body) around t h p r s =
    reads_unbound _ _ _ _ _ (site_of func.Expression None around (function form.Function start end None params comma bare body) _ _ t refl refl p r)
func_of at (function form.Function start end (Some name) params comma bare body) around t h p r s = record {
  reach = λ w x.
      ap (λ (c : Bool). (not (bytes_eq x name.text || false) && c) || reaches_in false w x t) (same w x)
      ∙ (named_step (bytes_eq x name.text || false) w (has_text left.inner x) (reaches_in false w x t) (has_text left.inner x) refl
      ∙ ap (λ (c : Bool). ((w && false) || c) || reaches_in false w x t)
      (ap (λ (c : Bool). not (c || false) && has_text left.inner x) (equal_sym x name.text) ∙ sym (has_text-without x (name.text ∷ []) left.inner)));
  start = ap (λ (ns : List ℕ). ns ++ starts false t) (s.start ∙ append-nil (map (λ (c : Started). c.start) (started_function (function form.Function start end (Some name) params comma bare body))));
  sited = All-cons (Found _) _ [] (record { there = inl (refl, refl); proper = p; named = refl }) (All-nil (Found _));
  kept = λ g o. inr (inr o);
}
  where
    left : Uses
    left = uses_function (function form.Function start end (Some name) params comma bare body)

    told_here : Told Text
    told_here = tells_function (function form.Function start end (Some name) params comma bare body) nothing

    same : (w : Bool) (x : Text) → reaches_in true (w || true) x told_here ≡ has_text left.inner x
    same true x = s.reach true x ∙ or_false _
    same false x = s.reach true x ∙ or_false _
func_of at (function form.Arrow start end None params comma bare body) around t h p r s =
    reads_unbound _ _ _ _ _ (site_of func.Arrow None around (function form.Arrow start end None params comma bare body) _ _ t refl tt p r)
func_of at (function form.Arrow start end (Some name) params comma bare body) around t h p r s = let e : Some name ≡ None = h.1 in cc
func_of at (function form.Script start end name params comma bare body) around t h p r s = absurd h
func_of at (function form.Method start end name params comma bare body) around t h p r s = absurd h
func_of at (function form.Getter start end name params comma bare body) around t h p r s = absurd h
func_of at (function form.Setter start end name params comma bare body) around t h p r s = absurd h

-- ---- a body that is a region of its own

or_swap : (a b : Bool) → (a || b) ≡ (b || a)
or_swap true true = refl
or_swap true false = refl
or_swap false true = refl
or_swap false false = refl

joined-append : (xss yss : List (List Text)) → joined (xss ++ yss) ≡ joined xss ++ joined yss
joined-append [] yss = refl
joined-append (xs ∷ xss) yss = ap (λ (us : List Text). xs ++ us) (joined-append xss yss) ∙ sym (append_assoc xs (joined xss) (joined yss))

pub var_body_has : (items : Stmts) (i : Told Text) → names_of (vars i) ≡ all_top_var_names items → names_of (directly is_lexical i) ≡ texts_of (top_lexical_names items) → (x : Text)
    → has bytes_eq x (names_in told.VarBody i) ≡ has_text (texts_of (top_lexical_names items) ++ top_var_names items) x
var_body_has items i e g x =
    ap (has bytes_eq x) (joined-append (scope_if_any (distinct bytes_eq (names_of (vars i)))) (scope_if_any (distinct bytes_eq (names_of (directly is_lexical i)))))
    ∙ (has-append x (joined (scope_if_any (distinct bytes_eq (names_of (vars i))))) (joined (scope_if_any (distinct bytes_eq (names_of (directly is_lexical i)))))
    ∙ (ap₂ (λ (a b : Bool). a || b)
    (ap (has bytes_eq x) (joined-any _) ∙ (has-distinct x _ ∙ (ap (has bytes_eq x) e ∙ (has-has_text x (all_top_var_names items) ∙ sym (has_text-first_ones x (all_top_var_names items))))))
    (lexical_has x i (texts_of (top_lexical_names items)) g)
    ∙ (or_swap (has_text (top_var_names items) x) (has_text (texts_of (top_lexical_names items)) x)
    ∙ sym (has_text-append x (texts_of (top_lexical_names items)) (top_var_names items)))))

pub var_body_none : (i : Told Text) → names_of (vars i) ≡ [] → names_of (directly is_lexical i) ≡ [] → names_in told.VarBody i ≡ []
var_body_none i e g = ap₂ (λ (vs ls : List Text). joined (scope_if_any (distinct bytes_eq vs) ++ scope_if_any (distinct bytes_eq ls))) e g
