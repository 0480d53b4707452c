-- The scopes of a function have the closed names of what the function tells.
use Rattle.std.proofs.Common.{◌≡◌, ℕ, ◌+◌, Bool, true, false, ◌&&◌, not, bytes_eq, List, [], ◌∷◌, ◌++◌, length, refl, sym, ap, ap₂, subst, ◌∙◌, add_assoc, one-add, append_assoc, append-nil, add-zero}
use Rattle.std.proofs.lemmas.List.{length-append}
use Rattle.script_grammar.specs.declared.token.FuncForm.{FuncForm}
use Rattle.script_grammar.specs.Kinds.{is_arrow_form}
use Rattle.script_grammar.specs.Pieces.{whole}
use Rattle.script_grammar.specs.Proper.{ProperBody, ProperParams, ProperStmts}
use Rattle.script_grammar.specs.Tree.{Expr, Params, Body, BracedBody, ShortBody, Stmts}
use Rattle.stencil_data.specs.declared.scopes.ScopeKind.TheVariants as scope
use Rattle.parse_track.specs.Told as told
use Rattle.parse_track.specs.Told.{Name, Region, Leaf, Told, nothing, leaf, inner, KnownNames}
use Rattle.parse_track.specs.RegionNames.{is_lexical, is_lambda, directly, vars}
use Rattle.parse_track.specs.EarlyErrors.{has}
use Rattle.parse_track.specs.ClosedNames.{names_of, distinct, scope_if_any, joined, has_body, function_scopes}
use Rattle.parse_track.specs.Tells.{Text, body_region, tells_body, tells_stmts, tells_expr}
use Rattle.scope_analysis.specs.DeclaredNames.{Declaration, has_text, texts_of, top_lexical_names, all_top_var_names, top_var_names, param_names, has_initializer}
use Rattle.scope_analysis.specs.Uses.{Uses, no_uses, uses_both, uses_params, uses_body, uses_stmts}
use Rattle.scope_analysis.specs.Scopes.{Within, scope_and, scope_around, scope_count, function_uses, function_names, body_var_names, body_var_inner, block_inner, scopes_body, scopes_stmts}
use Rattle.scope_analysis.specs.Closed.{closed_from}
use Rattle.scope_closed_laws.proofs.Texts.{has-has_text, has_text-without, has-distinct, distinct_as}
use Rattle.scope_closed_laws.proofs.Own.{scopes_in, reaches_in, picked_in, own, Tidy, Clean}
use Rattle.scope_closed_laws.proofs.Quiet.{quiet}
use Rattle.scope_closed_laws.proofs.Declaring.{texts_of-declarations, takes_params, declares_stmts, lexical_at_top, vars_at_top, inside_lexical, inside_vars}
use Rattle.scope_closed_laws.proofs.Reading.{joined-any, reads_both}
use Rattle.scope_closed_laws.proofs.Bodies.{raw_vars, own_lexical, body_own_uses, inside_told, IsToldFunction, told_function, implicit_of, region_of, no_initializer}
use Rattle.scope_closed_laws.proofs.Parts.{reads_params, reads_body, reads_stmts}
use Rattle.scope_closed_laws.proofs.Scoping.{picks, picks_agree, picks_by, picks_any, picks_alone, region_picks, Once, any_once, any_alone, distinct_once, distinct_same, and_closed, around_closed}
use Rattle.scope_closed_laws.proofs.Statements.{texts_long, reach_inner, scoped_stmts}
use Rattle.scope_closed_laws.proofs.OwnNames.{own_scope_picks}

-- ---- the scopes of its region

scopes_by_form : (arrow : Bool) (i : Told Text) → scopes_in (region_of arrow) i ≡ function_scopes bytes_eq (implicit_of arrow) (has_body i) i
scopes_by_form true i = refl
scopes_by_form false i = refl

scopes_here : (arrow b : Bool) (params : Params) (body : Body) (i : Told Text) → IsToldFunction b params body i
    → scopes_in (region_of arrow) i ≡ distinct bytes_eq (param_names params ++ raw_vars b body ++ implicit_of arrow) ∷ scope_if_any (distinct bytes_eq (own_lexical b body))
scopes_here arrow b params body i is = scopes_by_form arrow i ∙ (ap (λ (h : Bool). function_scopes bytes_eq (implicit_of arrow) h i) is.bodied ∙ by b is) where
  by : (b : Bool) → IsToldFunction b params body i → function_scopes bytes_eq (implicit_of arrow) b i ≡ distinct bytes_eq (param_names params ++ raw_vars b body ++ implicit_of arrow) ∷ scope_if_any (distinct bytes_eq (own_lexical b body))
  by true is = ap (λ us. distinct bytes_eq (us ++ implicit_of arrow) ∷ []) (is.taken ∙ sym (append-nil (param_names params)))
  by false is =
      ap₂ (λ us vs. distinct bytes_eq (us ++ vs ++ implicit_of arrow) ∷ scope_if_any (distinct bytes_eq (names_of (directly is_lexical i)))) is.taken is.hoisted
      ∙ ap (λ us. distinct bytes_eq (param_names params ++ raw_vars false body ++ implicit_of arrow) ∷ scope_if_any (distinct bytes_eq us)) is.direct

pub no_lambda : (arrow : Bool) → is_lambda (region_of arrow) ≡ false
no_lambda true = refl
no_lambda false = refl

-- what functions inside use, where its lexical names are of its region and where they are not
pub inner_joint : (x : Text) (taken : Uses) (b : Bool) (body : Body) → (b ≡ false → taken ≡ no_uses)
    → (not (has_text (own_lexical b body) x) && has_text (uses_both taken (body_own_uses b body)).inner x) ≡ has_text (uses_both taken (uses_body b body)).inner x
inner_joint x taken true body e = refl
inner_joint x taken false (BracedBody items) e =
    subst (λ (u : Uses). (not (has_text (texts_of (top_lexical_names items)) x) && has_text (uses_both u (uses_stmts items)).inner x) ≡ has_text (uses_both u (uses_body false (BracedBody items))).inner x)
    (sym (e refl))
    (ap (λ (l : List Text). not (has_text l x) && has_text (uses_stmts items).inner x) (sym (append-nil (texts_of (top_lexical_names items))))
    ∙ sym (has_text-without x (texts_of (top_lexical_names items) ++ []) (uses_stmts items).inner))
inner_joint x taken false (ShortBody value) e = refl

lexical_joined : (x : Text) (ls : List Text) → has bytes_eq x (joined (scope_if_any (distinct bytes_eq ls))) ≡ has_text ls x
lexical_joined x ls = ap (has bytes_eq x) (joined-any (distinct bytes_eq ls)) ∙ (has-distinct x ls ∙ has-has_text x ls)

-- ---- the body

-- the lexical scope of a body
lexical_closed : (items : Stmts) (p : ProperStmts whole true items) → Clean (tells_stmts true items nothing) → (m : ℕ) (v : Within)
    → closed_from m (scope_around scope.FunctionLexical (top_lexical_names items) (block_inner items) (scopes_stmts items) v)
    ≡ picks m (has_text (block_inner items)) (texts_of (top_lexical_names items)) ++ own false (m + scope_count (top_lexical_names items)) (tells_stmts true items nothing)
lexical_closed items p c m v =
    around_closed m v scope.FunctionLexical (top_lexical_names items) (block_inner items) (scopes_stmts items) (λ (k : ℕ). own false k (tells_stmts true items nothing)) refl
    (λ k u. sym ((scoped_stmts items true true nothing p c).alone k u ∙ append-nil _))

-- a body that is a region of its own
module _ (items : Stmts) (p : ProperStmts whole true items) (tidy : Tidy (tells_stmts true items nothing)) (clean : Clean (tells_stmts true items nothing)) where
  abbrev j : Told Text
  j = tells_stmts true items nothing

  abbrev ds : List Declaration
  ds = body_var_names true items

  abbrev es : List Declaration
  es = top_lexical_names items

  vars_are : distinct bytes_eq (names_of (vars j)) ≡ texts_of ds
  vars_are = ap (distinct bytes_eq) (inside_vars _ _ _ _ _ (declares_stmts true items true nothing p) (vars_at_top items)) ∙ (distinct_as (all_top_var_names items) ∙ sym (texts_of-declarations _ (top_var_names items)))

  lexical_is : names_of (directly is_lexical j) ≡ texts_of es
  lexical_is = inside_lexical _ _ _ _ _ (declares_stmts true items true nothing p) (lexical_at_top items)

  lexicals_are : distinct bytes_eq (names_of (directly is_lexical j)) ≡ texts_of es
  lexicals_are = distinct_same (directly is_lexical j) tidy.lexical ∙ lexical_is

  scopes_are : scopes_in told.VarBody j ≡ scope_if_any (texts_of ds) ++ scope_if_any (texts_of es)
  scopes_are = ap₂ (λ us vs. scope_if_any us ++ scope_if_any vs) vars_are lexicals_are

  vars_once : Once (texts_of ds)
  vars_once = subst Once vars_are (distinct_once (names_of (vars j)))

  lexicals_once : Once (texts_of es)
  lexicals_once = subst Once lexicals_are (distinct_once (names_of (directly is_lexical j)))

  reach : (x : Text) → reaches_in false false x j ≡ has_text (block_inner items) x
  reach = reach_inner _ _ _ _ (reads_stmts items true true 0 [] nothing p)

  outer_reach : (x : Text) → (not (has bytes_eq x (joined (scope_if_any (texts_of es)))) && reaches_in false false x j) ≡ has_text (body_var_inner items) x
  outer_reach x =
      ap₂ (λ (b c : Bool). not b && c) (ap (has bytes_eq x) (joined-any (texts_of es)) ∙ has-has_text x (texts_of es)) (reach x)
      ∙ sym (has_text-without x (texts_of es) (uses_stmts items).inner)

  picked_here : (m : ℕ) → picked_in m told.VarBody j ≡ picks m (has_text (body_var_inner items)) (texts_of ds) ++ picks (m + length (scope_if_any (texts_of ds))) (has_text (block_inner items)) (texts_of es)
  picked_here m =
      region_picks told.VarBody j m (scope_if_any (texts_of ds) ++ scope_if_any (texts_of es)) scopes_are (any_once (texts_of ds) (scope_if_any (texts_of es)) vars_once (any_alone (texts_of es) lexicals_once))
      ∙ (picks_any m (λ (x : Text). reaches_in false false x j) (texts_of ds) (scope_if_any (texts_of es))
      ∙ ap₂ (λ us vs. us ++ vs) (picks_agree m _ (has_text (body_var_inner items)) (texts_of ds) outer_reach)
      (picks_alone (m + length (scope_if_any (texts_of ds))) (λ (x : Text). reaches_in false false x j) (texts_of es) ∙ picks_agree (m + length (scope_if_any (texts_of ds))) _ (has_text (block_inner items)) (texts_of es) reach))

  pub var_body_closed : (m : ℕ) (v : Within)
      → closed_from m (scope_around scope.FunctionBodyVar ds (body_var_inner items) (scope_around scope.FunctionLexical es (block_inner items) (scopes_stmts items)) v)
      ≡ own false m (inner told.VarBody 0 j nothing)
  var_body_closed m v =
      around_closed m v scope.FunctionBodyVar ds (body_var_inner items) (scope_around scope.FunctionLexical es (block_inner items) (scopes_stmts items))
      (λ (k : ℕ). picks k (has_text (block_inner items)) (texts_of es) ++ own false (k + scope_count es) j) refl (lexical_closed items p clean)
      ∙ (sym (append_assoc (picks m (has_text (body_var_inner items)) (texts_of ds)) (picks (m + scope_count ds) (has_text (block_inner items)) (texts_of es)) (own false (m + scope_count ds + scope_count es) j))
      ∙ (ap₂ (λ us (k : ℕ). us ++ own false k j)
      (ap (λ (k : ℕ). picks m (has_text (body_var_inner items)) (texts_of ds) ++ picks (m + k) (has_text (block_inner items)) (texts_of es)) (sym (texts_long ds)) ∙ sym (picked_here m))
      (long ∙ ap (λ xss. m + length xss) (sym scopes_are))
      ∙ sym (append-nil (picked_in m told.VarBody j ++ own false (m + length (scopes_in told.VarBody j)) j))))
    where
      long : m + scope_count ds + scope_count es ≡ m + length (scope_if_any (texts_of ds) ++ scope_if_any (texts_of es))
      long =
          ap₂ (λ (a b : ℕ). m + a + b) (sym (texts_long ds)) (sym (texts_long es))
          ∙ (add_assoc m (length (scope_if_any (texts_of ds))) (length (scope_if_any (texts_of es))) ∙ ap (λ (k : ℕ). m + k) (sym (length-append (scope_if_any (texts_of ds)) (scope_if_any (texts_of es)))))

-- a short body that is a region of its own
short_body_closed : (value : Expr) (m : ℕ) → own false m (inner told.VarBody 0 (tells_expr value nothing) nothing) ≡ []
short_body_closed value m =
    append-nil (picked_in m told.VarBody i ++ own false (m + length (scopes_in told.VarBody i)) i)
    ∙ ap₂ (λ us vs. us ++ vs)
    (region_picks told.VarBody i m [] (ap₂ (λ us vs. scope_if_any (distinct bytes_eq us) ++ scope_if_any (distinct bytes_eq vs)) (ap names_of (quiet value nothing).hoisted) (ap names_of ((quiet value nothing).direct is_lexical))) tt)
    ((quiet value nothing).alone (m + length (scopes_in told.VarBody i)))
  where
    i : Told Text
    i = tells_expr value nothing

-- after the function's own scope
rest_closed : (b : Bool) (params : Params) (body : Body) (form : FuncForm) (p : ProperBody whole form body) (taken : Uses) (none : b ≡ false → taken ≡ no_uses) (passes : Text → Bool)
    (reach : (x : Text) → passes x ≡ has_text (uses_both taken (body_own_uses b body)).inner x) → Tidy (inside_told b params body) → Clean (inside_told b params body) → (m : ℕ) (v : Within)
    → closed_from m (scopes_body b body v) ≡ picks_by m passes (scope_if_any (distinct bytes_eq (own_lexical b body))) ++ own false (m + length (scope_if_any (distinct bytes_eq (own_lexical b body)))) (inside_told b params body)
rest_closed true params (BracedBody items) form p taken none passes reach tidy clean m v =
    let takes = takes_params params (body_region true (tells_body (BracedBody items))) in
    let body_clean = takes.clean clean in
    var_body_closed items p body_clean.0 body_clean.1 m v ∙ (ap (λ (k : ℕ). own false k (inner told.VarBody 0 (tells_stmts true items nothing) nothing)) (sym (add-zero m)) ∙ sym (takes.alone (m + 0)))
rest_closed true params (ShortBody value) form p taken none passes reach tidy clean m v =
    sym ((takes_params params (body_region true (tells_body (ShortBody value)))).alone (m + 0) ∙ short_body_closed value (m + 0))
rest_closed false params (BracedBody items) form p taken none passes reach tidy clean m v =
    let takes = takes_params params (tells_stmts true items nothing) in
    let es = top_lexical_names items in
    let is = (told_function false params (BracedBody items) form p).direct in
    let same : distinct bytes_eq (texts_of es) ≡ texts_of es = ap (distinct bytes_eq) (sym is) ∙ (distinct_same _ tidy.lexical ∙ is) in
    lexical_closed items p (takes.clean clean) m v
    ∙ (ap₂ (λ us (k : ℕ). us ++ own false (m + k) (tells_stmts true items nothing))
    (picks_agree m (has_text (block_inner items)) passes (texts_of es) (λ x. ap (λ (u : Uses). has_text (uses_both u (uses_stmts items)).inner x) (sym (none refl)) ∙ sym (reach x)) ∙ sym (picks_alone m passes (texts_of es)))
    (sym (texts_long es))
    ∙ (ap (λ us. picks_by m passes (scope_if_any us) ++ own false (m + length (scope_if_any us)) (tells_stmts true items nothing)) (sym same)
    ∙ ap (λ us. picks_by m passes (scope_if_any (distinct bytes_eq (texts_of es))) ++ us) (sym (takes.alone (m + length (scope_if_any (distinct bytes_eq (texts_of es))))))))
rest_closed false params (ShortBody value) form p taken none passes reach tidy clean m v =
    sym ((takes_params params (tells_expr value nothing)).alone (m + 0) ∙ (quiet value nothing).alone (m + 0))

-- ---- the function

module _ (form : FuncForm) (params : Params) (body : Body) (pp : ProperParams whole params) (pb : ProperBody whole form body)
    (tidy : Tidy (inside_told (has_initializer params) params body)) (clean : Clean (inside_told (has_initializer params) params body)) where
  abbrev i : Told Text
  i = inside_told (has_initializer params) params body

  abbrev region : Region Text
  region = region_of (is_arrow_form form)

  abbrev lexical : List (List Text)
  lexical = scope_if_any (distinct bytes_eq (own_lexical (has_initializer params) body))

  abbrev passes : Text → Bool
  passes x = reaches_in (is_lambda region) false x i

  told_here : IsToldFunction (has_initializer params) params body i
  told_here = told_function (has_initializer params) params body form pb

  reach_here : (x : Text) → passes x ≡ has_text (uses_both (uses_params params) (body_own_uses (has_initializer params) body)).inner x
  reach_here x =
      ap (λ (l : Bool). reaches_in l false x i) (no_lambda (is_arrow_form form))
      ∙ reach_inner _ _ _ _ (reads_both _ _ _ _ _ _ _ _ _ (reads_params params [] _ pp) (reads_body (has_initializer params) body form 0 [] pb)) x

  own_reach : (x : Text) → (not (has bytes_eq x (joined lexical)) && passes x) ≡ has_text (function_uses params body).inner x
  own_reach x =
      ap₂ (λ (b c : Bool). not b && c) (lexical_joined x (own_lexical (has_initializer params) body)) (reach_here x)
      ∙ inner_joint x (uses_params params) (has_initializer params) body (no_initializer params)

  pub region_closed : (n : ℕ) (w : Within)
      → closed_from n (scope_and scope.Function (function_names form params body) (function_uses params body).inner (scopes_body (has_initializer params) body) w)
      ≡ picked_in n region i ++ own false (n + length (scopes_in region i)) i
  region_closed n w =
      and_closed n w scope.Function (function_names form params body) (function_uses params body).inner (scopes_body (has_initializer params) body)
      (λ (m : ℕ). picks_by m passes lexical ++ own false (m + length lexical) i) refl
      (rest_closed (has_initializer params) params body form pb (uses_params params) (no_initializer params) passes reach_here tidy clean)
      ∙ (sym (append_assoc (picks n (has_text (function_uses params body).inner) (texts_of (function_names form params body))) (picks_by (n + 1) passes lexical) (own false (n + 1 + length lexical) i))
      ∙ ap₂ (λ us (k : ℕ). us ++ own false k i)
      (ap (λ us. us ++ picks_by (n + 1) passes lexical)
      (sym (own_scope_picks n form params body i told_here tidy clean)
      ∙ sym (picks_agree n _ (has_text (function_uses params body).inner) (distinct bytes_eq (param_names params ++ raw_vars (has_initializer params) body ++ implicit_of (is_arrow_form form))) own_reach))
      ∙ sym (region_picks region i n _ scopes_all (distinct_once _, any_alone _ (distinct_once _))))
      (add_assoc n 1 (length lexical) ∙ (ap (λ (k : ℕ). n + k) (one-add (length lexical)) ∙ ap (λ xss. n + length xss) (sym scopes_all))))
    where
      scopes_all : scopes_in region i ≡ distinct bytes_eq (param_names params ++ raw_vars (has_initializer params) body ++ implicit_of (is_arrow_form form)) ∷ lexical
      scopes_all = scopes_here (is_arrow_form form) (has_initializer params) params body i told_here
