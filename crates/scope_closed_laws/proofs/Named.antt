-- A function of a script, as it is told with its name, has the closed names of its scopes.
use Rattle.std.proofs.Common.{◌≡◌, ℕ, ◌+◌, Bool, true, false, cond, if◌then◌else◌, ◌||◌, ◌&&◌, not, bytes_eq, Option, None, Some, List, [], ◌∷◌, ◌++◌, length, refl, sym, ap, ap₂, subst, ◌∙◌, append-nil, true≢false}
use Rattle.std.proofs.lemmas.Bool.{false_from_ne_true}
use Rattle.std.specs.Cmp.Lexicographic.{bytes_decides}
use Rattle.script_grammar.specs.declared.token.FuncForm.{FuncForm}
use Rattle.script_grammar.specs.Kinds.{is_arrow_form}
use Rattle.script_grammar.specs.Pieces.{whole}
use Rattle.script_grammar.specs.Proper.{ProperFunction}
use Rattle.script_grammar.specs.Tree.{Named, Function, function, Params, Body}
use Rattle.stencil_data.specs.declared.functions.FuncKind.{FuncKind}
use Rattle.stencil_data.specs.declared.functions.FuncKind.TheVariants as func
use Rattle.stencil_data.specs.declared.scopes.BindKind.TheVariants as bind
use Rattle.stencil_data.specs.declared.scopes.ScopeKind.TheVariants as scope
use Rattle.stencil_data.specs.Named.{NamedScope}
use Rattle.parse_track.specs.Told as told
use Rattle.parse_track.specs.Told.{Name, Region, Leaf, Told, nothing, leaf, inner, KnownNames}
use Rattle.parse_track.specs.RegionNames.{is_lambda}
use Rattle.parse_track.specs.EarlyErrors.{has}
use Rattle.parse_track.specs.ClosedNames.{begins}
use Rattle.parse_track.specs.Tells as tells
use Rattle.parse_track.specs.Tells.{Text, known_texts, spelled, body_region, tells_params, tells_body, tells_stmts, tells_expr, tells_function, in_named}
use Rattle.scope_analysis.specs.DeclaredNames.{Declaration, declaration, has_text, texts_without, texts_of, param_names, has_initializer}
use Rattle.scope_analysis.specs.Uses.{Uses, uses_without, this_text, arguments_text, beside_params, uses_params}
use Rattle.scope_analysis.specs.Scopes as scopes
use Rattle.scope_analysis.specs.Scopes.{Within, outermost, scope_and, scope_around, scope_count, used_special, special_names, function_uses, function_names, callee_names, body_var_names, body_var_inner, block_inner, scopes_body, scopes_stmts}
use Rattle.scope_analysis.specs.Closed.{closed_from, closed_over}
use Rattle.scope_closed_laws.proofs.Texts.{or_false, has_text-append, has_text-without}
use Rattle.scope_closed_laws.proofs.Own.{scopes_in, names_in, reaches_in, picked_in, own, told_of, Clean}
use Rattle.scope_closed_laws.proofs.Declaring.{texts_of-append}
use Rattle.scope_closed_laws.proofs.Reading.{NameFits, reads_both}
use Rattle.scope_closed_laws.proofs.Bodies.{inside_told, told_function, implicit_of, region_of, function_has, same_initializer, no_initializer, bound_names_of, three}
use Rattle.scope_closed_laws.proofs.Parts.{reads_params, reads_body}
use Rattle.scope_closed_laws.proofs.Finding.{own_of}
use Rattle.scope_closed_laws.proofs.Scoping.{picks_agree, region_picks, and_closed}
use Rattle.scope_closed_laws.proofs.Statements.{reach_inner}
use Rattle.scope_closed_laws.proofs.OwnNames.{names_as, unused}
use Rattle.scope_closed_laws.proofs.FunctionScopes.{no_lambda, inner_joint, region_closed}

one_has : (d : Declaration) (x : Text) (c : Bool) → (c ≡ false → bytes_eq d.text x ≡ false) → has_text (texts_of (if c then d ∷ [] else [])) x ≡ bytes_eq d.text x
one_has d x true h = or_false (bytes_eq d.text x)
one_has d x false h = sym (h refl)

-- a name that functions inside use is bound without a word where it is one of those
special_has : (arrow : Bool) (u : Uses) (x : Text) → has_text u.inner x ≡ true → has_text (texts_of (if arrow then [] else used_special u)) x ≡ has_text (implicit_of arrow) x
special_has true u x h = refl
special_has false u x h =
    ap (λ us. has_text us x) (texts_of-append first second)
    ∙ (has_text-append x (texts_of first) (texts_of second)
    ∙ ap₂ (λ (a b : Bool). a || b) (one_has (declaration bind.Arguments arguments_text) x (has_text (u.own ++ u.inner) arguments_text) (other arguments_text))
    (one_has (declaration bind.This this_text) x (has_text (u.own ++ u.inner) this_text) (other this_text) ∙ sym (or_false (bytes_eq this_text x))))
  where
    first : List Declaration
    first = if has_text (u.own ++ u.inner) arguments_text then declaration bind.Arguments arguments_text ∷ [] else []

    second : List Declaration
    second = if has_text (u.own ++ u.inner) this_text then declaration bind.This this_text ∷ [] else []

    other : (y : Text) → has_text (u.own ++ u.inner) y ≡ false → bytes_eq y x ≡ false
    other y e = false_from_ne_true (bytes_eq y x) (λ same. true≢false (sym h ∙ (ap (has_text u.inner) (sym ((bytes_decides y x).0 same)) ∙ unused u y e)))

taken_step : (p v : Bool) → (p || (not p && v)) ≡ (p || v)
taken_step true v = refl
taken_step false v = refl

same_names : (form : FuncForm) (params : Params) (body : Body) (x : Text) → has_text (function_uses params body).inner x ≡ true
    → has_text (texts_of (function_names form params body)) x ≡ has_text (bound_names_of (is_arrow_form form) (has_initializer params) params body) x
same_names form params body x h =
    ap (λ us. has_text us x) (names_as form params body)
    ∙ (three x taken (texts_without taken beside) (texts_of (special_names form (function_uses params body)))
    ∙ (ap₂ (λ (a b : Bool). (has_text taken x || a) || b) (has_text-without x taken beside) (special_has (is_arrow_form form) (function_uses params body) x h)
    ∙ (ap (λ (a : Bool). a || has_text (implicit_of (is_arrow_form form)) x) (taken_step (has_text taken x) (has_text beside x)) ∙ sym (three x taken beside (implicit_of (is_arrow_form form))))))
  where
    taken : List Text
    taken = param_names params

    beside : List Text
    beside = beside_params (has_initializer params) body

and_none : (b h : Bool) → h ≡ false → (not b && h) ≡ false
and_none true h e = refl
and_none false h e = e

-- a use that leaves the function, by Bools alone
leaves_step : (a l h0 h b : Bool) → (not l && h0) ≡ h → (h ≡ true → b ≡ a) → ((not (a || l) && h0) || false) ≡ (not b && h)
leaves_step true true h0 h b e same = sym (and_none b h (sym e))
leaves_step false true h0 h b e same = sym (and_none b h (sym e))
leaves_step true false h0 true b e same = sym (ap (λ (c : Bool). not c && true) (same refl))
leaves_step true false h0 false true e same = refl
leaves_step true false h0 false false e same = refl
leaves_step false false h0 true b e same = ap (λ (c : Bool). c || false) e ∙ sym (ap (λ (c : Bool). not c && true) (same refl))
leaves_step false false h0 false true e same = ap (λ (c : Bool). c || false) e
leaves_step false false h0 false false e same = ap (λ (c : Bool). c || false) e

begins_named : (arrow : Bool) → begins true (region_of arrow) ≡ false
begins_named true = refl
begins_named false = refl

module _ (form : FuncForm) (start end : ℕ) (called : Option Named) (params : Params) (comma bare : Bool) (body : Body) (p : ProperFunction whole (function form start end called params comma bare body)) where
  abbrev inside_of : Bool → Told Text
  inside_of b = inside_told b params body

  abbrev region : Region Text
  region = region_of (is_arrow_form form)

  abbrev content : Within → List NamedScope
  content w = scope_and scope.Function (function_names form params body) (function_uses params body).inner (scopes_body (has_initializer params) body) w

  plain : Clean (inner region start (inside_of (has_initializer params)) nothing) → own_of (inner region start (inside_of (has_initializer params)) nothing) ≡ closed_from 0 (content outermost)
  plain c =
      ap (λ (l : Bool). picked_in 0 region (inside_of (has_initializer params)) ++ own l (0 + length (scopes_in region (inside_of (has_initializer params)))) (inside_of (has_initializer params))) (no_lambda (is_arrow_form form))
      ∙ sym (region_closed form params body p.3 p.4 c.0 c.1 0 outermost)

  module _ (name : Named) (c : Clean (inner region start (inside_of (has_initializer params)) nothing)) where
    abbrev i : Told Text
    i = inside_of (has_initializer params)

    abbrev left : List Text
    left = (uses_without (texts_of (function_names form params body)) (function_uses params body)).inner

    reach_here : (x : Text) → reaches_in true false x (inner region start i nothing) ≡ has_text left x
    reach_here x =
        ap (λ (b : Bool). (not (has bytes_eq x (names_in region i)) && reaches_in (is_lambda region) b x i) || false) (begins_named (is_arrow_form form))
        ∙ (ap (λ (l : Bool). (not (has bytes_eq x (names_in region i)) && reaches_in l false x i) || false) (no_lambda (is_arrow_form form))
        ∙ (ap₂ (λ (a h : Bool). (not a && h) || false) (function_has (is_arrow_form form) (has_initializer params) params body i (told_function (has_initializer params) params body form p.4) x)
        (reach_inner _ _ _ _ (reads_both _ _ _ _ _ _ _ _ _ (reads_params params [] _ p.3) (reads_body (has_initializer params) body form 0 [] p.4)) x)
        ∙ (leaves_step _ _ _ _ (has_text (texts_of (function_names form params body)) x) (inner_joint x (uses_params params) (has_initializer params) body (no_initializer params)) (same_names form params body x)
        ∙ sym (has_text-without x (texts_of (function_names form params body)) (function_uses params body).inner))))

    behind_name : (n : ℕ) → own true n (inner region start i nothing) ≡ picked_in n region i ++ own false (n + length (scopes_in region i)) i
    behind_name n =
        append-nil _
        ∙ (ap (λ (b : Bool). cond b [] (picked_in n region i ++ own (is_lambda region) (n + length (scopes_in region i)) i)) (begins_named (is_arrow_form form))
        ∙ ap (λ (l : Bool). picked_in n region i ++ own l (n + length (scopes_in region i)) i) (no_lambda (is_arrow_form form)))

    named : own_of (inner (told.Lambda (spelled name)) 0 (inner region start i nothing) nothing)
        ≡ closed_from 0 (scope_around scope.StrictNamedLambda (declaration bind.Callee name.text ∷ []) left content outermost)
    named =
        ap₂ (λ us vs. us ++ vs)
        (region_picks (told.Lambda (spelled name)) (inner region start i nothing) 0 ((name.text ∷ []) ∷ []) refl ((refl, tt), tt)
        ∙ (append-nil _ ∙ picks_agree 0 _ (has_text left) (name.text ∷ []) reach_here))
        (behind_name 1)
        ∙ sym (and_closed 0 outermost scope.StrictNamedLambda (declaration bind.Callee name.text ∷ []) left content
        (λ (m : ℕ). picked_in m region i ++ own false (m + length (scopes_in region i)) i) refl (region_closed form params body p.3 p.4 c.0 c.1))

  told_as : (Goal : Told Text → Type 0) → (Clean (inner region start (inside_of (has_initializer params)) nothing) → Goal (inner region start (inside_of (has_initializer params)) nothing))
      → Clean (inner region start (inside_of (tells.has_initializer params)) nothing) → Goal (inner region start (inside_of (tells.has_initializer params)) nothing)
  told_as Goal h = subst (λ (b : Bool). Clean (inner region start (inside_of b) nothing) → Goal (inner region start (inside_of b) nothing)) (sym (same_initializer params)) h

  plain_told : Clean (inner region start (inside_of (tells.has_initializer params)) nothing) → own_of (inner region start (inside_of (tells.has_initializer params)) nothing) ≡ closed_from 0 (content outermost)
  plain_told = told_as (λ u. own_of u ≡ closed_from 0 (content outermost)) plain

  named_told : (name : Named) → Clean (inner region start (inside_of (tells.has_initializer params)) nothing)
      → own_of (inner (told.Lambda (spelled name)) 0 (inner region start (inside_of (tells.has_initializer params)) nothing) nothing)
      ≡ closed_from 0 (scope_around scope.StrictNamedLambda (declaration bind.Callee name.text ∷ []) (uses_without (texts_of (function_names form params body)) (function_uses params body)).inner content outermost)
  named_told name =
      told_as (λ u. own_of (inner (told.Lambda (spelled name)) 0 u nothing) ≡ closed_from 0 (scope_around scope.StrictNamedLambda (declaration bind.Callee name.text ∷ []) (uses_without (texts_of (function_names form params body)) (function_uses params body)).inner content outermost))
      (λ c. named name c)

-- a function, as it is told with its name
pub function_closed : (kind : FuncKind) (name : Option Text) (f : Function) → ProperFunction whole f → NameFits kind name f → Clean (told_of kind f) → own_of (told_of kind f) ≡ closed_over (scopes.function_scopes kind name f)
function_closed func.Expression name (function form start end None params comma bare body) p fits c =
    plain_told form start end None params comma bare body p c ∙ ap (λ (n : Option Text). closed_over (scopes.function_scopes func.Expression n (function form start end None params comma bare body))) (sym fits)
function_closed func.Expression name (function form start end (Some called) params comma bare body) p fits c =
    named_told form start end (Some called) params comma bare body p called c.1 ∙ ap (λ (n : Option Text). closed_over (scopes.function_scopes func.Expression n (function form start end (Some called) params comma bare body))) (sym fits)
function_closed func.Declared name (function form start end called params comma bare body) p fits c = plain_told form start end called params comma bare body p c
function_closed func.Arrow name (function form start end called params comma bare body) p fits c = plain_told form start end called params comma bare body p c
function_closed func.Method name (function form start end called params comma bare body) p fits c = plain_told form start end called params comma bare body p c
function_closed func.Getter name (function form start end called params comma bare body) p fits c = plain_told form start end called params comma bare body p c
function_closed func.Setter name (function form start end called params comma bare body) p fits c = plain_told form start end called params comma bare body p c
