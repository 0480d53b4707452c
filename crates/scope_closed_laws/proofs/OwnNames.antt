-- The names of a function's own scope are those of its region, each once.
use Rattle.std.proofs.Common.{◌≡◌, ℕ, Bool, true, false, cond, if◌then◌else◌, ◌||◌, bytes_eq, List, [], ◌∷◌, ◌++◌, map, refl, sym, ap, ap₂, ◌∙◌, append_assoc, append-nil}
use Rattle.std.proofs.lemmas.Bool.{or_parts}
use Rattle.std.proofs.lemmas.List.{map-append}
use Rattle.script_grammar.specs.declared.token.FuncForm.{FuncForm}
use Rattle.script_grammar.specs.Kinds.{is_arrow_form}
use Rattle.script_grammar.specs.Tree.{Params, Body, BracedBody, ShortBody}
use Rattle.stencil_data.specs.declared.scopes.BindKind.TheVariants as bind
use Rattle.parse_track.specs.declared.region.Declare.{Declare}
use Rattle.parse_track.specs.Told as told
use Rattle.parse_track.specs.Told.{Name, Region, Leaf, Told, nothing, leaf, inner, KnownNames}
use Rattle.parse_track.specs.RegionNames.{is_param, is_var, stops_vars, directly, vars}
use Rattle.parse_track.specs.EarlyErrors.{has, reserved}
use Rattle.parse_track.specs.ClosedNames.{names_of, without, distinct}
use Rattle.parse_track.specs.Tells.{Text, known_texts}
use Rattle.scope_analysis.specs.DeclaredNames.{Declaration, declaration, declarations, has_text, texts_without, texts_of, first_ones, param_names, has_initializer}
use Rattle.scope_analysis.specs.Uses.{Uses, this_text, arguments_text, beside_params}
use Rattle.scope_analysis.specs.Scopes.{used_special, special_names, function_uses, function_names}
use Rattle.scope_closed_laws.proofs.Texts.{or_false, equal_sym, has-has_text, has_text-append, has-append, without_as}
use Rattle.scope_closed_laws.proofs.Own.{Tidy, Clean}
use Rattle.scope_closed_laws.proofs.Declaring.{texts_of-declarations, texts_of-append}
use Rattle.scope_closed_laws.proofs.Bodies.{raw_vars, IsToldFunction, implicit_of}
use Rattle.scope_closed_laws.proofs.Scoping.{picks, picks-append, distinct_same}

-- ---- names that a function binds without a word are not declared

reserved_step : (b c : Bool) (n : ℕ) (ns : List ℕ) → (cond (b || c) (n ∷ []) [] ++ ns) ≡ [] → (c ≡ false) × (ns ≡ [])
reserved_step true c n ns e = absurd (not_nil e) where
  not_nil : (n ∷ ns) ≡ [] → ⊥
  not_nil e = cc
reserved_step false true n ns e = absurd (not_nil e) where
  not_nil : (n ∷ ns) ≡ [] → ⊥
  not_nil e = cc
reserved_step false false n ns e = (refl, e)

reserved_free : (known : KnownNames Text) (xs : List (Name Text)) → reserved bytes_eq known xs ≡ [] → has bytes_eq known.arguments (names_of xs) ≡ false
reserved_free known [] e = refl
reserved_free known (x ∷ xs) e =
    let parts = reserved_step (bytes_eq x.name known.eval) (bytes_eq x.name known.arguments) x.at (reserved bytes_eq known xs) e in
    ap₂ (λ (a b : Bool). a || b) (equal_sym known.arguments x.name ∙ parts.0) (reserved_free known xs parts.1)

abbrev Lacks : Text → Told Text → Type 0
Lacks x i = has bytes_eq x (names_of (directly (λ (d : Declare). true) i)) ≡ false

lacks_arguments : (i : Told Text) → Tidy i → Lacks arguments_text i
lacks_arguments i tidy = reserved_free known_texts (directly (λ (d : Declare). true) i) tidy.arguments

lacks_this : (i : Told Text) → Tidy i → Lacks this_text i
lacks_this i tidy = reserved_free (record { eval = known_texts.this; arguments = known_texts.this; this = known_texts.this }) (directly (λ (d : Declare). true) i) tidy.this

lacks_step : (x y : Text) (b : Bool) (r q : List Text) → (bytes_eq x y || has bytes_eq x r) ≡ false → has bytes_eq x q ≡ false → has bytes_eq x (names_of (cond b (record { name = y; at = 0 } ∷ []) []) ++ q) ≡ false
lacks_step x y true r q e h = ap₂ (λ (a c : Bool). a || c) (or_parts (bytes_eq x y) (has bytes_eq x r) e).0 h
lacks_step x y false r q e h = h

names_at : (b : Bool) (x : Name Text) → names_of (cond b (x ∷ []) []) ≡ names_of (cond b (record { name = x.name; at = 0 } ∷ []) [])
names_at true x = refl
names_at false x = refl

lacks_direct : (x : Text) (how : Declare → Bool) (t : Told Text) → Lacks x t → has bytes_eq x (names_of (directly how t)) ≡ false
lacks_direct x how nothing e = refl
lacks_direct x how (leaf (told.Declared d y) t) e =
    ap (has bytes_eq x) (map-append (λ (z : Name Text). z.name) (cond (how d) (y ∷ []) []) (directly how t) ∙ ap (λ us. us ++ names_of (directly how t)) (names_at (how d) y))
    ∙ lacks_step x y.name (how d) (names_of (directly (λ (d : Declare). true) t)) (names_of (directly how t)) e (lacks_direct x how t (or_parts (bytes_eq x y.name) (has bytes_eq x (names_of (directly (λ (d : Declare). true) t))) e).1)
lacks_direct x how (leaf (told.Used y) t) e = lacks_direct x how t e
lacks_direct x how (leaf (told.Jumped j at label) t) e = lacks_direct x how t e
lacks_direct x how (inner k at i t) e = lacks_direct x how t e

stops_step : (x : Text) (b : Bool) (us vs : List (Name Text)) → has bytes_eq x (names_of us) ≡ false → has bytes_eq x (names_of vs) ≡ false → has bytes_eq x (names_of (cond b [] us ++ vs)) ≡ false
stops_step x true us vs e h = h
stops_step x false us vs e h = ap (has bytes_eq x) (map-append (λ (z : Name Text). z.name) us vs) ∙ (has-append x (names_of us) (names_of vs) ∙ ap₂ (λ (a c : Bool). a || c) e h)

lacks_vars : (x : Text) → ((i : Told Text) → Tidy i → Lacks x i) → (t : Told Text) → Clean t → Lacks x t → has bytes_eq x (names_of (vars t)) ≡ false
lacks_vars x by nothing c e = refl
lacks_vars x by (leaf (told.Declared d y) t) c e =
    ap (has bytes_eq x) (map-append (λ (z : Name Text). z.name) (cond (is_var d) (y ∷ []) []) (vars t) ∙ ap (λ us. us ++ names_of (vars t)) (names_at (is_var d) y))
    ∙ lacks_step x y.name (is_var d) (names_of (directly (λ (d : Declare). true) t)) (names_of (vars t)) e (lacks_vars x by t c (or_parts (bytes_eq x y.name) (has bytes_eq x (names_of (directly (λ (d : Declare). true) t))) e).1)
lacks_vars x by (leaf (told.Used y) t) c e = lacks_vars x by t c e
lacks_vars x by (leaf (told.Jumped j at label) t) c e = lacks_vars x by t c e
lacks_vars x by (inner k at i t) c e = stops_step x (stops_vars k) (vars i) (vars t) (lacks_vars x by i c.1 (by i c.0)) (lacks_vars x by t c.2 e)

-- ---- the names of a function's own scope

without-append : (seen xs ys : List Text) → without bytes_eq seen (xs ++ ys) ≡ without bytes_eq seen xs ++ without bytes_eq (seen ++ xs) ys
without-append seen [] ys = ap (λ us. without bytes_eq us ys) (sym (append-nil seen))
without-append seen (x ∷ xs) ys =
    ap (λ us. cond (has bytes_eq x seen) [] (x ∷ []) ++ us) (without-append (seen ++ x ∷ []) xs ys ∙ ap (λ us. without bytes_eq (seen ++ x ∷ []) xs ++ without bytes_eq us ys) (append_assoc seen (x ∷ []) xs))
    ∙ sym (append_assoc (cond (has bytes_eq x seen) [] (x ∷ [])) (without bytes_eq (seen ++ x ∷ []) xs) (without bytes_eq (seen ++ x ∷ xs) ys))

implicit_same : (arrow : Bool) (seen : List Text) → has bytes_eq arguments_text seen ≡ false → has bytes_eq this_text seen ≡ false → without bytes_eq seen (implicit_of arrow) ≡ implicit_of arrow
implicit_same true seen e h = refl
implicit_same false seen e h =
    ap (λ (b : Bool). cond b [] (arguments_text ∷ []) ++ without bytes_eq (seen ++ arguments_text ∷ []) (this_text ∷ [])) e
    ∙ ap (λ (b : Bool). arguments_text ∷ (cond b [] (this_text ∷ []) ++ [])) (has-append this_text seen (arguments_text ∷ []) ∙ ap (λ (b : Bool). b || false) h)

beside_as : (b : Bool) (body : Body) → beside_params b body ≡ first_ones (raw_vars b body)
beside_as true body = refl
beside_as false (BracedBody items) = refl
beside_as false (ShortBody value) = refl

own_names_as : (arrow b : Bool) (params : Params) (body : Body) (i : Told Text) → IsToldFunction b params body i → Tidy i → Clean i
    → distinct bytes_eq (param_names params ++ raw_vars b body ++ implicit_of arrow) ≡ param_names params ++ texts_without (param_names params) (beside_params b body) ++ implicit_of arrow
own_names_as arrow b params body i is tidy clean =
    without-append [] (param_names params ++ raw_vars b body) (implicit_of arrow)
    ∙ ap₂ (λ us vs. us ++ vs)
    (without-append [] (param_names params) (raw_vars b body)
    ∙ ap₂ (λ us vs. us ++ vs)
    (ap (distinct bytes_eq) (sym is.taken) ∙ (distinct_same (directly is_param i) tidy.params ∙ is.taken))
    (without_as (param_names params) (raw_vars b body) (param_names params) [] (λ x. has-has_text x (param_names params) ∙ sym (or_false _)) ∙ ap (texts_without (param_names params)) (sym (beside_as b body))))
    (implicit_same arrow (param_names params ++ raw_vars b body) (free arguments_text lacks_arguments) (free this_text lacks_this))
  where
    free : (x : Text) → ((j : Told Text) → Tidy j → Lacks x j) → has bytes_eq x (param_names params ++ raw_vars b body) ≡ false
    free x by =
        has-append x (param_names params) (raw_vars b body)
        ∙ ap₂ (λ (a c : Bool). a || c) (ap (has bytes_eq x) (sym is.taken) ∙ lacks_direct x is_param i (by i tidy)) (ap (has bytes_eq x) (sym is.hoisted) ∙ lacks_vars x by i clean (by i tidy))

-- `arguments` and `this` where they are used, and where they are bound
one_special : (n : ℕ) (d : Declaration) (passes : Text → Bool) (c : Bool) → (c ≡ false → passes d.text ≡ false) → picks n passes (d.text ∷ []) ≡ picks n passes (texts_of (if c then d ∷ [] else []))
one_special n d passes true h = refl
one_special n d passes false h = ap (λ (b : Bool). map (λ (x : Text). record { scope = n; text = x }) (cond b (d.text ∷ []) [])) (h refl)

pub unused : (u : Uses) (x : Text) → has_text (u.own ++ u.inner) x ≡ false → has_text u.inner x ≡ false
unused u x e = (or_parts (has_text u.own x) (has_text u.inner x) (sym (has_text-append x u.own u.inner) ∙ e)).1

special_picks : (n : ℕ) (arrow : Bool) (u : Uses) → picks n (has_text u.inner) (implicit_of arrow) ≡ picks n (has_text u.inner) (texts_of (if arrow then [] else used_special u))
special_picks n true u = refl
special_picks n false u =
    picks-append n (has_text u.inner) (arguments_text ∷ []) (this_text ∷ [])
    ∙ (ap₂ (λ us vs. us ++ vs)
    (one_special n (declaration bind.Arguments arguments_text) (has_text u.inner) (has_text (u.own ++ u.inner) arguments_text) (unused u arguments_text))
    (one_special n (declaration bind.This this_text) (has_text u.inner) (has_text (u.own ++ u.inner) this_text) (unused u this_text))
    ∙ (sym (picks-append n (has_text u.inner) (texts_of first) (texts_of second)) ∙ ap (picks n (has_text u.inner)) (sym (texts_of-append first second))))
  where
    first : List Declaration
    first = if has_text (u.own ++ u.inner) arguments_text then declaration bind.Arguments arguments_text ∷ [] else []

    second : List Declaration
    second = if has_text (u.own ++ u.inner) this_text then declaration bind.This this_text ∷ [] else []

-- the names of the function's scope
pub names_as : (form : FuncForm) (params : Params) (body : Body) → texts_of (function_names form params body)
    ≡ param_names params ++ texts_without (param_names params) (beside_params (has_initializer params) body) ++ texts_of (special_names form (function_uses params body))
names_as form params body =
    texts_of-append (declarations bind.Param (param_names params) ++ declarations bind.Var (texts_without (param_names params) (beside_params (has_initializer params) body))) (special_names form (function_uses params body))
    ∙ ap (λ us. us ++ texts_of (special_names form (function_uses params body)))
    (texts_of-append (declarations bind.Param (param_names params)) (declarations bind.Var (texts_without (param_names params) (beside_params (has_initializer params) body)))
    ∙ ap₂ (λ us vs. us ++ vs) (texts_of-declarations _ (param_names params)) (texts_of-declarations _ (texts_without (param_names params) (beside_params (has_initializer params) body))))

pub own_scope_picks : (n : ℕ) (form : FuncForm) (params : Params) (body : Body) (i : Told Text) → IsToldFunction (has_initializer params) params body i → Tidy i → Clean i
    → picks n (has_text (function_uses params body).inner) (distinct bytes_eq (param_names params ++ raw_vars (has_initializer params) body ++ implicit_of (is_arrow_form form)))
    ≡ picks n (has_text (function_uses params body).inner) (texts_of (function_names form params body))
own_scope_picks n form params body i is tidy clean =
    ap (picks n passes) (own_names_as (is_arrow_form form) (has_initializer params) params body i is tidy clean)
    ∙ (picks-append n passes words (implicit_of (is_arrow_form form))
    ∙ (ap (λ us. picks n passes words ++ us) (special_picks n (is_arrow_form form) (function_uses params body))
    ∙ (sym (picks-append n passes words (texts_of (special_names form (function_uses params body)))) ∙ ap (picks n passes) (sym (names_as form params body)))))
  where
    passes : Text → Bool
    passes = has_text (function_uses params body).inner

    words : List Text
    words = param_names params ++ texts_without (param_names params) (beside_params (has_initializer params) body)
