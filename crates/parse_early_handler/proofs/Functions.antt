-- Functions.
use Rattle.std.proofs.Common.{◌≡◌, ◌∙◌, ℕ, zero, suc, Bool, true, false, ◌||◌, Option, Some, None, option_map, List, [], ◌∷◌, ◌++◌, map, slice_get, refl, sym, ap}
use Rattle.script_grammar.specs.declared.node.NodeFuncBody.{NodeFuncBody}
use Rattle.script_grammar.specs.declared.node.NodeFuncBody.TheVariants as bodies
use Rattle.script_grammar.specs.declared.node.NodeParam.{NodeParam}
use Rattle.script_grammar.specs.declared.node.NodeFunc.{NodeFunc}
use Rattle.script_grammar.specs.Interpretation.{Interpretation, named, maybe_named}
use Rattle.script_grammar.specs.Tree as model
use Rattle.script_grammar.specs.TreeLists as part
use Rattle.script_grammar.specs.TreeLists.{maybe_expr_of, params_of}
use Rattle.script_grammar.specs.Shows.{ShowAll, ShowMaybe, FuncBodyOf, ShowParam, ShowFunc}
use Rattle.parse_track.specs.declared.region.Early.{Early}
use Rattle.parse_track.specs.EarlyErrors.{error_of}
use Rattle.parse_track.specs.Notes.{body_errors, has_rest, limit, notes_body, notes_function, notes_maybe, notes_params, notes_stmts, params_error, strict_errors}
use Rattle.parse_track.specs.Tells.{has_initializer}
use Rattle.parse_early_handler.specs.declared.nodes.ExprErrors.{ExprErrors}
use Rattle.parse_early_handler.specs.declared.nodes.BodyErrors.{BodyErrors}
use Rattle.parse_early_handler.specs.Firsts.{are_more, body_first, first_of, function_first, is_some_or, many_params, param_first}
use Rattle.parse_early_handler.specs.HasErrors.{HasEmptyBodies, HasErrorsBody, HasErrorsExpr}
use Rattle.parse_early_handler.specs.Known.{KnowsWords, known_atoms}
use Rattle.parse_early_handler.proofs.Expressions.{expr-first, inside, maybe_expr-first}
use Rattle.parse_early_handler.proofs.Parting.{IsFirst, none-first, then-first, first-as, all-first}

-- parameters that are more than names
abbrev pub more_params : model.Params → Bool
more_params ps = has_initializer ps || has_rest ps

or_true : (b : Bool) → true ≡ b || true
or_true true = refl
or_true false = refl

module _ {E : Type 0} (i : Interpretation) (R : E → model.Expr → Type 0) where
  param_as : (n : NodeParam E) (p : part.Param) → ShowParam i R n p
      → (v : Option model.Expr) × ((p ≡ record { name = named i n.name; value = v; rest = n.rest }) × ShowMaybe R n.value v)
  param_as n p h = inside R (λ v. record { name = named i n.name; value = v; rest = n.rest }) n.value p h

  -- the parameter at a place
  many-params : (m : ℕ) (ns : List (NodeParam E)) (ps : List part.Param) → ShowAll (ShowParam i R) ns ps
      → IsFirst (error_of 13 (option_map (λ (n : NodeParam E). n.name.at) (slice_get ns m))) (params_error m (params_of ps))
  many-params m [] [] h = none-first
  many-params m [] (p ∷ ps) h = absurd h
  many-params m (n ∷ ns) [] h = absurd h
  many-params zero (n ∷ ns) (p ∷ ps) h = record { is = ap (λ (x : part.Param). error_of 13 (Some x.name.at)) (sym (param_as n p h.0).1.0) }
  many-params (suc m) (n ∷ ns) (p ∷ ps) h = many-params m ns ps h.1

  pub params_many : (ns : List (NodeParam E)) (ps : List part.Param) → ShowAll (ShowParam i R) ns ps → IsFirst (many_params ns) (params_error limit (params_of ps))
  params_many ns ps h = many-params limit ns ps h

  more-next : (name : model.Named) (o : Option E) (v : Option model.Expr) (rest : Bool) (ps : model.Params) → ShowMaybe R o v
      → is_some_or o rest || more_params ps ≡ more_params (model.more_params name (maybe_expr_of v) rest ps)
  more-next name None None true ps s = or_true (has_initializer ps)
  more-next name None None false ps s = refl
  more-next name None (Some t) rest ps s = absurd s
  more-next name (Some o) None rest ps s = absurd s
  more-next name (Some o) (Some t) rest ps s = refl

  pub more-is : (ns : List (NodeParam E)) (ps : List part.Param) → ShowAll (ShowParam i R) ns ps → are_more ns ≡ more_params (params_of ps)
  more-is [] [] h = refl
  more-is [] (p ∷ ps) h = absurd h
  more-is (n ∷ ns) [] h = absurd h
  more-is (n ∷ ns) (p ∷ ps) h =
      let v = param_as n p h.0 in
      ap (λ (b : Bool). is_some_or n.value n.rest || b) (more-is ns ps h.1)
      ∙ (more-next (named i n.name) n.value v.0 n.rest (params_of ps) v.1.1
      ∙ ap (λ (x : part.Param). more_params (model.more_params x.name (maybe_expr_of x.value) x.rest (params_of ps))) (sym v.1.0))

module _ (i : Interpretation) (e : HasEmptyBodies i) (k : KnowsWords i known_atoms) where
  param-first : (n : NodeParam ExprErrors) (p : part.Param) → ShowParam i (HasErrorsExpr i) n p → IsFirst (param_first n) (notes_maybe (maybe_expr_of p.value))
  param-first n p h =
      let v = param_as i (HasErrorsExpr i) n p h in
      first-as (λ (x : part.Param). notes_maybe (maybe_expr_of x.value)) v.1.0 (maybe_expr-first i e k n.value v.0 v.1.1)

  params-first : (ns : List (NodeParam ExprErrors)) (ps : List part.Param) → ShowAll (ShowParam i (HasErrorsExpr i)) ns ps → IsFirst (first_of (map param_first ns)) (notes_params (params_of ps))
  params-first = all-first (ShowParam i (HasErrorsExpr i)) param_first (λ p. notes_maybe (maybe_expr_of p.value)) (λ ps. notes_params (params_of ps)) none-first (λ x xs g h. h) param-first

  -- bodies
  abbrev pub body_notes : Bool → model.Body → List Early
  body_notes more b = body_errors more b ++ notes_body b

  pub braced-first : (more : Bool) (n : BodyErrors) (ss : model.Stmts) → HasErrorsBody i n ss → IsFirst (body_first more (bodies.Braced n)) (body_notes more (model.BracedBody ss))
  braced-first true n ss h = then-first {xs = strict_errors ss} {ys = notes_stmts ss} (record { is = (h.holds e k).strict }) (record { is = (h.holds e k).first })
  braced-first false n ss h = record { is = (h.holds e k).first }

  pub short-first : (more : Bool) (n : ExprErrors) (t : model.Expr) → HasErrorsExpr i n t → IsFirst n.first (body_notes more (model.ShortBody t))
  short-first true n t h = expr-first i e k n t h
  short-first false n t h = expr-first i e k n t h

  pub deferred-first : (more : Bool) (ss : model.Stmts) → ss ≡ model.no_stmts → IsFirst None (body_notes more (model.BracedBody ss))
  deferred-first true ss h = first-as (λ (xs : model.Stmts). body_notes true (model.BracedBody xs)) h none-first
  deferred-first false ss h = first-as (λ (xs : model.Stmts). body_notes false (model.BracedBody xs)) h none-first

  body-first : (more : Bool) (start : ℕ) (made : model.Body → model.Function) (f : model.Function) (n : NodeFuncBody ExprErrors BodyErrors)
      → FuncBodyOf i (HasErrorsExpr i) (HasErrorsBody i) start n (λ b. f ≡ made b) → (b : model.Body) × ((f ≡ made b) × IsFirst (body_first more n) (body_notes more b))
  body-first more start made f (bodies.Braced b) h = (model.BracedBody h.0, (h.2, braced-first more b h.0 h.1))
  body-first more start made f (bodies.Short x) h = (model.ShortBody h.0, (h.2, short-first more x h.0 h.1))
  body-first more start made f (bodies.Passed) h = (model.BracedBody (i.bodies start), (h, deferred-first more (i.bodies start) (e start)))

  pub function-first : (n : NodeFunc ExprErrors BodyErrors) (f : model.Function) → ShowFunc i (HasErrorsExpr i) (HasErrorsBody i) n f → IsFirst (function_first n) (notes_function f)
  function-first n f h =
      let made : model.Body → model.Function = λ b. model.function n.form n.start n.end (maybe_named i n.name) (params_of h.0) n.comma n.bare b in
      let b = body-first (are_more n.params.items) n.start made f n.body h.2 in
      let body = first-as (λ (more : Bool). body_notes more b.0) (sym (more-is i (HasErrorsExpr i) n.params.items h.0 h.1)) b.1.1 in
      first-as notes_function b.1.0 (then-first (params_many i (HasErrorsExpr i) n.params.items h.0 h.1) (then-first (params-first n.params.items h.0 h.1) body))
