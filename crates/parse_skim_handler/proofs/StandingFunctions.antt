-- Functions.
use Rattle.std.proofs.Common.{Bool, List, None, Option, Some, [], ap, false, not, option_map, refl, sym, true, ℕ, ◌&&◌, ◌++◌, ◌||◌, ◌∙◌, ◌∷◌, ◌≡◌}
use Rattle.stencil_data.specs.declared.functions.FuncKind.{FuncKind}
use Rattle.script_grammar.specs.Braced as braced
use Rattle.script_grammar.specs.Interpretation.{Interpretation, maybe_named, named}
use Rattle.script_grammar.specs.Shows.{FuncBodyOf, ShowAll, ShowFunc, ShowMaybe, ShowParam}
use Rattle.script_grammar.specs.Tree as model
use Rattle.script_grammar.specs.TreeLists as part
use Rattle.script_grammar.specs.TreeLists.{maybe_expr_of, params_of}
use Rattle.script_grammar.specs.declared.node.NodeFunc.{NodeFunc}
use Rattle.script_grammar.specs.declared.node.NodeFuncBody.TheVariants as bodies
use Rattle.script_grammar.specs.declared.node.NodeFuncBody.{NodeFuncBody}
use Rattle.script_grammar.specs.declared.node.NodeParam.{NodeParam}
use Rattle.script_grammar.specs.declared.tree.Ident.{Ident}
use Rattle.parse_track.specs.Notes as note
use Rattle.parse_track.specs.Tells as tell
use Rattle.parse_track.specs.Tells.{Text}
use Rattle.parse_track.specs.Told as told
use Rattle.parse_track.specs.Told.{Told, nothing}
use Rattle.parse_track.specs.declared.region.Declare.TheVariants as how
use Rattle.parse_handlers.specs.Inner as inner
use Rattle.parse_early_handler.specs.Firsts.{are_more, is_some_or}
use Rattle.parse_early_handler.proofs.Expressions.{inside}
use Rattle.parse_early_handler.proofs.Functions.{braced-first, deferred-first, more-is, more_params, params_many, short-first}
use Rattle.parse_track_pieces.specs.Parts as listed
use Rattle.parse_track_pieces.specs.Parts.{have_initializer}
use Rattle.parse_track_pieces.proofs.Saying.{passed-says, read-says, told-same}
use Rattle.parse_skim_handler.specs.Kept.{body_means, function_around, function_means, has_braces, inside_means, named_means, own_means, param_means}
use Rattle.parse_skim_handler.specs.Meaning.{Meaning, all_meant}
use Rattle.parse_skim_handler.specs.Means.{Owed, Stands, error_owed, name_owed, then_owed}
use Rattle.parse_skim_handler.specs.Packed.{expr_errors}
use Rattle.parse_skim_handler.specs.Skims.{SkimsBody, SkimsExpr}
use Rattle.parse_skim_handler.specs.declared.nodes.SkimBody.{SkimBody}
use Rattle.parse_skim_handler.specs.declared.nodes.SkimExpr.{SkimExpr}
use Rattle.parse_skim_handler.proofs.Standing.{all-stand, error-stands, name-stands, region-stands, stands-as, then-stands}
use Rattle.parse_skim_handler.proofs.StandingParts.{maybe_expr-stands, maybe_owed}

abbrev params_owed : model.Params → Owed
params_owed ps = record { tells = tell.tells_params ps; braced = braced.in_params true ps; inner = inner.in_params ps; errors = note.notes_params ps }

abbrev param_owed : part.Param → Owed
param_owed p = then_owed (name_owed how.Param p.name) (maybe_owed (maybe_expr_of p.value))

abbrev body_tells : model.Body → Told Text → Told Text
body_tells (model.BracedBody items) t = tell.tells_stmts true items t
body_tells (model.ShortBody value) t = tell.tells_expr value t

abbrev body_owed : Bool → model.Body → Owed
body_owed more b = record { tells = body_tells b; braced = braced.in_body true b; inner = inner.in_body b; errors = note.body_errors more b ++ note.notes_body b }

abbrev own_tells : (own : Bool) → model.Body → Told Text → Told Text
own_tells true b t = told.inner told.VarBody 0 (body_tells b nothing) t
own_tells false b t = body_tells b t

abbrev own_owed : (own more : Bool) → model.Body → Owed
own_owed own more b = record { tells = own_tells own b; braced = braced.in_body true b; inner = inner.in_body b; errors = note.body_errors more b ++ note.notes_body b }

abbrev pub function_owed : (declared : Bool) → model.Function → Owed
function_owed declared f = record { tells = tell.tells_function f; braced = braced.in_function true f; inner = inner.in_function declared f; errors = note.notes_function f }

own-told : (own : Bool) (b : model.Body) → own_tells own b nothing ≡ tell.body_region own (tell.tells_body b)
own-told true (model.BracedBody items) = refl
own-told true (model.ShortBody value) = refl
own-told false (model.BracedBody items) = refl
own-told false (model.ShortBody value) = refl

not-or : (a b : Bool) → not (a || b) ≡ not a && not b
not-or true b = refl
not-or false b = refl

-- a function that was found, by what is known of it
pub found-puts : (start end : ℕ) (k l : FuncKind) (n m : Option (List ℕ)) (b c s t : Bool) (x y : inner.Inner) (r : inner.Inner) → k ≡ l → n ≡ m → b ≡ c → s ≡ t → x ≡ y
    → inner.more_inner start end k n b s x r ≡ inner.more_inner start end l m c t y r
found-puts start end k l n m b c s t x y r e f g h j =
    ap (λ z. inner.more_inner start end z n b s x r) e
    ∙ (ap (λ z. inner.more_inner start end l z b s x r) f
    ∙ (ap (λ z. inner.more_inner start end l m z s x r) g ∙ (ap (λ z. inner.more_inner start end l m c z x r) h ∙ ap (λ z. inner.more_inner start end l m c t z r) j)))

module _ (i : Interpretation) where
  param_as : (n : NodeParam SkimExpr) (p : part.Param) → ShowParam i (SkimsExpr i) n p
      → (v : Option model.Expr) × ((p ≡ record { name = named i n.name; value = v; rest = n.rest }) × ShowMaybe (SkimsExpr i) n.value v)
  param_as n p h = inside (SkimsExpr i) (λ v. record { name = named i n.name; value = v; rest = n.rest }) n.value p h

  param-stands : (n : NodeParam SkimExpr) (p : part.Param) → ShowParam i (SkimsExpr i) n p → Stands i (param_means i n) (param_owed p)
  param-stands n p h =
      let v = param_as n p h in
      stands-as i param_owed v.1.0 (then-stands i (name-stands i how.Param n.name) (maybe_expr-stands i n.value v.0 v.1.1))

  params-stand : (ns : List (NodeParam SkimExpr)) (ps : List part.Param) → ShowAll (ShowParam i (SkimsExpr i)) ns ps → Stands i (all_meant (param_means i) ns) (params_owed (params_of ps))
  params-stand = all-stand i (ShowParam i (SkimsExpr i)) (param_means i) param_owed (λ ps. params_owed (params_of ps)) refl (λ x xs. refl) param-stands

  -- bodies
  body-inside : (more : Bool) (start : ℕ) (made : model.Body → model.Function) (f : model.Function) (n : NodeFuncBody SkimExpr SkimBody)
      → FuncBodyOf i (SkimsExpr i) (SkimsBody i) start n (λ b. f ≡ made b)
      → (b : model.Body) × ((f ≡ made b) × (has_braces n ≡ inner.is_braced b) × Stands i (body_means i more start n) (body_owed more b))
  body-inside more start made f (bodies.Braced b) h = (
    model.BracedBody h.0,
    (
      h.2,
      refl,
      record {
        says = read-says h.0 h.1.told;
        puts = λ r. refl;
        first = λ e k. (braced-first i e k more b.errors h.0 h.1.errors).is;
      },
    ),
  )
  body-inside more start made f (bodies.Short x) h = (
    model.ShortBody h.0,
    (
      h.2,
      refl,
      record {
        says = h.1.stands.says;
        puts = h.1.stands.puts;
        first = λ e k. (short-first i e k more (expr_errors x) h.0 h.1.errors).is;
      },
    ),
  )
  body-inside more start made f (bodies.Passed) h = (
    model.BracedBody (i.bodies start),
    (
      h,
      refl,
      record {
        says = passed-says i start;
        puts = λ r. refl;
        first = λ e k. (deferred-first i e k more (i.bodies start) (e start)).is;
      },
    ),
  )

  own-stands : (own more : Bool) (start : ℕ) (n : NodeFuncBody SkimExpr SkimBody) (b : model.Body) → Stands i (body_means i more start n) (body_owed more b) → Stands i (own_means i own more start n) (own_owed own more b)
  own-stands true more start n b h = region-stands i told.VarBody 0 h
  own-stands false more start n b h = h

  -- what the parameters are
  initial-next : (name : model.Named) (o : Option SkimExpr) (v : Option model.Expr) (rest more : Bool) (ps : model.Params) → ShowMaybe (SkimsExpr i) o v → more ≡ tell.has_initializer ps
      → listed.is_some_or o more ≡ tell.has_initializer (model.more_params name (maybe_expr_of v) rest ps)
  initial-next name None None rest more ps s e = e
  initial-next name None (Some t) rest more ps s e = absurd s
  initial-next name (Some o) None rest more ps s e = absurd s
  initial-next name (Some o) (Some t) rest more ps s e = refl

  initializers : (ns : List (NodeParam SkimExpr)) (ps : List part.Param) → ShowAll (ShowParam i (SkimsExpr i)) ns ps → have_initializer ns ≡ tell.has_initializer (params_of ps)
  initializers [] [] h = refl
  initializers [] (p ∷ ps) h = absurd h
  initializers (n ∷ ns) [] h = absurd h
  initializers (n ∷ ns) (p ∷ ps) h =
      let v = param_as n p h.0 in
      initial-next (named i n.name) n.value v.0 n.rest (have_initializer ns) (params_of ps) v.1.1 (initializers ns ps h.1)
      ∙ ap (λ (x : part.Param). tell.has_initializer (model.more_params x.name (maybe_expr_of x.value) x.rest (params_of ps))) (sym v.1.0)

  simple-next : (name : model.Named) (o : Option SkimExpr) (v : Option model.Expr) (rest : Bool) (ps : model.Params) → ShowMaybe (SkimsExpr i) o v
      → not (is_some_or o rest) ≡ inner.has_no_value (maybe_expr_of v) && not rest
  simple-next name None None rest ps s = refl
  simple-next name None (Some t) rest ps s = absurd s
  simple-next name (Some o) None rest ps s = absurd s
  simple-next name (Some o) (Some t) rest ps s = refl

  simple-is : (ns : List (NodeParam SkimExpr)) (ps : List part.Param) → ShowAll (ShowParam i (SkimsExpr i)) ns ps → not (are_more ns) ≡ inner.is_simple (params_of ps)
  simple-is [] [] h = refl
  simple-is [] (p ∷ ps) h = absurd h
  simple-is (n ∷ ns) [] h = absurd h
  simple-is (n ∷ ns) (p ∷ ps) h =
      let v = param_as n p h.0 in
      not-or (is_some_or n.value n.rest) (are_more ns)
      ∙ ap (λ b. b && not (are_more ns)) (simple-next (named i n.name) n.value v.0 n.rest (params_of ps) v.1.1)
      ∙ ap (λ b. (inner.has_no_value (maybe_expr_of v.0) && not n.rest) && b) (simple-is ns ps h.1)
      ∙ ap (λ (x : part.Param). (inner.has_no_value (maybe_expr_of x.value) && not x.rest) && inner.is_simple (params_of ps)) (sym v.1.0)

  -- what stands in a function
  abbrev inside_owed : (own more : Bool) → model.Params → model.Body → Owed
  inside_owed own more ps b = then_owed (error_owed (note.params_error note.limit ps)) (then_owed (params_owed ps) (own_owed own more b))

  inside-stands : (start : ℕ) (ns : List (NodeParam SkimExpr)) (n : NodeFuncBody SkimExpr SkimBody) (ps : List part.Param) (b : model.Body)
      → ShowAll (ShowParam i (SkimsExpr i)) ns ps → Stands i (body_means i (are_more ns) start n) (body_owed (are_more ns) b)
      → Stands i (inside_means i start ns n) (inside_owed (have_initializer ns) (are_more ns) (params_of ps) b)
  inside-stands start ns n ps b h s =
      then-stands i (error-stands i _ (note.params_error note.limit (params_of ps)) (λ e k. params_many i (SkimsExpr i) ns ps h))
      (then-stands i (params-stand ns ps h) (own-stands (have_initializer ns) (are_more ns) start n b s))

  -- a function, by what its parameters and its body are
  abbrev around_owed : (declared : Bool) (n : NodeFunc SkimExpr SkimBody) (ps : model.Params) (b : model.Body) → (braces own more simple : Bool) → Owed
  around_owed declared n ps b braces own more simple = record {
    tells = λ t. told.inner (tell.function_region n.form) n.start (tell.tells_params ps (tell.body_region own (tell.tells_body b))) t;
    braced = λ r. braced.in_params true ps (braced.in_body true b r);
    inner = inner.more_inner n.start n.end (inner.kind_of declared n.form) (option_map inner.text_of_name (maybe_named i n.name)) braces simple (inner.in_params ps (inner.in_body b inner.no_inner));
    errors = note.params_error note.limit ps ++ (note.notes_params ps ++ (note.body_errors more b ++ note.notes_body b));
  }

  around-stands : (declared : Bool) (n : NodeFunc SkimExpr SkimBody) (ps : model.Params) (b : model.Body) (own more : Bool) (m : Meaning) → Stands i m (inside_owed own more ps b)
      → Stands i (function_around i declared n m) (around_owed declared n ps b (has_braces n.body) own more (not (are_more n.params.items)))
  around-stands declared n ps b own more m s =
      let kind = inner.kind_of declared n.form in
      let name = option_map inner.text_of_name (maybe_named i n.name) in
      record {
        says = told-same (λ t. ap (λ x. told.inner (tell.function_region n.form) n.start (tell.tells_params ps x) t) (own-told own b)) (region-stands i (tell.function_region n.form) n.start s).says;
        puts = λ r. ap (λ x. inner.more_inner n.start n.end kind name (has_braces n.body) (not (are_more n.params.items)) x r) (s.puts inner.no_inner);
        first = s.first;
      }

  pub function-stands : (declared : Bool) (n : NodeFunc SkimExpr SkimBody) (f : model.Function) → ShowFunc i (SkimsExpr i) (SkimsBody i) n f → Stands i (function_means i declared n) (function_owed declared f)
  function-stands declared n f h =
      let ns = n.params.items in
      let ps = params_of h.0 in
      let made : model.Body → model.Function = λ b. model.function n.form n.start n.end (maybe_named i n.name) ps n.comma n.bare b in
      let body = body-inside (are_more ns) n.start made f n.body h.2 in
      let b = body.0 in
      let around = around-stands declared n ps b (have_initializer ns) (are_more ns) (inside_means i n.start ns n.body) (inside-stands n.start ns n.body h.0 b h.1 body.1.2) in
      stands-as i (function_owed declared) body.1.0
      (stands-as i (λ braces. around_owed declared n ps b braces (tell.has_initializer ps) (more_params ps) (inner.is_simple ps)) (sym body.1.1)
      (stands-as i (λ own. around_owed declared n ps b (has_braces n.body) own (more_params ps) (inner.is_simple ps)) (sym (initializers ns h.0 h.1))
      (stands-as i (λ more. around_owed declared n ps b (has_braces n.body) (have_initializer ns) more (inner.is_simple ps)) (sym (more-is i (SkimsExpr i) ns h.0 h.1))
      (stands-as i (λ simple. around_owed declared n ps b (has_braces n.body) (have_initializer ns) (are_more ns) simple) (sym (simple-is ns h.0 h.1)) around))))

  -- a function expression, in the region of its name where it has one
  pub function_name-is : (n : NodeFunc SkimExpr SkimBody) (f : model.Function) → ShowFunc i (SkimsExpr i) (SkimsBody i) n f → tell.function_name f ≡ maybe_named i n.name
  function_name-is n f h =
      let made : model.Body → model.Function = λ b. model.function n.form n.start n.end (maybe_named i n.name) (params_of h.0) n.comma n.bare b in
      ap tell.function_name (body-inside (are_more n.params.items) n.start made f n.body h.2).1.0

  abbrev named_owed : model.Function → Option model.Named → Owed
  named_owed f name = record { tells = tell.in_named name (tell.tells_function f); braced = braced.in_function true f; inner = inner.in_function false f; errors = note.notes_function f }

  named_of : (name : Option Ident) (f : model.Function) (m : Meaning) → Stands i m (function_owed false f) → Stands i (named_means i name m) (named_owed f (maybe_named i name))
  named_of None f m h = h
  named_of (Some name) f m h = region-stands i (told.Lambda (tell.spelled (named i name))) 0 h

  pub named-stands : (n : NodeFunc SkimExpr SkimBody) (f : model.Function) → ShowFunc i (SkimsExpr i) (SkimsBody i) n f
      → Stands i (named_means i n.name (function_means i false n)) (named_owed f (tell.function_name f))
  named-stands n f h = stands-as i (named_owed f) (function_name-is n f h) (named_of n.name f (function_means i false n) (function-stands false n f h))
