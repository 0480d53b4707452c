-- Completeness of functions that are no arrows: at their lexemes they are read.
use Rattle.std.proofs.Common.{◌≡◌, ℕ, ◌≤◌, ◌<◌, List, [], ◌∷◌, ◌++◌, length, refl, sym, ap, ◌∙◌, subst, arith, append_assoc, append-nil, Bool, true, false, Option, Some, None}
use Rattle.script_grammar.specs.declared.token.Kind.TheVariants as kind
use Rattle.script_grammar.specs.declared.token.mark.TheConstants as mark
use Rattle.script_grammar.specs.declared.token.FuncForm.{FuncForm}
use Rattle.script_grammar.specs.declared.token.FuncForm.TheVariants as form
use Rattle.script_grammar.specs.Lexeme.{Lexeme}
use Rattle.script_grammar.specs.Kinds.{is_mark, is_name}
use Rattle.script_grammar.specs.Tree.{Named, Expr, MaybeExpr, no_expr, some_expr, Params, no_params, more_params, Function, function, Body, BracedBody, ShortBody, Stmts}
use Rattle.script_grammar.specs.Tree as tree
use Rattle.script_grammar.specs.TreeLists.{Param, params_of, maybe_expr_of}
use Rattle.script_grammar.specs.Pieces.{Piece, mark_piece, name_piece, comma_piece, placed}
use Rattle.script_grammar.specs.Print.{print_params, print_initializer, print_body, print_function, parenthesized, print_name}
use Rattle.script_grammar.specs.Proper.{AreParams, SuitsForm, IsOneParam}
use Rattle.grammar_parser_specs.specs.Parser.{Read, head_of, ret, bind, step, when, Turn, Again, Stop, stopped}
use Rattle.grammar_parser_specs.specs.Exprs as parser
use Rattle.grammar_parser_specs.specs.Exprs.{Env, AnAssign, ParamsEnd, Plain, Trailing, Rest, Head, BodyRead, expect, name_of, named, param, rest_param, ended_params, is_trailing, head_case, function_case, is_simple}
use Rattle.grammar_parser_laws.proofs.Tests.{false_true, true_false}
use Rattle.grammar_parser_laws.proofs.Stands.{Marked, lexemes, Stands}
use Rattle.grammar_parser_laws.proofs.Complete.{bare}
use Rattle.grammar_complete_laws.proofs.Completes.{Completes, Any, at_kind, lead_at, lead_any, c_ret, c_bind, c_made, c_at, c_front, c_look, c_weaken, c_pieces, c_mark}
use Rattle.grammar_complete_laws.proofs.CompleteStmts.{c_value, name_complete, named_is}
use Rattle.grammar_complete_laws.proofs.CompleteBinds.{option_of}
use Rattle.grammar_complete_laws.proofs.CompleteParts.{CompleteEnv, ParamFollow}
use Rattle.grammar_complete_laws.proofs.CompleteParams.{singles, ends_as, ended_more, params_complete, single_pieces, end_pieces, IsSingle, Closes, close_follows}
use Rattle.grammar_parser_laws.proofs.ProperIn.{Mode, ProperBody, ProperFunction, ProperMaybe, ProperParams}

-- the forms with the word `function` or in an object
abbrev pub PlainForm : FuncForm → Type 0
PlainForm form.Function = Unit {0}
PlainForm form.Method = Unit {0}
PlainForm form.Getter = Unit {0}
PlainForm form.Setter = Unit {0}
PlainForm _ = ⊥

of_maybe : (o : MaybeExpr) → maybe_expr_of (option_of o) ≡ o
of_maybe no_expr = refl
of_maybe (some_expr e) = refl

opt_of : (o : Option Expr) → option_of (maybe_expr_of o) ≡ o
opt_of None = refl
opt_of (Some e) = refl

module _ (limit : ℕ) (m : Mode) (d : ℕ) (low : d ≤ limit) (v : Env) (c : CompleteEnv limit m d v) where
  init_here : (t : Lexeme) (ts : List Lexeme) → t.kind ≡ kind.Mark mark.ASSIGN → parser.initializer_of v (t ∷ ts) ≡ bind (v.sub (AnAssign true)) (λ e. ret (Some e)) ts
  unfolding parser.initializer_of
  init_here t ts e = at_kind (λ u. parser.initializer_of v (u ∷ ts) ≡ bind (v.sub (AnAssign true)) (λ e. ret (Some e)) ts) (kind.Mark mark.ASSIGN) t e refl

  no_init : (rest : List Lexeme) → is_mark mark.ASSIGN (head_of rest).kind ≡ false → bare (parser.initializer_of v rest) ≡ Read None [] rest
  unfolding parser.initializer_of
  no_init rest h = ap (λ x. bare (when x (step (bind (v.sub (AnAssign true)) (λ e. ret (Some e)))) (ret None) rest)) h

  pub init_complete : (o : MaybeExpr) → ProperMaybe m o → Completes limit (print_initializer m.look d o) (ParamFollow o) (parser.initializer_of v) (option_of o)
  init_complete no_expr h = c_look limit no_init
  init_complete (some_expr e) h = c_at limit (λ t. bind (v.sub (AnAssign true)) (λ x. ret (Some x))) low (λ t ts s. init_here t ts s.kind) (λ t s. c_made limit Some (c.calls.assign true e h.0 h.1 refl))

  pub param_complete : (n : Named) (o : MaybeExpr) → ProperMaybe m o → Completes limit (name_piece n d ∷ print_initializer m.look d o) (ParamFollow o) (parser.param_of v) (param n (option_of o))
  unfolding parser.param_of
  param_complete n o h = c_bind limit (λ x. bind (parser.initializer_of v) (λ y. ret (param x y))) (name_complete limit m d low n) lead_any (c_made limit (param n) (init_complete o h))

  -- the turn for a first parameter

  turn_name : (t : Lexeme) (ts : List Lexeme) → t.kind ≡ kind.Name → parser.param_turn v (t ∷ ts) ≡ bind (parser.param_of v) (λ p. ret {A = Turn Param ParamsEnd} (Again p)) (t ∷ ts)
  unfolding parser.param_turn
  turn_name t ts e = at_kind (λ u. parser.param_turn v (u ∷ ts) ≡ bind (parser.param_of v) (λ p. ret {A = Turn Param ParamsEnd} (Again p)) (u ∷ ts)) kind.Name t e refl

  turn_rest : (t : Lexeme) (ts : List Lexeme) → t.kind ≡ kind.Mark mark.ELLIPSIS → parser.param_turn v (t ∷ ts) ≡ parser.rest_end ts
  unfolding parser.param_turn
  turn_rest t ts e = at_kind (λ u. parser.param_turn v (u ∷ ts) ≡ parser.rest_end ts) (kind.Mark mark.ELLIPSIS) t e refl

  name_some : (n : Named) (ps : List Piece) (w : List Marked) (q : Lexeme) → Stands (name_piece n d ∷ ps) w q → 0 < length (lexemes w)
  name_some n ps [] q h = absurd h
  name_some n ps (x ∷ w) q h = omega arith

  one_complete : (n : Named) (o : MaybeExpr) → ProperMaybe m o → Completes limit (name_piece n d ∷ print_initializer m.look d o) (ParamFollow o) (parser.param_turn v) (Again (param n (option_of o)))
  one_complete n o h = c_front limit (bind (parser.param_of v) (λ p. ret (Again p))) (λ x w rest k g. turn_name x.lexeme (lexemes w ++ rest) k.0.kind) (name_some n (print_initializer m.look d o)) (c_made limit Again (param_complete n o h))

  rest_complete : (n : Named) → Completes limit (mark_piece mark.ELLIPSIS d ∷ name_piece n d ∷ []) Any (parser.param_turn v) (Stop (Rest n))
  rest_complete n = c_at limit (λ t. parser.rest_end) low (λ t ts s. turn_rest t ts s.kind) (λ t s. c_made limit (λ x. Stop (Rest x)) (name_complete limit m d low n))

  -- and after a comma

  comma_here : (t : Lexeme) (ts : List Lexeme) → t.kind ≡ kind.Mark mark.COMMA → parser.params_turn v (t ∷ ts) ≡ parser.params_next v ts
  unfolding parser.params_turn
  comma_here t ts e = at_kind (λ u. parser.params_turn v (u ∷ ts) ≡ parser.params_next v ts) (kind.Mark mark.COMMA) t e refl

  next_by : (t : Lexeme) (ts : List Lexeme) → is_mark mark.CLOSE_PAREN t.kind ≡ false → parser.params_next v (t ∷ ts) ≡ parser.param_turn v (t ∷ ts)
  unfolding parser.params_next
  next_by t ts h = ap (λ x. when x (ret (Stop Trailing)) (parser.param_turn v) (t ∷ ts)) h

  next_close : (rest : List Lexeme) → (head_of rest).kind ≡ kind.Mark mark.CLOSE_PAREN → bare (parser.params_next v rest) ≡ Read (Stop Trailing) [] rest
  unfolding parser.params_next
  next_close rest h = ap (λ k. bare (when (is_mark mark.CLOSE_PAREN k) (ret (Stop Trailing)) (parser.param_turn v) rest)) h

  turn_close : (rest : List Lexeme) → (head_of rest).kind ≡ kind.Mark mark.CLOSE_PAREN → bare (parser.params_turn v rest) ≡ Read (Stop Plain) [] rest
  unfolding parser.params_turn
  turn_close rest h = ap (λ k. bare (when (is_mark mark.COMMA k) (step (parser.params_next v)) (ret (Stop Plain)) rest)) h

  each_complete : (p : Param) → IsSingle limit m d p → Completes limit (single_pieces limit m d d p) (ParamFollow (maybe_expr_of p.value)) (parser.params_turn v) (Again p)
  each_complete p k = c_at limit (λ t. parser.params_next v) low (λ t ts s. comma_here t ts s.kind) (λ t s. c_front limit (parser.param_turn v) (λ x w rest q g. next_by x.lexeme (lexemes w ++ rest) (ap (is_mark mark.CLOSE_PAREN) q.0.kind)) (name_some p.name (print_initializer m.look d (maybe_expr_of p.value))) (c_value (ap Again (same_param p k.0)) (one_complete p.name (maybe_expr_of p.value) k.1)))
    where
      same_param : (p : Param) → p.rest ≡ false → param p.name (option_of (maybe_expr_of p.value)) ≡ p
      same_param p e = ap (param p.name) (opt_of p.value) ∙ ap (λ x. record { name = p.name; value = p.value; rest = x }) (sym e)

  stop_complete : (e : ParamsEnd) → Completes limit (end_pieces limit m d d e) (Closes limit m d) (parser.params_turn v) (Stop e)
  stop_complete Plain = c_look limit turn_close
  stop_complete Trailing = c_at limit (λ t. parser.params_next v) low (λ t ts s. comma_here t ts s.kind) (λ t s. c_look limit next_close)
  stop_complete (Rest n) = c_at limit (λ t. parser.params_next v) low (λ t ts s. comma_here t ts s.kind) (λ t s. c_front limit (parser.param_turn v) (λ x w rest q g. next_by x.lexeme (lexemes w ++ rest) (ap (is_mark mark.CLOSE_PAREN) q.0.kind)) ellipsis_some (c_weaken limit (λ t g. tt) (rest_complete n)))
    where
      ellipsis_some : (w : List Marked) (q : Lexeme) → Stands (mark_piece mark.ELLIPSIS d ∷ name_piece n d ∷ []) w q → 0 < length (lexemes w)
      ellipsis_some [] q h = absurd h
      ellipsis_some (x ∷ w) q h = omega arith

  more_none : (rest : List Lexeme) → (head_of rest).kind ≡ kind.Mark mark.CLOSE_PAREN → bare (parser.more_params v rest) ≡ Read (stopped Plain) [] rest
  unfolding parser.more_params
  more_none rest h = ap (λ k. bare (when (is_mark mark.CLOSE_PAREN k) (ret (stopped Plain)) (bind (parser.param_turn v) (parser.params_led (parser.params_turn v))) rest)) h

  more_some : (t : Lexeme) (ts : List Lexeme) → is_mark mark.CLOSE_PAREN t.kind ≡ false → parser.more_params v (t ∷ ts) ≡ bind (parser.param_turn v) (parser.params_led (parser.params_turn v)) (t ∷ ts)
  unfolding parser.more_params
  more_some t ts h = ap (λ x. when x (ret (stopped Plain)) (bind (parser.param_turn v) (parser.params_led (parser.params_turn v))) (t ∷ ts)) h

  first_not : (n : Named) (o : MaybeExpr) (rest : Bool) (ps : Params) (comma : Bool) (x : Marked) (w : List Marked) (q : Lexeme) → Stands (print_params m.look d d (more_params n o rest ps) ++ comma_piece comma d) (x ∷ w) q → is_mark mark.CLOSE_PAREN x.lexeme.kind ≡ false
  first_not n o true ps comma x w q h = ap (is_mark mark.CLOSE_PAREN) h.0.kind
  first_not n o false ps comma x w q h = ap (is_mark mark.CLOSE_PAREN) h.0.kind

  first_some : (n : Named) (o : MaybeExpr) (rest : Bool) (ps : Params) (comma : Bool) (w : List Marked) (q : Lexeme) → Stands (print_params m.look d d (more_params n o rest ps) ++ comma_piece comma d) w q → 0 < length (lexemes w)
  first_some n o true ps comma [] q h = absurd h
  first_some n o false ps comma [] q h = absurd h
  first_some n o rest ps comma (x ∷ w) q h = omega arith

  many_complete : (ps : Params) (comma : Bool) → AreParams ps comma → ProperParams m ps → Completes limit (print_params m.look d d ps ++ comma_piece comma d) (Closes limit m d) (parser.more_params v) (record { items = singles ps; last = ends_as ps comma })
  many_complete no_params true h k = absurd (true_false h)
  many_complete no_params false h k = c_look limit more_none
  many_complete (more_params n o rest ps) comma h k = c_front limit (bind (parser.param_turn v) (parser.params_led (parser.params_turn v))) (λ x w r q g. more_some x.lexeme (lexemes w ++ r) (first_not n o rest ps comma x w (head_of r) q)) (first_some n o rest ps comma)
      (params_complete limit m d d (parser.params_turn v) each_complete stop_complete (parser.param_turn v) one_complete rest_complete n o rest ps comma h k)

  -- a head that stands for these parameters
  abbrev pub HeadIs : ℕ → Params → Bool → Head → Type 0
  HeadIs start ps comma h = (h.start ≡ start) × (params_of h.params ≡ ps) × (h.comma ≡ comma) × (h.bare ≡ false)

  pub record HeadOf (f : FuncForm) (start : ℕ) (ps : Params) (comma : Bool) : Type 0 where
    pub head : Head
    pub is : HeadIs start ps comma head
    pub reads : Completes limit (parenthesized false start d (print_params m.look d d ps) comma) Any (parser.params_head v f) head

  head_here : (f : FuncForm) (t : Lexeme) (ts : List Lexeme) → t.kind ≡ kind.Mark mark.OPEN_PAREN → parser.params_head v f (t ∷ ts) ≡ parser.form_params v f t.start ts
  unfolding parser.params_head
  head_here f t ts e = at_kind (λ u. parser.params_head v f (u ∷ ts) ≡ parser.form_params v f u.start ts) (kind.Mark mark.OPEN_PAREN) t e refl

  listed_complete : {F : Lexeme → Type 0} (start : ℕ) (ps : Params) (comma : Bool) → AreParams ps comma → ProperParams m ps → Completes limit (print_params m.look d d ps ++ (comma_piece comma d ++ mark_piece mark.CLOSE_PAREN d ∷ [])) F (parser.listed_params v start) (head_case start (record { items = singles ps; last = ends_as ps comma }))
  unfolding parser.listed_params
  listed_complete start ps comma h k = c_pieces limit (append_assoc (print_params m.look d d ps) (comma_piece comma d) (mark_piece mark.CLOSE_PAREN d ∷ [])) (c_bind limit (λ x. bind (expect mark.CLOSE_PAREN) (λ _. ret (head_case start x))) (many_complete ps comma h k) (lead_at (λ t s. s.kind)) (c_made limit (λ _. head_case start (record { items = singles ps; last = ends_as ps comma })) (c_mark limit mark.CLOSE_PAREN d low refl)))

  listed_at : (f : FuncForm) (start : ℕ) (ps : Params) (comma : Bool) (qs : List Piece) (h : Head) → ((s : ℕ) → Completes limit qs Any (parser.form_params v f s) (record { start = s; params = h.params; comma = h.comma; bare = h.bare })) → Completes limit (placed (kind.Mark mark.OPEN_PAREN) start d ∷ qs) Any (parser.params_head v f) (record { start = start; params = h.params; comma = h.comma; bare = h.bare })
  listed_at f start ps comma qs h k = c_at limit (λ t. parser.form_params v f t.start) low (λ t ts s. head_here f t ts s.kind) (λ t s. subst (λ x. Completes limit qs Any (parser.form_params v f x) (record { start = start; params = h.params; comma = h.comma; bare = h.bare })) (sym s.starts.0) (k start))

  listed_head : (f : FuncForm) (start : ℕ) (ps : Params) (comma : Bool) → ((s : ℕ) → parser.form_params v f s ≡ parser.listed_params v s) → AreParams ps comma → ProperParams m ps → HeadOf f start ps comma
  listed_head f start ps comma e h k =
      let q = ended_more ps comma (λ _. h) in
      let head : Head = head_case start (record { items = singles ps; last = ends_as ps comma }) in
      record {
        head = head;
        is = (refl, q.0, q.1, refl);
        reads = listed_at f start ps comma (print_params m.look d d ps ++ (comma_piece comma d ++ mark_piece mark.CLOSE_PAREN d ∷ [])) head (λ s. subst (λ y. Completes limit (print_params m.look d d ps ++ (comma_piece comma d ++ mark_piece mark.CLOSE_PAREN d ∷ [])) Any y (head_case s (record { items = singles ps; last = ends_as ps comma }))) (sym (e s)) (listed_complete s ps comma h k));
      }

  none_head : (start : ℕ) → HeadOf form.Getter start no_params false
  none_head start =
      let head : Head = record { start = start; params = []; comma = false; bare = false } in
      record { head = head; is = (refl, refl, refl, refl); reads = listed_at form.Getter start no_params false (mark_piece mark.CLOSE_PAREN d ∷ []) head (λ s. c_made limit (λ _. record { start = s; params = []; comma = false; bare = false }) (c_mark limit mark.CLOSE_PAREN d low refl)) }

  one_head : (start : ℕ) (n : Named) (o : MaybeExpr) → ProperMaybe m o → HeadOf form.Setter start (more_params n o false no_params) false
  one_head start n o h =
      let head : Head = record { start = start; params = param n (option_of o) ∷ []; comma = false; bare = false } in
      record { head = head; is = (refl, ap (λ x. more_params n x false no_params) (of_maybe o), refl, refl); reads = listed_at form.Setter start (more_params n o false no_params) false _ head (λ s. c_pieces limit (ap (λ x. x ++ mark_piece mark.CLOSE_PAREN d ∷ []) (ap (λ x. name_piece n d ∷ x) (sym (append-nil (print_initializer m.look d o))))) (c_bind limit (λ x. bind (expect mark.CLOSE_PAREN) (λ _. ret (record { start = s; params = x ∷ []; comma = false; bare = false }))) (param_complete n o h) (lead_at (λ t q. close_follows limit m d o t q.kind)) (c_made limit (λ _. record { start = s; params = param n (option_of o) ∷ []; comma = false; bare = false }) (c_mark limit mark.CLOSE_PAREN d low refl)))) }

  setter_head : (start : ℕ) (ps : Params) (comma : Bool) → IsOneParam ps comma → ProperParams m ps → HeadOf form.Setter start ps comma
  setter_head start no_params comma h k = absurd h
  setter_head start (more_params n o false no_params) comma h k = subst (λ x. HeadOf form.Setter start (more_params n o false no_params) x) (sym h) (one_head start n o k.0)
  setter_head start (more_params n o true ps) comma h k = absurd h
  setter_head start (more_params n o false (more_params n2 v2 r2 ps)) comma h k = absurd h

  pub head_of_form : (f : FuncForm) → PlainForm f → (start : ℕ) (ps : Params) (comma : Bool) → AreParams ps comma → SuitsForm f ps comma → ProperParams m ps → HeadOf f start ps comma
  head_of_form form.Function i start ps comma a s k = listed_head form.Function start ps comma (λ x. refl) a k
  head_of_form form.Method i start ps comma a s k = listed_head form.Method start ps comma (λ x. refl) a k
  head_of_form form.Getter i start ps comma a s k = subst (λ x. HeadOf form.Getter start ps x) (sym s.1) (subst (λ x. HeadOf form.Getter start x false) (sym s.0) (none_head start))
  head_of_form form.Setter i start ps comma a s k = setter_head start ps comma s k
  head_of_form form.Script i start ps comma a s k = absurd i
  head_of_form form.Arrow i start ps comma a s k = absurd i

  pub function_as : (f : FuncForm) (name : Option Named) (start end : ℕ) (ps : Params) (comma : Bool) (items : Stmts) (h : Head) → HeadIs start ps comma h → function_case f name h (record { body = BracedBody items; end = end }) ≡ function f start end name ps comma false (BracedBody items)
  function_as f name start end ps comma items h q =
      ap (λ x. function f x end name (params_of h.params) h.comma h.bare (BracedBody items)) q.0
      ∙ ap (λ x. function f start end name x h.comma h.bare (BracedBody items)) q.1
      ∙ ap (λ x. function f start end name ps x h.bare (BracedBody items)) q.2
      ∙ ap (λ x. function f start end name ps comma x (BracedBody items)) q.3

  by_head : {F : Lexeme → Type 0} (f : FuncForm) (name : Option Named) (start end : ℕ) (ps : Params) (comma : Bool) (items : Stmts) → ProperBody m f start (BracedBody items) → HeadOf f start ps comma → Completes limit (parenthesized false start d (print_params m.look d d ps) comma ++ print_body m.look d end (BracedBody items)) F (parser.function_of v f name) (function f start end name ps comma false (BracedBody items))
  unfolding parser.function_of
  by_head f name start end ps comma items k h = c_value (function_as f name start end ps comma items h.head h.is) (c_bind limit (λ x. bind (v.body f x.start (is_simple x.params)) (λ b. ret (function_case f name x b))) h.reads lead_any (c_weaken limit (λ t g. tt) (c_made limit (function_case f name h.head) (c.body.braced f h.head.start end (is_simple h.head.params) items (subst (λ x. ProperBody m f x (BracedBody items)) (sym h.is.0) k)))))

  -- a function from its parameters on
  pub function_complete : {F : Lexeme → Type 0} (f : FuncForm) (name : Option Named) → PlainForm f → (start end : ℕ) (ps : Params) (comma bare : Bool) (body : Body) → ProperFunction m (function f start end name ps comma bare body) → Completes limit (print_function m.look d (function f start end name ps comma bare body)) F (parser.function_of v f name) (function f start end name ps comma bare body)
  function_complete form.Function name i start end ps comma false (BracedBody items) h = by_head form.Function name start end ps comma items h.4 (head_of_form form.Function tt start ps comma h.0 h.1 h.3)
  function_complete form.Method name i start end ps comma false (BracedBody items) h = by_head form.Method name start end ps comma items h.4 (head_of_form form.Method tt start ps comma h.0 h.1 h.3)
  function_complete form.Getter name i start end ps comma false (BracedBody items) h = by_head form.Getter name start end ps comma items h.4 (head_of_form form.Getter tt start ps comma h.0 h.1 h.3)
  function_complete form.Setter name i start end ps comma false (BracedBody items) h = by_head form.Setter name start end ps comma items h.4 (head_of_form form.Setter tt start ps comma h.0 h.1 h.3)
  function_complete form.Function name i start end ps comma true body h = absurd h.2
  function_complete form.Method name i start end ps comma true body h = absurd h.2
  function_complete form.Getter name i start end ps comma true body h = absurd h.2
  function_complete form.Setter name i start end ps comma true body h = absurd h.2
  function_complete form.Function name i start end ps comma false (ShortBody value) h = absurd (false_true h.4.0)
  function_complete form.Method name i start end ps comma false (ShortBody value) h = absurd (false_true h.4.0)
  function_complete form.Getter name i start end ps comma false (ShortBody value) h = absurd (false_true h.4.0)
  function_complete form.Setter name i start end ps comma false (ShortBody value) h = absurd (false_true h.4.0)
  function_complete form.Script name i start end ps comma bare body h = absurd i
  function_complete form.Arrow name i start end ps comma bare body h = absurd i

  -- a function expression after its word

  name_here : (t : Lexeme) (ts : List Lexeme) → t.kind ≡ kind.Name → parser.maybe_name (t ∷ ts) ≡ Read (Some (named t)) [] ts
  unfolding parser.maybe_name
  name_here t ts e = at_kind (λ u. parser.maybe_name (u ∷ ts) ≡ Read (Some (named u)) [] ts) kind.Name t e refl

  no_name : (rest : List Lexeme) → (head_of rest).kind ≡ kind.Mark mark.OPEN_PAREN → bare (parser.maybe_name rest) ≡ Read None [] rest
  unfolding parser.maybe_name
  no_name rest h = ap (λ k. bare (when (is_name k) (step (ret (Some (named (head_of rest))))) (ret None) rest)) h

  maybe_name_complete : (o : Option Named) → Completes limit (print_name o d) (λ t. t.kind ≡ kind.Mark mark.OPEN_PAREN) parser.maybe_name o
  maybe_name_complete None = c_look limit no_name
  maybe_name_complete (Some n) = c_at limit (λ t. ret (Some (named t))) low (λ t ts s. name_here t ts s.kind) (λ t s. c_value (ap Some (named_is n d t s.content s.starts.0)) (c_ret limit (Some (named t))))

  pub func_complete : {F : Lexeme → Type 0} (at : ℕ) (start end : ℕ) (name : Option Named) (ps : Params) (comma : Bool) (body : Body) → ProperFunction m (function form.Function start end name ps comma false body) → Completes limit (print_name name d ++ print_function m.look d (function form.Function start end name ps comma false body)) F (parser.func_of v at) (tree.Func at (function form.Function start end name ps comma false body))
  unfolding parser.func_of
  func_complete at start end name ps comma body h = c_bind limit (λ n. bind (parser.function_of v form.Function n) (λ f. ret (tree.Func at f))) (maybe_name_complete name) (lead_at (λ t s. s.kind)) (c_made limit (tree.Func at) (function_complete form.Function name tt start end ps comma false body h))
