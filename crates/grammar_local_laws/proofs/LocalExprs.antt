-- The parts of the parser of expressions look at no lexeme after the place where they stop, where the calls that count
-- for the depth do not.
use Rattle.std.proofs.Common.{◌≡◌, ℕ, zero, suc, ◌≤◌, ◌<◌, List, [], ◌∷◌, ◌++◌, length, refl, sym, ap, subst, arith, length-append, append_assoc, append-nil, Bool, true, false, ◌&&◌, ◌||◌, not, nat_le, Option, Some, None}
use Rattle.std.proofs.lemmas.Bool.{ne_eqb}
use Rattle.script_grammar.specs.declared.token.FuncForm.{FuncForm}
use Rattle.script_grammar.specs.declared.token.FuncForm.TheVariants as form
use Rattle.script_grammar.specs.declared.token.mark.TheConstants as mark
use Rattle.script_grammar.specs.declared.token.word.TheConstants as word
use Rattle.script_grammar.specs.Lexeme.{Lexeme}
use Rattle.script_grammar.specs.Kinds.{is_mark, is_word, is_name, is_number, is_str, is_head, is_middle, is_tail, is_any_word, is_get, is_set, is_assign_mark, is_prefix, is_update}
use Rattle.script_grammar.specs.Tree.{Named, Expr, Tail, Key, Prop, Function}
use Rattle.script_grammar.specs.Tree as tree
use Rattle.script_grammar.specs.Proper.{rank}
use Rattle.script_grammar.specs.TreeLists.{Operand, Param}
use Rattle.grammar_parser_specs.specs.Parser.{Recorded, Reply, Read, Bad, Deep, Parser, head_of, rest_of, put_before, noted, after, ret, bad, bind, step, when, Turn, Again, Stop, stopped, loop, peek}
use Rattle.grammar_parser_specs.specs.Exprs
use Rattle.grammar_parser_specs.specs.Exprs.{Env, Call, AnAssign, APrefix, ANew, AParam, ARest, ParamsEnd, Plain, Trailing, Rest, Head, expect, name_of, named, param, peek_two, again, begins_value, ends_key, is_param_form, is_atom, atom_case, is_chain_head, is_update_expr, is_op, is_arrow}
use Rattle.grammar_parser_laws.proofs.Local.{Local, Same, out, kept, left, after_shorter, local_ret, local_bad, local_bind, local_peek, local_when, local_step, local_loop, local_led, Gains, Moves, gains_peek, gains_step, gains_eats, moves_when, moves_eats, Eats, Ate, eats_bind}
use Rattle.grammar_local_laws.proofs.LocalStmts.{local_two}

-- how the calls read a name after which no lexeme is: it is too deep, or it is read
pub data NameEnd (v : Env) (t : Lexeme) : Type 0 where
  deep_end : ((q : List Lexeme) → v.sub (AnAssign true) (t ∷ q) ≡ Deep [] (t ∷ q)) → ((q : List Lexeme) → v.sub AParam (t ∷ q) ≡ Deep [] (t ∷ q)) → NameEnd v t
  read_end : length (left (v.sub (AnAssign true) (t ∷ []))) ≡ 0 → ((q : List Lexeme) → length (left (v.sub AParam (t ∷ q))) ≤ length q) → NameEnd v t

pub record LocalEnv (v : Env) : Type 0 where
  pub at : (c : Call) → Local (v.sub c)
  pub eats : (c : Call) → Eats (v.sub c)
  pub body : (f : FuncForm) (start : ℕ) (simple : Bool) → Local (v.body f start simple)
  pub name : (t : Lexeme) → is_name t.kind ≡ true → NameEnd v t

pub expect_local : (i : ℕ) → Local (expect i)
unfolding expect
expect_local i = local_peek (λ t. local_when (is_mark i t.kind) (local_step (local_ret tt)) local_bad)

pub name_of_local : Local name_of
unfolding name_of
name_of_local = local_peek (λ t. local_when (is_name t.kind) (local_step (local_ret (named t))) local_bad)

pub maybe_name_local : Local Exprs.maybe_name
unfolding Exprs.maybe_name
maybe_name_local = local_peek (λ t. local_when (is_name t.kind) (local_step (local_ret (Some (named t)))) (local_ret None))

pub dot_local : Local Exprs.dot_of
unfolding Exprs.dot_of
dot_local = local_peek (λ t. local_when (is_any_word t.kind) (local_step (local_ret (tree.Dot t.text))) local_bad)

pub again_local : {A B : Type 0} (a : A) → Local (again {A = A} {B = B} a)
again_local a = local_ret (Again a)

-- one part after another, and a third: in either order of putting them together

put_twice : {A : Type 0} (rs qs : List Recorded) (r : Reply A) → put_before (rs ++ qs) r ≡ put_before rs (put_before qs r)
put_twice rs qs (Read a ps us) = ap (λ x. Read a x us) (append_assoc rs qs ps)
put_twice rs qs (Bad ps us) = ap (λ x. Bad x us) (append_assoc rs qs ps)
put_twice rs qs (Deep ps us) = ap (λ x. Deep x us) (append_assoc rs qs ps)

pub noted_twice : {A : Type 0} (rs qs : List Recorded) (r : Reply A) → noted (rs ++ qs) r ≡ noted rs (noted qs r)
noted_twice [] qs r = refl
noted_twice (b ∷ rs) [] r = ap (λ x. put_before x r) (append-nil (b ∷ rs))
noted_twice (b ∷ rs) (c ∷ qs) r = put_twice (b ∷ rs) (c ∷ qs) r

pub after_noted : {B C : Type 0} (rs : List Recorded) (r : Reply B) (g : B → Parser C) → after (noted rs r) g ≡ noted rs (after r g)
after_noted [] r g = refl
after_noted (b ∷ rs) (Read a qs us) g = noted_twice (b ∷ rs) qs (g a us)
after_noted (b ∷ rs) (Bad qs us) g = refl
after_noted (b ∷ rs) (Deep qs us) g = refl

pub after_twice : {A B C : Type 0} (r : Reply A) (f : A → Parser B) (g : B → Parser C) → after (after r f) g ≡ after r (λ a. bind (f a) g)
after_twice (Read a rs us) f g = after_noted rs (f a us) g
after_twice (Bad rs us) f g = refl
after_twice (Deep rs us) f g = refl

module _ (v : Env) (l : LocalEnv v) where
  -- lists of expressions and arguments

  pub more_turn_local : (w : Bool) → Local (Exprs.more_turn v w)
  unfolding Exprs.more_turn
  more_turn_local w = local_peek (λ t. local_when (is_mark mark.COMMA t.kind) (local_step (local_bind (l.at (AnAssign w)) (λ e. local_ret (Again e)))) (local_ret (Stop tt)))

  pub more_turn_gains : (w : Bool) → Gains (Exprs.more_turn v w)
  unfolding Exprs.more_turn
  more_turn_gains w = gains_peek (λ t. when (is_mark mark.COMMA t.kind) (step (bind (v.sub (AnAssign w)) (λ e. ret (Again e)))) (ret (Stop tt))) tt (λ t ts. moves_when _ _ (is_mark mark.COMMA t.kind) t ts (gains_step _ (local_bind (l.at (AnAssign w)) (λ e. local_ret (Again e))) t ts) tt)

  pub expr_local : (w : Bool) → Local (Exprs.expr_of v w)
  unfolding Exprs.expr_of
  expr_local w = local_bind (l.at (AnAssign w)) (λ e. local_bind (local_loop (more_turn_local w) (more_turn_gains w)) (λ m. local_ret _))

  pub expr_eats : (w : Bool) → Eats (Exprs.expr_of v w)
  unfolding Exprs.expr_of
  expr_eats w = eats_bind (l.eats (AnAssign w)) (λ e. local_bind (local_loop (more_turn_local w) (more_turn_gains w)) (λ m. local_ret _))

  pub args_next_local : Local (Exprs.args_next v)
  unfolding Exprs.args_next
  args_next_local = local_peek (λ t. local_when (is_mark mark.CLOSE_PAREN t.kind) (local_ret (Stop true)) (local_bind (l.at (AnAssign true)) (λ e. local_ret (Again e))))

  pub args_turn_local : Local (Exprs.args_turn v)
  unfolding Exprs.args_turn
  args_turn_local = local_peek (λ t. local_when (is_mark mark.COMMA t.kind) (local_step args_next_local) (local_ret (Stop false)))

  pub args_turn_gains : Gains (Exprs.args_turn v)
  unfolding Exprs.args_turn
  args_turn_gains = gains_peek (λ t. when (is_mark mark.COMMA t.kind) (step (Exprs.args_next v)) (ret (Stop false))) tt (λ t ts. moves_when _ _ (is_mark mark.COMMA t.kind) t ts (gains_step _ args_next_local t ts) tt)

  pub more_args_local : Local (Exprs.more_args v)
  unfolding Exprs.more_args
  more_args_local = local_peek (λ t. local_when (is_mark mark.CLOSE_PAREN t.kind) (local_ret (stopped false)) (local_bind (l.at (AnAssign true)) (local_led args_turn_local args_turn_gains)))

  pub args_local : Local (Exprs.args_of v)
  unfolding Exprs.args_of
  args_local = local_bind more_args_local (λ m. local_bind (expect_local mark.CLOSE_PAREN) (λ _. local_ret _))

  -- arrays and templates

  pub item_end_local : (e : Expr) → Local (Exprs.item_end e)
  unfolding Exprs.item_end
  item_end_local e = local_peek (λ t. local_when (is_mark mark.COMMA t.kind) (local_step (local_ret (Again (Some e)))) (local_ret (Stop (Some e))))

  pub item_turn_local : Local (Exprs.item_turn v)
  unfolding Exprs.item_turn
  item_turn_local = local_peek (λ t. local_when (is_mark mark.CLOSE_BRACKET t.kind) (local_ret (Stop None)) (local_when (is_mark mark.COMMA t.kind) (local_step (local_ret (Again None))) (local_bind (l.at (AnAssign true)) item_end_local)))

  pub item_turn_gains : Gains (Exprs.item_turn v)
  unfolding Exprs.item_turn
  item_turn_gains =
      let item : Eats (bind (v.sub (AnAssign true)) Exprs.item_end) = eats_bind (l.eats (AnAssign true)) item_end_local in
      gains_peek (λ t. when (is_mark mark.CLOSE_BRACKET t.kind) (ret (Stop None)) (when (is_mark mark.COMMA t.kind) (step (ret (Again None))) (bind (v.sub (AnAssign true)) Exprs.item_end))) (moves_eats (bind (v.sub (AnAssign true)) Exprs.item_end) item [])
      (λ t ts. moves_when _ _ (is_mark mark.CLOSE_BRACKET t.kind) t ts tt (moves_when _ _ (is_mark mark.COMMA t.kind) t ts (gains_step _ (local_ret {A = Turn (Option Expr) (Option Expr)} (Again None)) t ts) (moves_eats (bind (v.sub (AnAssign true)) Exprs.item_end) item (t ∷ ts))))

  pub array_local : (at : ℕ) → Local (Exprs.array_of v at)
  unfolding Exprs.array_of
  array_local at = local_bind (local_loop item_turn_local item_turn_gains) (λ m. local_bind (expect_local mark.CLOSE_BRACKET) (λ _. local_ret _))

  pub part_end_local : (e : Expr) → Local (Exprs.part_end e)
  unfolding Exprs.part_end
  part_end_local e = local_peek (λ t. local_when (is_middle t.kind) (local_step (local_ret (Again (Exprs.part e t)))) (local_when (is_tail t.kind) (local_step (local_ret (Stop (Exprs.part e t)))) local_bad))

  pub part_turn_local : Local (Exprs.part_turn v)
  unfolding Exprs.part_turn
  part_turn_local = local_bind (expr_local true) part_end_local

  pub part_turn_gains : Gains (Exprs.part_turn v)
  unfolding Exprs.part_turn
  part_turn_gains = gains_eats (eats_bind (expr_eats true) part_end_local)

  pub template_local : (at : ℕ) (first : List ℕ) → Local (Exprs.template_of v at first)
  unfolding Exprs.template_of
  template_local at first = local_bind (local_loop part_turn_local part_turn_gains) (λ m. local_ret _)

  -- parameters and functions

  pub initializer_local : Local (Exprs.initializer_of v)
  unfolding Exprs.initializer_of
  initializer_local = local_peek (λ t. local_when (is_mark mark.ASSIGN t.kind) (local_step (local_bind (l.at (AnAssign true)) (λ e. local_ret (Some e)))) (local_ret None))

  pub param_local : Local (Exprs.param_of v)
  unfolding Exprs.param_of
  param_local = local_bind name_of_local (λ n. local_bind initializer_local (λ o. local_ret (param n o)))

  rest_end_local : Local Exprs.rest_end
  rest_end_local = local_bind name_of_local (λ n. local_ret (Stop (Rest n)))

  pub param_turn_local : Local (Exprs.param_turn v)
  unfolding Exprs.param_turn
  param_turn_local = local_peek (λ t. local_when (is_mark mark.ELLIPSIS t.kind) (local_step rest_end_local) (local_bind param_local (λ p. local_ret (Again p))))

  pub params_next_local : Local (Exprs.params_next v)
  unfolding Exprs.params_next
  params_next_local = local_peek (λ t. local_when (is_mark mark.CLOSE_PAREN t.kind) (local_ret (Stop Trailing)) param_turn_local)

  pub params_turn_local : Local (Exprs.params_turn v)
  unfolding Exprs.params_turn
  params_turn_local = local_peek (λ t. local_when (is_mark mark.COMMA t.kind) (local_step params_next_local) (local_ret (Stop Plain)))

  pub params_turn_gains : Gains (Exprs.params_turn v)
  unfolding Exprs.params_turn
  params_turn_gains = gains_peek (λ t. when (is_mark mark.COMMA t.kind) (step (Exprs.params_next v)) (ret (Stop Plain))) tt (λ t ts. moves_when _ _ (is_mark mark.COMMA t.kind) t ts (gains_step _ params_next_local t ts) tt)

  pub params_led_local : {turn : Parser (Turn Param ParamsEnd)} → Local turn → Gains turn → (t : Turn Param ParamsEnd) → Local (Exprs.params_led turn t)
  params_led_local h g (Again p) = local_led h g p
  params_led_local h g (Stop e) = local_ret (stopped e)

  pub more_params_local : Local (Exprs.more_params v)
  unfolding Exprs.more_params
  more_params_local = local_peek (λ t. local_when (is_mark mark.CLOSE_PAREN t.kind) (local_ret (stopped Plain)) (local_bind param_turn_local (params_led_local params_turn_local params_turn_gains)))

  pub listed_local : (start : ℕ) → Local (Exprs.listed_params v start)
  unfolding Exprs.listed_params
  listed_local start = local_bind more_params_local (λ m. local_bind (expect_local mark.CLOSE_PAREN) (λ _. local_ret _))

  form_params_local : (f : FuncForm) (start : ℕ) → Local (Exprs.form_params v f start)
  form_params_local f start = local_when (Exprs.is_getter f) (local_bind (expect_local mark.CLOSE_PAREN) (λ _. local_ret _)) (local_when (Exprs.is_setter f) (local_bind param_local (λ p. local_bind (expect_local mark.CLOSE_PAREN) (λ _. local_ret _))) (listed_local start))

  pub params_head_local : (f : FuncForm) → Local (Exprs.params_head v f)
  unfolding Exprs.params_head
  params_head_local f = local_peek (λ t. local_when (is_mark mark.OPEN_PAREN t.kind) (local_step (form_params_local f t.start)) local_bad)

  pub function_local : (f : FuncForm) (name : Option Named) → Local (Exprs.function_of v f name)
  unfolding Exprs.function_of
  function_local f name = local_bind (params_head_local f) (λ h. local_bind (l.body f h.start (Exprs.is_simple h.params)) (λ b. local_ret _))

  pub func_local : (at : ℕ) → Local (Exprs.func_of v at)
  unfolding Exprs.func_of
  func_local at = local_bind maybe_name_local (λ n. local_bind (function_local form.Function n) (λ f. local_ret _))

  -- properties and objects

  pub computed_local : Local (Exprs.computed_of v)
  unfolding Exprs.computed_of
  computed_local = local_bind (l.at (AnAssign true)) (λ e. local_bind (expect_local mark.CLOSE_BRACKET) (λ _. local_ret _))

  pub key_local : Local (Exprs.key_of v)
  unfolding Exprs.key_of
  key_local = local_peek (λ t. local_when (is_any_word t.kind) (local_step (local_ret (tree.WordKey (named t)))) (local_when (is_str t.kind) (local_step (local_ret (tree.StrKey (named t)))) (local_when (is_number t.kind) (local_step (local_ret (tree.NumberKey t.start t.number))) (local_when (is_mark mark.OPEN_BRACKET t.kind) (local_step computed_local) local_bad))))

  pub keyed_local : (k : Key) → Local (Exprs.keyed_of v k)
  unfolding Exprs.keyed_of
  keyed_local k = local_peek (λ t. local_when (is_mark mark.COLON t.kind) (local_step (local_bind (l.at (AnAssign true)) (λ e. local_ret (tree.Pair k e)))) (local_when (is_mark mark.OPEN_PAREN t.kind) (local_bind (function_local form.Method None) (λ f. local_ret (tree.Method k f))) local_bad))

  pub short_local : (n : Named) → Local (Exprs.short_of v n)
  unfolding Exprs.short_of
  short_local n = local_peek (λ t. local_when (begins_value t.kind) (keyed_local (tree.WordKey n)) (local_ret (tree.Short n)))

  pub getter_local : Local (Exprs.getter_of v)
  unfolding Exprs.getter_of
  getter_local = local_bind key_local (λ k. local_bind (function_local form.Getter None) (λ f. local_ret _))

  pub setter_local : Local (Exprs.setter_of v)
  unfolding Exprs.setter_of
  setter_local = local_bind key_local (λ k. local_bind (function_local form.Setter None) (λ f. local_ret _))

  accessor_local : (n : Named) (f : Parser Prop) → Local f → Local (Exprs.accessor_of v n f)
  unfolding Exprs.accessor_of
  accessor_local n f h = local_peek (λ t. local_when (ends_key t.kind) (short_local n) h)

  name_prop_local : (t : Lexeme) → Local (Exprs.name_prop v t)
  name_prop_local t = local_when (is_get t.role) (accessor_local (named t) (Exprs.getter_of v) getter_local) (local_when (is_set t.role) (accessor_local (named t) (Exprs.setter_of v) setter_local) (short_local (named t)))

  pub prop_local : Local (Exprs.prop_of v)
  unfolding Exprs.prop_of
  prop_local = local_peek (λ t. local_when (is_name t.kind) (local_step (name_prop_local t)) (local_bind key_local keyed_local))

  pub props_next_local : Local (Exprs.props_next v)
  unfolding Exprs.props_next
  props_next_local = local_peek (λ t. local_when (is_mark mark.CLOSE_BRACE t.kind) (local_ret (Stop true)) (local_bind prop_local (λ p. local_ret (Again p))))

  pub props_turn_local : Local (Exprs.props_turn v)
  unfolding Exprs.props_turn
  props_turn_local = local_peek (λ t. local_when (is_mark mark.COMMA t.kind) (local_step props_next_local) (local_ret (Stop false)))

  pub props_turn_gains : Gains (Exprs.props_turn v)
  unfolding Exprs.props_turn
  props_turn_gains = gains_peek (λ t. when (is_mark mark.COMMA t.kind) (step (Exprs.props_next v)) (ret (Stop false))) tt (λ t ts. moves_when _ _ (is_mark mark.COMMA t.kind) t ts (gains_step _ props_next_local t ts) tt)

  pub more_props_local : Local (Exprs.more_props v)
  unfolding Exprs.more_props
  more_props_local = local_peek (λ t. local_when (is_mark mark.CLOSE_BRACE t.kind) (local_ret (stopped false)) (local_bind prop_local (local_led props_turn_local props_turn_gains)))

  pub object_local : (at : ℕ) → Local (Exprs.object_of v at)
  unfolding Exprs.object_of
  object_local at = local_bind more_props_local (λ m. local_bind (expect_local mark.CLOSE_BRACE) (λ _. local_ret _))

  -- items in parentheses that might be an arrow's

  pub items_local : Local (Exprs.items_from v)
  unfolding Exprs.items_from
  items_local = local_bind (l.at (AnAssign true)) (λ e. local_bind (local_loop (more_turn_local true) (more_turn_gains true)) (λ m. local_ret _))

  pub doomed_local : {A : Type 0} → Local (Exprs.doomed {A = A})
  doomed_local = local_bind (expect_local mark.CLOSE_PAREN) (λ _. local_bad)

  pub doomed_rest_local : {A : Type 0} → Local (Exprs.doomed_rest {A = A} v)
  unfolding Exprs.doomed_rest
  doomed_rest_local = local_bind (l.at ARest) (λ _. doomed_local)

  pub lead_end_local : (e : Expr) → Local (Exprs.lead_end e)
  unfolding Exprs.lead_end
  lead_end_local e = local_peek (λ t. local_when (is_mark mark.COMMA t.kind) (local_step (local_ret (Again e))) (local_ret (Stop (e ∷ []))))

  -- both branches begin with an item that is read in the same way
  first_same : {A B : Type 0} (q : List Lexeme) (f g : A → Parser B) → ((a : A) → Local (f a)) → ((a : A) → Local (g a)) → (r s : Reply A) → Ate 1 r → Same q r s → Same q (after r f) (after s g)
  first_same q f g lf lg (Read a rs us) s e (out z h) = out (omega (arith, z, after_shorter f lf (Read a rs us))) (omega (arith, h, after_shorter g lg s))
  first_same q f g lf lg (Bad rs us) s e (out z h) = out z (omega (arith, h, after_shorter g lg s))
  first_same q f g lf lg (Deep rs us) s e (out z h) = out z (omega (arith, h, after_shorter g lg s))
  first_same q f g lf lg (Read a rs us) s e (kept k) = out (omega (arith, e, after_shorter f lf (Read a rs us))) (omega (arith, e, after_shorter g lg s, ap (λ x. length (left x)) k, length-append us q))
  first_same q f g lf lg (Bad rs us) s e (kept k) = kept (ap (λ x. after x g) k)
  first_same q f g lf lg (Deep rs us) s e (kept k) = kept (ap (λ x. after x g) k)

  lead_item_end : (t : Lexeme) (q : List Lexeme) → Same q (bind (Exprs.items_from v) (λ es. ret (Stop es)) (t ∷ [])) (bind (v.sub (AnAssign true)) Exprs.lead_end (t ∷ q))
  unfolding Exprs.items_from
  lead_item_end t q =
      let more = λ (e : Expr). bind (loop (Exprs.more_turn v true)) (λ m. ret (e ∷ m.items)) in
      let stop = λ (es : List Expr). ret {A = Turn Expr (List Expr)} (Stop es) in
      let more_local = λ (e : Expr). local_bind (local_loop (more_turn_local true) (more_turn_gains true)) (λ m. local_ret (e ∷ m.items)) in
      subst (λ r. Same q r (bind (v.sub (AnAssign true)) Exprs.lead_end (t ∷ q))) (sym (after_twice (v.sub (AnAssign true) (t ∷ [])) more stop))
      (first_same q (λ e. bind (more e) stop) Exprs.lead_end (λ e. local_bind (more_local e) (λ es. local_ret (Stop es))) lead_end_local (v.sub (AnAssign true) (t ∷ [])) (v.sub (AnAssign true) (t ∷ q)) ((l.eats (AnAssign true)).each (t ∷ [])) ((l.at (AnAssign true)).same (t ∷ []) q))

  lead_item_same : (t : Lexeme) (q : List Lexeme) (b : Bool) → is_param_form t (head_of q) ≡ b → Same q (bind (Exprs.items_from v) (λ es. ret (Stop es)) (t ∷ [])) (when b (bind (v.sub (AnAssign true)) Exprs.lead_end) (bind (Exprs.items_from v) (λ es. ret (Stop es))) (t ∷ q))
  lead_item_same t q true h = lead_item_end t q
  lead_item_same t q false h = (local_bind items_local (λ es. local_ret (Stop es))).same (t ∷ []) q

  pub no_form : (t : Lexeme) → is_param_form t (head_of []) ≡ false
  no_form t = and_none (is_name t.kind)
    where
      and_none : (b : Bool) → (b && false) ≡ false
      and_none true = refl
      and_none false = refl

  pub lead_item_local : Local (Exprs.lead_item v)
  unfolding Exprs.lead_item
  lead_item_local = local_two (λ t u. local_when (is_param_form t u) (local_bind (l.at (AnAssign true)) lead_end_local) (local_bind items_local (λ es. local_ret (Stop es))))
      (λ t q. subst (λ b. Same q (when b (bind (v.sub (AnAssign true)) Exprs.lead_end) (bind (Exprs.items_from v) (λ es. ret (Stop es))) (t ∷ [])) (when (is_param_form t (head_of q)) (bind (v.sub (AnAssign true)) Exprs.lead_end) (bind (Exprs.items_from v) (λ es. ret (Stop es))) (t ∷ q))) (sym (no_form t)) (lead_item_same t q (is_param_form t (head_of q)) refl))

  pub lead_turn_local : Local (Exprs.lead_turn v)
  unfolding Exprs.lead_turn
  lead_turn_local = local_peek (λ t. local_when (is_mark mark.CLOSE_PAREN t.kind) doomed_local (local_when (is_mark mark.ELLIPSIS t.kind) doomed_rest_local lead_item_local))

  items_eats : Eats (Exprs.items_from v)
  unfolding Exprs.items_from
  items_eats = eats_bind (l.eats (AnAssign true)) (λ e. local_bind (local_loop (more_turn_local true) (more_turn_gains true)) (λ m. local_ret _))

  either_eats : {A : Type 0} (f g : Parser A) → Eats f → Eats g → (b : Bool) → Eats (when b f g)
  either_eats f g h k true = h
  either_eats f g h k false = k

  lead_item_eats : Eats (Exprs.lead_item v)
  unfolding Exprs.lead_item
  lead_item_eats = record { each = λ ts. (either_eats (bind (v.sub (AnAssign true)) Exprs.lead_end) (bind (Exprs.items_from v) (λ es. ret (Stop es))) (eats_bind (l.eats (AnAssign true)) lead_end_local) (eats_bind items_eats (λ es. local_ret (Stop es))) (is_param_form (head_of ts) (head_of (rest_of ts)))).each ts }

  -- nothing is read by what is doomed
  noted_bad : (A : Type 0) (n : ℕ) (rs : List Recorded) (us : List Lexeme) → Ate {A = A} n (noted rs (Bad [] us))
  noted_bad A n [] us = tt
  noted_bad A n (b ∷ rs) us = tt

  after_bad : (A : Type 0) (n : ℕ) (r : Reply (Unit {0})) → Ate {A = A} n (after r (λ _. bad))
  after_bad A n (Read a rs us) = noted_bad A n rs us
  after_bad A n (Bad rs us) = tt
  after_bad A n (Deep rs us) = tt

  doomed_eats : {A : Type 0} → Eats (Exprs.doomed {A = A})
  doomed_eats {A} = record { each = λ ts. after_bad A (length ts) (expect mark.CLOSE_PAREN ts) }

  doomed_rest_eats : {A : Type 0} → Eats (Exprs.doomed_rest {A = A} v)
  unfolding Exprs.doomed_rest
  doomed_rest_eats = eats_bind (l.eats ARest) (λ _. doomed_local)

  pub lead_turn_gains : Gains (Exprs.lead_turn v)
  unfolding Exprs.lead_turn
  lead_turn_gains = gains_eats (record { each = λ ts. (either_eats Exprs.doomed (when (is_mark mark.ELLIPSIS (head_of ts).kind) (Exprs.doomed_rest v) (Exprs.lead_item v)) doomed_eats (either_eats (Exprs.doomed_rest v) (Exprs.lead_item v) doomed_rest_eats lead_item_eats (is_mark mark.ELLIPSIS (head_of ts).kind)) (is_mark mark.CLOSE_PAREN (head_of ts).kind)).each ts })

  pub lead_items_local : Local (Exprs.lead_items v)
  unfolding Exprs.lead_items
  lead_items_local = local_bind (local_loop lead_turn_local lead_turn_gains) (λ m. local_ret _)

  pub paren_local : (heads : Bool) (at : ℕ) → Local (Exprs.paren_of v heads at)
  unfolding Exprs.paren_of
  paren_local heads at = local_bind (local_when heads lead_items_local items_local) (λ es. local_bind (expect_local mark.CLOSE_PAREN) (λ _. local_ret _))

  -- primaries, members and calls

  pub prim_local : (heads : Bool) → Local (Exprs.prim_of v heads)
  unfolding Exprs.prim_of
  prim_local heads = local_peek (λ t.
      local_when (is_atom t.kind) (local_step (local_ret (atom_case t.kind t)))
      (local_when (is_mark mark.OPEN_PAREN t.kind) (local_step (paren_local heads t.start))
      (local_when (is_word word.FUNCTION t.kind) (local_step (func_local t.start))
      (local_when (is_mark mark.OPEN_BRACKET t.kind) (local_step (array_local t.start))
      (local_when (is_mark mark.OPEN_BRACE t.kind) (local_step (object_local t.start))
      (local_when (is_head t.kind) (local_step (template_local t.start t.text)) local_bad))))))

  pub index_local : Local (Exprs.index_of v)
  unfolding Exprs.index_of
  index_local = local_bind (expr_local true) (λ e. local_bind (expect_local mark.CLOSE_BRACKET) (λ _. local_ret _))

  member_or_local : (t : Lexeme) (f : Parser (Turn Tail (Unit {0}))) → Local f → Local (Exprs.member_or v t f)
  member_or_local t f h = local_when (is_mark mark.DOT t.kind) (local_step (local_bind dot_local again_local)) (local_when (is_mark mark.OPEN_BRACKET t.kind) (local_step (local_bind index_local again_local)) h)

  member_or_moves : (t : Lexeme) (f : Parser (Turn Tail (Unit {0}))) (ts : List Lexeme) → Moves (suc (length ts)) (f (t ∷ ts)) → Moves (suc (length ts)) (Exprs.member_or v t f (t ∷ ts))
  member_or_moves t f ts h = moves_when _ _ (is_mark mark.DOT t.kind) t ts (gains_step (bind Exprs.dot_of again) (local_bind dot_local again_local) t ts) (moves_when _ _ (is_mark mark.OPEN_BRACKET t.kind) t ts (gains_step (bind (Exprs.index_of v) again) (local_bind index_local again_local) t ts) h)

  pub member_turn_local : Local (Exprs.member_turn v)
  unfolding Exprs.member_turn
  member_turn_local = local_peek (λ t. member_or_local t (ret (Stop tt)) (local_ret (Stop tt)))

  pub member_turn_gains : Gains (Exprs.member_turn v)
  unfolding Exprs.member_turn
  member_turn_gains = gains_peek (λ t. Exprs.member_or v t (ret (Stop tt))) tt (λ t ts. member_or_moves t (ret (Stop tt)) ts tt)

  pub call_local : Local (Exprs.call_of v)
  unfolding Exprs.call_of
  call_local = local_bind args_local (λ a. local_ret _)

  pub tail_turn_local : Local (Exprs.tail_turn v)
  unfolding Exprs.tail_turn
  tail_turn_local = local_peek (λ t. member_or_local t (when (is_mark mark.OPEN_PAREN t.kind) (step (bind (Exprs.call_of v) again)) (ret (Stop tt))) (local_when (is_mark mark.OPEN_PAREN t.kind) (local_step (local_bind call_local again_local)) (local_ret (Stop tt))))

  pub tail_turn_gains : Gains (Exprs.tail_turn v)
  unfolding Exprs.tail_turn
  tail_turn_gains = gains_peek (λ t. Exprs.member_or v t (when (is_mark mark.OPEN_PAREN t.kind) (step (bind (Exprs.call_of v) again)) (ret (Stop tt)))) tt
      (λ t ts. member_or_moves t (when (is_mark mark.OPEN_PAREN t.kind) (step (bind (Exprs.call_of v) again)) (ret (Stop tt))) ts (moves_when _ _ (is_mark mark.OPEN_PAREN t.kind) t ts (gains_step (bind (Exprs.call_of v) again) (local_bind call_local again_local) t ts) tt))

  pub chain_local : {turn : Parser (Turn Tail (Unit {0}))} → Local turn → Gains turn → (e : Expr) → Local (Exprs.chain_of turn e)
  chain_local h g e = local_when (is_chain_head e) (local_bind (local_loop h g) (λ m. local_ret _)) (local_ret e)

  pub new_or_prim_local : (heads : Bool) → Local (Exprs.new_or_prim v heads)
  unfolding Exprs.new_or_prim
  new_or_prim_local heads = local_peek (λ t. local_when (is_word word.NEW t.kind) (l.at ANew) (prim_local heads))

  new_args_local : Local (Exprs.new_args v)
  unfolding Exprs.new_args
  new_args_local = local_peek (λ t. local_when (is_mark mark.OPEN_PAREN t.kind) (local_step (local_bind args_local (λ a. local_ret (Some a)))) (local_ret None))

  pub new_from_local : (at : ℕ) (e : Expr) → Local (Exprs.new_from v at e)
  unfolding Exprs.new_from
  new_from_local at e = local_when (is_chain_head e) (local_bind (local_loop member_turn_local member_turn_gains) (λ m. local_bind new_args_local (λ a. local_ret _))) (local_ret _)

  pub new_local : Local (Exprs.new_of v)
  unfolding Exprs.new_of
  new_local = local_peek (λ t. local_when (is_word word.NEW t.kind) (local_step (local_bind (new_or_prim_local false) (new_from_local t.start))) local_bad)

  pub left_local : (heads : Bool) → Local (Exprs.left_of v heads)
  unfolding Exprs.left_of
  left_local heads = local_bind (new_or_prim_local heads) (chain_local tail_turn_local tail_turn_gains)

  pub postfix_local : (at : ℕ) (e : Expr) → Local (Exprs.postfix_of at e)
  unfolding Exprs.postfix_of
  postfix_local at e = local_peek (λ t. local_when (is_update t.kind && not t.after_line) (local_step (local_ret (tree.Update at (Exprs.mark_of t.kind) false e))) (local_ret e))

  pub update_local : (heads : Bool) → Local (Exprs.update_of v heads)
  unfolding Exprs.update_of
  update_local heads = local_peek (λ t. local_bind (left_local heads) (postfix_local t.start))

  pub unary_local : (heads : Bool) → Local (Exprs.unary_of v heads)
  unfolding Exprs.unary_of
  unary_local heads = local_peek (λ t. local_when (is_prefix t.kind || is_update t.kind) (l.at APrefix) (update_local heads))

  pub prefix_local : Local (Exprs.prefix_of v)
  unfolding Exprs.prefix_of
  prefix_local = local_peek (λ t. local_when (is_prefix t.kind) (local_step (local_bind (unary_local false) (λ e. local_ret (tree.Unary t.start (Exprs.mark_of t.kind) e (Exprs.is_word_kind t.kind))))) (local_when (is_update t.kind) (local_step (local_bind (unary_local false) (λ e. local_ret (tree.Update t.start (Exprs.mark_of t.kind) true e)))) local_bad))

  -- binary operators

  pub power_turn_local : Local (Exprs.power_turn v)
  unfolding Exprs.power_turn
  power_turn_local = local_peek (λ t. local_when (is_mark mark.POWER t.kind) (local_step (local_bind (unary_local false) (λ e. local_ret (Exprs.power_operand t e)))) (local_ret (Stop None)))

  pub power_turn_gains : Gains (Exprs.power_turn v)
  unfolding Exprs.power_turn
  power_turn_gains = gains_peek (λ t. when (is_mark mark.POWER t.kind) (step (bind (Exprs.unary_of v false) (λ e. ret (Exprs.power_operand t e)))) (ret (Stop None))) tt (λ t ts. moves_when _ _ (is_mark mark.POWER t.kind) t ts (gains_step _ (local_bind (unary_local false) (λ e. local_ret (Exprs.power_operand t e))) t ts) tt)

  pub power_local : (heads : Bool) → Local (Exprs.power_of v heads)
  unfolding Exprs.power_of
  power_local heads = local_bind (unary_local heads) (λ e. local_when (is_update_expr e) (local_bind (local_loop power_turn_local power_turn_gains) (λ m. local_ret _)) (local_ret e))

  module _ (w : Bool) (n : ℕ) (lower : Parser Expr) (h : Local lower) where
    pub op_turn_local : Local (Exprs.op_turn w n lower)
    unfolding Exprs.op_turn
    op_turn_local = local_peek (λ t. local_when (is_op w n t.kind) (local_step (local_bind h (λ e. local_ret (Again (Exprs.operand t e))))) (local_ret (Stop tt)))

    pub op_turn_gains : n < 12 → Gains (Exprs.op_turn w n lower)
    unfolding Exprs.op_turn
    op_turn_gains k = gains_peek (λ t. when (is_op w n t.kind) (step (bind lower (λ e. ret (Again (Exprs.operand t e))))) (ret (Stop tt)))
        (subst (λ b. Moves 0 (when {A = Turn Operand (Unit {0})} (b && (w || true)) (step (bind lower (λ e. ret (Again (Exprs.operand (head_of []) e))))) (ret (Stop tt)) [])) (sym (ne_eqb 12 n (λ e. absurd (omega (arith, k, e))))) tt)
        (λ t ts. moves_when _ _ (is_op w n t.kind) t ts (gains_step _ (local_bind h (λ e. local_ret (Again (Exprs.operand t e)))) t ts) tt)

    pub operands_local : n < 12 → (e : Expr) → Local (Exprs.operands_from w n lower e)
    operands_local k e = local_bind (local_loop op_turn_local (op_turn_gains k)) (λ m. local_ret _)

  pub level_local : (w : Bool) (n : ℕ) → n ≤ 10 → (heads : Bool) → Local (Exprs.level_of v w n heads)
  unfolding Exprs.level_of
  level_local w zero k heads = power_local heads
  level_local w (suc n) k heads = local_bind (level_local w n (omega arith) heads) (operands_local w (suc n) (Exprs.level_of v w n false) (level_local w n (omega arith) false) (omega arith))

  or_local : (w : Bool) (e : Expr) → Local (Exprs.or_from v w e)
  unfolding Exprs.or_from
  or_local w e = local_bind (operands_local w 9 (Exprs.level_of v w 8 false) (level_local w 8 (omega arith) false) (omega arith) e) (operands_local w 10 (Exprs.level_of v w 9 false) (level_local w 9 (omega arith) false) (omega arith))

  pub short_behind_local : (w : Bool) (e : Expr) → Local (peek (λ t. when (is_op w Exprs.coalesce_level t.kind) (Exprs.operands_from w Exprs.coalesce_level (Exprs.level_of v w Exprs.bit_or_level false) e) (Exprs.or_from v w e)))
  short_behind_local w e = local_peek (λ t. local_when (is_op w 11 t.kind) (operands_local w 11 (Exprs.level_of v w 8 false) (level_local w 8 (omega arith) false) (omega arith) e) (or_local w e))

  pub short_circuit_local : (w heads : Bool) → Local (Exprs.short_circuit v w heads)
  unfolding Exprs.short_circuit
  short_circuit_local w heads = local_bind (level_local w 8 (omega arith) heads) (short_behind_local w)

  -- conditionals and assignments

  branches_local : (w : Bool) (e : Expr) → Local (Exprs.branches_of v w e)
  unfolding Exprs.branches_of
  branches_local w e = local_bind (l.at (AnAssign true)) (λ y. local_bind (expect_local mark.COLON) (λ _. local_bind (l.at (AnAssign w)) (λ n. local_ret _)))

  pub cond_tail_local : (w : Bool) (e : Expr) → Local (Exprs.cond_tail v w e)
  unfolding Exprs.cond_tail
  cond_tail_local w e = local_peek (λ t. local_when (is_mark mark.QUESTION t.kind) (local_step (branches_local w e)) (local_ret e))

  pub cond_local : (w heads : Bool) → Local (Exprs.cond_of v w heads)
  unfolding Exprs.cond_of
  cond_local w heads = local_bind (short_circuit_local w heads) (cond_tail_local w)

  pub assign_tail_local : (w : Bool) (e : Expr) → Local (Exprs.assign_tail v w e)
  unfolding Exprs.assign_tail
  assign_tail_local w e = local_peek (λ t. local_when (is_assign_mark t.kind && nat_le (rank e) 4) (local_step (local_bind (l.at (AnAssign w)) (λ x. local_ret (tree.Assign (Exprs.mark_of t.kind) e x)))) (local_ret e))

  pub plain_local : (w : Bool) → Local (Exprs.plain_of v w)
  unfolding Exprs.plain_of
  plain_local w = local_bind (cond_local w true) (assign_tail_local w)
