-- What parsers of expressions record stands one after another, over calls and bodies of which that holds.
use Rattle.std.proofs.Common.{ℕ, zero, suc, List, [], ◌∷◌, Bool, true, false, ◌&&◌, ◌||◌, not, nat_le, Option, Some, None}
use Rattle.script_grammar.specs.declared.token.FuncForm.{FuncForm}
use Rattle.script_grammar.specs.declared.token.FuncForm.TheVariants as form
use Rattle.script_grammar.specs.declared.token.mark.TheConstants as mark
use Rattle.script_grammar.specs.declared.token.word.TheConstants as word
use Rattle.script_grammar.specs.Lexeme.{Lexeme}
use Rattle.script_grammar.specs.Kinds.{is_mark, is_word, is_name, is_number, is_str, is_head, is_middle, is_tail, is_any_word, is_get, is_set, is_assign_mark, is_prefix, is_update}
use Rattle.script_grammar.specs.Tree.{Named, Expr, Tail, Key, Prop, Function}
use Rattle.script_grammar.specs.Tree as tree
use Rattle.script_grammar.specs.Proper.{rank}
use Rattle.script_grammar.specs.TreeLists.{Param}
use Rattle.grammar_parser_specs.specs.Parser.{Parser, ret, bind, step, when, Turn, Again, Stop, stopped, peek}
use Rattle.grammar_parser_specs.specs.Exprs
use Rattle.grammar_parser_specs.specs.Exprs.{Env, Call, AnAssign, APrefix, ANew, AParam, ARest, ParamsEnd, Plain, Trailing, Rest, Head, expect, name_of, named, param, peek_two, again, begins_value, ends_key, is_param_form, is_atom, atom_case, is_chain_head, is_update_expr, is_op, is_arrow}
use Rattle.parse_pending_laws.proofs.Rises.{Rises, rises_ret, rises_bad, rises_bind, rises_peek, rises_two, rises_when, rises_step, rises_loop, rises_led}

-- the calls one deeper, and bodies
pub record RisesEnv (v : Env) : Type 0 where
  pub at : (c : Call) → Rises (v.sub c)
  pub body : (f : FuncForm) (start : ℕ) (simple : Bool) → Rises (v.body f start simple)

pub expect_rises : (i : ℕ) → Rises (expect i)
unfolding expect
expect_rises i = rises_peek (λ t. rises_when (is_mark i t.kind) (rises_step (rises_ret tt)) rises_bad)

pub name_of_rises : Rises name_of
unfolding name_of
name_of_rises = rises_peek (λ t. rises_when (is_name t.kind) (rises_step (rises_ret (named t))) rises_bad)

pub maybe_name_rises : Rises Exprs.maybe_name
unfolding Exprs.maybe_name
maybe_name_rises = rises_peek (λ t. rises_when (is_name t.kind) (rises_step (rises_ret (Some (named t)))) (rises_ret None))

pub dot_rises : Rises Exprs.dot_of
unfolding Exprs.dot_of
dot_rises = rises_peek (λ t. rises_when (is_any_word t.kind) (rises_step (rises_ret (tree.Dot t.text))) rises_bad)

pub again_rises : {A B : Type 0} (a : A) → Rises (again {A = A} {B = B} a)
again_rises a = rises_ret (Again a)

module _ (v : Env) (l : RisesEnv v) where
  -- lists of expressions and arguments

  pub more_turn_rises : (w : Bool) → Rises (Exprs.more_turn v w)
  unfolding Exprs.more_turn
  more_turn_rises w = rises_peek (λ t. rises_when (is_mark mark.COMMA t.kind) (rises_step (rises_bind (l.at (AnAssign w)) (λ e. rises_ret (Again e)))) (rises_ret (Stop tt)))

  pub expr_rises : (w : Bool) → Rises (Exprs.expr_of v w)
  unfolding Exprs.expr_of
  expr_rises w = rises_bind (l.at (AnAssign w)) (λ e. rises_bind (rises_loop (more_turn_rises w)) (λ m. rises_ret _))

  pub args_next_rises : Rises (Exprs.args_next v)
  unfolding Exprs.args_next
  args_next_rises = rises_peek (λ t. rises_when (is_mark mark.CLOSE_PAREN t.kind) (rises_ret (Stop true)) (rises_bind (l.at (AnAssign true)) (λ e. rises_ret (Again e))))

  pub args_turn_rises : Rises (Exprs.args_turn v)
  unfolding Exprs.args_turn
  args_turn_rises = rises_peek (λ t. rises_when (is_mark mark.COMMA t.kind) (rises_step args_next_rises) (rises_ret (Stop false)))

  pub more_args_rises : Rises (Exprs.more_args v)
  unfolding Exprs.more_args
  more_args_rises = rises_peek (λ t. rises_when (is_mark mark.CLOSE_PAREN t.kind) (rises_ret (stopped false)) (rises_bind (l.at (AnAssign true)) (rises_led args_turn_rises)))

  pub args_rises : Rises (Exprs.args_of v)
  unfolding Exprs.args_of
  args_rises = rises_bind more_args_rises (λ m. rises_bind (expect_rises mark.CLOSE_PAREN) (λ _. rises_ret _))

  -- arrays and templates

  pub item_end_rises : (e : Expr) → Rises (Exprs.item_end e)
  unfolding Exprs.item_end
  item_end_rises e = rises_peek (λ t. rises_when (is_mark mark.COMMA t.kind) (rises_step (rises_ret (Again (Some e)))) (rises_ret (Stop (Some e))))

  pub item_turn_rises : Rises (Exprs.item_turn v)
  unfolding Exprs.item_turn
  item_turn_rises = rises_peek (λ t. rises_when (is_mark mark.CLOSE_BRACKET t.kind) (rises_ret (Stop None)) (rises_when (is_mark mark.COMMA t.kind) (rises_step (rises_ret (Again None))) (rises_bind (l.at (AnAssign true)) item_end_rises)))

  pub array_rises : (at : ℕ) → Rises (Exprs.array_of v at)
  unfolding Exprs.array_of
  array_rises at = rises_bind (rises_loop item_turn_rises) (λ m. rises_bind (expect_rises mark.CLOSE_BRACKET) (λ _. rises_ret _))

  pub part_end_rises : (e : Expr) → Rises (Exprs.part_end e)
  unfolding Exprs.part_end
  part_end_rises e = rises_peek (λ t. rises_when (is_middle t.kind) (rises_step (rises_ret (Again (Exprs.part e t)))) (rises_when (is_tail t.kind) (rises_step (rises_ret (Stop (Exprs.part e t)))) rises_bad))

  pub part_turn_rises : Rises (Exprs.part_turn v)
  unfolding Exprs.part_turn
  part_turn_rises = rises_bind (expr_rises true) part_end_rises

  pub template_rises : (at : ℕ) (first : List ℕ) → Rises (Exprs.template_of v at first)
  unfolding Exprs.template_of
  template_rises at first = rises_bind (rises_loop part_turn_rises) (λ m. rises_ret _)

  -- parameters and functions

  pub initializer_rises : Rises (Exprs.initializer_of v)
  unfolding Exprs.initializer_of
  initializer_rises = rises_peek (λ t. rises_when (is_mark mark.ASSIGN t.kind) (rises_step (rises_bind (l.at (AnAssign true)) (λ e. rises_ret (Some e)))) (rises_ret None))

  pub param_rises : Rises (Exprs.param_of v)
  unfolding Exprs.param_of
  param_rises = rises_bind name_of_rises (λ n. rises_bind initializer_rises (λ o. rises_ret (param n o)))

  rest_end_rises : Rises Exprs.rest_end
  rest_end_rises = rises_bind name_of_rises (λ n. rises_ret (Stop (Rest n)))

  pub param_turn_rises : Rises (Exprs.param_turn v)
  unfolding Exprs.param_turn
  param_turn_rises = rises_peek (λ t. rises_when (is_mark mark.ELLIPSIS t.kind) (rises_step rest_end_rises) (rises_bind param_rises (λ p. rises_ret (Again p))))

  pub params_next_rises : Rises (Exprs.params_next v)
  unfolding Exprs.params_next
  params_next_rises = rises_peek (λ t. rises_when (is_mark mark.CLOSE_PAREN t.kind) (rises_ret (Stop Trailing)) param_turn_rises)

  pub params_turn_rises : Rises (Exprs.params_turn v)
  unfolding Exprs.params_turn
  params_turn_rises = rises_peek (λ t. rises_when (is_mark mark.COMMA t.kind) (rises_step params_next_rises) (rises_ret (Stop Plain)))

  pub params_led_rises : {turn : Parser (Turn Param ParamsEnd)} → Rises turn → (t : Turn Param ParamsEnd) → Rises (Exprs.params_led turn t)
  params_led_rises h (Again p) = rises_led h p
  params_led_rises h (Stop e) = rises_ret (stopped e)

  pub more_params_rises : Rises (Exprs.more_params v)
  unfolding Exprs.more_params
  more_params_rises = rises_peek (λ t. rises_when (is_mark mark.CLOSE_PAREN t.kind) (rises_ret (stopped Plain)) (rises_bind param_turn_rises (params_led_rises params_turn_rises)))

  pub listed_rises : (start : ℕ) → Rises (Exprs.listed_params v start)
  unfolding Exprs.listed_params
  listed_rises start = rises_bind more_params_rises (λ m. rises_bind (expect_rises mark.CLOSE_PAREN) (λ _. rises_ret _))

  form_params_rises : (f : FuncForm) (start : ℕ) → Rises (Exprs.form_params v f start)
  form_params_rises f start = rises_when (Exprs.is_getter f) (rises_bind (expect_rises mark.CLOSE_PAREN) (λ _. rises_ret _)) (rises_when (Exprs.is_setter f) (rises_bind param_rises (λ p. rises_bind (expect_rises mark.CLOSE_PAREN) (λ _. rises_ret _))) (listed_rises start))

  pub params_head_rises : (f : FuncForm) → Rises (Exprs.params_head v f)
  unfolding Exprs.params_head
  params_head_rises f = rises_peek (λ t. rises_when (is_mark mark.OPEN_PAREN t.kind) (rises_step (form_params_rises f t.start)) rises_bad)

  pub function_rises : (f : FuncForm) (name : Option Named) → Rises (Exprs.function_of v f name)
  unfolding Exprs.function_of
  function_rises f name = rises_bind (params_head_rises f) (λ h. rises_bind (l.body f h.start (Exprs.is_simple h.params)) (λ b. rises_ret _))

  pub func_rises : (at : ℕ) → Rises (Exprs.func_of v at)
  unfolding Exprs.func_of
  func_rises at = rises_bind maybe_name_rises (λ n. rises_bind (function_rises form.Function n) (λ f. rises_ret _))

  -- properties and objects

  pub computed_rises : Rises (Exprs.computed_of v)
  unfolding Exprs.computed_of
  computed_rises = rises_bind (l.at (AnAssign true)) (λ e. rises_bind (expect_rises mark.CLOSE_BRACKET) (λ _. rises_ret _))

  pub key_rises : Rises (Exprs.key_of v)
  unfolding Exprs.key_of
  key_rises = rises_peek (λ t. rises_when (is_any_word t.kind) (rises_step (rises_ret (tree.WordKey (named t)))) (rises_when (is_str t.kind) (rises_step (rises_ret (tree.StrKey (named t)))) (rises_when (is_number t.kind) (rises_step (rises_ret (tree.NumberKey t.start t.number))) (rises_when (is_mark mark.OPEN_BRACKET t.kind) (rises_step computed_rises) rises_bad))))

  pub keyed_rises : (k : Key) → Rises (Exprs.keyed_of v k)
  unfolding Exprs.keyed_of
  keyed_rises k = rises_peek (λ t. rises_when (is_mark mark.COLON t.kind) (rises_step (rises_bind (l.at (AnAssign true)) (λ e. rises_ret (tree.Pair k e)))) (rises_when (is_mark mark.OPEN_PAREN t.kind) (rises_bind (function_rises form.Method None) (λ f. rises_ret (tree.Method k f))) rises_bad))

  pub short_rises : (n : Named) → Rises (Exprs.short_of v n)
  unfolding Exprs.short_of
  short_rises n = rises_peek (λ t. rises_when (begins_value t.kind) (keyed_rises (tree.WordKey n)) (rises_ret (tree.Short n)))

  pub getter_rises : Rises (Exprs.getter_of v)
  unfolding Exprs.getter_of
  getter_rises = rises_bind key_rises (λ k. rises_bind (function_rises form.Getter None) (λ f. rises_ret _))

  pub setter_rises : Rises (Exprs.setter_of v)
  unfolding Exprs.setter_of
  setter_rises = rises_bind key_rises (λ k. rises_bind (function_rises form.Setter None) (λ f. rises_ret _))

  accessor_rises : (n : Named) (f : Parser Prop) → Rises f → Rises (Exprs.accessor_of v n f)
  unfolding Exprs.accessor_of
  accessor_rises n f h = rises_peek (λ t. rises_when (ends_key t.kind) (short_rises n) h)

  name_prop_rises : (t : Lexeme) → Rises (Exprs.name_prop v t)
  name_prop_rises t = rises_when (is_get t.role) (accessor_rises (named t) (Exprs.getter_of v) getter_rises) (rises_when (is_set t.role) (accessor_rises (named t) (Exprs.setter_of v) setter_rises) (short_rises (named t)))

  pub prop_rises : Rises (Exprs.prop_of v)
  unfolding Exprs.prop_of
  prop_rises = rises_peek (λ t. rises_when (is_name t.kind) (rises_step (name_prop_rises t)) (rises_bind key_rises keyed_rises))

  pub props_next_rises : Rises (Exprs.props_next v)
  unfolding Exprs.props_next
  props_next_rises = rises_peek (λ t. rises_when (is_mark mark.CLOSE_BRACE t.kind) (rises_ret (Stop true)) (rises_bind prop_rises (λ p. rises_ret (Again p))))

  pub props_turn_rises : Rises (Exprs.props_turn v)
  unfolding Exprs.props_turn
  props_turn_rises = rises_peek (λ t. rises_when (is_mark mark.COMMA t.kind) (rises_step props_next_rises) (rises_ret (Stop false)))

  pub more_props_rises : Rises (Exprs.more_props v)
  unfolding Exprs.more_props
  more_props_rises = rises_peek (λ t. rises_when (is_mark mark.CLOSE_BRACE t.kind) (rises_ret (stopped false)) (rises_bind prop_rises (rises_led props_turn_rises)))

  pub object_rises : (at : ℕ) → Rises (Exprs.object_of v at)
  unfolding Exprs.object_of
  object_rises at = rises_bind more_props_rises (λ m. rises_bind (expect_rises mark.CLOSE_BRACE) (λ _. rises_ret _))

  -- items in parentheses that might be an arrow's

  pub items_rises : Rises (Exprs.items_from v)
  unfolding Exprs.items_from
  items_rises = rises_bind (l.at (AnAssign true)) (λ e. rises_bind (rises_loop (more_turn_rises true)) (λ m. rises_ret _))

  pub doomed_rises : {A : Type 0} → Rises (Exprs.doomed {A = A})
  doomed_rises = rises_bind (expect_rises mark.CLOSE_PAREN) (λ _. rises_bad)

  pub doomed_rest_rises : {A : Type 0} → Rises (Exprs.doomed_rest {A = A} v)
  unfolding Exprs.doomed_rest
  doomed_rest_rises = rises_bind (l.at ARest) (λ _. doomed_rises)

  pub lead_end_rises : (e : Expr) → Rises (Exprs.lead_end e)
  unfolding Exprs.lead_end
  lead_end_rises e = rises_peek (λ t. rises_when (is_mark mark.COMMA t.kind) (rises_step (rises_ret (Again e))) (rises_ret (Stop (e ∷ []))))

  pub lead_item_rises : Rises (Exprs.lead_item v)
  unfolding Exprs.lead_item
  lead_item_rises = rises_two (λ t u. rises_when (is_param_form t u) (rises_bind (l.at (AnAssign true)) lead_end_rises) (rises_bind items_rises (λ es. rises_ret (Stop es))))

  pub lead_turn_rises : Rises (Exprs.lead_turn v)
  unfolding Exprs.lead_turn
  lead_turn_rises = rises_peek (λ t. rises_when (is_mark mark.CLOSE_PAREN t.kind) doomed_rises (rises_when (is_mark mark.ELLIPSIS t.kind) doomed_rest_rises lead_item_rises))

  pub lead_items_rises : Rises (Exprs.lead_items v)
  unfolding Exprs.lead_items
  lead_items_rises = rises_bind (rises_loop lead_turn_rises) (λ m. rises_ret _)

  pub paren_rises : (heads : Bool) (at : ℕ) → Rises (Exprs.paren_of v heads at)
  unfolding Exprs.paren_of
  paren_rises heads at = rises_bind (rises_when heads lead_items_rises items_rises) (λ es. rises_bind (expect_rises mark.CLOSE_PAREN) (λ _. rises_ret _))

  -- primaries, members and calls

  pub prim_rises : (heads : Bool) → Rises (Exprs.prim_of v heads)
  unfolding Exprs.prim_of
  prim_rises heads = rises_peek (λ t.
      rises_when (is_atom t.kind) (rises_step (rises_ret (atom_case t.kind t)))
      (rises_when (is_mark mark.OPEN_PAREN t.kind) (rises_step (paren_rises heads t.start))
      (rises_when (is_word word.FUNCTION t.kind) (rises_step (func_rises t.start))
      (rises_when (is_mark mark.OPEN_BRACKET t.kind) (rises_step (array_rises t.start))
      (rises_when (is_mark mark.OPEN_BRACE t.kind) (rises_step (object_rises t.start))
      (rises_when (is_head t.kind) (rises_step (template_rises t.start t.text)) rises_bad))))))

  pub index_rises : Rises (Exprs.index_of v)
  unfolding Exprs.index_of
  index_rises = rises_bind (expr_rises true) (λ e. rises_bind (expect_rises mark.CLOSE_BRACKET) (λ _. rises_ret _))

  member_or_rises : (t : Lexeme) (f : Parser (Turn Tail (Unit {0}))) → Rises f → Rises (Exprs.member_or v t f)
  member_or_rises t f h = rises_when (is_mark mark.DOT t.kind) (rises_step (rises_bind dot_rises again_rises)) (rises_when (is_mark mark.OPEN_BRACKET t.kind) (rises_step (rises_bind index_rises again_rises)) h)

  pub member_turn_rises : Rises (Exprs.member_turn v)
  unfolding Exprs.member_turn
  member_turn_rises = rises_peek (λ t. member_or_rises t (ret (Stop tt)) (rises_ret (Stop tt)))

  pub call_rises : Rises (Exprs.call_of v)
  unfolding Exprs.call_of
  call_rises = rises_bind args_rises (λ a. rises_ret _)

  pub tail_turn_rises : Rises (Exprs.tail_turn v)
  unfolding Exprs.tail_turn
  tail_turn_rises = rises_peek (λ t. member_or_rises t (when (is_mark mark.OPEN_PAREN t.kind) (step (bind (Exprs.call_of v) again)) (ret (Stop tt))) (rises_when (is_mark mark.OPEN_PAREN t.kind) (rises_step (rises_bind call_rises again_rises)) (rises_ret (Stop tt))))

  chain_rises : {turn : Parser (Turn Tail (Unit {0}))} → Rises turn → (e : Expr) → Rises (Exprs.chain_of turn e)
  chain_rises h e = rises_when (is_chain_head e) (rises_bind (rises_loop h) (λ m. rises_ret _)) (rises_ret e)

  pub new_or_prim_rises : (heads : Bool) → Rises (Exprs.new_or_prim v heads)
  unfolding Exprs.new_or_prim
  new_or_prim_rises heads = rises_peek (λ t. rises_when (is_word word.NEW t.kind) (l.at ANew) (prim_rises heads))

  new_args_rises : Rises (Exprs.new_args v)
  unfolding Exprs.new_args
  new_args_rises = rises_peek (λ t. rises_when (is_mark mark.OPEN_PAREN t.kind) (rises_step (rises_bind args_rises (λ a. rises_ret (Some a)))) (rises_ret None))

  pub new_from_rises : (at : ℕ) (e : Expr) → Rises (Exprs.new_from v at e)
  unfolding Exprs.new_from
  new_from_rises at e = rises_when (is_chain_head e) (rises_bind (rises_loop member_turn_rises) (λ m. rises_bind new_args_rises (λ a. rises_ret _))) (rises_ret _)

  pub new_rises : Rises (Exprs.new_of v)
  unfolding Exprs.new_of
  new_rises = rises_peek (λ t. rises_when (is_word word.NEW t.kind) (rises_step (rises_bind (new_or_prim_rises false) (new_from_rises t.start))) rises_bad)

  pub left_rises : (heads : Bool) → Rises (Exprs.left_of v heads)
  unfolding Exprs.left_of
  left_rises heads = rises_bind (new_or_prim_rises heads) (chain_rises tail_turn_rises)

  pub postfix_rises : (at : ℕ) (e : Expr) → Rises (Exprs.postfix_of at e)
  unfolding Exprs.postfix_of
  postfix_rises at e = rises_peek (λ t. rises_when (is_update t.kind && not t.after_line) (rises_step (rises_ret (tree.Update at (Exprs.mark_of t.kind) false e))) (rises_ret e))

  pub update_rises : (heads : Bool) → Rises (Exprs.update_of v heads)
  unfolding Exprs.update_of
  update_rises heads = rises_peek (λ t. rises_bind (left_rises heads) (postfix_rises t.start))

  pub unary_rises : (heads : Bool) → Rises (Exprs.unary_of v heads)
  unfolding Exprs.unary_of
  unary_rises heads = rises_peek (λ t. rises_when (is_prefix t.kind || is_update t.kind) (l.at APrefix) (update_rises heads))

  pub prefix_rises : Rises (Exprs.prefix_of v)
  unfolding Exprs.prefix_of
  prefix_rises = rises_peek (λ t. rises_when (is_prefix t.kind) (rises_step (rises_bind (unary_rises false) (λ e. rises_ret (tree.Unary t.start (Exprs.mark_of t.kind) e (Exprs.is_word_kind t.kind))))) (rises_when (is_update t.kind) (rises_step (rises_bind (unary_rises false) (λ e. rises_ret (tree.Update t.start (Exprs.mark_of t.kind) true e)))) rises_bad))

  -- binary operators

  pub power_turn_rises : Rises (Exprs.power_turn v)
  unfolding Exprs.power_turn
  power_turn_rises = rises_peek (λ t. rises_when (is_mark mark.POWER t.kind) (rises_step (rises_bind (unary_rises false) (λ e. rises_ret (Exprs.power_operand t e)))) (rises_ret (Stop None)))

  pub power_rises : (heads : Bool) → Rises (Exprs.power_of v heads)
  unfolding Exprs.power_of
  power_rises heads = rises_bind (unary_rises heads) (λ e. rises_when (is_update_expr e) (rises_bind (rises_loop power_turn_rises) (λ m. rises_ret _)) (rises_ret e))

  module _ (w : Bool) (n : ℕ) (lower : Parser Expr) (h : Rises lower) where
    pub op_turn_rises : Rises (Exprs.op_turn w n lower)
    unfolding Exprs.op_turn
    op_turn_rises = rises_peek (λ t. rises_when (is_op w n t.kind) (rises_step (rises_bind h (λ e. rises_ret (Again (Exprs.operand t e))))) (rises_ret (Stop tt)))

    pub operands_rises : (e : Expr) → Rises (Exprs.operands_from w n lower e)
    operands_rises e = rises_bind (rises_loop op_turn_rises) (λ m. rises_ret _)

  pub level_rises : (w : Bool) (n : ℕ) (heads : Bool) → Rises (Exprs.level_of v w n heads)
  unfolding Exprs.level_of
  level_rises w zero heads = power_rises heads
  level_rises w (suc n) heads = rises_bind (level_rises w n heads) (operands_rises w (suc n) (Exprs.level_of v w n false) (level_rises w n false))

  or_rises : (w : Bool) (e : Expr) → Rises (Exprs.or_from v w e)
  unfolding Exprs.or_from
  or_rises w e = rises_bind (operands_rises w 9 (Exprs.level_of v w 8 false) (level_rises w 8 false) e) (operands_rises w 10 (Exprs.level_of v w 9 false) (level_rises w 9 false))

  pub short_behind_rises : (w : Bool) (e : Expr) → Rises (peek (λ t. when (is_op w Exprs.coalesce_level t.kind) (Exprs.operands_from w Exprs.coalesce_level (Exprs.level_of v w Exprs.bit_or_level false) e) (Exprs.or_from v w e)))
  short_behind_rises w e = rises_peek (λ t. rises_when (is_op w 11 t.kind) (operands_rises w 11 (Exprs.level_of v w 8 false) (level_rises w 8 false) e) (or_rises w e))

  pub short_circuit_rises : (w heads : Bool) → Rises (Exprs.short_circuit v w heads)
  unfolding Exprs.short_circuit
  short_circuit_rises w heads = rises_bind (level_rises w 8 heads) (short_behind_rises w)

  -- conditionals and assignments

  branches_rises : (w : Bool) (e : Expr) → Rises (Exprs.branches_of v w e)
  unfolding Exprs.branches_of
  branches_rises w e = rises_bind (l.at (AnAssign true)) (λ y. rises_bind (expect_rises mark.COLON) (λ _. rises_bind (l.at (AnAssign w)) (λ n. rises_ret _)))

  pub cond_tail_rises : (w : Bool) (e : Expr) → Rises (Exprs.cond_tail v w e)
  unfolding Exprs.cond_tail
  cond_tail_rises w e = rises_peek (λ t. rises_when (is_mark mark.QUESTION t.kind) (rises_step (branches_rises w e)) (rises_ret e))

  pub cond_rises : (w heads : Bool) → Rises (Exprs.cond_of v w heads)
  unfolding Exprs.cond_of
  cond_rises w heads = rises_bind (short_circuit_rises w heads) (cond_tail_rises w)

  pub assign_tail_rises : (w : Bool) (e : Expr) → Rises (Exprs.assign_tail v w e)
  unfolding Exprs.assign_tail
  assign_tail_rises w e = rises_peek (λ t. rises_when (is_assign_mark t.kind && nat_le (rank e) 4) (rises_step (rises_bind (l.at (AnAssign w)) (λ x. rises_ret (tree.Assign (Exprs.mark_of t.kind) e x)))) (rises_ret e))

  pub plain_rises : (w : Bool) → Rises (Exprs.plain_of v w)
  unfolding Exprs.plain_of
  plain_rises w = rises_bind (cond_rises w true) (assign_tail_rises w)
