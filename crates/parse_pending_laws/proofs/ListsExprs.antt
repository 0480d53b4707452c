-- What parsers of expressions read lists the bodies that were recorded: over calls and bodies of which that holds, from lists
-- to operators.
use Rattle.std.proofs.Common.{◌≡◌, ℕ, List, [], ◌∷◌, ◌++◌, refl, sym, ap, ◌∙◌, subst, Bool, true, false, ◌&&◌, ◌||◌, not, nat_le, nat_eq, Option, Some, None, if◌then◌else◌}
use Rattle.script_grammar.specs.declared.token.Kind.{Kind}
use Rattle.script_grammar.specs.declared.token.Kind.TheVariants as kind
use Rattle.script_grammar.specs.declared.token.FuncForm.{FuncForm}
use Rattle.script_grammar.specs.declared.token.FuncForm.TheVariants as form
use Rattle.script_grammar.specs.declared.token.mark.TheConstants as mark
use Rattle.script_grammar.specs.declared.token.word.TheConstants as word
use Rattle.script_grammar.specs.Lexeme.{Lexeme}
use Rattle.script_grammar.specs.Kinds.{is_mark, is_word, is_name, is_number, is_str, is_head, is_middle, is_tail, is_any_word, is_get, is_set, is_prefix, is_update}
use Rattle.script_grammar.specs.Tree.{Named, Expr, Key, Prop, Tail, Body, Function, Stmts}
use Rattle.script_grammar.specs.Tree as tree
use Rattle.script_grammar.specs.TreeLists.{Param, exprs_of, maybe_args_of, parts_of, props_of}
use Rattle.grammar_parser_specs.specs.Parser.{Recorded, Reply, Parser, head_of, rest_of, ret, bind, step, when, Turn, Again, Stop, stopped}
use Rattle.grammar_parser_specs.specs.Exprs as parser
use Rattle.grammar_parser_specs.specs.Exprs.{Env, Call, Result, AnAssign, APrefix, ANew, AParam, ARest, BodyRead, ParamsEnd, Plain, Trailing, Rest, Head, expect, name_of, peek_two, comma_case, list_case, chain_case, binary_case, function_case, head_case, param, operand, is_chain_head, is_update_expr}
use Rattle.grammar_local_laws.proofs.Alike.{AnyK, SameK, OptionK, ExprK, FunctionK, BodyK, TailK, ArgsK, PartK, ParamK, HeadK, KeyK, PropK, list_append, exprs_same, parts_same, props_same, comma_alike, paren_alike, array_alike, head_alike, function_alike, chain_alike, new_alike}
use Rattle.grammar_parser_specs.specs.Filling.{fill, fill_exprs, fill_key, fill_prop, fill_props, fill_function}
use Rattle.grammar_local_laws.proofs.Agrees.{TurnK, ListK, ManyK}
use Rattle.grammar_local_laws.proofs.AgreesExprs.{CallK, ExprTurn, ArgTurn, ParamTurn, ParamsK, TailTurn}
use Rattle.script_grammar.specs.Braced.{in_expr, in_key, in_prop, in_function, in_tail}
use Rattle.parse_pending_laws.proofs.Lists.{Bodies, as_is, in_none, in_turn, in_list, in_option, in_many, Lists, lists_then, lists_more, lists_ret, lists_bad, lists_peek, lists_step, lists_when, lists_if, lists_loop, lists_led}
use Rattle.parse_pending_laws.proofs.ListedParts.{in_args, in_part, in_param, in_head, in_own, list_both, exprs_listed, args_listed, props_listed, params_listed, comma_listed, list_listed, array_listed, template_listed, chain_listed, head_listed}

-- the bodies in what a call reads
abbrev pub in_call : Bool → (c : Call) → Bodies (Result c)
in_call nested (AnAssign w) a r = in_expr nested a r
in_call nested APrefix a r = in_expr nested a r
in_call nested ANew a r = in_expr nested a r
in_call nested AParam a r = (in_param nested) a r
in_call nested ARest a r = r

module _ (nested : Bool) (bodies : ℕ → Body) where
  -- an expression of one lexeme has no bodies, so it is the same with others

  abbrev IsPlain : Expr → Type 0
  IsPlain e = (e ≡ fill bodies e) × ((r : List Stmts) → r ≡ in_expr nested e r)

  word_plain : (x y z : Bool) (at : ℕ) → IsPlain (if x then tree.This at else if y then tree.Null at else if z then tree.True at else tree.False at)
  word_plain true y z at = (refl, λ _. refl)
  word_plain false true z at = (refl, λ _. refl)
  word_plain false false true at = (refl, λ _. refl)
  word_plain false false false at = (refl, λ _. refl)

  atom_plain : (k : Kind) (t : Lexeme) → IsPlain (parser.atom_case k t)
  atom_plain kind.Name t = (refl, λ _. refl)
  atom_plain kind.Number t = (refl, λ _. refl)
  atom_plain kind.Str t = (refl, λ _. refl)
  atom_plain kind.TemplateWhole t = (refl, λ _. refl)
  atom_plain kind.TemplateHead t = (refl, λ _. refl)
  atom_plain kind.TemplateMiddle t = (refl, λ _. refl)
  atom_plain kind.TemplateTail t = (refl, λ _. refl)
  atom_plain (kind.Word i) t = word_plain (nat_eq i word.THIS) (nat_eq i word.NULL) (nat_eq i word.TRUE) t.start
  atom_plain (kind.Mark i) t = (refl, λ _. refl)
  atom_plain kind.Bad t = (refl, λ _. refl)
  atom_plain kind.End t = (refl, λ _. refl)

  module _ (judge : Recorded → Reply BodyRead) where
    pub record ListsEnv (v u : Env) : Type 0 where
      pub sub : (c : Call) → Lists nested judge (CallK bodies c) as_is (in_call nested c) (v.sub c) (u.sub c)
      pub body : (f : FuncForm) (start : ℕ) (simple simple2 : Bool) → Lists nested judge (BodyK bodies start) as_is (in_own nested) (v.body f start simple) (u.body f start simple2)

    pub lists_two : {A B : Type 0} {K : A → B → Type 0} {pre : List Stmts → List Stmts} {w : Bodies A} {f : Lexeme → Lexeme → Parser A} {g : Lexeme → Lexeme → Parser B} → ((t x : Lexeme) → Lists nested judge K pre w (f t x) (g t x)) → Lists nested judge K pre w (peek_two f) (peek_two g)
    lists_two h = record { at = λ ts. (h (head_of ts) (head_of (rest_of ts))).at ts }

    pub expect_lists : (i : ℕ) → Lists nested judge AnyK as_is in_none (expect i) (expect i)
    unfolding expect
    expect_lists i = lists_peek nested judge (λ t. lists_when nested judge (is_mark i t.kind) (lists_step nested judge (lists_ret nested judge tt tt tt (λ _. refl))) (lists_bad nested judge))

    pub name_lists : Lists nested judge SameK as_is in_none name_of name_of
    unfolding name_of
    name_lists = lists_peek nested judge (λ t. lists_when nested judge (is_name t.kind) (lists_step nested judge (lists_ret nested judge (parser.named t) (parser.named t) refl (λ _. refl))) (lists_bad nested judge))

    maybe_name_lists : Lists nested judge SameK as_is in_none parser.maybe_name parser.maybe_name
    unfolding parser.maybe_name
    maybe_name_lists = lists_peek nested judge (λ t. lists_when nested judge (is_name t.kind) (lists_step nested judge (lists_ret nested judge (Some (parser.named t)) (Some (parser.named t)) refl (λ _. refl))) (lists_ret nested judge None None refl (λ _. refl)))

    module _ (v u : Env) (s : ListsEnv v u) where
      -- lists of expressions

      more_turn_lists : (w : Bool) → Lists nested judge (ExprTurn bodies) as_is (in_turn (in_expr nested) in_none) (parser.more_turn v w) (parser.more_turn u w)
      unfolding parser.more_turn
      more_turn_lists w = lists_peek nested judge (λ t. lists_when nested judge (is_mark mark.COMMA t.kind) (lists_step nested judge (lists_more nested judge Again Again (s.sub (AnAssign w)) (λ a b k. k) (λ _ _. refl))) (lists_ret nested judge (Stop tt) (Stop tt) tt (λ _. refl)))

      pub expr_lists : (w : Bool) → Lists nested judge (ExprK bodies) as_is (in_expr nested) (parser.expr_of v w) (parser.expr_of u w)
      unfolding parser.expr_of
      expr_lists w = lists_then nested judge (s.sub (AnAssign w)) (λ a b k. lists_more nested judge (λ m. comma_case a m.items) (λ m. comma_case b m.items) (lists_loop nested judge (more_turn_lists w)) (λ m n q. comma_alike bodies a b m.items n.items k q.0) (λ m r. comma_listed nested a m.items r))

      args_next_lists : Lists nested judge (ArgTurn bodies) as_is (in_turn (in_expr nested) in_none) (parser.args_next v) (parser.args_next u)
      unfolding parser.args_next
      args_next_lists = lists_peek nested judge (λ t. lists_when nested judge (is_mark mark.CLOSE_PAREN t.kind) (lists_ret nested judge (Stop true) (Stop true) refl (λ _. refl)) (lists_more nested judge Again Again (s.sub (AnAssign true)) (λ a b k. k) (λ _ _. refl)))

      args_turn_lists : Lists nested judge (ArgTurn bodies) as_is (in_turn (in_expr nested) in_none) (parser.args_turn v) (parser.args_turn u)
      unfolding parser.args_turn
      args_turn_lists = lists_peek nested judge (λ t. lists_when nested judge (is_mark mark.COMMA t.kind) (lists_step nested judge args_next_lists) (lists_ret nested judge (Stop false) (Stop false) refl (λ _. refl)))

      more_args_lists : Lists nested judge (ManyK (ExprK bodies) SameK) as_is (in_many (in_expr nested) in_none) (parser.more_args v) (parser.more_args u)
      unfolding parser.more_args
      more_args_lists = lists_peek nested judge (λ t. lists_when nested judge (is_mark mark.CLOSE_PAREN t.kind) (lists_ret nested judge (stopped false) (stopped false) (tt, refl) (λ _. refl)) (lists_then nested judge (s.sub (AnAssign true)) (λ a b k. lists_led nested judge args_turn_lists a b k)))

      args_lists : Lists nested judge (ArgsK bodies) as_is (in_args nested) (parser.args_of v) (parser.args_of u)
      unfolding parser.args_of
      args_lists = lists_then nested judge more_args_lists (λ m n q. lists_more nested judge (λ _. record { items = m.items; comma = m.last }) (λ _. record { items = n.items; comma = n.last }) (expect_lists mark.CLOSE_PAREN) (λ _ _ _. record { items = q.0; commas = q.1 }) (λ _ _. refl))

      -- arrays and templates

      item_end_lists : (a b : Expr) → ExprK bodies a b → Lists nested judge (TurnK (OptionK (ExprK bodies)) (OptionK (ExprK bodies))) (in_expr nested a) (in_turn (in_option (in_expr nested)) (in_option (in_expr nested))) (parser.item_end a) (parser.item_end b)
      unfolding parser.item_end
      item_end_lists a b k = lists_peek nested judge (λ t. lists_when nested judge (is_mark mark.COMMA t.kind) (lists_step nested judge (lists_ret nested judge (Again (Some a)) (Again (Some b)) k (λ _. refl))) (lists_ret nested judge (Stop (Some a)) (Stop (Some b)) k (λ _. refl)))

      item_turn_lists : Lists nested judge (TurnK (OptionK (ExprK bodies)) (OptionK (ExprK bodies))) as_is (in_turn (in_option (in_expr nested)) (in_option (in_expr nested))) (parser.item_turn v) (parser.item_turn u)
      unfolding parser.item_turn
      item_turn_lists = lists_peek nested judge (λ t.
          lists_when nested judge (is_mark mark.CLOSE_BRACKET t.kind) (lists_ret nested judge (Stop None) (Stop None) tt (λ _. refl))
          (lists_when nested judge (is_mark mark.COMMA t.kind) (lists_step nested judge (lists_ret nested judge (Again None) (Again None) tt (λ _. refl))) (lists_then nested judge (s.sub (AnAssign true)) item_end_lists)))

      array_lists : (at : ℕ) → Lists nested judge (ExprK bodies) as_is (in_expr nested) (parser.array_of v at) (parser.array_of u at)
      unfolding parser.array_of
      array_lists at = lists_then nested judge (lists_loop nested judge item_turn_lists) (λ m n q. lists_more nested judge (λ _. parser.array_case at m.items m.last) (λ _. parser.array_case at n.items n.last) (expect_lists mark.CLOSE_BRACKET) (λ _ _ _. array_alike bodies at m.items n.items m.last n.last q.0 q.1) (λ _ r. array_listed nested at m.items m.last r))

      part_end_lists : (a b : Expr) → ExprK bodies a b → Lists nested judge (TurnK (PartK bodies) (PartK bodies)) (in_expr nested a) (in_turn (in_part nested) (in_part nested)) (parser.part_end a) (parser.part_end b)
      unfolding parser.part_end
      part_end_lists a b k = lists_peek nested judge (λ t.
          lists_when nested judge (is_middle t.kind) (lists_step nested judge (lists_ret nested judge (Again (parser.part a t)) (Again (parser.part b t)) (record { values = k; texts = refl }) (λ _. refl)))
          (lists_when nested judge (is_tail t.kind) (lists_step nested judge (lists_ret nested judge (Stop (parser.part a t)) (Stop (parser.part b t)) (record { values = k; texts = refl }) (λ _. refl))) (lists_bad nested judge)))

      part_turn_lists : Lists nested judge (TurnK (PartK bodies) (PartK bodies)) as_is (in_turn (in_part nested) (in_part nested)) (parser.part_turn v) (parser.part_turn u)
      unfolding parser.part_turn
      part_turn_lists = lists_then nested judge (expr_lists true) part_end_lists

      template_lists : (at : ℕ) (first : List ℕ) → Lists nested judge (ExprK bodies) as_is (in_expr nested) (parser.template_of v at first) (parser.template_of u at first)
      unfolding parser.template_of
      template_lists at first = lists_more nested judge (λ m. tree.Template at first (parts_of (m.items ++ m.last ∷ []))) (λ m. tree.Template at first (parts_of (m.items ++ m.last ∷ []))) (lists_loop nested judge part_turn_lists) (λ m n q. record { ranks = refl; endings = refl; same = ap (tree.Template at first) (parts_same bodies (m.items ++ m.last ∷ []) (n.items ++ n.last ∷ []) (list_append (PartK bodies) m.items (m.last ∷ []) n.items (n.last ∷ []) q.0 (q.1, tt))) }) (λ m r. template_listed nested m.items m.last r)

      -- functions that are no arrows

      initializer_lists : Lists nested judge (OptionK (ExprK bodies)) as_is (in_option (in_expr nested)) (parser.initializer_of v) (parser.initializer_of u)
      unfolding parser.initializer_of
      initializer_lists = lists_peek nested judge (λ t. lists_when nested judge (is_mark mark.ASSIGN t.kind) (lists_step nested judge (lists_more nested judge Some Some (s.sub (AnAssign true)) (λ a b k. k) (λ _ _. refl))) (lists_ret nested judge None None tt (λ _. refl)))

      pub param_lists : Lists nested judge (ParamK bodies) as_is (in_param nested) (parser.param_of v) (parser.param_of u)
      unfolding parser.param_of
      param_lists = lists_then nested judge name_lists (λ n m e. lists_more nested judge (param n) (param m) initializer_lists (λ o p k. record { names = e; values = k; rests = refl }) (λ _ _. refl))

      rest_end_lists : Lists nested judge (ParamTurn bodies) as_is (in_turn (in_param nested) in_none) parser.rest_end parser.rest_end
      rest_end_lists = lists_more nested judge (λ n. Stop (Rest n)) (λ n. Stop (Rest n)) name_lists (λ n m e. e) (λ _ _. refl)

      param_turn_lists : Lists nested judge (ParamTurn bodies) as_is (in_turn (in_param nested) in_none) (parser.param_turn v) (parser.param_turn u)
      unfolding parser.param_turn
      param_turn_lists = lists_peek nested judge (λ t. lists_when nested judge (is_mark mark.ELLIPSIS t.kind) (lists_step nested judge rest_end_lists) (lists_more nested judge Again Again param_lists (λ a b k. k) (λ _ _. refl)))

      params_next_lists : Lists nested judge (ParamTurn bodies) as_is (in_turn (in_param nested) in_none) (parser.params_next v) (parser.params_next u)
      unfolding parser.params_next
      params_next_lists = lists_peek nested judge (λ t. lists_when nested judge (is_mark mark.CLOSE_PAREN t.kind) (lists_ret nested judge (Stop Trailing) (Stop Trailing) tt (λ _. refl)) param_turn_lists)

      params_turn_lists : Lists nested judge (ParamTurn bodies) as_is (in_turn (in_param nested) in_none) (parser.params_turn v) (parser.params_turn u)
      unfolding parser.params_turn
      params_turn_lists = lists_peek nested judge (λ t. lists_when nested judge (is_mark mark.COMMA t.kind) (lists_step nested judge params_next_lists) (lists_ret nested judge (Stop Plain) (Stop Plain) tt (λ _. refl)))

      pub params_led_lists : (f g : Parser (Turn Param ParamsEnd)) → Lists nested judge (ParamTurn bodies) as_is (in_turn (in_param nested) in_none) f g → (a b : Turn Param ParamsEnd) → ParamTurn bodies a b → Lists nested judge (ParamsK bodies) (in_turn (in_param nested) in_none a) (in_many (in_param nested) in_none) (parser.params_led f a) (parser.params_led g b)
      params_led_lists f g h (Again a) (Again b) k = lists_led nested judge h a b k
      params_led_lists f g h (Again a) (Stop y) k = absurd k
      params_led_lists f g h (Stop x) (Again b) k = absurd k
      params_led_lists f g h (Stop x) (Stop y) k = lists_ret nested judge (stopped x) (stopped y) (tt, k) (λ _. refl)

      more_params_lists : Lists nested judge (ParamsK bodies) as_is (in_many (in_param nested) in_none) (parser.more_params v) (parser.more_params u)
      unfolding parser.more_params
      more_params_lists = lists_peek nested judge (λ t. lists_when nested judge (is_mark mark.CLOSE_PAREN t.kind) (lists_ret nested judge (stopped Plain) (stopped Plain) (tt, tt) (λ _. refl)) (lists_then nested judge param_turn_lists (params_led_lists (parser.params_turn v) (parser.params_turn u) params_turn_lists)))

      listed_lists : (start : ℕ) → Lists nested judge (HeadK bodies) as_is (in_head nested) (parser.listed_params v start) (parser.listed_params u start)
      unfolding parser.listed_params
      listed_lists start = lists_then nested judge more_params_lists (λ m n q. lists_more nested judge (λ _. head_case start m) (λ _. head_case start n) (expect_lists mark.CLOSE_PAREN) (λ _ _ _. head_alike bodies start m.items n.items m.last n.last q.0 q.1) (λ _ r. head_listed nested m.items m.last r))

      one_lists : (start : ℕ) → Lists nested judge (HeadK bodies) as_is (in_head nested) (parser.one_param v start) (parser.one_param u start)
      one_lists start = lists_then nested judge param_lists (λ p q k. lists_more nested judge (λ _. record { start = start; params = p ∷ []; comma = false; bare = false }) (λ _. record { start = start; params = q ∷ []; comma = false; bare = false }) (expect_lists mark.CLOSE_PAREN) (λ _ _ _. record { starts = refl; params = (k, tt); commas = refl; bares = refl }) (λ _ _. refl))

      form_params_lists : (f : FuncForm) (start : ℕ) → Lists nested judge (HeadK bodies) as_is (in_head nested) (parser.form_params v f start) (parser.form_params u f start)
      form_params_lists f start =
          lists_when nested judge (parser.is_getter f) (lists_more nested judge (λ _. record { start = start; params = []; comma = false; bare = false }) (λ _. record { start = start; params = []; comma = false; bare = false }) (expect_lists mark.CLOSE_PAREN) (λ _ _ _. record { starts = refl; params = tt; commas = refl; bares = refl }) (λ _ _. refl))
          (lists_when nested judge (parser.is_setter f) (one_lists start) (listed_lists start))

      pub params_head_lists : (f : FuncForm) → Lists nested judge (HeadK bodies) as_is (in_head nested) (parser.params_head v f) (parser.params_head u f)
      unfolding parser.params_head
      params_head_lists f = lists_peek nested judge (λ t. lists_when nested judge (is_mark mark.OPEN_PAREN t.kind) (lists_step nested judge (form_params_lists f t.start)) (lists_bad nested judge))

      -- a body after heads that start at one place
      pub own_body_lists : (f : FuncForm) (h g : Head) → HeadK bodies h g → Lists nested judge (BodyK bodies h.start) as_is (in_own nested) (v.body f h.start (parser.is_simple h.params)) (u.body f g.start (parser.is_simple g.params))
      own_body_lists f h g q = subst (λ x. Lists nested judge (BodyK bodies h.start) as_is (in_own nested) (v.body f h.start (parser.is_simple h.params)) (u.body f x (parser.is_simple g.params))) (sym q.starts) (s.body f h.start (parser.is_simple h.params) (parser.is_simple g.params))

      pub function_lists : (f : FuncForm) (n m : Option Named) → m ≡ n → Lists nested judge (FunctionK bodies) as_is (in_function nested) (parser.function_of v f n) (parser.function_of u f m)
      unfolding parser.function_of
      function_lists f n m e = lists_then nested judge (params_head_lists f) (λ h g q. lists_more nested judge (function_case f n h) (function_case f m g) (own_body_lists f h g q) (λ a b k. function_alike bodies f n m h g a b e q k) (λ a r. params_listed nested h.params (in_own nested a r)))

      func_lists : (at : ℕ) → Lists nested judge (ExprK bodies) as_is (in_expr nested) (parser.func_of v at) (parser.func_of u at)
      unfolding parser.func_of
      func_lists at = lists_then nested judge maybe_name_lists (λ n m e. lists_more nested judge (tree.Func at) (tree.Func at) (function_lists form.Function n m e) (λ f g k. record { ranks = k.ranks; endings = k.endings; same = ap (tree.Func at) k.same }) (λ _ _. refl))

      -- objects

      computed_lists : Lists nested judge (KeyK bodies) as_is (in_key nested) (parser.computed_of v) (parser.computed_of u)
      unfolding parser.computed_of
      computed_lists = lists_then nested judge (s.sub (AnAssign true)) (λ a b k. lists_more nested judge (λ _. tree.ComputedKey a) (λ _. tree.ComputedKey b) (expect_lists mark.CLOSE_BRACKET) (λ _ _ _. record { same = ap tree.ComputedKey k.same }) (λ _ _. refl))

      key_lists : Lists nested judge (KeyK bodies) as_is (in_key nested) (parser.key_of v) (parser.key_of u)
      unfolding parser.key_of
      key_lists = lists_peek nested judge (λ t.
          lists_when nested judge (is_any_word t.kind) (lists_step nested judge (lists_ret nested judge (tree.WordKey (parser.named t)) (tree.WordKey (parser.named t)) (record { same = refl }) (λ _. refl)))
          (lists_when nested judge (is_str t.kind) (lists_step nested judge (lists_ret nested judge (tree.StrKey (parser.named t)) (tree.StrKey (parser.named t)) (record { same = refl }) (λ _. refl)))
          (lists_when nested judge (is_number t.kind) (lists_step nested judge (lists_ret nested judge (tree.NumberKey t.start t.number) (tree.NumberKey t.start t.number) (record { same = refl }) (λ _. refl)))
          (lists_when nested judge (is_mark mark.OPEN_BRACKET t.kind) (lists_step nested judge computed_lists) (lists_bad nested judge)))))

      -- a key and a function
      method_alike : (c : Key → Function → Prop) → ((k : Key) (f : Function) → c (fill_key bodies k) (fill_function bodies f) ≡ fill_prop bodies (c k f)) → (k j : Key) → KeyK bodies k j → (f g : Function) → FunctionK bodies f g → PropK bodies (c k f) (c j g)
      method_alike c e k j q f g r = record { same = ap (λ x. c x g) q.same ∙ ap (c (fill_key bodies k)) r.same ∙ e k f }

      keyed_lists : (k j : Key) → KeyK bodies k j → Lists nested judge (PropK bodies) (in_key nested k) (in_prop nested) (parser.keyed_of v k) (parser.keyed_of u j)
      unfolding parser.keyed_of
      keyed_lists k j q = lists_peek nested judge (λ t.
          lists_when nested judge (is_mark mark.COLON t.kind) (lists_step nested judge (lists_more nested judge (tree.Pair k) (tree.Pair j) (s.sub (AnAssign true)) (λ a b r. record { same = ap (λ x. tree.Pair x b) q.same ∙ ap (tree.Pair (fill_key bodies k)) r.same }) (λ _ _. refl)))
          (lists_when nested judge (is_mark mark.OPEN_PAREN t.kind) (lists_more nested judge (tree.Method k) (tree.Method j) (function_lists form.Method None None refl) (λ f g r. method_alike tree.Method (λ _ _. refl) k j q f g r) (λ _ _. refl)) (lists_bad nested judge)))

      short_lists : (n : Named) → Lists nested judge (PropK bodies) as_is (in_prop nested) (parser.short_of v n) (parser.short_of u n)
      unfolding parser.short_of
      short_lists n = lists_peek nested judge (λ t. lists_when nested judge (parser.begins_value t.kind) (keyed_lists (tree.WordKey n) (tree.WordKey n) (record { same = refl })) (lists_ret nested judge (tree.Short n) (tree.Short n) (record { same = refl }) (λ _. refl)))

      getter_lists : Lists nested judge (PropK bodies) as_is (in_prop nested) (parser.getter_of v) (parser.getter_of u)
      unfolding parser.getter_of
      getter_lists = lists_then nested judge key_lists (λ k j q. lists_more nested judge (tree.Get k) (tree.Get j) (function_lists form.Getter None None refl) (λ f g r. method_alike tree.Get (λ _ _. refl) k j q f g r) (λ _ _. refl))

      setter_lists : Lists nested judge (PropK bodies) as_is (in_prop nested) (parser.setter_of v) (parser.setter_of u)
      unfolding parser.setter_of
      setter_lists = lists_then nested judge key_lists (λ k j q. lists_more nested judge (tree.Set k) (tree.Set j) (function_lists form.Setter None None refl) (λ f g r. method_alike tree.Set (λ _ _. refl) k j q f g r) (λ _ _. refl))

      accessor_lists : (n : Named) (f g : Parser Prop) → Lists nested judge (PropK bodies) as_is (in_prop nested) f g → Lists nested judge (PropK bodies) as_is (in_prop nested) (parser.accessor_of v n f) (parser.accessor_of u n g)
      unfolding parser.accessor_of
      accessor_lists n f g h = lists_peek nested judge (λ t. lists_when nested judge (parser.ends_key t.kind) (short_lists n) h)

      prop_lists : Lists nested judge (PropK bodies) as_is (in_prop nested) (parser.prop_of v) (parser.prop_of u)
      unfolding parser.prop_of
      prop_lists = lists_peek nested judge (λ t. lists_when nested judge (is_name t.kind)
          (lists_step nested judge (lists_when nested judge (is_get t.role) (accessor_lists (parser.named t) (parser.getter_of v) (parser.getter_of u) getter_lists)
          (lists_when nested judge (is_set t.role) (accessor_lists (parser.named t) (parser.setter_of v) (parser.setter_of u) setter_lists) (short_lists (parser.named t)))))
          (lists_then nested judge key_lists keyed_lists))

      props_next_lists : Lists nested judge (TurnK (PropK bodies) SameK) as_is (in_turn (in_prop nested) in_none) (parser.props_next v) (parser.props_next u)
      unfolding parser.props_next
      props_next_lists = lists_peek nested judge (λ t. lists_when nested judge (is_mark mark.CLOSE_BRACE t.kind) (lists_ret nested judge (Stop true) (Stop true) refl (λ _. refl)) (lists_more nested judge Again Again prop_lists (λ a b k. k) (λ _ _. refl)))

      props_turn_lists : Lists nested judge (TurnK (PropK bodies) SameK) as_is (in_turn (in_prop nested) in_none) (parser.props_turn v) (parser.props_turn u)
      unfolding parser.props_turn
      props_turn_lists = lists_peek nested judge (λ t. lists_when nested judge (is_mark mark.COMMA t.kind) (lists_step nested judge props_next_lists) (lists_ret nested judge (Stop false) (Stop false) refl (λ _. refl)))

      more_props_lists : Lists nested judge (ManyK (PropK bodies) SameK) as_is (in_many (in_prop nested) in_none) (parser.more_props v) (parser.more_props u)
      unfolding parser.more_props
      more_props_lists = lists_peek nested judge (λ t. lists_when nested judge (is_mark mark.CLOSE_BRACE t.kind) (lists_ret nested judge (stopped false) (stopped false) (tt, refl) (λ _. refl)) (lists_then nested judge prop_lists (λ a b k. lists_led nested judge props_turn_lists a b k)))

      object_lists : (at : ℕ) → Lists nested judge (ExprK bodies) as_is (in_expr nested) (parser.object_of v at) (parser.object_of u at)
      unfolding parser.object_of
      object_lists at = lists_then nested judge more_props_lists (λ m n q. lists_more nested judge (λ _. tree.Object at (props_of m.items) m.last) (λ _. tree.Object at (props_of n.items) n.last) (expect_lists mark.CLOSE_BRACE) (λ _ _ _. record { ranks = refl; endings = refl; same = ap (λ x. tree.Object at x n.last) (props_same bodies m.items n.items q.0) ∙ ap (tree.Object at (fill_props bodies (props_of m.items))) q.1 }) (λ _ r. props_listed nested m.items r))

      -- parentheses

      pub items_lists : Lists nested judge (ListK (ExprK bodies)) as_is (in_list (in_expr nested)) (parser.items_from v) (parser.items_from u)
      unfolding parser.items_from
      items_lists = lists_then nested judge (s.sub (AnAssign true)) (λ a b k. lists_more nested judge (λ m. a ∷ m.items) (λ m. b ∷ m.items) (lists_loop nested judge (more_turn_lists true)) (λ m n q. (k, q.0)) (λ _ _. refl))

      pub doomed_lists : {A B : Type 0} (K : A → B → Type 0) {pre : List Stmts → List Stmts} {w : Bodies A} → Lists nested judge K pre w (parser.doomed {A = A}) (parser.doomed {A = B})
      doomed_lists K = lists_then nested judge (expect_lists mark.CLOSE_PAREN) (λ _ _ _. lists_bad nested judge)

      doomed_rest_lists : {A B : Type 0} (K : A → B → Type 0) {pre : List Stmts → List Stmts} {w : Bodies A} → Lists nested judge K pre w (parser.doomed_rest {A = A} v) (parser.doomed_rest {A = B} u)
      unfolding parser.doomed_rest
      doomed_rest_lists K = lists_then nested judge (s.sub ARest) (λ _ _ _. doomed_lists K)

      lead_end_lists : (a b : Expr) → ExprK bodies a b → Lists nested judge (TurnK (ExprK bodies) (ListK (ExprK bodies))) (in_expr nested a) (in_turn (in_expr nested) (in_list (in_expr nested))) (parser.lead_end a) (parser.lead_end b)
      unfolding parser.lead_end
      lead_end_lists a b k = lists_peek nested judge (λ t. lists_when nested judge (is_mark mark.COMMA t.kind) (lists_step nested judge (lists_ret nested judge (Again a) (Again b) k (λ _. refl))) (lists_ret nested judge (Stop (a ∷ [])) (Stop (b ∷ [])) (k, tt) (λ _. refl)))

      lead_item_lists : Lists nested judge (TurnK (ExprK bodies) (ListK (ExprK bodies))) as_is (in_turn (in_expr nested) (in_list (in_expr nested))) (parser.lead_item v) (parser.lead_item u)
      unfolding parser.lead_item
      lead_item_lists = lists_two (λ t x. lists_when nested judge (parser.is_param_form t x) (lists_then nested judge (s.sub (AnAssign true)) lead_end_lists) (lists_more nested judge Stop Stop items_lists (λ a b k. k) (λ _ _. refl)))

      lead_turn_lists : Lists nested judge (TurnK (ExprK bodies) (ListK (ExprK bodies))) as_is (in_turn (in_expr nested) (in_list (in_expr nested))) (parser.lead_turn v) (parser.lead_turn u)
      unfolding parser.lead_turn
      lead_turn_lists = lists_peek nested judge (λ t.
          lists_when nested judge (is_mark mark.CLOSE_PAREN t.kind) (doomed_lists (TurnK (ExprK bodies) (ListK (ExprK bodies))))
          (lists_when nested judge (is_mark mark.ELLIPSIS t.kind) (doomed_rest_lists (TurnK (ExprK bodies) (ListK (ExprK bodies)))) lead_item_lists))

      lead_items_lists : Lists nested judge (ListK (ExprK bodies)) as_is (in_list (in_expr nested)) (parser.lead_items v) (parser.lead_items u)
      unfolding parser.lead_items
      lead_items_lists = lists_more nested judge (λ m. m.items ++ m.last) (λ m. m.items ++ m.last) (lists_loop nested judge lead_turn_lists) (λ m n q. list_append (ExprK bodies) m.items m.last n.items n.last q.0 q.1) (λ m r. list_both (in_expr nested) m.items m.last r)

      paren_lists : (heads : Bool) (at : ℕ) → Lists nested judge (ExprK bodies) as_is (in_expr nested) (parser.paren_of v heads at) (parser.paren_of u heads at)
      unfolding parser.paren_of
      paren_lists heads at = lists_then nested judge (lists_when nested judge heads lead_items_lists items_lists) (λ es fs q. lists_more nested judge (λ _. tree.Paren at (list_case es)) (λ _. tree.Paren at (list_case fs)) (expect_lists mark.CLOSE_PAREN) (λ _ _ _. paren_alike bodies at es fs q) (λ _ r. list_listed nested es r))

      prim_lists : (heads : Bool) → Lists nested judge (ExprK bodies) as_is (in_expr nested) (parser.prim_of v heads) (parser.prim_of u heads)
      unfolding parser.prim_of
      prim_lists heads = lists_peek nested judge (λ t.
          lists_when nested judge (parser.is_atom t.kind) (lists_step nested judge (lists_ret nested judge (parser.atom_case t.kind t) (parser.atom_case t.kind t) (record { ranks = refl; endings = refl; same = (atom_plain t.kind t).0 }) (atom_plain t.kind t).1))
          (lists_when nested judge (is_mark mark.OPEN_PAREN t.kind) (lists_step nested judge (paren_lists heads t.start))
          (lists_when nested judge (is_word word.FUNCTION t.kind) (lists_step nested judge (func_lists t.start))
          (lists_when nested judge (is_mark mark.OPEN_BRACKET t.kind) (lists_step nested judge (array_lists t.start))
          (lists_when nested judge (is_mark mark.OPEN_BRACE t.kind) (lists_step nested judge (object_lists t.start))
          (lists_when nested judge (is_head t.kind) (lists_step nested judge (template_lists t.start t.text)) (lists_bad nested judge)))))))

      -- members and calls

      dot_lists : Lists nested judge (TailK bodies) as_is (in_tail nested) parser.dot_of parser.dot_of
      unfolding parser.dot_of
      dot_lists = lists_peek nested judge (λ t. lists_when nested judge (is_any_word t.kind) (lists_step nested judge (lists_ret nested judge (tree.Dot t.text) (tree.Dot t.text) (record { members = refl; same = refl }) (λ _. refl))) (lists_bad nested judge))

      index_lists : Lists nested judge (TailK bodies) as_is (in_tail nested) (parser.index_of v) (parser.index_of u)
      unfolding parser.index_of
      index_lists = lists_then nested judge (expr_lists true) (λ a b k. lists_more nested judge (λ _. tree.Index a) (λ _. tree.Index b) (expect_lists mark.CLOSE_BRACKET) (λ _ _ _. record { members = refl; same = ap tree.Index k.same }) (λ _ _. refl))

      member_lists : (t : Lexeme) (f g : Parser (Turn Tail (Unit {0}))) → Lists nested judge (TailTurn bodies) as_is (in_turn (in_tail nested) in_none) f g → Lists nested judge (TailTurn bodies) as_is (in_turn (in_tail nested) in_none) (parser.member_or v t f) (parser.member_or u t g)
      member_lists t f g h =
          lists_when nested judge (is_mark mark.DOT t.kind) (lists_step nested judge (lists_more nested judge Again Again dot_lists (λ a b k. k) (λ _ _. refl)))
          (lists_when nested judge (is_mark mark.OPEN_BRACKET t.kind) (lists_step nested judge (lists_more nested judge Again Again index_lists (λ a b k. k) (λ _ _. refl))) h)

      member_turn_lists : Lists nested judge (TailTurn bodies) as_is (in_turn (in_tail nested) in_none) (parser.member_turn v) (parser.member_turn u)
      unfolding parser.member_turn
      member_turn_lists = lists_peek nested judge (λ t. member_lists t (ret (Stop tt)) (ret (Stop tt)) (lists_ret nested judge (Stop tt) (Stop tt) tt (λ _. refl)))

      call_lists : Lists nested judge (TailK bodies) as_is (in_tail nested) (parser.call_of v) (parser.call_of u)
      unfolding parser.call_of
      call_lists = lists_more nested judge (λ a. tree.Call (exprs_of a.items) a.comma) (λ a. tree.Call (exprs_of a.items) a.comma) args_lists (λ a b k. record { members = refl; same = ap (λ x. tree.Call x b.comma) (exprs_same bodies a.items b.items k.items) ∙ ap (tree.Call (fill_exprs bodies (exprs_of a.items))) k.commas }) (λ a r. exprs_listed nested a.items r)

      tail_turn_lists : Lists nested judge (TailTurn bodies) as_is (in_turn (in_tail nested) in_none) (parser.tail_turn v) (parser.tail_turn u)
      unfolding parser.tail_turn
      tail_turn_lists = lists_peek nested judge (λ t. member_lists t (when (is_mark mark.OPEN_PAREN t.kind) (step (bind (parser.call_of v) parser.again)) (ret (Stop tt))) (when (is_mark mark.OPEN_PAREN t.kind) (step (bind (parser.call_of u) parser.again)) (ret (Stop tt))) (lists_when nested judge (is_mark mark.OPEN_PAREN t.kind) (lists_step nested judge (lists_more nested judge Again Again call_lists (λ a b k. k) (λ _ _. refl))) (lists_ret nested judge (Stop tt) (Stop tt) tt (λ _. refl))))

      new_or_prim_lists : (heads : Bool) → Lists nested judge (ExprK bodies) as_is (in_expr nested) (parser.new_or_prim v heads) (parser.new_or_prim u heads)
      unfolding parser.new_or_prim
      new_or_prim_lists heads = lists_peek nested judge (λ t. lists_when nested judge (is_word word.NEW t.kind) (s.sub ANew) (prim_lists heads))

      chain_lists : (a b : Expr) → ExprK bodies a b → Lists nested judge (ExprK bodies) (in_expr nested a) (in_expr nested) (parser.chain_of (parser.tail_turn v) a) (parser.chain_of (parser.tail_turn u) b)
      chain_lists a b k = lists_if nested judge (is_chain_head a) (is_chain_head b) (ap (λ r. nat_le r 1) (sym k.ranks)) (lists_more nested judge (λ m. chain_case a m.items) (λ m. chain_case b m.items) (lists_loop nested judge tail_turn_lists) (λ m n q. chain_alike bodies a b m.items n.items k q.0) (λ m r. chain_listed nested a m.items r)) (lists_ret nested judge a b k (λ _. refl))

      new_args_lists : Lists nested judge (OptionK (ArgsK bodies)) as_is (in_option (in_args nested)) (parser.new_args v) (parser.new_args u)
      unfolding parser.new_args
      new_args_lists = lists_peek nested judge (λ t. lists_when nested judge (is_mark mark.OPEN_PAREN t.kind) (lists_step nested judge (lists_more nested judge Some Some args_lists (λ a b k. k) (λ _ _. refl))) (lists_ret nested judge None None tt (λ _. refl)))

      new_from_lists : (at : ℕ) (a b : Expr) → ExprK bodies a b → Lists nested judge (ExprK bodies) (in_expr nested a) (in_expr nested) (parser.new_from v at a) (parser.new_from u at b)
      unfolding parser.new_from
      new_from_lists at a b k = lists_if nested judge (is_chain_head a) (is_chain_head b) (ap (λ r. nat_le r 1) (sym k.ranks))
          (lists_then nested judge (lists_loop nested judge member_turn_lists) (λ m n q. lists_more nested judge (λ o. tree.New at (chain_case a m.items) (maybe_args_of o)) (λ o. tree.New at (chain_case b n.items) (maybe_args_of o)) new_args_lists (λ o p j. new_alike bodies at (chain_case a m.items) (chain_case b n.items) o p (chain_alike bodies a b m.items n.items k q.0) j) (λ o r. chain_listed nested a m.items (in_option (in_args nested) o r) ∙ ap (in_expr nested (chain_case a m.items)) (args_listed nested o r))))
          (lists_ret nested judge (tree.New at a (maybe_args_of None)) (tree.New at b (maybe_args_of None)) (new_alike bodies at a b None None k tt) (λ _. refl))

      pub new_lists : Lists nested judge (ExprK bodies) as_is (in_expr nested) (parser.new_of v) (parser.new_of u)
      unfolding parser.new_of
      new_lists = lists_peek nested judge (λ t. lists_when nested judge (is_word word.NEW t.kind) (lists_step nested judge (lists_then nested judge (new_or_prim_lists false) (new_from_lists t.start))) (lists_bad nested judge))

      left_lists : (heads : Bool) → Lists nested judge (ExprK bodies) as_is (in_expr nested) (parser.left_of v heads) (parser.left_of u heads)
      unfolding parser.left_of
      left_lists heads = lists_then nested judge (new_or_prim_lists heads) chain_lists

      postfix_lists : (at : ℕ) (a b : Expr) → ExprK bodies a b → Lists nested judge (ExprK bodies) (in_expr nested a) (in_expr nested) (parser.postfix_of at a) (parser.postfix_of at b)
      unfolding parser.postfix_of
      postfix_lists at a b k = lists_peek nested judge (λ t. lists_when nested judge (is_update t.kind && not t.after_line) (lists_step nested judge (lists_ret nested judge (tree.Update at (parser.mark_of t.kind) false a) (tree.Update at (parser.mark_of t.kind) false b) (record { ranks = refl; endings = refl; same = ap (tree.Update at (parser.mark_of t.kind) false) k.same }) (λ _. refl))) (lists_ret nested judge a b k (λ _. refl)))

      update_lists : (heads : Bool) → Lists nested judge (ExprK bodies) as_is (in_expr nested) (parser.update_of v heads) (parser.update_of u heads)
      unfolding parser.update_of
      update_lists heads = lists_peek nested judge (λ t. lists_then nested judge (left_lists heads) (postfix_lists t.start))

      pub unary_lists : (heads : Bool) → Lists nested judge (ExprK bodies) as_is (in_expr nested) (parser.unary_of v heads) (parser.unary_of u heads)
      unfolding parser.unary_of
      unary_lists heads = lists_peek nested judge (λ t. lists_when nested judge (is_prefix t.kind || is_update t.kind) (s.sub APrefix) (update_lists heads))

      pub prefix_lists : Lists nested judge (ExprK bodies) as_is (in_expr nested) (parser.prefix_of v) (parser.prefix_of u)
      unfolding parser.prefix_of
      prefix_lists = lists_peek nested judge (λ t.
          lists_when nested judge (is_prefix t.kind) (lists_step nested judge (lists_more nested judge (λ e. tree.Unary t.start (parser.mark_of t.kind) e (parser.is_word_kind t.kind)) (λ e. tree.Unary t.start (parser.mark_of t.kind) e (parser.is_word_kind t.kind)) (unary_lists false) (λ a b k. record { ranks = refl; endings = k.endings; same = ap (λ x. tree.Unary t.start (parser.mark_of t.kind) x (parser.is_word_kind t.kind)) k.same }) (λ _ _. refl)))
          (lists_when nested judge (is_update t.kind) (lists_step nested judge (lists_more nested judge (λ e. tree.Update t.start (parser.mark_of t.kind) true e) (λ e. tree.Update t.start (parser.mark_of t.kind) true e) (unary_lists false) (λ a b k. record { ranks = refl; endings = k.endings; same = ap (tree.Update t.start (parser.mark_of t.kind) true) k.same }) (λ _ _. refl))) (lists_bad nested judge)))
