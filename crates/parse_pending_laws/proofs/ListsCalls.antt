-- What parsers of expressions read lists the bodies that were recorded: over calls and bodies of which that holds, operators,
-- conditionals, arrows and assignments, and so all calls.
use Rattle.std.proofs.Common.{◌≡◌, ℕ, zero, suc, ◌-◌, List, length, take, refl, sym, ap, ◌∙◌, subst, Bool, true, false, ◌&&◌, nat_le, Some, None, if◌then◌else◌}
use Rattle.script_grammar.specs.declared.token.FuncForm.TheVariants as form
use Rattle.script_grammar.specs.declared.token.mark.TheConstants as mark
use Rattle.script_grammar.specs.Lexeme.{Lexeme}
use Rattle.script_grammar.specs.Kinds.{is_mark, is_name, is_assign_mark}
use Rattle.script_grammar.specs.Proper.{rank, left_rank, update_rank}
use Rattle.script_grammar.specs.Tree.{Named, Expr, Body, Stmts}
use Rattle.script_grammar.specs.Tree as tree
use Rattle.grammar_parser_specs.specs.Parser.{Recorded, Reply, Read, Bad, Deep, Parser, ret, bind, Again, Stop, stopped}
use Rattle.grammar_parser_specs.specs.Exprs as parser
use Rattle.grammar_parser_specs.specs.Exprs.{Env, Call, Calls, AnAssign, APrefix, ANew, AParam, ARest, BodyRead, ParamsEnd, Plain, Trailing, Rest, Head, Spanned, spanned, spanned_reply, last_end, expect, name_of, binary_case, with_last, operand, is_update_expr, is_op, head_case, is_arrow_head, is_arrow, call_case, no_calls, begins_call}
use Rattle.grammar_local_laws.proofs.Alike.{AnyK, SameK, ExprK, BodyK, OperandK, ParamK, HeadK, list_last, head_alike, function_alike, binary_alike}
use Rattle.grammar_parser_specs.specs.Filling.{fill}
use Rattle.grammar_local_laws.proofs.Agrees.{Verdict, fine, bad_at, deep_at, judged, records}
use Rattle.grammar_local_laws.proofs.AgreesExprs.{CallK, ParamTurn, ParamsK}
use Rattle.grammar_local_laws.proofs.AgreesCalls.{PowerTurn, OpTurn, SpannedK}
use Rattle.script_grammar.specs.Braced.{in_expr}
use Rattle.parse_pending_laws.proofs.Lists.{Bodies, as_is, in_none, in_turn, in_option, in_many, ListsAt, Lists, lists_bind, lists_then, lists_more, lists_ret, lists_bad, lists_peek, lists_step, lists_when, lists_if, lists_loop, lists_no_room}
use Rattle.parse_pending_laws.proofs.ListedParts.{in_operand, in_param, in_head, in_own, with_last_listed, params_listed, binary_listed, head_listed}
use Rattle.parse_pending_laws.proofs.ListsExprs.{ListsEnv, in_call, lists_two, expect_lists, own_body_lists, name_lists, param_lists, params_led_lists, items_lists, doomed_lists, new_lists, unary_lists, prefix_lists}

abbrev pub in_spanned : Bool → Bodies (Spanned Expr)
in_spanned nested x r = in_expr nested x.value r

module _ (nested : Bool) (bodies : ℕ → Body) where
  power_listed : (t : Lexeme) (a : Expr) (r : List Stmts) → in_expr nested a r ≡ in_turn (in_operand nested) (in_option (in_operand nested)) (parser.power_operand t a) r
  power_listed t a r = by (is_update_expr a)
    where
      by : (x : Bool) → in_expr nested a r ≡ in_turn (in_operand nested) (in_option (in_operand nested)) (if x then Again (operand t a) else Stop (Some (operand t a))) r
      by true = refl
      by false = refl

  operand_alike : (t : Lexeme) (a b : Expr) → ExprK bodies a b → OperandK bodies (operand t a) (operand t b)
  operand_alike t a b k = record { ops = refl; words = refl; values = k }

  module _ (judge : Recorded → Reply BodyRead) where
    -- what was read, with the end of its last lexeme

    spanned_records : {A : Type 0} (ts : List Lexeme) (r : Reply A) → records (spanned_reply ts r) ≡ records r
    spanned_records ts (Read a rs us) = refl
    spanned_records ts (Bad rs us) = refl
    spanned_records ts (Deep rs us) = refl

    end_at : List Lexeme → List Lexeme → ℕ
    end_at ts us = last_end 0 (take (length ts - length us) ts)

    spanned_at : (ts : List Lexeme) (w : Verdict) (r s : Reply Expr) → ListsAt nested judge (ExprK bodies) as_is (in_expr nested) w r s → ListsAt nested judge (SpannedK bodies) as_is (in_spanned nested) w (spanned_reply ts r) (spanned_reply ts s)
    unfolding end_at
    spanned_at ts fine r (Read b rs us) m = (record { value = m.0; end = end_at ts us }, ap (λ x. spanned_reply ts x) m.1, record { values = m.2; ends = refl }, m.3)
    spanned_at ts fine r (Bad rs us) m = ap (λ x. spanned_reply ts x) m
    spanned_at ts fine r (Deep rs us) m = ap (λ x. spanned_reply ts x) m
    spanned_at ts (bad_at vs) r s m = ap (λ x. spanned_reply ts x) m
    spanned_at ts (deep_at vs) r s m = ap (λ x. spanned_reply ts x) m

    pub spanned_lists : {e l : Parser Expr} → Lists nested judge (ExprK bodies) as_is (in_expr nested) e l → Lists nested judge (SpannedK bodies) as_is (in_spanned nested) (spanned e) (spanned l)
    spanned_lists {e = e} {l = l} h = record { at = λ ts. subst (λ q. ListsAt nested judge (SpannedK bodies) as_is (in_spanned nested) (judged judge q) (spanned e ts) (spanned l ts)) (sym (spanned_records ts (l ts))) (spanned_at ts (judged judge (records (l ts))) (e ts) (l ts) (h.at ts)) }

    pub arrow_mark_lists : Lists nested judge AnyK as_is in_none parser.arrow_mark parser.arrow_mark
    unfolding parser.arrow_mark
    arrow_mark_lists = lists_peek nested judge (λ t. lists_when nested judge (is_arrow t) (lists_step nested judge (lists_ret nested judge tt tt tt (λ _. refl))) (lists_bad nested judge))

    rest_lists : Lists nested judge SameK as_is in_none parser.arrow_rest parser.arrow_rest
    unfolding parser.arrow_rest
    rest_lists = lists_peek nested judge (λ t. lists_when nested judge (is_mark mark.ELLIPSIS t.kind) (lists_step nested judge (name_lists nested bodies judge)) (lists_bad nested judge))

    module _ (v u : Env) (s : ListsEnv nested bodies judge v u) where
      -- binary operators

      same_update : (a b : Expr) → ExprK bodies a b → is_update_expr b ≡ is_update_expr a
      same_update a b k = ap (λ r. nat_le r update_rank) (sym k.ranks)

      power_operand_lists : (t : Lexeme) (a b : Expr) → ExprK bodies a b → PowerTurn bodies (parser.power_operand t a) (parser.power_operand t b)
      power_operand_lists t a b k = by (is_update_expr a) (is_update_expr b) (same_update a b k)
        where
          by : (x y : Bool) → y ≡ x → PowerTurn bodies (if x then Again (operand t a) else Stop (Some (operand t a))) (if y then Again (operand t b) else Stop (Some (operand t b)))
          by true true e = operand_alike t a b k
          by true false e = absurd (cc)
          by false true e = absurd (cc)
          by false false e = operand_alike t a b k

      power_turn_lists : Lists nested judge (PowerTurn bodies) as_is (in_turn (in_operand nested) (in_option (in_operand nested))) (parser.power_turn v) (parser.power_turn u)
      unfolding parser.power_turn
      power_turn_lists = lists_peek nested judge (λ t. lists_when nested judge (is_mark mark.POWER t.kind) (lists_step nested judge (lists_more nested judge (parser.power_operand t) (parser.power_operand t) (unary_lists nested bodies judge v u s false) (power_operand_lists t) (power_listed t))) (lists_ret nested judge (Stop None) (Stop None) tt (λ _. refl)))

      power_lists : (heads : Bool) → Lists nested judge (ExprK bodies) as_is (in_expr nested) (parser.power_of v heads) (parser.power_of u heads)
      unfolding parser.power_of
      power_lists heads = lists_then nested judge (unary_lists nested bodies judge v u s heads) (λ a b k. lists_if nested judge (is_update_expr a) (is_update_expr b) (same_update a b k)
          (lists_more nested judge (λ m. binary_case a (with_last m.items m.last)) (λ m. binary_case b (with_last m.items m.last)) (lists_loop nested judge power_turn_lists) (λ m n q. binary_alike bodies a b (with_last m.items m.last) (with_last n.items n.last) k (list_last (OperandK bodies) m.items n.items m.last n.last q.0 q.1)) (λ m r. ap (in_expr nested a) (with_last_listed (in_operand nested) m.items m.last r) ∙ binary_listed nested a (with_last m.items m.last) r))
          (lists_ret nested judge a b k (λ _. refl)))

      op_turn_lists : (w : Bool) (n : ℕ) (lo hi : Parser Expr) → Lists nested judge (ExprK bodies) as_is (in_expr nested) lo hi → Lists nested judge (OpTurn bodies) as_is (in_turn (in_operand nested) in_none) (parser.op_turn w n lo) (parser.op_turn w n hi)
      unfolding parser.op_turn
      op_turn_lists w n lo hi h = lists_peek nested judge (λ t. lists_when nested judge (is_op w n t.kind) (lists_step nested judge (lists_more nested judge (λ e. Again (operand t e)) (λ e. Again (operand t e)) h (operand_alike t) (λ _ _. refl))) (lists_ret nested judge (Stop tt) (Stop tt) tt (λ _. refl)))

      operands_lists : (w : Bool) (n : ℕ) (lo hi : Parser Expr) → Lists nested judge (ExprK bodies) as_is (in_expr nested) lo hi → (a b : Expr) → ExprK bodies a b → Lists nested judge (ExprK bodies) (in_expr nested a) (in_expr nested) (parser.operands_from w n lo a) (parser.operands_from w n hi b)
      operands_lists w n lo hi h a b k = lists_more nested judge (λ m. binary_case a m.items) (λ m. binary_case b m.items) (lists_loop nested judge (op_turn_lists w n lo hi h)) (λ m r q. binary_alike bodies a b m.items r.items k q.0) (λ m r. binary_listed nested a m.items r)

      level_lists : (w : Bool) (n : ℕ) (heads : Bool) → Lists nested judge (ExprK bodies) as_is (in_expr nested) (parser.level_of v w n heads) (parser.level_of u w n heads)
      unfolding parser.level_of
      level_lists w zero heads = power_lists heads
      level_lists w (suc n) heads = lists_then nested judge (level_lists w n heads) (operands_lists w (suc n) (parser.level_of v w n false) (parser.level_of u w n false) (level_lists w n false))

      or_lists : (w : Bool) (a b : Expr) → ExprK bodies a b → Lists nested judge (ExprK bodies) (in_expr nested a) (in_expr nested) (parser.or_from v w a) (parser.or_from u w b)
      unfolding parser.or_from
      or_lists w a b k = lists_bind nested judge (operands_lists w parser.and_level (parser.level_of v w parser.bit_or_level false) (parser.level_of u w parser.bit_or_level false) (level_lists w parser.bit_or_level false) a b k) (operands_lists w parser.or_level (parser.level_of v w parser.and_level false) (parser.level_of u w parser.and_level false) (level_lists w parser.and_level false))

      short_lists : (w heads : Bool) → Lists nested judge (ExprK bodies) as_is (in_expr nested) (parser.short_circuit v w heads) (parser.short_circuit u w heads)
      unfolding parser.short_circuit
      short_lists w heads = lists_then nested judge (level_lists w parser.bit_or_level heads) (λ a b k. lists_peek nested judge (λ t. lists_when nested judge (is_op w parser.coalesce_level t.kind) (operands_lists w parser.coalesce_level (parser.level_of v w parser.bit_or_level false) (parser.level_of u w parser.bit_or_level false) (level_lists w parser.bit_or_level false) a b k) (or_lists w a b k)))

      -- conditionals and assignments

      branches_lists : (w : Bool) (a b : Expr) → ExprK bodies a b → Lists nested judge (ExprK bodies) (in_expr nested a) (in_expr nested) (parser.branches_of v w a) (parser.branches_of u w b)
      unfolding parser.branches_of
      branches_lists w a b q = lists_then nested judge (s.sub (AnAssign true)) (λ y z j. lists_then nested judge (expect_lists nested bodies judge mark.COLON) (λ _ _ _. lists_more nested judge (λ n. tree.Cond a y n) (λ n. tree.Cond b z n) (s.sub (AnAssign w)) (λ n r k. record { ranks = refl; endings = k.endings; same = ap (λ x. tree.Cond x z r) q.same ∙ ap (λ x. tree.Cond (fill bodies a) x r) j.same ∙ ap (tree.Cond (fill bodies a) (fill bodies y)) k.same }) (λ _ _. refl)))

      cond_tail_lists : (w : Bool) (a b : Expr) → ExprK bodies a b → Lists nested judge (ExprK bodies) (in_expr nested a) (in_expr nested) (parser.cond_tail v w a) (parser.cond_tail u w b)
      unfolding parser.cond_tail
      cond_tail_lists w a b k = lists_peek nested judge (λ t. lists_when nested judge (is_mark mark.QUESTION t.kind) (lists_step nested judge (branches_lists w a b k)) (lists_ret nested judge a b k (λ _. refl)))

      cond_lists : (w heads : Bool) → Lists nested judge (ExprK bodies) as_is (in_expr nested) (parser.cond_of v w heads) (parser.cond_of u w heads)
      unfolding parser.cond_of
      cond_lists w heads = lists_then nested judge (short_lists w heads) (cond_tail_lists w)

      assign_tail_lists : (w : Bool) (a b : Expr) → ExprK bodies a b → Lists nested judge (ExprK bodies) (in_expr nested a) (in_expr nested) (parser.assign_tail v w a) (parser.assign_tail u w b)
      unfolding parser.assign_tail
      assign_tail_lists w a b k = lists_peek nested judge (λ t. lists_if nested judge (is_assign_mark t.kind && nat_le (rank a) left_rank) (is_assign_mark t.kind && nat_le (rank b) left_rank) (ap (λ r. is_assign_mark t.kind && nat_le r left_rank) (sym k.ranks))
          (lists_step nested judge (lists_more nested judge (λ x. tree.Assign (parser.mark_of t.kind) a x) (λ x. tree.Assign (parser.mark_of t.kind) b x) (s.sub (AnAssign w)) (λ x y j. record { ranks = refl; endings = j.endings; same = ap (λ z. tree.Assign (parser.mark_of t.kind) z y) k.same ∙ ap (tree.Assign (parser.mark_of t.kind) (fill bodies a)) j.same }) (λ _ _. refl)))
          (lists_ret nested judge a b k (λ _. refl)))

      plain_lists : (w : Bool) → Lists nested judge (ExprK bodies) as_is (in_expr nested) (parser.plain_of v w) (parser.plain_of u w)
      unfolding parser.plain_of
      plain_lists w = lists_then nested judge (cond_lists w true) (assign_tail_lists w)

      -- arrows

      arrow_first_lists : Lists nested judge (ParamTurn bodies) as_is (in_turn (in_param nested) in_none) (parser.arrow_first v) (parser.arrow_first u)
      unfolding parser.arrow_first
      arrow_first_lists = lists_peek nested judge (λ t. lists_when nested judge (is_mark mark.ELLIPSIS t.kind) (lists_more nested judge (λ n. Stop (Rest n)) (λ n. Stop (Rest n)) (s.sub ARest) (λ a b k. k) (λ _ _. refl)) (lists_more nested judge Again Again (s.sub AParam) (λ a b k. k) (λ _ _. refl)))

      arrow_next_lists : Lists nested judge (ParamTurn bodies) as_is (in_turn (in_param nested) in_none) (parser.arrow_next v) (parser.arrow_next u)
      unfolding parser.arrow_next
      arrow_next_lists = lists_peek nested judge (λ t. lists_when nested judge (is_mark mark.CLOSE_PAREN t.kind) (lists_ret nested judge (Stop Trailing) (Stop Trailing) tt (λ _. refl)) arrow_first_lists)

      arrow_turn_lists : Lists nested judge (ParamTurn bodies) as_is (in_turn (in_param nested) in_none) (parser.arrow_turn v) (parser.arrow_turn u)
      unfolding parser.arrow_turn
      arrow_turn_lists = lists_peek nested judge (λ t. lists_when nested judge (is_mark mark.COMMA t.kind) (lists_step nested judge arrow_next_lists) (lists_ret nested judge (Stop Plain) (Stop Plain) tt (λ _. refl)))

      arrow_params_lists : Lists nested judge (ParamsK bodies) as_is (in_many (in_param nested) in_none) (parser.arrow_params v) (parser.arrow_params u)
      unfolding parser.arrow_params
      arrow_params_lists = lists_peek nested judge (λ t. lists_when nested judge (is_mark mark.CLOSE_PAREN t.kind) (lists_ret nested judge (stopped Plain) (stopped Plain) (tt, tt) (λ _. refl)) (lists_then nested judge arrow_first_lists (params_led_lists nested bodies judge v u s (parser.arrow_turn v) (parser.arrow_turn u) arrow_turn_lists)))

      arrow_listed_lists : (start : ℕ) → Lists nested judge (HeadK bodies) as_is (in_head nested) (parser.arrow_listed v start) (parser.arrow_listed u start)
      unfolding parser.arrow_listed
      arrow_listed_lists start = lists_then nested judge arrow_params_lists (λ m n q. lists_more nested judge (λ _. head_case start m) (λ _. head_case start n) (expect_lists nested bodies judge mark.CLOSE_PAREN) (λ _ _ _. head_alike bodies start m.items n.items m.last n.last q.0 q.1) (λ _ r. head_listed nested m.items m.last r))

      arrow_head_lists : Lists nested judge (HeadK bodies) as_is (in_head nested) (parser.arrow_head v) (parser.arrow_head u)
      unfolding parser.arrow_head
      arrow_head_lists = lists_peek nested judge (λ t.
          lists_when nested judge (is_name t.kind) (lists_step nested judge (lists_ret nested judge (parser.bare_head t) (parser.bare_head t) (record { starts = refl; params = (record { names = refl; values = tt; rests = refl }, tt); commas = refl; bares = refl }) (λ _. refl)))
          (lists_when nested judge (is_mark mark.OPEN_PAREN t.kind) (lists_step nested judge (arrow_listed_lists t.start)) (lists_bad nested judge)))

      short_body_lists : (w : Bool) (start : ℕ) → Lists nested judge (BodyK bodies start) as_is (in_own nested) (bind (spanned (v.sub (AnAssign w))) (λ x. ret (parser.short_body x))) (bind (spanned (u.sub (AnAssign w))) (λ x. ret (parser.short_body x)))
      short_body_lists w start = lists_more nested judge parser.short_body parser.short_body (spanned_lists (s.sub (AnAssign w))) (λ a b k. record { endings = k.values.endings; ends = k.ends; same = ap tree.ShortBody k.values.same }) (λ _ _. refl)

      pub arrow_body_lists : (w : Bool) (h g : Head) → HeadK bodies h g → Lists nested judge (BodyK bodies h.start) as_is (in_own nested) (parser.arrow_body v w h) (parser.arrow_body u w g)
      unfolding parser.arrow_body
      arrow_body_lists w h g q = lists_peek nested judge (λ t. lists_when nested judge (is_mark mark.OPEN_BRACE t.kind) (own_body_lists nested bodies judge v u s form.Arrow h g q) (short_body_lists w h.start))

      arrow_alike : (h g : Head) (a b : BodyRead) → HeadK bodies h g → BodyK bodies h.start a b → ExprK bodies (parser.arrow_case h a) (parser.arrow_case g b)
      arrow_alike h g a b q k = let f = function_alike bodies form.Arrow None None h g a b refl q k in record { ranks = refl; endings = k.endings; same = ap (λ x. tree.Func x (parser.function_case form.Arrow None g b)) q.starts ∙ ap (tree.Func h.start) f.same }

      arrow_lists : (w : Bool) → Lists nested judge (ExprK bodies) as_is (in_expr nested) (parser.arrow_of v w) (parser.arrow_of u w)
      unfolding parser.arrow_of
      arrow_lists w = lists_then nested judge arrow_head_lists (λ h g q. lists_then nested judge arrow_mark_lists (λ _ _ _. lists_more nested judge (parser.arrow_case h) (parser.arrow_case g) (arrow_body_lists w h g q) (λ a b k. arrow_alike h g a b q k) (λ b r. params_listed nested h.params (in_own nested b r))))

      assign_lists : (w : Bool) → Lists nested judge (ExprK bodies) as_is (in_expr nested) (parser.assign_of v w) (parser.assign_of u w)
      unfolding parser.assign_of
      assign_lists w = record { at = λ ts. (lists_when nested judge {f = parser.arrow_of v w} {f2 = parser.plain_of v w} {g = parser.arrow_of u w} {g2 = parser.plain_of u w} (is_arrow_head ts) (arrow_lists w) (plain_lists w)).at ts }

      arrow_param_lists : Lists nested judge (ParamK bodies) as_is (in_param nested) (parser.arrow_param v) (parser.arrow_param u)
      unfolding parser.arrow_param
      arrow_param_lists = param_lists nested bodies judge v u s

      -- all calls over those one deeper
      pub case_lists : (c : Call) → Lists nested judge (CallK bodies c) as_is (in_call nested c) (call_case v c) (call_case u c)
      case_lists (AnAssign w) = assign_lists w
      case_lists APrefix = prefix_lists nested bodies judge v u s
      case_lists ANew = new_lists nested bodies judge v u s
      case_lists AParam = arrow_param_lists
      case_lists ARest = rest_lists

    -- and without room
    pub no_calls_lists : (c : Call) → Lists nested judge (CallK bodies c) as_is (in_call nested c) (no_calls c) (no_calls c)
    no_calls_lists c = lists_no_room nested judge (begins_call c)
