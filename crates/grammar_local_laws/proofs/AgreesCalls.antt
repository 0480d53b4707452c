-- Parsers of expressions that differ in how they read braced bodies agree: over calls and bodies that agree, operators,
-- conditionals, arrows and assignments, and so all calls.
use Rattle.std.proofs.Common.{◌≡◌, ℕ, zero, suc, ◌-◌, List, length, take, refl, sym, ap, ◌∙◌, subst, Bool, true, false, ◌&&◌, nat_le, Option, Some, None, if◌then◌else◌}
use Rattle.script_grammar.specs.declared.token.FuncForm.TheVariants as form
use Rattle.script_grammar.specs.declared.token.mark.TheConstants as mark
use Rattle.script_grammar.specs.Lexeme.{Lexeme}
use Rattle.script_grammar.specs.Kinds.{is_mark, is_name, is_assign_mark}
use Rattle.script_grammar.specs.Proper.{rank, left_rank, update_rank}
use Rattle.script_grammar.specs.Tree.{Named, Expr, Body}
use Rattle.script_grammar.specs.Tree as tree
use Rattle.script_grammar.specs.TreeLists.{Operand}
use Rattle.grammar_parser_specs.specs.Parser.{Recorded, Reply, Read, Bad, Deep, Parser, ret, bind, Turn, Again, Stop, stopped}
use Rattle.grammar_parser_specs.specs.Exprs as parser
use Rattle.grammar_parser_specs.specs.Exprs.{Env, Call, Calls, AnAssign, APrefix, ANew, AParam, ARest, BodyRead, ParamsEnd, Plain, Trailing, Rest, Head, Spanned, spanned, spanned_reply, last_end, expect, name_of, binary_case, with_last, operand, is_update_expr, is_op, head_case, is_arrow_head, is_arrow, call_case, no_calls, begins_call}
use Rattle.grammar_local_laws.proofs.Agrees.{Verdict, fine, bad_at, deep_at, judged, records, MeetsAt, Agrees, TurnK, agrees_bind, agrees_ret, agrees_bad, agrees_peek, agrees_step, agrees_when, agrees_if, agrees_made, agrees_loop, agrees_no_room}
use Rattle.grammar_local_laws.proofs.Alike.{AnyK, SameK, OptionK, ExprK, BodyK, OperandK, ParamK, HeadK, list_last, head_alike, function_alike, binary_alike}
use Rattle.grammar_parser_specs.specs.Filling.{fill}
use Rattle.grammar_local_laws.proofs.AgreesExprs.{CallK, AgreesEnv, ParamTurn, ParamsK, done, expect_agrees, own_body_agrees, name_agrees, param_agrees, params_led_agrees, new_agrees, unary_agrees, prefix_agrees}

module _ (bodies : ℕ → Body) where
  abbrev pub PowerTurn : Turn Operand (Option Operand) → Turn Operand (Option Operand) → Type 0
  PowerTurn a b = TurnK (OperandK bodies) (OptionK (OperandK bodies)) a b

  abbrev pub OpTurn : Turn Operand (Unit {0}) → Turn Operand (Unit {0}) → Type 0
  OpTurn a b = TurnK (OperandK bodies) AnyK a b

  -- expressions with their ends
  pub record SpannedK (a b : Spanned Expr) : Type 0 where
    pub values : ExprK bodies a.value b.value
    pub ends : b.end ≡ a.end

  operand_alike : (t : Lexeme) (a b : Expr) → ExprK bodies a b → OperandK bodies (operand t a) (operand t b)
  operand_alike t a b k = record { ops = refl; words = refl; values = k }

  module _ {C : Type 0} (judge : Recorded → Reply C) where
    -- what was read, with the end of its last lexeme

    spanned_records : {A : Type 0} (ts : List Lexeme) (r : Reply A) → records (spanned_reply ts r) ≡ records r
    spanned_records ts (Read a rs us) = refl
    spanned_records ts (Bad rs us) = refl
    spanned_records ts (Deep rs us) = refl

    end_at : List Lexeme → List Lexeme → ℕ
    end_at ts us = last_end 0 (take (length ts - length us) ts)

    spanned_at : (ts : List Lexeme) (w : Verdict) (r s : Reply Expr) → MeetsAt judge (ExprK bodies) w r s → MeetsAt judge SpannedK w (spanned_reply ts r) (spanned_reply ts s)
    unfolding end_at
    spanned_at ts fine r (Read b rs us) m = (record { value = m.0; end = end_at ts us }, ap (λ x. spanned_reply ts x) m.1, record { values = m.2; ends = refl })
    spanned_at ts fine r (Bad rs us) m = ap (λ x. spanned_reply ts x) m
    spanned_at ts fine r (Deep rs us) m = ap (λ x. spanned_reply ts x) m
    spanned_at ts (bad_at vs) r s m = ap (λ x. spanned_reply ts x) m
    spanned_at ts (deep_at vs) r s m = ap (λ x. spanned_reply ts x) m

    pub spanned_agrees : {e l : Parser Expr} → Agrees judge (ExprK bodies) e l → Agrees judge SpannedK (spanned e) (spanned l)
    spanned_agrees {e = e} {l = l} h = record { at = λ ts. subst (λ q. MeetsAt judge SpannedK (judged judge q) (spanned e ts) (spanned l ts)) (sym (spanned_records ts (l ts))) (spanned_at ts (judged judge (records (l ts))) (e ts) (l ts) (h.at ts)) }

    pub arrow_mark_agrees : Agrees judge AnyK parser.arrow_mark parser.arrow_mark
    unfolding parser.arrow_mark
    arrow_mark_agrees = agrees_peek judge (λ t. agrees_when judge (is_arrow t) (agrees_step judge (agrees_ret judge tt)) (agrees_bad judge))

    rest_agrees : Agrees judge SameK parser.arrow_rest parser.arrow_rest
    unfolding parser.arrow_rest
    rest_agrees = agrees_peek judge (λ t. agrees_when judge (is_mark mark.ELLIPSIS t.kind) (agrees_step judge (name_agrees bodies judge)) (agrees_bad judge))

    module _ (v u : Env) (s : AgreesEnv bodies judge v u) where
      -- binary operators

      same_update : (a b : Expr) → ExprK bodies a b → is_update_expr b ≡ is_update_expr a
      same_update a b k = ap (λ r. nat_le r update_rank) (sym k.ranks)

      power_operand_agrees : (t : Lexeme) (a b : Expr) → ExprK bodies a b → PowerTurn (parser.power_operand t a) (parser.power_operand t b)
      power_operand_agrees t a b k = by (is_update_expr a) (is_update_expr b) (same_update a b k)
        where
          by : (x y : Bool) → y ≡ x → PowerTurn (if x then Again (operand t a) else Stop (Some (operand t a))) (if y then Again (operand t b) else Stop (Some (operand t b)))
          by true true e = operand_alike t a b k
          by true false e = absurd (cc)
          by false true e = absurd (cc)
          by false false e = operand_alike t a b k

      power_turn_agrees : Agrees judge PowerTurn (parser.power_turn v) (parser.power_turn u)
      unfolding parser.power_turn
      power_turn_agrees = agrees_peek judge (λ t. agrees_when judge (is_mark mark.POWER t.kind) (agrees_step judge (agrees_made judge (parser.power_operand t) (parser.power_operand t) (unary_agrees bodies judge v u s false) (power_operand_agrees t))) (done bodies judge (Stop None) (Stop None) tt))

      power_agrees : (heads : Bool) → Agrees judge (ExprK bodies) (parser.power_of v heads) (parser.power_of u heads)
      unfolding parser.power_of
      power_agrees heads = agrees_bind judge (unary_agrees bodies judge v u s heads) (λ a b k. agrees_if judge (is_update_expr a) (is_update_expr b) (same_update a b k)
          (agrees_made judge (λ m. binary_case a (with_last m.items m.last)) (λ m. binary_case b (with_last m.items m.last)) (agrees_loop judge power_turn_agrees) (λ m n q. binary_alike bodies a b (with_last m.items m.last) (with_last n.items n.last) k (list_last (OperandK bodies) m.items n.items m.last n.last q.0 q.1)))
          (done bodies judge a b k))

      op_turn_agrees : (w : Bool) (n : ℕ) (lo hi : Parser Expr) → Agrees judge (ExprK bodies) lo hi → Agrees judge OpTurn (parser.op_turn w n lo) (parser.op_turn w n hi)
      unfolding parser.op_turn
      op_turn_agrees w n lo hi h = agrees_peek judge (λ t. agrees_when judge (is_op w n t.kind) (agrees_step judge (agrees_made judge (λ e. Again (operand t e)) (λ e. Again (operand t e)) h (operand_alike t))) (done bodies judge (Stop tt) (Stop tt) tt))

      operands_agrees : (w : Bool) (n : ℕ) (lo hi : Parser Expr) → Agrees judge (ExprK bodies) lo hi → (a b : Expr) → ExprK bodies a b → Agrees judge (ExprK bodies) (parser.operands_from w n lo a) (parser.operands_from w n hi b)
      operands_agrees w n lo hi h a b k = agrees_made judge (λ m. binary_case a m.items) (λ m. binary_case b m.items) (agrees_loop judge (op_turn_agrees w n lo hi h)) (λ m r q. binary_alike bodies a b m.items r.items k q.0)

      level_agrees : (w : Bool) (n : ℕ) (heads : Bool) → Agrees judge (ExprK bodies) (parser.level_of v w n heads) (parser.level_of u w n heads)
      unfolding parser.level_of
      level_agrees w zero heads = power_agrees heads
      level_agrees w (suc n) heads = agrees_bind judge (level_agrees w n heads) (operands_agrees w (suc n) (parser.level_of v w n false) (parser.level_of u w n false) (level_agrees w n false))

      or_agrees : (w : Bool) (a b : Expr) → ExprK bodies a b → Agrees judge (ExprK bodies) (parser.or_from v w a) (parser.or_from u w b)
      unfolding parser.or_from
      or_agrees w a b k = agrees_bind judge (operands_agrees w parser.and_level (parser.level_of v w parser.bit_or_level false) (parser.level_of u w parser.bit_or_level false) (level_agrees w parser.bit_or_level false) a b k) (operands_agrees w parser.or_level (parser.level_of v w parser.and_level false) (parser.level_of u w parser.and_level false) (level_agrees w parser.and_level false))

      short_agrees : (w heads : Bool) → Agrees judge (ExprK bodies) (parser.short_circuit v w heads) (parser.short_circuit u w heads)
      unfolding parser.short_circuit
      short_agrees w heads = agrees_bind judge (level_agrees w parser.bit_or_level heads) (λ a b k. agrees_peek judge (λ t. agrees_when judge (is_op w parser.coalesce_level t.kind) (operands_agrees w parser.coalesce_level (parser.level_of v w parser.bit_or_level false) (parser.level_of u w parser.bit_or_level false) (level_agrees w parser.bit_or_level false) a b k) (or_agrees w a b k)))

      -- conditionals and assignments

      branches_agrees : (w : Bool) (a b : Expr) → ExprK bodies a b → Agrees judge (ExprK bodies) (parser.branches_of v w a) (parser.branches_of u w b)
      unfolding parser.branches_of
      branches_agrees w a b q = agrees_bind judge (s.sub (AnAssign true)) (λ y z j. agrees_bind judge (expect_agrees bodies judge mark.COLON) (λ _ _ _. agrees_made judge (λ n. tree.Cond a y n) (λ n. tree.Cond b z n) (s.sub (AnAssign w)) (λ n r k. record { ranks = refl; endings = k.endings; same = ap (λ x. tree.Cond x z r) q.same ∙ ap (λ x. tree.Cond (fill bodies a) x r) j.same ∙ ap (tree.Cond (fill bodies a) (fill bodies y)) k.same })))

      cond_tail_agrees : (w : Bool) (a b : Expr) → ExprK bodies a b → Agrees judge (ExprK bodies) (parser.cond_tail v w a) (parser.cond_tail u w b)
      unfolding parser.cond_tail
      cond_tail_agrees w a b k = agrees_peek judge (λ t. agrees_when judge (is_mark mark.QUESTION t.kind) (agrees_step judge (branches_agrees w a b k)) (done bodies judge a b k))

      cond_agrees : (w heads : Bool) → Agrees judge (ExprK bodies) (parser.cond_of v w heads) (parser.cond_of u w heads)
      unfolding parser.cond_of
      cond_agrees w heads = agrees_bind judge (short_agrees w heads) (cond_tail_agrees w)

      assign_tail_agrees : (w : Bool) (a b : Expr) → ExprK bodies a b → Agrees judge (ExprK bodies) (parser.assign_tail v w a) (parser.assign_tail u w b)
      unfolding parser.assign_tail
      assign_tail_agrees w a b k = agrees_peek judge (λ t. agrees_if judge (is_assign_mark t.kind && nat_le (rank a) left_rank) (is_assign_mark t.kind && nat_le (rank b) left_rank) (ap (λ r. is_assign_mark t.kind && nat_le r left_rank) (sym k.ranks))
          (agrees_step judge (agrees_made judge (λ x. tree.Assign (parser.mark_of t.kind) a x) (λ x. tree.Assign (parser.mark_of t.kind) b x) (s.sub (AnAssign w)) (λ x y j. record { ranks = refl; endings = j.endings; same = ap (λ z. tree.Assign (parser.mark_of t.kind) z y) k.same ∙ ap (tree.Assign (parser.mark_of t.kind) (fill bodies a)) j.same })))
          (done bodies judge a b k))

      plain_agrees : (w : Bool) → Agrees judge (ExprK bodies) (parser.plain_of v w) (parser.plain_of u w)
      unfolding parser.plain_of
      plain_agrees w = agrees_bind judge (cond_agrees w true) (assign_tail_agrees w)

      -- arrows

      arrow_first_agrees : Agrees judge (ParamTurn bodies) (parser.arrow_first v) (parser.arrow_first u)
      unfolding parser.arrow_first
      arrow_first_agrees = agrees_peek judge (λ t. agrees_when judge (is_mark mark.ELLIPSIS t.kind) (agrees_made judge (λ n. Stop (Rest n)) (λ n. Stop (Rest n)) (s.sub ARest) (λ a b k. k)) (agrees_made judge Again Again (s.sub AParam) (λ a b k. k)))

      arrow_next_agrees : Agrees judge (ParamTurn bodies) (parser.arrow_next v) (parser.arrow_next u)
      unfolding parser.arrow_next
      arrow_next_agrees = agrees_peek judge (λ t. agrees_when judge (is_mark mark.CLOSE_PAREN t.kind) (done bodies judge (Stop Trailing) (Stop Trailing) tt) arrow_first_agrees)

      arrow_turn_agrees : Agrees judge (ParamTurn bodies) (parser.arrow_turn v) (parser.arrow_turn u)
      unfolding parser.arrow_turn
      arrow_turn_agrees = agrees_peek judge (λ t. agrees_when judge (is_mark mark.COMMA t.kind) (agrees_step judge arrow_next_agrees) (done bodies judge (Stop Plain) (Stop Plain) tt))

      arrow_params_agrees : Agrees judge (ParamsK bodies) (parser.arrow_params v) (parser.arrow_params u)
      unfolding parser.arrow_params
      arrow_params_agrees = agrees_peek judge (λ t. agrees_when judge (is_mark mark.CLOSE_PAREN t.kind) (done bodies judge (stopped Plain) (stopped Plain) (tt, tt)) (agrees_bind judge arrow_first_agrees (params_led_agrees bodies judge v u s (parser.arrow_turn v) (parser.arrow_turn u) arrow_turn_agrees)))

      arrow_listed_agrees : (start : ℕ) → Agrees judge (HeadK bodies) (parser.arrow_listed v start) (parser.arrow_listed u start)
      unfolding parser.arrow_listed
      arrow_listed_agrees start = agrees_bind judge arrow_params_agrees (λ m n q. agrees_made judge (λ _. head_case start m) (λ _. head_case start n) (expect_agrees bodies judge mark.CLOSE_PAREN) (λ _ _ _. head_alike bodies start m.items n.items m.last n.last q.0 q.1))

      arrow_head_agrees : Agrees judge (HeadK bodies) (parser.arrow_head v) (parser.arrow_head u)
      unfolding parser.arrow_head
      arrow_head_agrees = agrees_peek judge (λ t.
          agrees_when judge (is_name t.kind) (agrees_step judge (done bodies judge (parser.bare_head t) (parser.bare_head t) (record { starts = refl; params = (record { names = refl; values = tt; rests = refl }, tt); commas = refl; bares = refl })))
          (agrees_when judge (is_mark mark.OPEN_PAREN t.kind) (agrees_step judge (arrow_listed_agrees t.start)) (agrees_bad judge)))

      short_body_agrees : (w : Bool) (start : ℕ) → Agrees judge (BodyK bodies start) (bind (spanned (v.sub (AnAssign w))) (λ x. ret (parser.short_body x))) (bind (spanned (u.sub (AnAssign w))) (λ x. ret (parser.short_body x)))
      short_body_agrees w start = agrees_made judge parser.short_body parser.short_body (spanned_agrees (s.sub (AnAssign w))) (λ a b k. record { endings = k.values.endings; ends = k.ends; same = ap tree.ShortBody k.values.same })

      pub arrow_body_agrees : (w : Bool) (h g : Head) → HeadK bodies h g → Agrees judge (BodyK bodies h.start) (parser.arrow_body v w h) (parser.arrow_body u w g)
      unfolding parser.arrow_body
      arrow_body_agrees w h g q = agrees_peek judge (λ t. agrees_when judge (is_mark mark.OPEN_BRACE t.kind) (own_body_agrees bodies judge v u s form.Arrow h g q) (short_body_agrees w h.start))

      arrow_alike : (h g : Head) (a b : BodyRead) → HeadK bodies h g → BodyK bodies h.start a b → ExprK bodies (parser.arrow_case h a) (parser.arrow_case g b)
      arrow_alike h g a b q k = let f = function_alike bodies form.Arrow None None h g a b refl q k in record { ranks = refl; endings = k.endings; same = ap (λ x. tree.Func x (parser.function_case form.Arrow None g b)) q.starts ∙ ap (tree.Func h.start) f.same }

      arrow_agrees : (w : Bool) → Agrees judge (ExprK bodies) (parser.arrow_of v w) (parser.arrow_of u w)
      unfolding parser.arrow_of
      arrow_agrees w = agrees_bind judge arrow_head_agrees (λ h g q. agrees_bind judge arrow_mark_agrees (λ _ _ _. agrees_made judge (parser.arrow_case h) (parser.arrow_case g) (arrow_body_agrees w h g q) (λ a b k. arrow_alike h g a b q k)))

      assign_agrees : (w : Bool) → Agrees judge (ExprK bodies) (parser.assign_of v w) (parser.assign_of u w)
      unfolding parser.assign_of
      assign_agrees w = record { at = λ ts. (agrees_when judge {f = parser.arrow_of v w} {f2 = parser.plain_of v w} {g = parser.arrow_of u w} {g2 = parser.plain_of u w} (is_arrow_head ts) (arrow_agrees w) (plain_agrees w)).at ts }

      arrow_param_agrees : Agrees judge (ParamK bodies) (parser.arrow_param v) (parser.arrow_param u)
      unfolding parser.arrow_param
      arrow_param_agrees = param_agrees bodies judge v u s

      -- all calls over those one deeper
      pub case_agrees : (c : Call) → Agrees judge (CallK bodies c) (call_case v c) (call_case u c)
      case_agrees (AnAssign w) = assign_agrees w
      case_agrees APrefix = prefix_agrees bodies judge v u s
      case_agrees ANew = new_agrees bodies judge v u s
      case_agrees AParam = arrow_param_agrees
      case_agrees ARest = rest_agrees

    -- and without room
    pub no_calls_agrees : (c : Call) → Agrees judge (CallK bodies c) (no_calls c) (no_calls c)
    no_calls_agrees c = agrees_no_room judge (begins_call c)
