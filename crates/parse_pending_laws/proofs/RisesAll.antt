-- What the parser records that passes braced bodies over stands one after another: in each call, in a body whose own statements
-- are read, and in a function alone.
use Rattle.std.proofs.Common.{◌≡◌, ℕ, zero, suc, ◌<◌, List, [], ◌∷◌, length, refl, sym, subst, arith, Bool, true, false, ◌⊎◌, inl, inr, Option, None}
use Rattle.script_grammar.specs.declared.token.FuncForm.{FuncForm}
use Rattle.script_grammar.specs.declared.token.FuncForm.TheVariants as form
use Rattle.script_grammar.specs.declared.token.mark.TheConstants as mark
use Rattle.script_grammar.specs.Kinds.{is_mark, is_name}
use Rattle.script_grammar.specs.Lexeme.{Lexeme}
use Rattle.script_grammar.specs.Pieces.{brace}
use Rattle.script_grammar.specs.Tree.{Named, Body}
use Rattle.grammar_parser_specs.specs.Parser.{Recorded, Reply, Read, Bad, Deep, put_before, bind, ret, Again, Stop, stopped}
use Rattle.grammar_parser_specs.specs.Exprs.{Env, Call, AnAssign, AParam, ARest, BodyRead, Head, Trailing, Plain, Rest, pass_over, passed_body, passing, expr_of, function_of, function_case, head_case, bare_head, is_simple, short_body}
use Rattle.grammar_parser_specs.specs.Stmts as parser
use Rattle.grammar_parser_specs.specs.Stmts.{Place, All, env_of, block_of, everything, begins_stmt, reading, alone_of, is_arrow_form}
use Rattle.grammar_parser_laws.proofs.Tests.{bool_cases}
use Rattle.grammar_parser_laws.proofs.Local.{left}
use Rattle.grammar_local_laws.proofs.Passing.{record_at, passed_reply, passing_here, passing_no}
use Rattle.grammar_local_laws.proofs.Agrees.{records}
use Rattle.grammar_local_laws.proofs.AgreesScripts.{passed_over}
use Rattle.parse_pending_laws.proofs.Rises.{Falls, Rises, rises_ret, rises_bad, rises_bind, rises_peek, rises_when, rises_step, rises_spanned, rises_over, rises_no_room}
use Rattle.parse_pending_laws.proofs.RisesExprs.{RisesEnv, expect_rises, name_of_rises, params_led_rises, expr_rises, function_rises}
use Rattle.parse_pending_laws.proofs.RisesCalls.{arrow_mark_rises, case_rises, no_calls_rises}
use Rattle.parse_pending_laws.proofs.RisesStmts.{RisesBlock, rises_end, rises_reading, rises_stmt}

-- a function alone, over calls and bodies of which that holds
module _ (v : Env) (l : RisesEnv v) where
  param_rises : Rises (parser.strict_param v)
  unfolding parser.strict_param
  param_rises = rises_peek (λ t. rises_when (is_mark mark.ELLIPSIS t.kind) (rises_bind (l.at ARest) (λ n. rises_ret (Stop (Rest n)))) (rises_when (is_name t.kind) (rises_bind (l.at AParam) (λ p. rises_ret (Again p))) rises_bad))

  next_rises : Rises (parser.strict_next v)
  unfolding parser.strict_next
  next_rises = rises_peek (λ t. rises_when (is_mark mark.CLOSE_PAREN t.kind) (rises_ret (Stop Trailing)) param_rises)

  turn_rises : Rises (parser.strict_turn v)
  unfolding parser.strict_turn
  turn_rises = rises_peek (λ t. rises_when (is_mark mark.COMMA t.kind) (rises_step next_rises) (rises_ret (Stop Plain)))

  params_rises : Rises (parser.strict_params v)
  unfolding parser.strict_params
  params_rises = rises_peek (λ t. rises_when (is_mark mark.CLOSE_PAREN t.kind) (rises_ret (stopped Plain)) (rises_bind param_rises (params_led_rises v l turn_rises)))

  listed_rises : (start : ℕ) → Rises (parser.strict_listed v start)
  unfolding parser.strict_listed
  listed_rises start = rises_bind params_rises (λ n. rises_bind (expect_rises mark.CLOSE_PAREN) (λ _. rises_ret (head_case start n)))

  head_rises : Rises (parser.strict_head v)
  unfolding parser.strict_head
  head_rises = rises_peek (λ t. rises_when (is_name t.kind) (rises_step (rises_ret (bare_head t))) (rises_when (is_mark mark.OPEN_PAREN t.kind) (rises_step (listed_rises t.start)) rises_bad))

  body_rises : (h : Head) → Rises (parser.strict_body v h)
  unfolding parser.strict_body
  body_rises h = rises_peek (λ t. rises_when (is_mark mark.OPEN_BRACE t.kind) (l.body form.Arrow h.start (is_simple h.params)) (rises_bind (rises_spanned (l.at (AnAssign true))) (λ s. rises_ret (short_body s))))

  arrow_rises : Rises (parser.arrow_alone v)
  unfolding parser.arrow_alone
  arrow_rises = rises_bind head_rises (λ h. rises_bind arrow_mark_rises (λ _. rises_bind (body_rises h) (λ b. rises_ret (function_case form.Arrow None h b))))

  pub alone_rises : (f : FuncForm) → Rises (alone_of v f)
  unfolding alone_of
  alone_rises f = rises_bind (rises_when (is_arrow_form f) arrow_rises (function_rises v l f None)) rises_end

abbrev Stands : List Lexeme → Reply BodyRead → Type 0
Stands ts r = Falls (suc (length ts)) (records r) (length (left r))

module _ (bodies : ℕ → Body) where
  -- a body that is passed over, which is recorded at its brace
  pub passing_rises : (room : ℕ) (f : FuncForm) (start : ℕ) (simple : Bool) → Rises (passing bodies room f start simple)
  passing_rises room f start simple = record { at = passed }
    where
      over_rises : Rises (bind (pass_over (brace ∷ [])) (λ end. ret (passed_body (bodies start) end)))
      over_rises = rises_bind (rises_over (brace ∷ [])) (λ end. rises_ret (passed_body (bodies start) end))

      behind : (b : Recorded) (t : Lexeme) (ts : List Lexeme) → b.from ≡ t ∷ ts → (r : Reply BodyRead) → Falls (suc (length ts)) (records r) (length (left r)) → Stands (t ∷ ts) (put_before (b ∷ []) r)
      behind b t ts e (Read a rs us) h = subst (λ x. (length x < suc (length (t ∷ ts))) × Falls (length x) rs (length us)) (sym e) (omega arith, h)
      behind b t ts e (Bad rs us) h = subst (λ x. (length x < suc (length (t ∷ ts))) × Falls (length x) rs (length us)) (sym e) (omega arith, h)
      behind b t ts e (Deep rs us) h = subst (λ x. (length x < suc (length (t ∷ ts))) × Falls (length x) rs (length us)) (sym e) (omega arith, h)

      passed : (ts : List Lexeme) → Stands ts (passing bodies room f start simple ts)
      passed [] = subst (Stands []) (sym (passing_no bodies room f start simple [] refl)) ((rises_bad {A = BodyRead}).at [])
      passed (t ∷ ts) = by (bool_cases (is_mark mark.OPEN_BRACE t.kind))
        where
          by : (is_mark mark.OPEN_BRACE t.kind ≡ true) ⊎ (is_mark mark.OPEN_BRACE t.kind ≡ false) → Stands (t ∷ ts) (passing bodies room f start simple (t ∷ ts))
          by (inl h) = subst (Stands (t ∷ ts)) (sym (passing_here bodies room f start simple t ts h)) (behind (record_at bodies room f start simple (t ∷ ts)) t ts refl (passed_reply bodies room f start simple ts) (over_rises.at ts))
          by (inr h) = subst (Stands (t ∷ ts)) (sym (passing_no bodies room f start simple (t ∷ ts) h)) ((rises_bad {A = BodyRead}).at (t ∷ ts))

  -- all calls

  pub record RisesAll (a : All) : Type 0 where
    pub exprs : (c : Call) → Rises (a.exprs c)
    pub stmts : (p : Place) → Rises (a.stmts p)
    pub label : Rises a.label

  pub everything_rises : (room : ℕ) → RisesAll (everything (passed_over bodies) room)
  unfolding everything
  everything_rises zero = record { exprs = no_calls_rises; stmts = λ p. rises_no_room (begins_stmt p); label = rises_no_room is_name }
  everything_rises (suc room) =
      let below = everything_rises room in
      let l : All = everything (passed_over bodies) room in
      let v : RisesEnv (env_of (passed_over bodies room l.stmts) l) = record { at = below.exprs; body = passing_rises room } in
      let b : RisesBlock (block_of (passed_over bodies room l.stmts) l) = record { exprs = v; stmt = below.stmts; label = below.label } in
      record { exprs = case_rises (env_of (passed_over bodies room l.stmts) l) v; stmts = rises_stmt (block_of (passed_over bodies room l.stmts) l) b; label = name_of_rises }

  module _ (room : ℕ) where
    pub env_rises : RisesEnv (env_of (passing bodies room) (everything (passed_over bodies) room))
    env_rises = record { at = (everything_rises room).exprs; body = passing_rises room }

    -- a body whose own statements are read
    pub own_rises : (f : FuncForm) (start : ℕ) (simple : Bool) → Rises (reading (everything (passed_over bodies) room).stmts f start simple)
    own_rises f start simple = rises_reading (everything (passed_over bodies) room).stmts (everything_rises room).stmts f start simple

    -- an AssignmentExpression, an Expression, a function from its parameters on, and one that is passed over alone

    pub assign_rises : (w : Bool) → Rises ((everything (passed_over bodies) room).exprs (AnAssign w))
    assign_rises w = (everything_rises room).exprs (AnAssign w)

    pub expression_rises : (w : Bool) → Rises (expr_of (env_of (passing bodies room) (everything (passed_over bodies) room)) w)
    expression_rises w = expr_rises _ env_rises w

    pub headed_rises : (f : FuncForm) (name : Option Named) → Rises (function_of (env_of (passing bodies room) (everything (passed_over bodies) room)) f name)
    headed_rises f name = function_rises _ env_rises f name

    pub passed_alone_rises : (f : FuncForm) → Rises (alone_of (env_of (passing bodies room) (everything (passed_over bodies) room)) f)
    passed_alone_rises f = alone_rises _ env_rises f
