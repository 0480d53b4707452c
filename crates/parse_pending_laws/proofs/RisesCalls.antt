-- What the calls of the parser of expressions record stands one after another: arrows, and all calls over those one deeper.
use Rattle.std.proofs.Common.{ℕ, Bool}
use Rattle.script_grammar.specs.declared.token.FuncForm.TheVariants as form
use Rattle.script_grammar.specs.declared.token.mark.TheConstants as mark
use Rattle.script_grammar.specs.Kinds.{is_mark, is_name}
use Rattle.grammar_parser_specs.specs.Parser.{ret, bind, Again, Stop, stopped}
use Rattle.grammar_parser_specs.specs.Exprs
use Rattle.grammar_parser_specs.specs.Exprs.{Env, Call, AnAssign, APrefix, ANew, AParam, ARest, ParamsEnd, Plain, Trailing, Rest, Head, expect, name_of, again, is_param_form, is_arrow, bare_head, is_simple, short_body, spanned, call_case, no_calls, begins_call}
use Rattle.parse_pending_laws.proofs.Rises.{Rises, rises_ret, rises_bad, rises_bind, rises_peek, rises_when, rises_step, rises_spanned, rises_no_room}
use Rattle.parse_pending_laws.proofs.RisesExprs.{RisesEnv, expect_rises, name_of_rises, param_rises, params_led_rises, prefix_rises, new_rises, plain_rises}

pub arrow_rest_rises : Rises Exprs.arrow_rest
unfolding Exprs.arrow_rest
arrow_rest_rises = rises_peek (λ t. rises_when (is_mark mark.ELLIPSIS t.kind) (rises_step name_of_rises) rises_bad)

pub arrow_mark_rises : Rises Exprs.arrow_mark
unfolding Exprs.arrow_mark
arrow_mark_rises = rises_peek (λ t. rises_when (is_arrow t) (rises_step (rises_ret tt)) rises_bad)

module _ (v : Env) (l : RisesEnv v) where
  pub arrow_param_rises : Rises (Exprs.arrow_param v)
  unfolding Exprs.arrow_param
  arrow_param_rises = param_rises v l

  pub arrow_first_rises : Rises (Exprs.arrow_first v)
  unfolding Exprs.arrow_first
  arrow_first_rises = rises_peek (λ t. rises_when (is_mark mark.ELLIPSIS t.kind) (rises_bind (l.at ARest) (λ n. rises_ret (Stop (Rest n)))) (rises_bind (l.at AParam) (λ p. rises_ret (Again p))))

  pub arrow_next_rises : Rises (Exprs.arrow_next v)
  unfolding Exprs.arrow_next
  arrow_next_rises = rises_peek (λ t. rises_when (is_mark mark.CLOSE_PAREN t.kind) (rises_ret (Stop Trailing)) arrow_first_rises)

  pub arrow_turn_rises : Rises (Exprs.arrow_turn v)
  unfolding Exprs.arrow_turn
  arrow_turn_rises = rises_peek (λ t. rises_when (is_mark mark.COMMA t.kind) (rises_step arrow_next_rises) (rises_ret (Stop Plain)))

  pub arrow_params_rises : Rises (Exprs.arrow_params v)
  unfolding Exprs.arrow_params
  arrow_params_rises = rises_peek (λ t. rises_when (is_mark mark.CLOSE_PAREN t.kind) (rises_ret (stopped Plain)) (rises_bind arrow_first_rises (params_led_rises v l arrow_turn_rises)))

  pub arrow_listed_rises : (start : ℕ) → Rises (Exprs.arrow_listed v start)
  unfolding Exprs.arrow_listed
  arrow_listed_rises start = rises_bind arrow_params_rises (λ m. rises_bind (expect_rises mark.CLOSE_PAREN) (λ _. rises_ret _))

  pub arrow_head_rises : Rises (Exprs.arrow_head v)
  unfolding Exprs.arrow_head
  arrow_head_rises = rises_peek (λ t. rises_when (is_name t.kind) (rises_step (rises_ret (bare_head t))) (rises_when (is_mark mark.OPEN_PAREN t.kind) (rises_step (arrow_listed_rises t.start)) rises_bad))

  pub arrow_body_rises : (w : Bool) (h : Head) → Rises (Exprs.arrow_body v w h)
  unfolding Exprs.arrow_body
  arrow_body_rises w h = rises_peek (λ t. rises_when (is_mark mark.OPEN_BRACE t.kind) (l.body form.Arrow h.start (is_simple h.params)) (rises_bind (rises_spanned (l.at (AnAssign w))) (λ s. rises_ret (short_body s))))

  pub arrow_behind_rises : (w : Bool) (h : Head) → Rises (bind Exprs.arrow_mark (λ _. bind (Exprs.arrow_body v w h) (λ b. ret (Exprs.arrow_case h b))))
  arrow_behind_rises w h = rises_bind arrow_mark_rises (λ _. rises_bind (arrow_body_rises w h) (λ b. rises_ret (Exprs.arrow_case h b)))

  pub arrow_rises : (w : Bool) → Rises (Exprs.arrow_of v w)
  unfolding Exprs.arrow_of
  arrow_rises w = rises_bind arrow_head_rises (arrow_behind_rises w)

  assign_rises : (w : Bool) → Rises (Exprs.assign_of v w)
  unfolding Exprs.assign_of
  assign_rises w = record { at = λ ts. (rises_when (Exprs.is_arrow_head ts) (arrow_rises w) (plain_rises v l w)).at ts }

  -- all calls over those one deeper
  pub case_rises : (c : Call) → Rises (call_case v c)
  case_rises (AnAssign w) = assign_rises w
  case_rises APrefix = prefix_rises v l
  case_rises ANew = new_rises v l
  case_rises AParam = arrow_param_rises
  case_rises ARest = arrow_rest_rises

-- and without room
pub no_calls_rises : (c : Call) → Rises (no_calls c)
no_calls_rises c = rises_no_room (begins_call c)
