-- The heads and bodies of arrows look at no lexeme after the place where they stop, where the calls that count for the
-- depth do not.
use Rattle.std.proofs.Common.{ℕ, Bool}
use Rattle.script_grammar.specs.declared.token.FuncForm.TheVariants as form
use Rattle.script_grammar.specs.declared.token.mark.TheConstants as mark
use Rattle.script_grammar.specs.Kinds.{is_mark, is_name}
use Rattle.grammar_parser_specs.specs.Parser.{ret, bind, step, when, Again, Stop, stopped}
use Rattle.grammar_parser_specs.specs.Exprs
use Rattle.grammar_parser_specs.specs.Exprs.{Env, AnAssign, AParam, ARest, ParamsEnd, Plain, Trailing, Rest, Head, expect, name_of, again, is_param_form, is_arrow, bare_head, is_simple, short_body, spanned}
use Rattle.grammar_parser_laws.proofs.Local.{Local, local_ret, local_bad, local_bind, local_peek, local_when, local_step, Gains, gains_peek, gains_step, moves_when}
use Rattle.grammar_parser_laws.proofs.Spanned.{local_spanned}
use Rattle.grammar_local_laws.proofs.LocalExprs.{LocalEnv, expect_local, name_of_local, param_local, params_led_local}

pub arrow_rest_local : Local Exprs.arrow_rest
unfolding Exprs.arrow_rest
arrow_rest_local = local_peek (λ t. local_when (is_mark mark.ELLIPSIS t.kind) (local_step name_of_local) local_bad)

pub arrow_mark_local : Local Exprs.arrow_mark
unfolding Exprs.arrow_mark
arrow_mark_local = local_peek (λ t. local_when (is_arrow t) (local_step (local_ret tt)) local_bad)

module _ (v : Env) (l : LocalEnv v) where
  pub arrow_param_local : Local (Exprs.arrow_param v)
  unfolding Exprs.arrow_param
  arrow_param_local = param_local v l

  pub arrow_first_local : Local (Exprs.arrow_first v)
  unfolding Exprs.arrow_first
  arrow_first_local = local_peek (λ t. local_when (is_mark mark.ELLIPSIS t.kind) (local_bind (l.at ARest) (λ n. local_ret (Stop (Rest n)))) (local_bind (l.at AParam) (λ p. local_ret (Again p))))

  pub arrow_next_local : Local (Exprs.arrow_next v)
  unfolding Exprs.arrow_next
  arrow_next_local = local_peek (λ t. local_when (is_mark mark.CLOSE_PAREN t.kind) (local_ret (Stop Trailing)) arrow_first_local)

  pub arrow_turn_local : Local (Exprs.arrow_turn v)
  unfolding Exprs.arrow_turn
  arrow_turn_local = local_peek (λ t. local_when (is_mark mark.COMMA t.kind) (local_step arrow_next_local) (local_ret (Stop Plain)))

  pub arrow_turn_gains : Gains (Exprs.arrow_turn v)
  unfolding Exprs.arrow_turn
  arrow_turn_gains = gains_peek (λ t. when (is_mark mark.COMMA t.kind) (step (Exprs.arrow_next v)) (ret (Stop Plain))) tt (λ t ts. moves_when _ _ (is_mark mark.COMMA t.kind) t ts (gains_step _ arrow_next_local t ts) tt)

  pub arrow_params_local : Local (Exprs.arrow_params v)
  unfolding Exprs.arrow_params
  arrow_params_local = local_peek (λ t. local_when (is_mark mark.CLOSE_PAREN t.kind) (local_ret (stopped Plain)) (local_bind arrow_first_local (params_led_local v l arrow_turn_local arrow_turn_gains)))

  pub arrow_listed_local : (start : ℕ) → Local (Exprs.arrow_listed v start)
  unfolding Exprs.arrow_listed
  arrow_listed_local start = local_bind arrow_params_local (λ m. local_bind (expect_local mark.CLOSE_PAREN) (λ _. local_ret _))

  pub arrow_head_local : Local (Exprs.arrow_head v)
  unfolding Exprs.arrow_head
  arrow_head_local = local_peek (λ t. local_when (is_name t.kind) (local_step (local_ret (bare_head t))) (local_when (is_mark mark.OPEN_PAREN t.kind) (local_step (arrow_listed_local t.start)) local_bad))

  pub arrow_body_local : (w : Bool) (h : Head) → Local (Exprs.arrow_body v w h)
  unfolding Exprs.arrow_body
  arrow_body_local w h = local_peek (λ t. local_when (is_mark mark.OPEN_BRACE t.kind) (l.body form.Arrow h.start (is_simple h.params)) (local_bind (local_spanned (l.at (AnAssign w))) (λ s. local_ret (short_body s))))

  pub arrow_behind_local : (w : Bool) (h : Head) → Local (bind Exprs.arrow_mark (λ _. bind (Exprs.arrow_body v w h) (λ b. ret (Exprs.arrow_case h b))))
  arrow_behind_local w h = local_bind arrow_mark_local (λ _. local_bind (arrow_body_local w h) (λ b. local_ret (Exprs.arrow_case h b)))

  pub arrow_local : (w : Bool) → Local (Exprs.arrow_of v w)
  unfolding Exprs.arrow_of
  arrow_local w = local_bind arrow_head_local (arrow_behind_local w)
