-- A function that is read alone, whatever its braced body is read by: either the body is not reached, and the reply is the same
-- for all, or it is reached after the same parameters.
use Rattle.std.proofs.Common.{◌≡◌, ◌∙◌, List, [], ◌++◌, refl, sym, ap, Bool, true, false, None}
use Rattle.script_grammar.specs.declared.token.FuncForm.{FuncForm}
use Rattle.script_grammar.specs.declared.token.FuncForm.TheVariants as form
use Rattle.script_grammar.specs.declared.token.mark.TheConstants as mark
use Rattle.script_grammar.specs.Kinds.{is_mark}
use Rattle.script_grammar.specs.Lexeme.{Lexeme}
use Rattle.script_grammar.specs.Tree.{Function}
use Rattle.grammar_parser_specs.specs.Parser.{Recorded, Reply, Read, Bad, Deep, Parser, head_of, noted, after, ret, bind, when}
use Rattle.grammar_parser_specs.specs.Exprs
use Rattle.grammar_parser_specs.specs.Exprs.{Env, Calls, AnAssign, BodyParser, BodyRead, Head, is_simple, function_case, function_of, spanned, short_body}
use Rattle.grammar_parser_specs.specs.Stmts as parser
use Rattle.grammar_parser_specs.specs.Stmts.{alone_of, arrow_alone, end_of}
use Rattle.grammar_local_laws.proofs.LocalExprs.{noted_twice, after_noted, after_twice}

module _ (sub : Calls) (f : FuncForm) where
  -- with this reader of braced bodies
  abbrev pub with_body : BodyParser → Env
  with_body x = record { sub = sub; body = x }

  -- the body and what stands after it, once the parameters are read
  abbrev pub from_body : BodyParser → Head → Parser Function
  from_body x h us = after (x f h.start (is_simple h.params) us) (λ b. end_of (function_case f None h b))

  pub data Spine (read : BodyParser → Reply Function) : Type 0 where
    apart : (r : Reply Function) → ((x : BodyParser) → read x ≡ r) → Spine read
    within : (h : Head) (rs : List Recorded) (us : List Lexeme) → ((x : BodyParser) → read x ≡ noted rs (from_body x h us)) → Spine read

  -- the same before the end is asked for
  data Before (read : BodyParser → Reply Function) : Type 0 where
    without : (r : Reply Function) → ((x : BodyParser) → read x ≡ r) → Before read
    at_body : (h : Head) (rs : List Recorded) (us : List Lexeme) → ((x : BodyParser) → read x ≡ noted rs (after (x f h.start (is_simple h.params) us) (λ b. ret (function_case f None h b)))) → Before read

  then_end : (read : BodyParser → Reply Function) → Before read → Spine (λ x. after (read x) end_of)
  then_end read (without r e) = apart (after r end_of) (λ x. ap (λ s. after s end_of) (e x))
  then_end read (at_body h rs us e) = within h rs us (λ x.
      ap (λ s. after s end_of) (e x)
      ∙ after_noted rs (after (x f h.start (is_simple h.params) us) (λ b. ret (function_case f None h b))) end_of
      ∙ ap (noted rs) (after_twice (x f h.start (is_simple h.params) us) (λ b. ret (function_case f None h b)) end_of))

  same_before : (read other : BodyParser → Reply Function) → ((x : BodyParser) → read x ≡ other x) → Before other → Before read
  same_before read other k (without r e) = without r (λ x. k x ∙ e x)
  same_before read other k (at_body h rs us e) = at_body h rs us (λ x. k x ∙ e x)

  noted_before : (qs : List Recorded) (read : BodyParser → Reply Function) → Before read → Before (λ x. noted qs (read x))
  noted_before qs read (without r e) = without (noted qs r) (λ x. ap (noted qs) (e x))
  noted_before qs read (at_body h rs us e) = at_body h (qs ++ rs) us (λ x. ap (noted qs) (e x) ∙ sym (noted_twice qs rs (after (x f h.start (is_simple h.params) us) (λ b. ret (function_case f None h b)))))

  -- a function that is no arrow

  heads_same : (x y : BodyParser) → Exprs.params_head (with_body x) f ≡ Exprs.params_head (with_body y) f
  unfolding Exprs.params_head Exprs.listed_params Exprs.more_params Exprs.params_turn Exprs.params_next Exprs.param_turn Exprs.param_of Exprs.initializer_of
  heads_same x y = refl

  no_body : BodyParser
  no_body g start simple us = Bad [] us

  abbrev plain_body : BodyParser → Head → Parser Function
  plain_body x h = bind (x f h.start (is_simple h.params)) (λ b. ret (function_case f None h b))

  plain_by : (ts : List Lexeme) (r : Reply Head) → Exprs.params_head (with_body no_body) f ts ≡ r → Before (λ x. after (Exprs.params_head (with_body x) f ts) (plain_body x))
  plain_by ts (Read h rs us) e = at_body h rs us (λ x. ap (λ p. after (p ts) (plain_body x)) (heads_same x no_body) ∙ ap (λ r. after r (plain_body x)) e)
  plain_by ts (Bad rs us) e = without (Bad rs us) (λ x. ap (λ p. after (p ts) (plain_body x)) (heads_same x no_body) ∙ ap (λ r. after r (plain_body x)) e)
  plain_by ts (Deep rs us) e = without (Deep rs us) (λ x. ap (λ p. after (p ts) (plain_body x)) (heads_same x no_body) ∙ ap (λ r. after r (plain_body x)) e)

  plain_spine : (ts : List Lexeme) → Before (λ x. function_of (with_body x) f None ts)
  unfolding Exprs.function_of
  plain_spine ts = plain_by ts (Exprs.params_head (with_body no_body) f ts) refl

-- an arrow
module _ (sub : Calls) where
  abbrev over : BodyParser → Env
  over x = record { sub = sub; body = x }

  arrow_heads_same : (x y : BodyParser) → parser.strict_head (over x) ≡ parser.strict_head (over y)
  unfolding parser.strict_head parser.strict_listed parser.strict_params parser.strict_turn parser.strict_next parser.strict_param
  arrow_heads_same x y = refl

  abbrev short : Parser BodyRead
  short = bind (spanned (sub (AnAssign true))) (λ s. ret (short_body s))

  body_same : (x : BodyParser) (h : Head) (us : List Lexeme) (b : Bool) → is_mark mark.OPEN_BRACE (head_of us).kind ≡ b → parser.strict_body (over x) h us ≡ when b (x form.Arrow h.start (is_simple h.params)) short us
  unfolding parser.strict_body
  body_same x h us b e = ap (λ c. when c (x form.Arrow h.start (is_simple h.params)) short us) e

  abbrev made : Head → BodyRead → Parser Function
  made h b = ret (function_case form.Arrow None h b)

  body_by : (h : Head) (us : List Lexeme) (b : Bool) → is_mark mark.OPEN_BRACE (head_of us).kind ≡ b → Before sub form.Arrow (λ x. after (parser.strict_body (over x) h us) (made h))
  body_by h us true e = at_body h [] us (λ x. ap (λ r. after r (made h)) (body_same x h us true e))
  body_by h us false e = without (after (short us) (made h)) (λ x. ap (λ r. after r (made h)) (body_same x h us false e))

  abbrev behind_mark : BodyParser → Head → Parser Function
  behind_mark x h = bind (parser.strict_body (over x) h) (made h)

  mark_by : (h : Head) (us : List Lexeme) (r : Reply (Unit {0})) → Exprs.arrow_mark us ≡ r → Before sub form.Arrow (λ x. after (Exprs.arrow_mark us) (λ _. behind_mark x h))
  mark_by h us (Read u qs vs) e = same_before sub form.Arrow (λ x. after (Exprs.arrow_mark us) (λ _. behind_mark x h)) (λ x. noted qs (after (parser.strict_body (over x) h vs) (made h))) (λ x. ap (λ s. after s (λ _. behind_mark x h)) e) (noted_before sub form.Arrow qs (λ x. after (parser.strict_body (over x) h vs) (made h)) (body_by h vs (is_mark mark.OPEN_BRACE (head_of vs).kind) refl))
  mark_by h us (Bad qs vs) e = without (Bad qs vs) (λ x. ap (λ s. after s (λ _. behind_mark x h)) e)
  mark_by h us (Deep qs vs) e = without (Deep qs vs) (λ x. ap (λ s. after s (λ _. behind_mark x h)) e)

  abbrev behind_head : BodyParser → Head → Parser Function
  behind_head x h = bind Exprs.arrow_mark (λ _. behind_mark x h)

  no_own : BodyParser
  no_own g start simple us = Bad [] us

  arrow_by : (ts : List Lexeme) (r : Reply Head) → parser.strict_head (over no_own) ts ≡ r → Before sub form.Arrow (λ x. after (parser.strict_head (over x) ts) (behind_head x))
  arrow_by ts (Read h rs us) e = same_before sub form.Arrow (λ x. after (parser.strict_head (over x) ts) (behind_head x)) (λ x. noted rs (after (Exprs.arrow_mark us) (λ _. behind_mark x h))) (λ x. ap (λ p. after (p ts) (behind_head x)) (arrow_heads_same x no_own) ∙ ap (λ r. after r (behind_head x)) e) (noted_before sub form.Arrow rs (λ x. after (Exprs.arrow_mark us) (λ _. behind_mark x h)) (mark_by h us (Exprs.arrow_mark us) refl))
  arrow_by ts (Bad rs us) e = without (Bad rs us) (λ x. ap (λ p. after (p ts) (behind_head x)) (arrow_heads_same x no_own) ∙ ap (λ r. after r (behind_head x)) e)
  arrow_by ts (Deep rs us) e = without (Deep rs us) (λ x. ap (λ p. after (p ts) (behind_head x)) (arrow_heads_same x no_own) ∙ ap (λ r. after r (behind_head x)) e)

  arrow_spine : (ts : List Lexeme) → Before sub form.Arrow (λ x. arrow_alone (over x) ts)
  unfolding parser.arrow_alone
  arrow_spine ts = arrow_by ts (parser.strict_head (over no_own) ts) refl

pub spine : (sub : Calls) (f : FuncForm) (ts : List Lexeme) → Spine sub f (λ x. alone_of (record { sub = sub; body = x }) f ts)
unfolding parser.alone_of
spine sub form.Arrow ts = then_end sub form.Arrow (λ x. arrow_alone (record { sub = sub; body = x }) ts) (arrow_spine sub ts)
spine sub form.Function ts = then_end sub form.Function (λ x. function_of (record { sub = sub; body = x }) form.Function None ts) (plain_spine sub form.Function ts)
spine sub form.Method ts = then_end sub form.Method (λ x. function_of (record { sub = sub; body = x }) form.Method None ts) (plain_spine sub form.Method ts)
spine sub form.Getter ts = then_end sub form.Getter (λ x. function_of (record { sub = sub; body = x }) form.Getter None ts) (plain_spine sub form.Getter ts)
spine sub form.Setter ts = then_end sub form.Setter (λ x. function_of (record { sub = sub; body = x }) form.Setter None ts) (plain_spine sub form.Setter ts)
spine sub form.Script ts = then_end sub form.Script (λ x. function_of (record { sub = sub; body = x }) form.Script None ts) (plain_spine sub form.Script ts)
