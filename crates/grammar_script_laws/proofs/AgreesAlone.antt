-- A function that is read alone, its own statements by both parsers: the one reads the bodies inside in place, and the other
-- passes them over. They agree.
use Rattle.std.proofs.Common.{◌≡◌, ℕ, refl, sym, ap, ◌∙◌, subst, Bool, true, None}
use Rattle.script_grammar.specs.declared.token.FuncForm.{FuncForm}
use Rattle.script_grammar.specs.declared.token.FuncForm.TheVariants as form
use Rattle.script_grammar.specs.declared.token.mark.TheConstants as mark
use Rattle.script_grammar.specs.Kinds.{is_mark, is_name}
use Rattle.script_grammar.specs.Tree.{Body, Function, function}
use Rattle.script_grammar.specs.Tree as tree
use Rattle.script_grammar.specs.TreeLists.{params_of}
use Rattle.script_grammar.specs.Pieces.{BracedArrow}
use Rattle.script_grammar.specs.Endings.{body_ending}
use Rattle.grammar_parser_specs.specs.Parser.{Recorded, Reply, ret, bind, Again, Stop, stopped}
use Rattle.grammar_parser_specs.specs.Exprs
use Rattle.grammar_parser_specs.specs.Exprs.{Env, Call, AnAssign, AParam, ARest, BodyParser, BodyRead, Plain, Trailing, Rest, Head, passing, spanned, head_case, bare_head, function_case, is_simple, short_body, params_head, function_of}
use Rattle.grammar_parser_specs.specs.Stmts as parser
use Rattle.grammar_parser_specs.specs.Stmts.{everything, in_place, reading, read_alone}
use Rattle.grammar_local_laws.proofs.Agrees.{Agrees, agrees_bind, agrees_bad, agrees_peek, agrees_step, agrees_when, agrees_made, agrees_map}
use Rattle.grammar_local_laws.proofs.Alike.{BodyK, HeadK, params_same, head_alike}
use Rattle.grammar_parser_specs.specs.Filling.{fill, fill_params, fill_stmts}
use Rattle.grammar_local_laws.proofs.AgreesExprs.{CallK, AgreesEnv, ParamTurn, ParamsK, done, expect_agrees, params_led_agrees, params_head_agrees}
use Rattle.grammar_local_laws.proofs.AgreesCalls.{spanned_agrees, arrow_mark_agrees}
use Rattle.grammar_local_laws.proofs.AgreesStmts.{OwnK, end_agrees, reading_agrees}
use Rattle.grammar_local_laws.proofs.AgreesScripts.{body_in_place, passed_over, silent, body_agrees, everything_agrees}

module _ (bodies : ℕ → Body) where
  -- a body whose own statements stay, with other bodies inside
  abbrev pub fill_own : Body → Body
  fill_own (tree.BracedBody items) = tree.BracedBody (fill_stmts bodies items)
  fill_own (tree.ShortBody value) = tree.ShortBody (fill bodies value)

  abbrev pub fill_alone : Function → Function
  fill_alone (function f start end name ps comma bare body) = function f start end name (fill_params bodies ps) comma bare (fill_own body)

  pub record AloneBodyK (a b : BodyRead) : Type 0 where
    pub ends : b.end ≡ a.end
    pub same : b.body ≡ fill_own a.body

  pub record AloneK (a b : Function) : Type 0 where
    pub same : b ≡ fill_alone a

  own_read : (a b : BodyRead) → OwnK bodies a b → AloneBodyK a b
  own_read a b k = record { ends = k.ends; same = k.second ∙ sym (ap fill_own k.first) }

  alone_alike : (f : FuncForm) (h g : Head) (a b : BodyRead) → HeadK bodies h g → AloneBodyK a b → AloneK (function_case f None h a) (function_case f None g b)
  alone_alike f h g a b q k = record {
    same =
        ap (λ x. function f x b.end None (params_of g.params) g.comma g.bare b.body) q.starts
        ∙ ap (λ x. function f h.start x None (params_of g.params) g.comma g.bare b.body) k.ends
        ∙ ap (λ x. function f h.start a.end None x g.comma g.bare b.body) (params_same bodies h.params g.params q.params)
        ∙ ap (λ x. function f h.start a.end None (fill_params bodies (params_of h.params)) x g.bare b.body) q.commas
        ∙ ap (λ x. function f h.start a.end None (fill_params bodies (params_of h.params)) h.comma x b.body) q.bares
        ∙ ap (function f h.start a.end None (fill_params bodies (params_of h.params)) h.comma h.bare) k.same;
  }

  -- over calls that agree, own bodies that agree, and a parser that passes a function's own body over, which is used for its
  -- parameters alone
  module _ {C : Type 0} (judge : Recorded → Reply C) (v u : Env) (sub : (c : Call) → Agrees judge (CallK bodies c) (v.sub c) (u.sub c)) (own : (f : FuncForm) (x y : ℕ) (p q : Bool) → Agrees judge AloneBodyK (v.body f x p) (u.body f y q)) (w : BodyParser) (body : (f : FuncForm) (start : ℕ) (p q : Bool) → Agrees judge (BodyK bodies start) (v.body f start p) (w f start q)) where
    env : AgreesEnv bodies judge v (record { sub = u.sub; body = w })
    env = record { sub = sub; body = body }

    heads_same : (f : FuncForm) → params_head (record { sub = u.sub; body = w }) f ≡ params_head u f
    unfolding Exprs.params_head Exprs.listed_params Exprs.more_params Exprs.params_turn Exprs.params_next Exprs.param_turn Exprs.param_of Exprs.initializer_of
    heads_same f = refl

    heads_agree : (f : FuncForm) → Agrees judge (HeadK bodies) (params_head v f) (params_head u f)
    heads_agree f = subst (λ x. Agrees judge (HeadK bodies) (params_head v f) x) (heads_same f) (params_head_agrees bodies judge v (record { sub = u.sub; body = w }) env f)

    plain_agrees : (f : FuncForm) → Agrees judge AloneK (function_of v f None) (function_of u f None)
    unfolding Exprs.function_of
    plain_agrees f = agrees_bind judge (heads_agree f) (λ h g q. agrees_made judge (function_case f None h) (function_case f None g) (own f h.start g.start (is_simple h.params) (is_simple g.params)) (λ a b k. alone_alike f h g a b q k))

    param_agrees : Agrees judge (ParamTurn bodies) (parser.strict_param v) (parser.strict_param u)
    unfolding parser.strict_param
    param_agrees = agrees_peek judge (λ t.
        agrees_when judge (is_mark mark.ELLIPSIS t.kind) (agrees_made judge (λ n. Stop (Rest n)) (λ n. Stop (Rest n)) (sub ARest) (λ n m e. e))
        (agrees_when judge (is_name t.kind) (agrees_made judge Again Again (sub AParam) (λ a b k. k)) (agrees_bad judge)))

    next_agrees : Agrees judge (ParamTurn bodies) (parser.strict_next v) (parser.strict_next u)
    unfolding parser.strict_next
    next_agrees = agrees_peek judge (λ t. agrees_when judge (is_mark mark.CLOSE_PAREN t.kind) (done bodies judge (Stop Trailing) (Stop Trailing) tt) param_agrees)

    turn_agrees : Agrees judge (ParamTurn bodies) (parser.strict_turn v) (parser.strict_turn u)
    unfolding parser.strict_turn
    turn_agrees = agrees_peek judge (λ t. agrees_when judge (is_mark mark.COMMA t.kind) (agrees_step judge next_agrees) (done bodies judge (Stop Plain) (Stop Plain) tt))

    params_agree : Agrees judge (ParamsK bodies) (parser.strict_params v) (parser.strict_params u)
    unfolding parser.strict_params
    params_agree = agrees_peek judge (λ t. agrees_when judge (is_mark mark.CLOSE_PAREN t.kind) (done bodies judge (stopped Plain) (stopped Plain) (tt, tt)) (agrees_bind judge param_agrees (params_led_agrees bodies judge v (record { sub = u.sub; body = w }) env (parser.strict_turn v) (parser.strict_turn u) turn_agrees)))

    listed_agree : (start : ℕ) → Agrees judge (HeadK bodies) (parser.strict_listed v start) (parser.strict_listed u start)
    unfolding parser.strict_listed
    listed_agree start = agrees_bind judge params_agree (λ m n q. agrees_made judge (λ _. head_case start m) (λ _. head_case start n) (expect_agrees bodies judge mark.CLOSE_PAREN) (λ _ _ _. head_alike bodies start m.items n.items m.last n.last q.0 q.1))

    head_agrees : Agrees judge (HeadK bodies) (parser.strict_head v) (parser.strict_head u)
    unfolding parser.strict_head
    head_agrees = agrees_peek judge (λ t.
        agrees_when judge (is_name t.kind) (agrees_step judge (done bodies judge (bare_head t) (bare_head t) (record { starts = refl; params = (record { names = refl; values = tt; rests = refl }, tt); commas = refl; bares = refl })))
        (agrees_when judge (is_mark mark.OPEN_PAREN t.kind) (agrees_step judge (listed_agree t.start)) (agrees_bad judge)))

    short_agrees : Agrees judge AloneBodyK (bind (spanned (v.sub (AnAssign true))) (λ x. ret (short_body x))) (bind (spanned (u.sub (AnAssign true))) (λ x. ret (short_body x)))
    short_agrees = agrees_made judge short_body short_body (spanned_agrees bodies judge (sub (AnAssign true))) (λ a b k. record { ends = k.ends; same = ap tree.ShortBody k.values.same })

    strict_body_agrees : (h g : Head) → Agrees judge AloneBodyK (parser.strict_body v h) (parser.strict_body u g)
    unfolding parser.strict_body
    strict_body_agrees h g = agrees_peek judge (λ t. agrees_when judge (is_mark mark.OPEN_BRACE t.kind) (own form.Arrow h.start g.start (is_simple h.params) (is_simple g.params)) short_agrees)

    arrow_agrees : Agrees judge AloneK (parser.arrow_alone v) (parser.arrow_alone u)
    unfolding parser.arrow_alone
    arrow_agrees = agrees_bind judge head_agrees (λ h g q. agrees_bind judge (arrow_mark_agrees bodies judge) (λ _ _ _. agrees_made judge (function_case form.Arrow None h) (function_case form.Arrow None g) (strict_body_agrees h g) (λ a b k. alone_alike form.Arrow h g a b q k)))

    pub alone_agrees : (f : FuncForm) → Agrees judge AloneK (parser.alone_of v f) (parser.alone_of u f)
    unfolding parser.alone_of
    alone_agrees f = agrees_bind judge (agrees_when judge (parser.is_arrow_form f) arrow_agrees (plain_agrees f)) (λ a b k. end_agrees bodies judge AloneK a b k)

  module _ (braced : (n : ℕ) → body_ending (bodies n) ≡ BracedArrow) (room : ℕ) where
    own_agrees : (f : FuncForm) (x y : ℕ) (p q : Bool) → Agrees body_in_place AloneBodyK (reading (everything in_place room).stmts f x p) (reading (everything (passed_over bodies) room).stmts f y q)
    own_agrees f x y p q = agrees_map body_in_place own_read (reading_agrees bodies body_in_place (everything in_place room).stmts (everything (passed_over bodies) room).stmts (everything_agrees bodies braced room).stmts f f x y p q)

    pub functions_agree : (f : FuncForm) → Agrees body_in_place AloneK (read_alone in_place room f) (read_alone (passed_over bodies) room f)
    functions_agree f = alone_agrees body_in_place (parser.env_of (reading (everything in_place room).stmts) (everything in_place room)) (parser.env_of (reading (everything (passed_over bodies) room).stmts) (everything (passed_over bodies) room)) (everything_agrees bodies braced room).exprs own_agrees (passing bodies room) (λ f start p q. body_agrees bodies braced room f start p q (λ ts. silent (own_agrees f start start p q) ts)) f
