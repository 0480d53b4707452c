-- A function that is read alone, its own statements by both parsers: what is read lists the bodies that were recorded, which are
-- those in its parameters and those inside its own body.
use Rattle.std.proofs.Common.{◌≡◌, ℕ, List, [], refl, sym, ◌∙◌, subst, Bool, true, None}
use Rattle.script_grammar.specs.declared.token.FuncForm.{FuncForm}
use Rattle.script_grammar.specs.declared.token.FuncForm.TheVariants as form
use Rattle.script_grammar.specs.declared.token.mark.TheConstants as mark
use Rattle.script_grammar.specs.Kinds.{is_mark, is_name}
use Rattle.script_grammar.specs.Tree.{Body, Function, function}
use Rattle.script_grammar.specs.Pieces.{BracedArrow}
use Rattle.script_grammar.specs.Endings.{body_ending}
use Rattle.grammar_parser_specs.specs.Parser.{Recorded, Reply, ret, bind, Again, Stop, stopped}
use Rattle.grammar_parser_specs.specs.Exprs
use Rattle.grammar_parser_specs.specs.Exprs.{Env, Call, AnAssign, AParam, ARest, BodyParser, BodyRead, Plain, Trailing, Rest, Head, passing, spanned, head_case, bare_head, function_case, is_simple, short_body, params_head, function_of}
use Rattle.grammar_parser_specs.specs.Stmts as parser
use Rattle.grammar_parser_specs.specs.Stmts.{everything, in_place, reading, read_alone}
use Rattle.grammar_local_laws.proofs.Alike.{BodyK, HeadK, head_alike}
use Rattle.grammar_parser_specs.specs.Parser.{Read, Bad, Deep, Parser}
use Rattle.script_grammar.specs.Lexeme.{Lexeme}
use Rattle.grammar_local_laws.proofs.Alike.{AnyK}
use Rattle.grammar_local_laws.proofs.Agrees.{Verdict, fine, bad_at, deep_at, judged, records, MeetsAt, Agrees}
use Rattle.grammar_local_laws.proofs.AgreesExprs.{CallK, ParamTurn, ParamsK}
use Rattle.grammar_local_laws.proofs.AgreesScripts.{body_in_place, passed_over}
use Rattle.grammar_script_laws.proofs.AgreesAlone.{AloneK, functions_agree}
use Rattle.script_grammar.specs.Braced.{in_params}
use Rattle.parse_pending_laws.proofs.Lists.{Bodies, as_is, in_none, in_turn, in_many, ListsAt, Lists, lists_then, lists_more, lists_map, lists_ret, lists_bad, lists_peek, lists_step, lists_when}
use Rattle.parse_pending_laws.proofs.ListedParts.{in_param, in_head, in_own, params_listed, head_listed}
use Rattle.parse_pending_laws.proofs.ListsExprs.{ListsEnv, in_call, expect_lists, params_led_lists, params_head_lists}
use Rattle.parse_pending_laws.proofs.ListsCalls.{spanned_lists, arrow_mark_lists}
use Rattle.parse_pending_laws.proofs.ListsStmts.{in_inside, in_inner, end_lists, reading_lists}
use Rattle.parse_pending_laws.proofs.ListsScripts.{body_lists, everything_lists}

-- the bodies in a function that is read alone, but for its own
abbrev pub in_alone : Bool → Bodies Function
in_alone nested (function f start end name ps comma bare body) r = in_params nested ps (in_inside nested body r)

-- of parsers that agree, where what they read lists the bodies
with_agreed : (nested : Bool) {A B : Type 0} (K : A → B → Type 0) (w : Bodies A) (e : Parser A) (l : Parser B) → Agrees body_in_place K e l → Lists nested body_in_place AnyK as_is w e l → Lists nested body_in_place K as_is w e l
with_agreed nested {A} {B} K w e l m h = record { at = λ ts. by (judged body_in_place (records (l ts))) (e ts) (l ts) (m.at ts) (h.at ts) }
  where
    same_value : (a c : A) (us : List Lexeme) → ◌≡◌ {A = Reply A} (Read a [] us) (Read c [] us) → a ≡ c
    same_value a c us q = cc

    by : (v : Verdict) (r : Reply A) (s : Reply B) → MeetsAt body_in_place K v r s → ListsAt nested body_in_place AnyK as_is w v r s → ListsAt nested body_in_place K as_is w v r s
    by fine r (Read b rs us) n o = (o.0, o.1, subst (λ x. K x b) (same_value n.0 o.0 us (sym n.1 ∙ o.1)) n.2, o.3)
    by fine r (Bad rs us) n o = n
    by fine r (Deep rs us) n o = n
    by (bad_at vs) r s n o = n
    by (deep_at vs) r s n o = n

module _ (nested : Bool) (bodies : ℕ → Body) where
  -- over calls and own bodies that list their bodies, and a parser that passes a function's own body over, which is used for its
  -- parameters alone
  module _ (judge : Recorded → Reply BodyRead) (v u : Env) (sub : (c : Call) → Lists nested judge (CallK bodies c) as_is (in_call nested c) (v.sub c) (u.sub c)) (own : (f : FuncForm) (x y : ℕ) (p q : Bool) → Lists nested judge AnyK as_is (in_inner nested) (v.body f x p) (u.body f y q)) (w : BodyParser) (body : (f : FuncForm) (start : ℕ) (p q : Bool) → Lists nested judge (BodyK bodies start) as_is (in_own nested) (v.body f start p) (w f start q)) where
    env : ListsEnv nested bodies judge v (record { sub = u.sub; body = w })
    env = record { sub = sub; body = body }

    heads_same : (f : FuncForm) → params_head (record { sub = u.sub; body = w }) f ≡ params_head u f
    unfolding Exprs.params_head Exprs.listed_params Exprs.more_params Exprs.params_turn Exprs.params_next Exprs.param_turn Exprs.param_of Exprs.initializer_of
    heads_same f = refl

    heads_list : (f : FuncForm) → Lists nested judge (HeadK bodies) as_is (in_head nested) (params_head v f) (params_head u f)
    heads_list f = subst (λ x. Lists nested judge (HeadK bodies) as_is (in_head nested) (params_head v f) x) (heads_same f) (params_head_lists nested bodies judge v (record { sub = u.sub; body = w }) env f)

    plain_lists : (f : FuncForm) → Lists nested judge AnyK as_is (in_alone nested) (function_of v f None) (function_of u f None)
    unfolding Exprs.function_of
    plain_lists f = lists_then nested judge (heads_list f) (λ h g q. lists_more nested judge (function_case f None h) (function_case f None g) (own f h.start g.start (is_simple h.params) (is_simple g.params)) (λ _ _ _. tt) (λ b r. params_listed nested h.params (in_inner nested b r)))

    param_lists : Lists nested judge (ParamTurn bodies) as_is (in_turn (in_param nested) in_none) (parser.strict_param v) (parser.strict_param u)
    unfolding parser.strict_param
    param_lists = lists_peek nested judge (λ t.
        lists_when nested judge (is_mark mark.ELLIPSIS t.kind) (lists_more nested judge (λ n. Stop (Rest n)) (λ n. Stop (Rest n)) (sub ARest) (λ n m e. e) (λ _ _. refl))
        (lists_when nested judge (is_name t.kind) (lists_more nested judge Again Again (sub AParam) (λ a b k. k) (λ _ _. refl)) (lists_bad nested judge)))

    next_lists : Lists nested judge (ParamTurn bodies) as_is (in_turn (in_param nested) in_none) (parser.strict_next v) (parser.strict_next u)
    unfolding parser.strict_next
    next_lists = lists_peek nested judge (λ t. lists_when nested judge (is_mark mark.CLOSE_PAREN t.kind) (lists_ret nested judge (Stop Trailing) (Stop Trailing) tt (λ _. refl)) param_lists)

    turn_lists : Lists nested judge (ParamTurn bodies) as_is (in_turn (in_param nested) in_none) (parser.strict_turn v) (parser.strict_turn u)
    unfolding parser.strict_turn
    turn_lists = lists_peek nested judge (λ t. lists_when nested judge (is_mark mark.COMMA t.kind) (lists_step nested judge next_lists) (lists_ret nested judge (Stop Plain) (Stop Plain) tt (λ _. refl)))

    params_list : Lists nested judge (ParamsK bodies) as_is (in_many (in_param nested) in_none) (parser.strict_params v) (parser.strict_params u)
    unfolding parser.strict_params
    params_list = lists_peek nested judge (λ t. lists_when nested judge (is_mark mark.CLOSE_PAREN t.kind) (lists_ret nested judge (stopped Plain) (stopped Plain) (tt, tt) (λ _. refl)) (lists_then nested judge param_lists (params_led_lists nested bodies judge v (record { sub = u.sub; body = w }) env (parser.strict_turn v) (parser.strict_turn u) turn_lists)))

    listed_list : (start : ℕ) → Lists nested judge (HeadK bodies) as_is (in_head nested) (parser.strict_listed v start) (parser.strict_listed u start)
    unfolding parser.strict_listed
    listed_list start = lists_then nested judge params_list (λ m n q. lists_more nested judge (λ _. head_case start m) (λ _. head_case start n) (expect_lists nested bodies judge mark.CLOSE_PAREN) (λ _ _ _. head_alike bodies start m.items n.items m.last n.last q.0 q.1) (λ _ r. head_listed nested m.items m.last r))

    head_lists : Lists nested judge (HeadK bodies) as_is (in_head nested) (parser.strict_head v) (parser.strict_head u)
    unfolding parser.strict_head
    head_lists = lists_peek nested judge (λ t.
        lists_when nested judge (is_name t.kind) (lists_step nested judge (lists_ret nested judge (bare_head t) (bare_head t) (record { starts = refl; params = (record { names = refl; values = tt; rests = refl }, tt); commas = refl; bares = refl }) (λ _. refl)))
        (lists_when nested judge (is_mark mark.OPEN_PAREN t.kind) (lists_step nested judge (listed_list t.start)) (lists_bad nested judge)))

    short_lists : Lists nested judge AnyK as_is (in_inner nested) (bind (spanned (v.sub (AnAssign true))) (λ x. ret (short_body x))) (bind (spanned (u.sub (AnAssign true))) (λ x. ret (short_body x)))
    short_lists = lists_more nested judge short_body short_body (spanned_lists nested bodies judge (sub (AnAssign true))) (λ _ _ _. tt) (λ _ _. refl)

    strict_body_lists : (h g : Head) → Lists nested judge AnyK as_is (in_inner nested) (parser.strict_body v h) (parser.strict_body u g)
    unfolding parser.strict_body
    strict_body_lists h g = lists_peek nested judge (λ t. lists_when nested judge (is_mark mark.OPEN_BRACE t.kind) (own form.Arrow h.start g.start (is_simple h.params) (is_simple g.params)) short_lists)

    arrow_lists : Lists nested judge AnyK as_is (in_alone nested) (parser.arrow_alone v) (parser.arrow_alone u)
    unfolding parser.arrow_alone
    arrow_lists = lists_then nested judge head_lists (λ h g q. lists_then nested judge (arrow_mark_lists nested bodies judge) (λ _ _ _. lists_more nested judge (function_case form.Arrow None h) (function_case form.Arrow None g) (strict_body_lists h g) (λ _ _ _. tt) (λ b r. params_listed nested h.params (in_inner nested b r))))

    pub alone_lists : (f : FuncForm) → Lists nested judge AnyK as_is (in_alone nested) (parser.alone_of v f) (parser.alone_of u f)
    unfolding parser.alone_of
    alone_lists f = lists_then nested judge (lists_when nested judge (parser.is_arrow_form f) arrow_lists (plain_lists f)) (λ a b k. end_lists nested bodies judge AnyK a b tt (λ _. refl))

  module _ (braced : (n : ℕ) → body_ending (bodies n) ≡ BracedArrow) (room : ℕ) where
    own_lists : (f : FuncForm) (x y : ℕ) (p q : Bool) → Lists nested body_in_place AnyK as_is (in_inner nested) (reading (everything in_place room).stmts f x p) (reading (everything (passed_over bodies) room).stmts f y q)
    own_lists f x y p q = lists_map nested body_in_place (λ _ _ _. tt) (reading_lists nested bodies body_in_place (everything in_place room).stmts (everything (passed_over bodies) room).stmts (everything_lists nested bodies braced room).stmts f f x y p q)

    listed_alone : (f : FuncForm) → Lists nested body_in_place AnyK as_is (in_alone nested) (read_alone in_place room f) (read_alone (passed_over bodies) room f)
    listed_alone f = alone_lists body_in_place (parser.env_of (reading (everything in_place room).stmts) (everything in_place room)) (parser.env_of (reading (everything (passed_over bodies) room).stmts) (everything (passed_over bodies) room)) (everything_lists nested bodies braced room).exprs own_lists (passing bodies room) (λ f start p q. body_lists nested bodies braced room f start p q) f

    pub functions_list : (f : FuncForm) → Lists nested body_in_place (AloneK bodies) as_is (in_alone nested) (read_alone in_place room f) (read_alone (passed_over bodies) room f)
    functions_list f = with_agreed nested (AloneK bodies) (in_alone nested) (read_alone in_place room f) (read_alone (passed_over bodies) room f) (functions_agree bodies braced room f) (listed_alone f)
