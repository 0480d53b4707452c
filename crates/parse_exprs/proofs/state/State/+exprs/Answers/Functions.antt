-- Functions, their parameters and bodies, arrows among them.
use Rattle.parse_exprs.proofs.FuncParts.{body_maps, body_read, refused_behind}
use Rattle.parse_exprs.proofs.LastEnds.{refused_spanned, spanned_read}
use Rattle.parse_exprs.proofs.Locals.{env_local}
use Rattle.parse_exprs.proofs.Made.{made_answers}
use Rattle.parse_exprs.proofs.Onward.{items_maps, onward, onward_false, onward_true}
use Rattle.parse_exprs.proofs.ParamParts.{again_read, end_maps, head_reads, many_read, simple_same}
use Rattle.parse_exprs.proofs.Steps.{handed, just, made, read_at, refused, then, when_false, when_true}
use Rattle.parse_exprs.specs.Answers.{Makes, ReadAs, Refuses, records}
use Rattle.parse_exprs.specs.Env.{body_at, env_at}
use Rattle.parse_exprs.specs.Means.{ArrowBodyOf, ItemsOf, Itself, ParamsEndOf, ParamsOf, RankedOf}
use Rattle.parse_exprs.specs.Source.{front}
use Rattle.grammar_parser_specs.specs.Exprs.{AnAssign}
use Rattle.grammar_parser_specs.specs.Parser.{head_of, ret}
use Rattle.script_grammar.specs.Lexeme.{Lexeme}
use Rattle.script_grammar.specs.Shows.{FuncOf, ShowParam}
use Rattle.std.proofs.Common.{Err, None, ap, refl, subst, sym, ◌-◌, ◌∙◌, ◌≡◌}
use Rattle.grammar_parser_specs.specs.Exprs as pure
use Rattle.script_grammar.specs.Kinds as test
use Rattle.script_grammar.specs.Tree as model
use Rattle.script_grammar.specs.declared.token.FuncForm.TheVariants as form
use Rattle.script_grammar.specs.declared.token.mark.TheConstants as mark
use Rattle.parse_exprs.proofs.state.State.+exprs.Goals as goal

pub arrow-returns : goal.arrow-returns
unfolding pure.arrow_of
arrow-returns g t c = λ i.
    let a = c.in_ok-head.ensures i in
    let h : pure.Head = record { start = c.in_ok-head.head.start; params = a.0; comma = c.in_ok-head.head.comma; bare = c.in_ok-head.head.bare } in
    let b = body_read i (g.H.Handler.shows_expr i) (g.H.Handler.shows_body i) c.in_ok-head.head.start c.in_ok-body.body.body (c.in_ok-body.ensures i h refl (c.is_simple.ensures ∙ simple_same i (g.H.Handler.shows_expr i) c.in_ok-head.head.params.items a.0 a.1)) in
    let f = pure.function_case form.Arrow None h (record { body = b.0; end = c.in_ok-body.body.end }) in
    let shown = body_maps i (g.H.Handler.shows_expr i) (g.H.Handler.shows_body i) c.in_ok-head.head.start c.in_ok-body.body.body (λ x. b.0 ≡ x) (λ x. f ≡ pure.function_case form.Arrow None h (record { body = x; end = c.in_ok-body.body.end })) (λ x e. ap (λ y. pure.function_case form.Arrow None h (record { body = y; end = c.in_ok-body.body.end })) e) b.1 in
    (model.Func h.start f, c.in_ok-node.ensures i f (a.0, a.1, shown), refl, b.2, then _ a.2 (then _ (c.in_ok-arrow_mark.ensures i) (made _ b.3)))

pub arrow-returns-in_err-body : goal.arrow-returns-in_err-body
unfolding pure.arrow_of
arrow-returns-in_err-body g t c = λ i.
    let s = c.args.source.now in
    let p = c.arrow_body.new.self.place in
    let rs = records s i c.args.self.now.place in
    let a = c.in_ok-head.ensures i in
    let k = c.in_err-body.ensures i (record { start = c.in_ok-head.head.start; params = a.0; comma = c.in_ok-head.head.comma; bare = c.in_ok-head.head.bare }) refl (c.is_simple.ensures ∙ simple_same i (g.H.Handler.shows_expr i) c.in_ok-head.head.params.items a.0 a.1) in
    handed s i p c.in_err-body.field-0.0 c.from_residual-in_err-body.result (RankedOf (g.H.Handler.shows_expr i)) rs _ c.from_residual-in_err-body.ensures.1
    (refused_behind s i p c.in_err-body.field-0.0 rs _ _ a.2 (refused_behind s i p c.in_err-body.field-0.0 _ _ _ (c.in_ok-arrow_mark.ensures i) (refused s i p c.in_err-body.field-0.0 _ _ _ k)))

pub arrow_body-returns : goal.arrow_body-returns
unfolding pure.arrow_body
arrow_body-returns g t c = λ i h e f.
    let a = c.in_ok-value.ensures i in
    let v = env_at i c.args.depth in
    let b = spanned_read c.args.source.now i (v.sub (AnAssign c.args.with_in)) ((env_local i c.args.depth).eats (AnAssign c.args.with_in)) _ _ c.args.self.now.place.at c.assign.new.self.place.at a.0 a.4 in
    (a.0, a.1, (a.3, rw c.end_before-end.ensures (when_false _ _ (sym (c.is_mark.ensures i) ∙ c.if-is_mark.false) (made _ b))))

pub arrow_body-returns-in_err-end : goal.arrow_body-returns-in_err-end
unfolding pure.arrow_body
arrow_body-returns-in_err-end g t c = λ i h e f.
    let s = c.args.source.now in
    let p = c.pass_body.new.self in
    let rs = records s i c.args.self.now.place in
    let v = env_at i c.args.depth in
    let ts = front s i c.args.self.now.place.at in
    let k = subst (λ b. Refuses s i p c.in_err-end.field-0.0 rs (v.body form.Arrow h.start b ts)) f (c.in_err-end.ensures i h.start) in
    handed s i p c.in_err-end.field-0.0 c.from_residual.result (ArrowBodyOf i (g.H.Handler.shows_expr i) (g.H.Handler.shows_body i) c.args.start) rs _ c.from_residual.ensures.1
    (onward_true (Itself {A = pure.BodyRead}) s i p (Err c.in_err-end.field-0.0) rs ts _ _ (sym (c.is_mark.ensures i) ∙ c.if-is_mark.true) k)

pub arrow_body-returns-in_err-value : goal.arrow_body-returns-in_err-value
unfolding pure.arrow_body
arrow_body-returns-in_err-value g t c = λ i h e f.
    let s = c.args.source.now in
    let p = c.assign.new.self.place in
    let x = c.in_err-value.field-0.0 in
    let rs = records s i c.args.self.now.place in
    let ts = front s i c.args.self.now.place.at in
    handed s i p x c.from_residual-in_err-value.result (ArrowBodyOf i (g.H.Handler.shows_expr i) (g.H.Handler.shows_body i) c.args.start) rs _ c.from_residual-in_err-value.ensures.1
    (onward_false (Itself {A = pure.BodyRead}) s i p (Err x) rs ts _ _ (sym (c.is_mark.ensures i) ∙ c.if-is_mark.false)
    (refused s i p x rs _ (λ b. ret (pure.short_body b)) (refused_spanned s i p x rs ((env_at i c.args.depth).sub (AnAssign c.args.with_in)) ts (c.in_err-value.ensures i))))

pub arrow_body-returns-then-is_mark : goal.arrow_body-returns-then-is_mark
unfolding pure.arrow_body
arrow_body-returns-then-is_mark g t c = λ i h e f.
    let s = c.args.source.now in
    let v = env_at i c.args.depth in
    let ts = front s i c.args.self.now.place.at in
    let k = subst (λ n. ReadAs (records s i c.args.self.now.place) (v.body form.Arrow h.start c.args.simple ts) (record { body = body_at i n; end = c.in_ok-end.end }) (records s i c.pass_body.new.self) (front s i c.pass_body.new.self.at)) (sym e) (c.in_ok-end.ensures i h.start) in
    (refl, when_true _ _ (sym (c.is_mark.ensures i) ∙ c.if-is_mark.true) (subst (λ b. ReadAs (records s i c.args.self.now.place) (v.body form.Arrow h.start b ts) (record { body = body_at i c.args.start; end = c.in_ok-end.end }) (records s i c.pass_body.new.self) (front s i c.pass_body.new.self.at)) f k))

pub arrow_head-returns-then-is_mark : goal.arrow_head-returns-then-is_mark
unfolding pure.arrow_head pure.arrow_listed
arrow_head-returns-then-is_mark g t c = λ i.
    let s = c.args.source.now in
    let ts = front s i c.args.self.now.place.at in
    let rs = records s i c.args.self.now.place in
    let p = c.expect.new.self in
    let shows = g.H.Handler.shows_expr i in
    let same = c.token-token.ensures.lexeme i in
    let a = rw (c.step-then-is_mark.ensures.at i, c.step-then-is_mark.ensures.records i) at (c.in_ok-read.ensures i) in
    let b = many_read i c.in_ok-read.read.last a.2 in
    let makes = subst (λ n. Makes c.ended.result (λ p. ParamsOf i shows p (λ h. pure.head_case n (record { items = a.0; last = b.0 }) ≡ h))) (ap (λ (x : Lexeme). x.start) same) (c.ended.ensures i (record { items = a.0; last = b.0 }) a.1 b.1) in
    let no_name = ap (λ (x : Lexeme). test.is_name x.kind) (sym same) ∙ sym c.is_name.ensures ∙ c.if-is_name.false in
    let is = ap (λ (x : Lexeme). test.is_mark mark.OPEN_PAREN x.kind) (sym same) ∙ sym c.is_mark.ensures ∙ c.if-is_mark.true in
    made_answers (ParamsOf i shows) _ s i p c.ended.result rs _ makes (λ e x. head_reads i shows e (pure.head_case (head_of ts).start (record { items = a.0; last = b.0 })) x (when_false _ _ no_name (when_true _ _ is (then _ b.2 (made _ (c.in_ok-expect.ensures i))))))

pub arrow_head-returns-then-is_name : goal.arrow_head-returns-then-is_name
unfolding pure.arrow_head
arrow_head-returns-then-is_name g t c = λ i.
    let s = c.args.source.now in
    let ts = front s i c.args.self.now.place.at in
    let rs = records s i c.args.self.now.place in
    let p = c.step.new.self in
    let same = c.token-token.ensures.lexeme i in
    let makes = subst (λ t. Makes c.bare.result (λ p. ParamsOf i (g.H.Handler.shows_expr i) p (λ h. pure.bare_head t ≡ h))) same (c.bare.ensures i s.get s.set) in
    let is = ap (λ (x : Lexeme). test.is_name x.kind) (sym same) ∙ sym c.is_name.ensures ∙ c.if-is_name.true in
    made_answers (ParamsOf i (g.H.Handler.shows_expr i)) _ s i p c.bare.result rs _ makes (λ e x. head_reads i (g.H.Handler.shows_expr i) e (pure.bare_head (head_of ts)) x (read_at (when_true _ _ is (just _ _ _)) (c.step.ensures.records i) (c.step.ensures.at i)))

pub arrow_params-returns-in-Next : goal.arrow_params-returns-in-Next
unfolding pure.arrow_params
arrow_params-returns-in-Next g t c = λ i.
    let n = rw c.in-Next.is at (c.in_ok-first.ensures i) in
    let a = again_read i (g.H.Handler.shows_expr i) c.in-Next.first n in
    let gives = ItemsOf (ShowParam i (g.H.Handler.shows_expr i)) (ParamsEndOf i) in
    let s = c.args.source.now in
    let rs = records s i c.args.self.now.place in
    let ts = front s i c.args.self.now.place.at in
    onward_false gives s i c.arrow_led.new.self.place c.arrow_led.result rs ts _ _ (sym (c.is_mark.ensures i) ∙ c.if-is_mark.false)
    (onward gives s i c.arrow_led.new.self.place c.arrow_led.result rs _ (pure.params_led (pure.arrow_turn (env_at i c.args.depth))) (items_maps (ShowParam i (g.H.Handler.shows_expr i)) (ParamsEndOf i) (end_maps i)) a.2 (c.arrow_led.ensures i a.0 a.1))

pub function-returns-in_err-end : goal.function-returns-in_err-end
unfolding pure.function_of
function-returns-in_err-end g t c = λ i.
    let s = c.args.source.now in
    let p = c.pass_body.new.self in
    let a = c.in_ok-head.ensures i in
    let k = rw (c.is_simple.ensures ∙ simple_same i (g.H.Handler.shows_expr i) c.in_ok-head.head.params.items a.0 a.1) at (c.in_err-end.ensures i c.in_ok-head.head.start) in
    handed s i p c.in_err-end.field-0.0 c.from_residual-in_err-end.result (FuncOf i (g.H.Handler.shows_expr i) (g.H.Handler.shows_body i)) (records s i c.args.self.now.place) _ c.from_residual-in_err-end.ensures.1
    (refused_behind s i p c.in_err-end.field-0.0 (records s i c.args.self.now.place) _ _ a.2 (refused s i p c.in_err-end.field-0.0 _ _ _ k))

pub listed_params-returns : goal.listed_params-returns
unfolding pure.listed_params
listed_params-returns g t c = λ i.
    let gives = ParamsOf i (g.H.Handler.shows_expr i) in
    let a = c.in_ok-read.ensures i in
    let b = many_read i c.in_ok-read.read.last a.2 in
    made_answers gives _ c.args.source.now i c.expect.new.self c.ended.result (records c.args.source.now i c.args.self.now.place) _ (c.ended.ensures i (record { items = a.0; last = b.0 }) a.1 b.1)
    (λ e x. head_reads i (g.H.Handler.shows_expr i) e (pure.head_case c.args.start (record { items = a.0; last = b.0 })) x (then _ b.2 (made _ (c.in_ok-expect.ensures i))))

pub more_params-returns-in-Next : goal.more_params-returns-in-Next
unfolding pure.more_params
more_params-returns-in-Next g t c = λ i.
    let n = rw c.in-Next.is at (c.in_ok-first.ensures i) in
    let a = again_read i (g.H.Handler.shows_expr i) c.in-Next.first n in
    let gives = ItemsOf (ShowParam i (g.H.Handler.shows_expr i)) (ParamsEndOf i) in
    let s = c.args.source.now in
    let rs = records s i c.args.self.now.place in
    let ts = front s i c.args.self.now.place.at in
    onward_false gives s i c.params_led.new.self.place c.params_led.result rs ts _ _ (sym (c.is_mark.ensures i) ∙ c.if-is_mark.false)
    (onward gives s i c.params_led.new.self.place c.params_led.result rs _ (pure.params_led (pure.params_turn (env_at i c.args.depth))) (items_maps (ShowParam i (g.H.Handler.shows_expr i)) (ParamsEndOf i) (end_maps i)) a.2 (c.params_led.ensures i a.0 a.1))
