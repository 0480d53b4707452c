use Rattle.parse_exprs.proofs.Calls.{answers_inside, refuses_none}
use Rattle.parse_exprs.proofs.ChainExits.{atom_rank, tail_shown}
use Rattle.parse_exprs.proofs.Climbing.{read_by, tight}
use Rattle.parse_exprs.proofs.EndLoops.{ends_again, ends_init, ends_stop, last_more, operands_more}
use Rattle.parse_exprs.proofs.Exits.{more_turn_next, op_turn_next, power_turn_last, power_turn_next, tail_turn_call}
use Rattle.parse_exprs.proofs.FuncParts.{func_ending, func_rank, func_read, function_form}
use Rattle.parse_exprs.proofs.KeyParts.{key_read, or_none}
use Rattle.parse_exprs.proofs.ListExits.{all_both, made_failed}
use Rattle.parse_exprs.proofs.Locals.{env_local}
use Rattle.parse_exprs.proofs.Loops.{again_shorter, all_more, fewer_left, looping_again, looping_failed, looping_failed_in, looping_init, looping_led, looping_stop}
use Rattle.parse_exprs.proofs.Made.{made_answers}
use Rattle.parse_exprs.proofs.Onward.{onward, part_maps, turn_maps}
use Rattle.parse_exprs.proofs.ParamParts.{again_read, again_reads, many_reads, param_read, simple_same, stop_read}
use Rattle.parse_exprs.proofs.RankFacts.{begins_rank, raises_rank}
use Rattle.parse_exprs.proofs.Shown.{maybe_shown, maybe_stands}
use Rattle.parse_exprs.proofs.Steps.{expect_read, just, made, read_at, then, when_false, when_true}
use Rattle.parse_exprs.specs.Answers.{Answers, records}
use Rattle.parse_exprs.specs.Env.{env_at}
use Rattle.parse_exprs.specs.Means.{AtomOf, EndsOf, ItemsOf, Itself, ListOf, OperandsOf, ParamsEndOf, RankedOf, ShowRanked, TurnOf, ending_as}
use Rattle.parse_exprs.specs.Ranks.{begins, raises}
use Rattle.parse_exprs.specs.Source.{front}
use Rattle.grammar_local_laws.proofs.LocalArrows.{arrow_turn_gains}
use Rattle.grammar_local_laws.proofs.LocalExprs.{args_turn_gains, item_turn_gains, lead_turn_gains, level_local, member_turn_gains, more_turn_gains, op_turn_gains, params_turn_gains, part_turn_gains, power_turn_gains, props_turn_gains, tail_turn_gains}
use Rattle.grammar_parser_specs.specs.Exprs.{ANew, AParam, APrefix, AnAssign, args_next, args_of, args_turn, array_case, array_of, atom_case, begins_assign, chain_case, comma_case, expr_of, is_atom, is_op, items_from, lead_item, lead_items, lead_turn, left_of, level_of, list_case, more_args, new_args, new_or_prim, paren_of, part_end, part_turn, power_of, prim_of, template_of, with_last}
use Rattle.grammar_parser_specs.specs.Parser.{head_of, ret}
use Rattle.script_grammar.specs.Endings.{last_ending, operands_ending}
use Rattle.script_grammar.specs.Interpretation.{named, text_of}
use Rattle.script_grammar.specs.Kinds.{is_mark, is_name, is_word}
use Rattle.script_grammar.specs.Lexeme.{Lexeme, lexeme_of}
use Rattle.script_grammar.specs.Shows.{MaybeOf, ParamOf, PartOf, ShowAll, ShowMaybe, ShowOperand, ShowParam, ShowPart, ShowTail}
use Rattle.script_grammar.specs.TreeLists.{Operand, Part, exprs_of, operands_of, parts_of, props_of}
use Rattle.std.proofs.Common.{None, [], ap, arith, false, refl, subst, sym, ◌++◌, ◌-◌, ◌∙◌, ◌∷◌, ◌≡◌}
use Rattle.grammar_parser_specs.specs.Exprs as pure
use Rattle.script_grammar.specs.Tree as model
use Rattle.script_grammar.specs.declared.token.mark.TheConstants as mark
use Rattle.script_grammar.specs.declared.token.word.TheConstants as word
use Rattle.parse_exprs.proofs.state.State.+exprs.Answers.Functions as functions
use Rattle.parse_exprs.proofs.state.State.+exprs.Answers.Operators as operators
use Rattle.parse_exprs.proofs.state.State.+exprs.Answers.Properties as properties
use Rattle.parse_exprs.proofs.state.State.+exprs.Goals as goal
mod Functions
mod Operators
mod Properties

pub args-returns : goal.args-returns
unfolding args_of more_args
args-returns g t c = λ i.
    let a = c.in_ok-first.ensures i in
    let l = c.in_ok-args.ensures i a.0 a.1 in
    (l.0, l.1, then _ (when_false _ _ (sym (c.is_mark.ensures i) ∙ c.if-is_mark.false) (then _ a.4 l.2)) (made _ (c.in_ok-expect.ensures i)))

pub args-returns-then-is_mark : goal.args-returns-then-is_mark
unfolding args_of more_args
args-returns-then-is_mark g t c = λ i.
    let yes = sym (c.is_mark.ensures i) ∙ c.if-is_mark.true in
    rw c.new.ensures.items ([], tt, read_at (then _ (when_true _ _ yes (just _ _ _)) (made _ (expect_read _ _ _ yes))) (c.step.ensures.records i) (c.step.ensures.at i))

pub args_led-loop-items-init : goal.args_led-loop-items-init
args_led-loop-items-init g t c = λ i t m. rw (c.in_ok-push.ensures.items, c.new-items.ensures.items) (looping_led _ _ _ _ _ _ m)

pub args_led-loop-items-preserved : goal.args_led-loop-items-preserved
args_led-loop-items-preserved g t c = λ i t m. let a = rw c.in-Next.is at (c.in_ok-item.ensures i) in
    rw c.in_ok-push-in-Next.ensures.items (looping_again _ a.0 (args_turn_gains (env_at i c.args.depth) (env_local i c.args.depth)) (c.loop-items.invariant i t m) a.2 a.1)

pub args_led-loop-items-smaller : goal.args_led-loop-items-smaller
args_led-loop-items-smaller g t c = fewer_left c.args.source.now _ _ (λ i. let a = rw c.in-Next.is at (c.in_ok-item.ensures i) in again_shorter _ (args_turn_gains (env_at i c.args.depth) (env_local i c.args.depth)) _ _ _ _ a.0 a.2)

pub args_led-returns-in-Last : goal.args_led-returns-in-Last
args_led-returns-in-Last g t c = λ i t m. let b = rw c.in-Last.is at (c.in_ok-item.ensures i) in looping_stop _ (c.loop-items.invariant i t m) b

pub args_led-returns-in_err-item : goal.args_led-returns-in_err-item
args_led-returns-in_err-item g t c = λ i t m. looping_failed c.args.source.now i c.args_turn.new.self.place c.in_err-item.field-0.0 c.from_residual-in_err-item.result (ItemsOf (g.H.Handler.shows_expr i) Itself) c.from_residual-in_err-item.ensures.1 (c.loop-items.invariant i t m) (c.in_err-item.ensures i)

pub args_turn-returns : goal.args_turn-returns
unfolding args_turn args_next
args_turn-returns g t c = λ i. let a = c.in_ok-item.ensures i in
    (a.0, a.1, when_true _ _ (sym (c.is_mark.ensures i) ∙ c.if-not-is_mark.false) (rw (sym (c.step.ensures.at i), sym (c.step.ensures.records i)) (when_false _ _ (sym (c.is_mark-2.ensures i) ∙ c.if-is_mark.false) (made _ a.4))))

pub array-returns : goal.array-returns
unfolding array_of
array-returns g t c = λ i.
    let a = c.in_ok-read.ensures i in
    let b = maybe_shown (g.H.Handler.shows_expr i) c.in_ok-read.read.last _ a.2 in
    made_answers (AtomOf (g.H.Handler.shows_expr i)) (λ e. g.H.Handler.shows_expr i e (array_case c.args.at a.0 b.0)) c.args.source.now i c.make_array.new.self.place c.make_array.result (records c.args.source.now i c.args.self.now.place) _ (c.make_array.ensures.makes i a.0 b.0 a.1 b.1)
    (λ e p. (array_case c.args.at a.0 b.0, p, refl, refl, rw c.make_array.ensures.place (then _ b.2 (made _ (c.in_ok-expect.ensures i)))))

pub array_items-loop-items-init : goal.array_items-loop-items-init
array_items-loop-items-init g t c = λ i. rw c.new-items.ensures.items (looping_init _ _ _ _)

pub array_items-loop-items-preserved : goal.array_items-loop-items-preserved
array_items-loop-items-preserved g t c = λ i. let n = rw c.in-Next.is at (c.in_ok-item.ensures i) in let a = maybe_shown (g.H.Handler.shows_expr i) c.in-Next.item _ n in
    rw c.in_ok-push-in-Next.ensures.items (looping_again _ a.0 (item_turn_gains (env_at i c.args.depth) (env_local i c.args.depth)) (c.loop-items.invariant i) a.2 a.1)

pub array_items-loop-items-smaller : goal.array_items-loop-items-smaller
array_items-loop-items-smaller g t c = fewer_left c.args.source.now _ _ (λ i. let n = rw c.in-Next.is at (c.in_ok-item.ensures i) in let a = maybe_shown (g.H.Handler.shows_expr i) c.in-Next.item _ n in again_shorter _ (item_turn_gains (env_at i c.args.depth) (env_local i c.args.depth)) _ _ _ _ a.0 a.2)

pub array_items-returns-in-Last : goal.array_items-returns-in-Last
array_items-returns-in-Last g t c = λ i. let n = rw c.in-Last.is at (c.in_ok-item.ensures i) in let b = maybe_shown (g.H.Handler.shows_expr i) c.in-Last.last _ n in let x = looping_stop b.0 (c.loop-items.invariant i) b.2 in (x.0, x.1, maybe_stands (g.H.Handler.shows_expr i) c.in-Last.last b.0 _ b.1 x.2)

pub array_items-returns-in_err-item : goal.array_items-returns-in_err-item
array_items-returns-in_err-item g t c = λ i. looping_failed c.args.source.now i c.item_turn.new.self.place c.in_err-item.field-0.0 c.from_residual.result (ItemsOf (ShowMaybe (g.H.Handler.shows_expr i)) (MaybeOf (g.H.Handler.shows_expr i))) c.from_residual.ensures.1 (c.loop-items.invariant i) (c.in_err-item.ensures i)

pub arrow-returns : goal.arrow-returns
arrow-returns = functions.arrow-returns

pub arrow-returns-in_err-body : goal.arrow-returns-in_err-body
arrow-returns-in_err-body = functions.arrow-returns-in_err-body

pub arrow_body-returns : goal.arrow_body-returns
arrow_body-returns = functions.arrow_body-returns

pub arrow_body-returns-in_err-end : goal.arrow_body-returns-in_err-end
arrow_body-returns-in_err-end = functions.arrow_body-returns-in_err-end

pub arrow_body-returns-in_err-value : goal.arrow_body-returns-in_err-value
arrow_body-returns-in_err-value = functions.arrow_body-returns-in_err-value

pub arrow_body-returns-then-is_mark : goal.arrow_body-returns-then-is_mark
arrow_body-returns-then-is_mark = functions.arrow_body-returns-then-is_mark

pub arrow_first-returns : goal.arrow_first-returns
unfolding pure.arrow_first
arrow_first-returns g t c = λ i.
    let a = param_read i (g.H.Handler.shows_expr i) c.in_ok-param.param (c.in_ok-param.ensures i) in
    again_reads i (g.H.Handler.shows_expr i) c.in_ok-param.param a.0 a.1 (when_false _ _ (sym (c.is_mark.ensures i) ∙ c.if-is_mark.false) (made _ a.2))

pub arrow_first-returns-then-is_mark : goal.arrow_first-returns-then-is_mark
unfolding pure.arrow_first
arrow_first-returns-then-is_mark g t c = λ i. when_true _ _ (sym (c.is_mark.ensures i) ∙ c.if-is_mark.true) (then pure.rest_stop (c.in_ok-name.ensures i) (just _ _ _))

pub arrow_head-returns-then-is_mark : goal.arrow_head-returns-then-is_mark
arrow_head-returns-then-is_mark = functions.arrow_head-returns-then-is_mark

pub arrow_head-returns-then-is_name : goal.arrow_head-returns-then-is_name
arrow_head-returns-then-is_name = functions.arrow_head-returns-then-is_name

pub arrow_led-loop-items-init : goal.arrow_led-loop-items-init
arrow_led-loop-items-init g t c = λ i t m. rw (c.in_ok-push.ensures.items, c.new-items.ensures.items) (looping_led _ _ _ _ _ _ m)

pub arrow_led-loop-items-preserved : goal.arrow_led-loop-items-preserved
arrow_led-loop-items-preserved g t c = λ i t m. let n = rw c.in-Next.is at (c.in_ok-item.ensures i) in let a = again_read i (g.H.Handler.shows_expr i) c.in-Next.item n in
    rw c.in_ok-push-in-Next.ensures.items (looping_again _ a.0 (arrow_turn_gains (env_at i c.args.depth) (env_local i c.args.depth)) (c.loop-items.invariant i t m) a.2 a.1)

pub arrow_led-loop-items-smaller : goal.arrow_led-loop-items-smaller
arrow_led-loop-items-smaller g t c = fewer_left c.args.source.now _ _ (λ i. let n = rw c.in-Next.is at (c.in_ok-item.ensures i) in let a = again_read i (g.H.Handler.shows_expr i) c.in-Next.item n in again_shorter _ (arrow_turn_gains (env_at i c.args.depth) (env_local i c.args.depth)) _ _ _ _ a.0 a.2)

pub arrow_led-returns-in-Last : goal.arrow_led-returns-in-Last
arrow_led-returns-in-Last g t c = λ i t m. let n = rw c.in-Last.is at (c.in_ok-item.ensures i) in let b = stop_read i c.in-Last.last n in let x = looping_stop b.0 (c.loop-items.invariant i t m) b.2 in (x.0, x.1, many_reads i c.in-Last.last b.0 b.1 x.2)

pub arrow_led-returns-in_err-item : goal.arrow_led-returns-in_err-item
arrow_led-returns-in_err-item g t c = λ i t m. looping_failed c.args.source.now i c.arrow_turn.new.self.place c.in_err-item.field-0.0 c.from_residual-in_err-item.result (ItemsOf (ShowParam i (g.H.Handler.shows_expr i)) (ParamsEndOf i)) c.from_residual-in_err-item.ensures.1 (c.loop-items.invariant i t m) (c.in_err-item.ensures i)

pub arrow_params-returns-in-Last : goal.arrow_params-returns-in-Last
unfolding pure.arrow_params
arrow_params-returns-in-Last g t c = λ i.
    let n = rw c.in-Last.is at (c.in_ok-first.ensures i) in
    let b = stop_read i c.in-Last.last n in
    rw c.new-in-Last.ensures.items ([], tt, many_reads i c.in-Last.last b.0 b.1 (when_false _ _ (sym (c.is_mark.ensures i) ∙ c.if-is_mark.false) (then (pure.params_led (pure.arrow_turn (env_at i c.args.depth))) b.2 (just _ _ _))))

pub arrow_params-returns-in-Next : goal.arrow_params-returns-in-Next
arrow_params-returns-in-Next = functions.arrow_params-returns-in-Next

pub arrow_params-returns-then-is_mark : goal.arrow_params-returns-then-is_mark
unfolding pure.arrow_params
arrow_params-returns-then-is_mark g t c = λ i. rw c.new.ensures.items ([], tt, when_true _ _ (sym (c.is_mark.ensures i) ∙ c.if-is_mark.true) (just _ _ _))

pub assign-returns : goal.assign-returns
assign-returns g t c = λ i. answers_inside i c.args.depth (AnAssign c.args.with_in) (RankedOf (g.H.Handler.shows_expr i)) c.args.source.now c.assign_in.new.self.place c.assign_in.result (records c.args.source.now i c.args.self.now.place) (front c.args.source.now i c.args.self.now.place.at) (omega arith) (c.assign_in.ensures i)

pub assign-returns-then-depth-ge-DEPTH_LIMIT : goal.assign-returns-then-depth-ge-DEPTH_LIMIT
assign-returns-then-depth-ge-DEPTH_LIMIT g t c = λ i. rw c.no_room.ensures (refuses_none i c.args.depth (AnAssign c.args.with_in) c.args.source.now c.args.self.now.place c.begins_assign.result (omega arith) (sym (c.begins_assign.ensures ∙ ap begins_assign (c.kind-kind.ensures i))))

pub assign_in-returns : goal.assign_in-returns
assign_in-returns = operators.assign_in-returns

pub assign_in-returns-in_err-value : goal.assign_in-returns-in_err-value
assign_in-returns-in_err-value = operators.assign_in-returns-in_err-value

pub assign_in-returns-then-is_arrow_head : goal.assign_in-returns-then-is_arrow_head
assign_in-returns-then-is_arrow_head = operators.assign_in-returns-then-is_arrow_head

pub assign_in-returns-then-not-is_assign_mark : goal.assign_in-returns-then-not-is_assign_mark
assign_in-returns-then-not-is_assign_mark = operators.assign_in-returns-then-not-is_assign_mark

pub cond-returns : goal.cond-returns
cond-returns = operators.cond-returns

pub cond-returns-then-not-is_mark : goal.cond-returns-then-not-is_mark
cond-returns-then-not-is_mark = operators.cond-returns-then-not-is_mark

pub cond_tail-returns : goal.cond_tail-returns
cond_tail-returns = operators.cond_tail-returns

pub expr-returns : goal.expr-returns
unfolding expr_of
expr-returns g t c = λ i.
    let shows = g.H.Handler.shows_expr i in
    let s = c.args.source.now in
    let rs = records s i c.args.self.now.place in
    let a = c.in_ok-first.ensures i in
    let b = c.in_ok-more.ensures i in
    made_answers (RankedOf shows) (λ x. ShowRanked shows x (comma_case a.0 b.0)) s i c.make_comma.new.self.place c.make_comma.result rs _ (c.make_comma.ensures.makes i a.0 b.0 (a.1, a.2, a.3) b.1 (b.2 ∙ ap (λ x. last_ending x (exprs_of b.0)) a.3))
    (λ x p. (comma_case a.0 b.0, p.0, p.1, p.2, rw c.make_comma.ensures.place (then _ a.4 (made _ b.3))))

pub func-returns : goal.func-returns
unfolding pure.func_of
func-returns g t c = λ i.
    let f = func_read i (g.H.Handler.shows_expr i) (g.H.Handler.shows_body i) c.in_ok-func.func (c.in_ok-func.ensures i) in
    let is = function_form _ _ _ _ _ _ _ _ f.2 in
    (model.Func c.args.at f.0, c.in_ok-node.ensures i f.0 f.1, func_rank c.args.at f.0 is, func_ending c.args.at f.0 is, then _ (c.in_ok-name.ensures i) (made _ f.2))

pub function-returns : goal.function-returns
unfolding pure.function_of
function-returns g t c = λ i.
    let a = c.in_ok-head.ensures i in
    let k = rw (c.is_simple.ensures ∙ simple_same i (g.H.Handler.shows_expr i) c.in_ok-head.head.params.items a.0 a.1) at (c.in_ok-end.ensures i c.in_ok-head.head.start) in
    (a.0, a.1, then _ a.2 (made _ k))

pub function-returns-in_err-end : goal.function-returns-in_err-end
function-returns-in_err-end = functions.function-returns-in_err-end

pub getter-returns : goal.getter-returns
unfolding pure.accessor_of pure.getter_of
getter-returns g t c = λ i.
    let k = key_read i (g.H.Handler.shows_expr i) c.in_ok-key.key (c.in_ok-key.ensures i) in
    let f = func_read i (g.H.Handler.shows_expr i) (g.H.Handler.shows_body i) c.in_ok-func.func (c.in_ok-func.ensures i) in
    (model.Get k.0 f.0, c.in_ok-prop.ensures i k.0 f.0 k.1 f.1, when_false _ _ (ap pure.ends_key (sym (c.kind.ensures i)) ∙ sym c.ends_key.ensures ∙ c.if-ends_key.false) (then _ k.2 (made _ f.2)))

pub initializer-returns : goal.initializer-returns
unfolding pure.initializer_of
initializer-returns g t c = λ i. let a = rw (c.step.ensures.at i, c.step.ensures.records i) at (c.in_ok-value.ensures i) in (a.0, a.1, when_true _ _ (sym (c.is_mark.ensures i) ∙ c.if-not-is_mark.false) (made _ a.4))

pub items-returns : goal.items-returns
unfolding items_from
items-returns g t c = λ i.
    let a = c.in_ok-first.ensures i in
    let m = c.in_ok-more.ensures i in
    made_answers (ListOf (g.H.Handler.shows_expr i)) (λ v. v.items ≡ c.in_ok-first.first.node ∷ c.in_ok-more.more.items.items) c.args.source.now i c.more.new.self.place c.with_first.result (records c.args.source.now i c.args.self.now.place) _ c.with_first.ensures
    (λ v p. (a.0 ∷ m.0, subst (λ es. ShowAll (g.H.Handler.shows_expr i) es (a.0 ∷ m.0)) (sym p) (a.1, m.1), then _ a.4 (made _ m.3)))

pub key-returns-then-is_mark : goal.key-returns-then-is_mark
key-returns-then-is_mark = properties.key-returns-then-is_mark

pub keyed-returns-then-is_mark : goal.keyed-returns-then-is_mark
unfolding pure.keyed_of
keyed-returns-then-is_mark g t c = λ i k h.
    let a = rw (c.step.ensures.at i, c.step.ensures.records i) at (c.in_ok-value.ensures i) in
    (model.Pair k a.0, c.in_ok-pair.ensures i k a.0 h a.1, when_true _ _ (sym (c.is_mark.ensures i) ∙ c.if-is_mark.true) (made _ a.4))

pub keyed-returns-then-is_mark-2 : goal.keyed-returns-then-is_mark-2
unfolding pure.keyed_of
keyed-returns-then-is_mark-2 g t c = λ i k h.
    let f = func_read i (g.H.Handler.shows_expr i) (g.H.Handler.shows_body i) c.in_ok-func.func (c.in_ok-func.ensures i) in
    (model.Method k f.0, c.in_ok-method.ensures i k f.0 h f.1, when_false _ _ (sym (c.is_mark.ensures i) ∙ c.if-is_mark.false) (when_true _ _ (sym (c.is_mark-2.ensures i) ∙ c.if-is_mark-2.true) (made _ f.2)))

pub lead-loop-items-init : goal.lead-loop-items-init
lead-loop-items-init g t c = λ i. rw c.new-items.ensures.items (looping_init _ _ _ _)

pub lead-loop-items-preserved : goal.lead-loop-items-preserved
lead-loop-items-preserved g t c = λ i. let n = rw c.in-Next.is at (c.in_ok-item.ensures i) in
    rw c.in_ok-push-in-Next.ensures.items (looping_again _ n.0 (lead_turn_gains (env_at i c.args.depth) (env_local i c.args.depth)) (c.loop-items.invariant i) n.2 n.1)

pub lead-loop-items-smaller : goal.lead-loop-items-smaller
lead-loop-items-smaller g t c = fewer_left c.args.source.now _ _ (λ i. let n = rw c.in-Next.is at (c.in_ok-item.ensures i) in again_shorter _ (lead_turn_gains (env_at i c.args.depth) (env_local i c.args.depth)) _ _ _ _ n.0 n.2)

pub lead-returns-in-Last : goal.lead-returns-in-Last
lead-returns-in-Last g t c = λ i. let n = rw c.in-Last.is at (c.in_ok-item.ensures i) in let x = looping_stop n.0 (c.loop-items.invariant i) n.2 in (x.0, x.1, (n.0, n.1, x.2))

pub lead-returns-in_err-item : goal.lead-returns-in_err-item
lead-returns-in_err-item g t c = λ i. looping_failed c.args.source.now i c.lead_turn.new.self.place c.in_err-item.field-0.0 c.from_residual.result (ItemsOf (g.H.Handler.shows_expr i) (ListOf (g.H.Handler.shows_expr i))) c.from_residual.ensures.1 (c.loop-items.invariant i) (c.in_err-item.ensures i)

pub lead_items-returns : goal.lead_items-returns
unfolding lead_items
lead_items-returns g t c = λ i.
    let a = c.in_ok-read.ensures i in
    made_answers (ListOf (g.H.Handler.shows_expr i)) (λ v. v.items ≡ c.in_ok-read.read.items.items ++ c.in_ok-read.read.last.items) c.args.source.now i c.lead.new.self.place c.joined.result (records c.args.source.now i c.args.self.now.place) _ c.joined.ensures
    (λ v p. (a.0 ++ a.2.0, subst (λ es. ShowAll (g.H.Handler.shows_expr i) es (a.0 ++ a.2.0)) (sym p) (all_both (g.H.Handler.shows_expr i) _ _ _ _ a.1 a.2.1), made _ a.2.2))

pub lead_turn-returns : goal.lead_turn-returns
unfolding lead_turn lead_item
lead_turn-returns g t c = λ i.
    let a = c.in_ok-items.ensures i in
    let no_end = sym (c.is_mark.ensures i) ∙ c.if-is_mark.false in
    let no_rest = sym (c.is_mark-2.ensures i) ∙ c.if-is_mark-2.false in
    (a.0, a.1, when_false _ _ no_end (when_false _ _ no_rest (when_false _ _ (sym (c.is_param_form.ensures i) ∙ c.if-is_param_form.false) (made _ a.2))))

pub left-returns : goal.left-returns
unfolding left_of
left-returns g t c = λ i.
    let h = c.in_ok-head.ensures i in
    let a = c.in_ok-tails.ensures i in
    let head = begins_rank h.0 ∙ sym (ap begins h.2) ∙ sym c.may_begin_chain.ensures ∙ c.if-not-may_begin_chain.false in
    made_answers (RankedOf (g.H.Handler.shows_expr i)) (λ v. ShowRanked (g.H.Handler.shows_expr i) v (chain_case h.0 a.0)) c.args.source.now i c.make_chain.new.self.place c.make_chain.result (records c.args.source.now i c.args.self.now.place) _ (c.make_chain.ensures.makes i h.0 a.0 (h.1, h.2, h.3) a.1)
    (λ v p. (chain_case h.0 a.0, p.0, p.1, p.2, rw c.make_chain.ensures.place (then _ h.4 (when_true _ _ head (made _ a.2)))))

pub left-returns-then-not-may_begin_chain : goal.left-returns-then-not-may_begin_chain
unfolding left_of
left-returns-then-not-may_begin_chain g t c = λ i.
    let h = c.in_ok-head.ensures i in
    let tail = begins_rank h.0 ∙ sym (ap begins h.2) ∙ sym c.may_begin_chain.ensures ∙ c.if-not-may_begin_chain.true in
    (h.0, h.1, h.2, h.3, then _ h.4 (when_false _ _ tail (just _ _ _)))

pub level-loop-left-init : goal.level-loop-left-init
level-loop-left-init = operators.level-loop-left-init

pub level-loop-left-preserved : goal.level-loop-left-preserved
level-loop-left-preserved = operators.level-loop-left-preserved

pub level-returns-in_err-left : goal.level-returns-in_err-left
level-returns-in_err-left = operators.level-returns-in_err-left

pub level-returns-in_err-left-2 : goal.level-returns-in_err-left-2
level-returns-in_err-left-2 = operators.level-returns-in_err-left-2

pub level-returns-then-not-reads_on : goal.level-returns-then-not-reads_on
level-returns-then-not-reads_on = operators.level-returns-then-not-reads_on

pub listed_params-returns : goal.listed_params-returns
listed_params-returns = functions.listed_params-returns

pub member-returns-then-is_mark-2 : goal.member-returns-then-is_mark-2
member-returns-then-is_mark-2 = properties.member-returns-then-is_mark-2

pub members-loop-items-init : goal.members-loop-items-init
members-loop-items-init g t c = λ i. rw c.new-items.ensures.items (looping_init _ _ _ _)

pub members-loop-items-preserved : goal.members-loop-items-preserved
members-loop-items-preserved g t c = λ i. let n = rw c.in-Next.is at (c.in_ok-item.ensures i) in let a = tail_shown i (g.H.Handler.shows_expr i) c.in-Next.item _ n in
    rw c.in_ok-push-in-Next.ensures.items (looping_again _ a.0 (member_turn_gains (env_at i c.args.depth) (env_local i c.args.depth)) (c.loop-items.invariant i) a.2 a.1)

pub members-loop-items-smaller : goal.members-loop-items-smaller
members-loop-items-smaller g t c = fewer_left c.args.source.now _ _ (λ i. let n = rw c.in-Next.is at (c.in_ok-item.ensures i) in let a = tail_shown i (g.H.Handler.shows_expr i) c.in-Next.item _ n in again_shorter _ (member_turn_gains (env_at i c.args.depth) (env_local i c.args.depth)) _ _ _ _ a.0 a.2)

pub members-returns-in-Last : goal.members-returns-in-Last
members-returns-in-Last g t c = λ i. let n = rw c.in-Last.is at (c.in_ok-item.ensures i) in looping_stop _ (c.loop-items.invariant i) n

pub members-returns-in_err-item : goal.members-returns-in_err-item
members-returns-in_err-item g t c = λ i. looping_failed c.args.source.now i c.member.new.self.place c.in_err-item.field-0.0 c.from_residual.result (ItemsOf (ShowTail i (g.H.Handler.shows_expr i)) Itself) c.from_residual.ensures.1 (c.loop-items.invariant i) (c.in_err-item.ensures i)

pub more-loop-items-init : goal.more-loop-items-init
more-loop-items-init g t c = λ i. rw c.new-items.ensures.items (ends_init _ _ _ _ _ _ refl)

pub more-loop-items-preserved : goal.more-loop-items-preserved
more-loop-items-preserved g t c = λ i. let a = rw c.in-Next.is at (c.in_ok-item.ensures i) in
    rw c.in_ok-push-in-Next.ensures.items (ends_again _ a.0 (more_turn_gains (env_at i c.args.depth) (env_local i c.args.depth) c.args.with_in) (c.loop-items.invariant i) a.4 a.1 (λ xs. a.3 ∙ sym (last_more _ xs a.0)))

pub more-loop-items-smaller : goal.more-loop-items-smaller
more-loop-items-smaller g t c = fewer_left c.args.source.now _ _ (λ i. let a = rw c.in-Next.is at (c.in_ok-item.ensures i) in again_shorter _ (more_turn_gains (env_at i c.args.depth) (env_local i c.args.depth) c.args.with_in) _ _ _ _ a.0 a.4)

pub more-returns-in-Last : goal.more-returns-in-Last
more-returns-in-Last g t c = λ i. let b = rw c.in-Last.is at (c.in_ok-item.ensures i) in ends_stop _ (c.loop-items.invariant i) b

pub more-returns-in_err-item : goal.more-returns-in_err-item
more-returns-in_err-item g t c = λ i. looping_failed c.args.source.now i c.more_turn.new.self.place c.in_err-item.field-0.0 c.from_residual.result (EndsOf (g.H.Handler.shows_expr i) (λ ts. last_ending (ending_as c.args.ending) (exprs_of ts))) c.from_residual.ensures.1 (c.loop-items.invariant i).loops (c.in_err-item.ensures i)

pub more_params-returns-in-Last : goal.more_params-returns-in-Last
unfolding pure.more_params
more_params-returns-in-Last g t c = λ i.
    let n = rw c.in-Last.is at (c.in_ok-first.ensures i) in
    let b = stop_read i c.in-Last.last n in
    rw c.new-in-Last.ensures.items ([], tt, many_reads i c.in-Last.last b.0 b.1 (when_false _ _ (sym (c.is_mark.ensures i) ∙ c.if-is_mark.false) (then (pure.params_led (pure.params_turn (env_at i c.args.depth))) b.2 (just _ _ _))))

pub more_params-returns-in-Next : goal.more_params-returns-in-Next
more_params-returns-in-Next = functions.more_params-returns-in-Next

pub more_params-returns-then-is_mark : goal.more_params-returns-then-is_mark
unfolding pure.more_params
more_params-returns-then-is_mark g t c = λ i. rw c.new.ensures.items ([], tt, when_true _ _ (sym (c.is_mark.ensures i) ∙ c.if-is_mark.true) (just _ _ _))

pub more_props-returns : goal.more_props-returns
more_props-returns = properties.more_props-returns

pub more_props-returns-then-is_mark : goal.more_props-returns-then-is_mark
unfolding pure.more_props
more_props-returns-then-is_mark g t c = λ i. rw c.new.ensures.items ([], tt, when_true _ _ (sym (c.is_mark.ensures i) ∙ c.if-is_mark.true) (just _ _ _))

pub more_turn-returns : goal.more_turn-returns
more_turn-returns g t c = λ i. let a = rw (c.step.ensures.at i, c.step.ensures.records i) at (c.in_ok-item.ensures i) in (a.0, a.1, a.2, a.3, more_turn_next _ _ _ a.0 (sym (c.is_mark.ensures i) ∙ c.if-not-is_mark.false) a.4)

pub new-returns : goal.new-returns
new-returns g t c = λ i. answers_inside i c.args.depth ANew (RankedOf (g.H.Handler.shows_expr i)) c.args.source.now c.new_in.new.self.place c.new_in.result (records c.args.source.now i c.args.self.now.place) (front c.args.source.now i c.args.self.now.place.at) (omega arith) (c.new_in.ensures i)

pub new-returns-then-depth-ge-DEPTH_LIMIT : goal.new-returns-then-depth-ge-DEPTH_LIMIT
new-returns-then-depth-ge-DEPTH_LIMIT g t c = λ i. rw c.no_room.ensures (refuses_none i c.args.depth ANew c.args.source.now c.args.self.now.place c.is_word.result (omega arith) (sym (c.is_word.ensures ∙ ap (is_word word.NEW) (c.kind-kind.ensures i))))

pub new_args-returns : goal.new_args-returns
unfolding new_args
new_args-returns g t c = λ i. let a = rw (c.step.ensures.at i, c.step.ensures.records i) at (c.in_ok-args.ensures i) in (a.0, a.1, when_true _ _ (sym (c.is_mark.ensures i) ∙ c.if-not-is_mark.false) (made _ a.2))

pub new_in-returns : goal.new_in-returns
new_in-returns = operators.new_in-returns

pub new_in-returns-in_err-args : goal.new_in-returns-in_err-args
new_in-returns-in_err-args = operators.new_in-returns-in_err-args

pub new_in-returns-in_err-callee : goal.new_in-returns-in_err-callee
new_in-returns-in_err-callee g t c = λ i.
    let h = c.in_ok-head.ensures i in
    let a = c.in_ok-members.ensures i in
    made_failed (RankedOf (g.H.Handler.shows_expr i)) (λ v. ShowRanked (g.H.Handler.shows_expr i) v (chain_case h.0 a.0)) c.args.source.now i c.make_chain.new.self.place c.from_residual-in_err-callee.result c.in_err-callee.field-0.0 (records c.args.source.now i c.args.self.now.place) _ c.from_residual-in_err-callee.ensures.1 (c.in_err-callee.ensures.makes i h.0 a.0 (h.1, h.2, h.3) a.1)

pub new_in-returns-in_err-members : goal.new_in-returns-in_err-members
new_in-returns-in_err-members = operators.new_in-returns-in_err-members

pub new_in-returns-then-not-may_begin_chain : goal.new_in-returns-then-not-may_begin_chain
new_in-returns-then-not-may_begin_chain = operators.new_in-returns-then-not-may_begin_chain

pub new_or_prim-returns : goal.new_or_prim-returns
unfolding new_or_prim
new_or_prim-returns g t c = λ i. let a = c.in_ok-node.ensures i in (a.0, a.1, a.2, a.3, when_false _ _ (sym (c.is_word.ensures i) ∙ c.if-is_word.false) a.4)

pub object-returns : goal.object-returns
unfolding pure.object_of
object-returns g t c = λ i. let a = c.in_ok-props.ensures i in (model.Object c.args.at (props_of a.0) c.in_ok-props.props.last, c.in_ok-node.ensures i a.0 a.1, refl, refl, then _ a.2 (made _ (c.in_ok-expect.ensures i)))

pub one_param-returns : goal.one_param-returns
one_param-returns g t c = λ i.
    let a = param_read i (g.H.Handler.shows_expr i) c.in_ok-param.param (c.in_ok-param.ensures i) in
    rw (c.in_ok-push.ensures.items, c.new-params.ensures.items) (a.0 ∷ [], (a.1, tt), then _ a.2 (made _ (c.in_ok-expect.ensures i)))

pub op_turn-returns : goal.op_turn-returns
op_turn-returns g t c = λ i.
    let a = rw (c.step.ensures.at i, c.step.ensures.records i) at (c.in_ok-value.ensures i) in
    (a.0, a.1, (a.3, rw (c.mark_of.ensures, c.is_word_kind.ensures, c.kind-kind.ensures i) (op_turn_next c.args.with_in c.args.of (level_of (env_at i c.args.depth) c.args.with_in c.args.lower false) _ a.0 (ap (is_op c.args.with_in c.args.of) (sym (c.kind-kind.ensures i)) ∙ sym c.is_op.ensures ∙ c.if-not-is_op.false) (read_by (tight (env_at i c.args.depth) c.args.with_in false _ c.args.lower c.requires.lower) a.4))))

pub operands-loop-items-init : goal.operands-loop-items-init
operands-loop-items-init g t c = λ i. rw c.new-items.ensures.items (ends_init _ _ _ _ _ _ refl)

pub operands-loop-items-preserved : goal.operands-loop-items-preserved
operands-loop-items-preserved g t c = λ i.
    let v = env_at i c.args.depth in
    let n = rw c.in-Next.is at (c.in_ok-item.ensures i) in
    let o : Operand = record { op = c.in-Next.item.part.op; is_word = c.in-Next.item.part.is_word; value = n.0 } in
    rw c.in_ok-push-in-Next.ensures.items (ends_again _ o (op_turn_gains v (env_local i c.args.depth) c.args.with_in c.args.of (level_of v c.args.with_in c.args.lower false) (level_local v (env_local i c.args.depth) c.args.with_in c.args.lower c.requires.lower false) c.requires.of) (c.loop-items.invariant i) n.2.1 (n.0, n.1, refl) (λ xs. n.2.0 ∙ sym (operands_more _ xs o)))

pub operands-loop-items-smaller : goal.operands-loop-items-smaller
operands-loop-items-smaller g t c = fewer_left c.args.source.now _ _ (λ i.
    let v = env_at i c.args.depth in
    let n = rw c.in-Next.is at (c.in_ok-item.ensures i) in
    let o : Operand = record { op = c.in-Next.item.part.op; is_word = c.in-Next.item.part.is_word; value = n.0 } in
    again_shorter _ (op_turn_gains v (env_local i c.args.depth) c.args.with_in c.args.of (level_of v c.args.with_in c.args.lower false) (level_local v (env_local i c.args.depth) c.args.with_in c.args.lower c.requires.lower false) c.requires.of) _ _ _ _ o n.2.1)

pub operands-returns-in-Last : goal.operands-returns-in-Last
operands-returns-in-Last g t c = λ i. let n = rw c.in-Last.is at (c.in_ok-item.ensures i) in ends_stop _ (c.loop-items.invariant i) n

pub operands-returns-in_err-item : goal.operands-returns-in_err-item
operands-returns-in_err-item g t c = λ i. looping_failed c.args.source.now i c.op_turn.new.self.place c.in_err-item.field-0.0 c.from_residual.result (EndsOf (ShowOperand (g.H.Handler.shows_expr i)) (λ os. operands_ending (ending_as c.args.ending) (operands_of os))) c.from_residual.ensures.1 (c.loop-items.invariant i).loops (c.in_err-item.ensures i)

pub operands_from-returns : goal.operands_from-returns
operands_from-returns = operators.operands_from-returns

pub param_call-returns : goal.param_call-returns
unfolding pure.arrow_param
param_call-returns g t c = λ i. answers_inside i c.args.depth AParam (ParamOf i (g.H.Handler.shows_expr i)) c.args.source.now c.param.new.self.place c.param.result (records c.args.source.now i c.args.self.now.place) (front c.args.source.now i c.args.self.now.place.at) (omega arith) (c.param.ensures i)

pub param_call-returns-then-depth-ge-DEPTH_LIMIT : goal.param_call-returns-then-depth-ge-DEPTH_LIMIT
param_call-returns-then-depth-ge-DEPTH_LIMIT g t c = λ i. rw c.no_room.ensures (refuses_none i c.args.depth AParam c.args.source.now c.args.self.now.place c.is_name.result (omega arith) (sym (c.is_name.ensures ∙ ap is_name (c.kind-kind.ensures i))))

pub param_turn-returns : goal.param_turn-returns
unfolding pure.param_turn
param_turn-returns g t c = λ i.
    let a = param_read i (g.H.Handler.shows_expr i) c.in_ok-param.param (c.in_ok-param.ensures i) in
    again_reads i (g.H.Handler.shows_expr i) c.in_ok-param.param a.0 a.1 (when_false _ _ (sym (c.is_mark.ensures i) ∙ c.if-is_mark.false) (made _ a.2))

pub params_led-loop-items-init : goal.params_led-loop-items-init
params_led-loop-items-init g t c = λ i t m. rw (c.in_ok-push.ensures.items, c.new-items.ensures.items) (looping_led _ _ _ _ _ _ m)

pub params_led-loop-items-preserved : goal.params_led-loop-items-preserved
params_led-loop-items-preserved g t c = λ i t m. let n = rw c.in-Next.is at (c.in_ok-item.ensures i) in let a = again_read i (g.H.Handler.shows_expr i) c.in-Next.item n in
    rw c.in_ok-push-in-Next.ensures.items (looping_again _ a.0 (params_turn_gains (env_at i c.args.depth) (env_local i c.args.depth)) (c.loop-items.invariant i t m) a.2 a.1)

pub params_led-loop-items-smaller : goal.params_led-loop-items-smaller
params_led-loop-items-smaller g t c = fewer_left c.args.source.now _ _ (λ i. let n = rw c.in-Next.is at (c.in_ok-item.ensures i) in let a = again_read i (g.H.Handler.shows_expr i) c.in-Next.item n in again_shorter _ (params_turn_gains (env_at i c.args.depth) (env_local i c.args.depth)) _ _ _ _ a.0 a.2)

pub params_led-returns-in-Last : goal.params_led-returns-in-Last
params_led-returns-in-Last g t c = λ i t m. let n = rw c.in-Last.is at (c.in_ok-item.ensures i) in let b = stop_read i c.in-Last.last n in let x = looping_stop b.0 (c.loop-items.invariant i t m) b.2 in (x.0, x.1, many_reads i c.in-Last.last b.0 b.1 x.2)

pub params_led-returns-in_err-item : goal.params_led-returns-in_err-item
params_led-returns-in_err-item g t c = λ i t m. looping_failed c.args.source.now i c.params_turn.new.self.place c.in_err-item.field-0.0 c.from_residual-in_err-item.result (ItemsOf (ShowParam i (g.H.Handler.shows_expr i)) (ParamsEndOf i)) c.from_residual-in_err-item.ensures.1 (c.loop-items.invariant i t m) (c.in_err-item.ensures i)

pub paren-returns : goal.paren-returns
unfolding paren_of
paren-returns g t c = λ i.
    let a = c.in_ok-items.ensures i in
    let node = c.in_ok-node.ensures i (list_case a.0) (c.in_ok-inner.ensures.makes i a.0 a.1) in
    (model.Paren c.args.at (list_case a.0), node, refl, refl, rw c.make_list.ensures.place (then _ a.2 (made _ (c.in_ok-expect.ensures i))))

pub part_turn-returns : goal.part_turn-returns
unfolding part_turn
part_turn-returns g t c = λ i.
    let a = c.in_ok-value.ensures i in
    let gives = PartOf i (g.H.Handler.shows_expr i) in
    onward (TurnOf gives gives) c.args.source.now i c.part_end.new.self.place c.part_end.result (records c.args.source.now i c.args.self.now.place) _ part_end (turn_maps gives gives (part_maps i (g.H.Handler.shows_expr i)) (part_maps i (g.H.Handler.shows_expr i))) a.4 (c.part_end.ensures i a.0 a.1)

pub power-returns : goal.power-returns
power-returns = operators.power-returns

pub power-returns-in_err-rest : goal.power-returns-in_err-rest
power-returns-in_err-rest = operators.power-returns-in_err-rest

pub power-returns-then-not-is_mark : goal.power-returns-then-not-is_mark
power-returns-then-not-is_mark = operators.power-returns-then-not-is_mark

pub power-returns-then-not-may_be_raised : goal.power-returns-then-not-may_be_raised
unfolding power_of
power-returns-then-not-may_be_raised g t c = λ i.
    let a = c.in_ok-first.ensures i in
    let no = raises_rank a.0 ∙ ap raises (sym a.2) ∙ sym c.may_be_raised.ensures ∙ c.if-not-may_be_raised.true in
    (a.0, a.1, a.2, a.3, then _ a.4 (when_false _ _ no (just _ _ _)))

pub power_turn-returns : goal.power_turn-returns
power_turn-returns g t c = λ i.
    let a = rw (c.step.ensures.at i, c.step.ensures.records i) at (c.in_ok-of.ensures i) in
    let v = env_at i c.args.depth in
    let no = raises_rank a.0 ∙ ap raises (sym a.2) ∙ sym c.may_be_raised.ensures ∙ c.if-may_be_raised.false in
    (a.0, a.1, (a.3, rw (c.mark_of.ensures, c.is_word_kind.ensures, c.kind-kind.ensures i) (power_turn_last v _ a.0 (ap (is_mark mark.POWER) (sym (c.kind-kind.ensures i)) ∙ sym c.is_mark.ensures ∙ c.if-not-is_mark.false) no a.4)))

pub power_turn-returns-then-may_be_raised : goal.power_turn-returns-then-may_be_raised
power_turn-returns-then-may_be_raised g t c = λ i.
    let a = rw (c.step.ensures.at i, c.step.ensures.records i) at (c.in_ok-of.ensures i) in
    let v = env_at i c.args.depth in
    let yes = raises_rank a.0 ∙ ap raises (sym a.2) ∙ sym c.may_be_raised.ensures ∙ c.if-may_be_raised.true in
    (a.0, a.1, (a.3, rw (c.mark_of.ensures, c.is_word_kind.ensures, c.kind-kind.ensures i) (power_turn_next v _ a.0 (ap (is_mark mark.POWER) (sym (c.kind-kind.ensures i)) ∙ sym c.is_mark.ensures ∙ c.if-not-is_mark.false) yes a.4)))

pub powers-loop-items-init : goal.powers-loop-items-init
powers-loop-items-init g t c = λ i. rw c.new-items.ensures.items (ends_init _ _ _ _ _ _ refl)

pub powers-loop-items-preserved : goal.powers-loop-items-preserved
powers-loop-items-preserved g t c = λ i.
    let n = rw c.in-Next.is at (c.in_ok-item.ensures i) in
    let o : Operand = record { op = c.in-Next.item.part.op; is_word = c.in-Next.item.part.is_word; value = n.0 } in
    rw c.in_ok-push-in-Next.ensures.items (ends_again _ o (power_turn_gains (env_at i c.args.depth) (env_local i c.args.depth)) (c.loop-items.invariant i) n.2.1 (n.0, n.1, refl) (λ xs. n.2.0 ∙ sym (operands_more _ xs o)))

pub powers-loop-items-smaller : goal.powers-loop-items-smaller
powers-loop-items-smaller g t c = fewer_left c.args.source.now _ _ (λ i.
    let n = rw c.in-Next.is at (c.in_ok-item.ensures i) in
    let o : Operand = record { op = c.in-Next.item.part.op; is_word = c.in-Next.item.part.is_word; value = n.0 } in
    again_shorter _ (power_turn_gains (env_at i c.args.depth) (env_local i c.args.depth)) _ _ _ _ o n.2.1)

pub powers-returns-in-Last-None : goal.powers-returns-in-Last-None
powers-returns-in-Last-None g t c = λ i.
    let n = rw (c.in-Last-None.is, c.in-Last-None.field-0-is) at (c.in_ok-item.ensures i) in
    let x = ends_stop None (c.loop-items.invariant i) n in
    (x.0, x.1, x.2, made _ x.3)

pub powers-returns-in-Last-Some : goal.powers-returns-in-Last-Some
powers-returns-in-Last-Some = operators.powers-returns-in-Last-Some

pub powers-returns-in_err-item : goal.powers-returns-in_err-item
powers-returns-in_err-item g t c = λ i. looping_failed_in c.args.source.now i c.power_turn.new.self.place c.in_err-item.field-0.0 c.from_residual.result (OperandsOf (g.H.Handler.shows_expr i) (ending_as c.args.ending)) (λ m. ret (with_last m.items m.last)) c.from_residual.ensures.1 (c.loop-items.invariant i).loops (c.in_err-item.ensures i)

pub prefix-returns : goal.prefix-returns
prefix-returns g t c = λ i. answers_inside i c.args.depth APrefix (RankedOf (g.H.Handler.shows_expr i)) c.args.source.now c.prefix_in.new.self.place c.prefix_in.result (records c.args.source.now i c.args.self.now.place) (front c.args.source.now i c.args.self.now.place.at) (omega arith) (c.prefix_in.ensures i)

pub prefix-returns-then-depth-ge-DEPTH_LIMIT : goal.prefix-returns-then-depth-ge-DEPTH_LIMIT
prefix-returns-then-depth-ge-DEPTH_LIMIT = operators.prefix-returns-then-depth-ge-DEPTH_LIMIT

pub prefix_in-returns-then-is_prefix : goal.prefix_in-returns-then-is_prefix
prefix_in-returns-then-is_prefix = operators.prefix_in-returns-then-is_prefix

pub prefix_in-returns-then-is_update : goal.prefix_in-returns-then-is_update
prefix_in-returns-then-is_update = operators.prefix_in-returns-then-is_update

pub prim-returns-then-is_atom : goal.prim-returns-then-is_atom
unfolding prim_of
prim-returns-then-is_atom g t c = λ i.
    let s = c.args.source.now in
    let same = c.token-token.ensures.lexeme i in
    let l = head_of (front s i c.args.self.now.place.at) in
    let r = atom_rank l.kind l in
    made_answers (AtomOf (g.H.Handler.shows_expr i)) (λ e. g.H.Handler.shows_expr i e (atom_case c.token-token.result.kind (lexeme_of s.get s.set i.texts c.token-token.result))) s i c.atom.new.self.place c.atom.result (records c.args.source.now i c.args.self.now.place) _ (c.atom.ensures.makes i s.get s.set)
    (λ e p. (
      atom_case l.kind l,
      subst (λ (x : Lexeme). g.H.Handler.shows_expr i e (atom_case x.kind x)) same p,
      r.0,
      r.1,
      rw c.atom.ensures.place (read_at (when_true _ _ (ap (λ (x : Lexeme). is_atom x.kind) (sym same) ∙ sym c.is_atom.ensures ∙ c.if-is_atom.true) (just _ _ _)) (c.step.ensures.records i) (c.step.ensures.at i)),
    ))

pub prop-returns : goal.prop-returns
prop-returns = properties.prop-returns

pub prop-returns-then-is_get : goal.prop-returns-then-is_get
prop-returns-then-is_get = properties.prop-returns-then-is_get

pub prop-returns-then-is_set : goal.prop-returns-then-is_set
prop-returns-then-is_set = properties.prop-returns-then-is_set

pub prop-returns-then-not-is_name : goal.prop-returns-then-not-is_name
prop-returns-then-not-is_name = properties.prop-returns-then-not-is_name

pub props_led-loop-items-init : goal.props_led-loop-items-init
props_led-loop-items-init g t c = λ i t m. rw (c.in_ok-push.ensures.items, c.new-items.ensures.items) (looping_led _ _ _ _ _ _ m)

pub props_led-loop-items-preserved : goal.props_led-loop-items-preserved
props_led-loop-items-preserved g t c = λ i t m. let a = rw c.in-Next.is at (c.in_ok-item.ensures i) in
    rw c.in_ok-push-in-Next.ensures.items (looping_again _ a.0 (props_turn_gains (env_at i c.args.depth) (env_local i c.args.depth)) (c.loop-items.invariant i t m) a.2 a.1)

pub props_led-loop-items-smaller : goal.props_led-loop-items-smaller
props_led-loop-items-smaller g t c = fewer_left c.args.source.now _ _ (λ i. let a = rw c.in-Next.is at (c.in_ok-item.ensures i) in again_shorter _ (props_turn_gains (env_at i c.args.depth) (env_local i c.args.depth)) _ _ _ _ a.0 a.2)

pub props_led-returns-in-Last : goal.props_led-returns-in-Last
props_led-returns-in-Last g t c = λ i t m. let b = rw c.in-Last.is at (c.in_ok-item.ensures i) in looping_stop _ (c.loop-items.invariant i t m) b

pub props_led-returns-in_err-item : goal.props_led-returns-in_err-item
props_led-returns-in_err-item g t c = λ i t m. looping_failed c.args.source.now i c.props_turn.new.self.place c.in_err-item.field-0.0 c.from_residual-in_err-item.result (ItemsOf (g.H.Handler.shows_prop i) Itself) c.from_residual-in_err-item.ensures.1 (c.loop-items.invariant i t m) (c.in_err-item.ensures i)

pub props_turn-returns : goal.props_turn-returns
unfolding pure.props_turn pure.props_next
props_turn-returns g t c = λ i.
    let a = rw (c.step.ensures.at i, c.step.ensures.records i) at (c.in_ok-prop.ensures i) in
    let b = rw (c.step.ensures.at i) at (c.is_mark-2.ensures i) in
    (a.0, a.1, when_true _ _ (sym (c.is_mark.ensures i) ∙ c.if-not-is_mark.false) (when_false _ _ (sym b ∙ c.if-is_mark.false) (made _ a.2)))

pub setter-returns : goal.setter-returns
unfolding pure.accessor_of pure.setter_of
setter-returns g t c = λ i.
    let k = key_read i (g.H.Handler.shows_expr i) c.in_ok-key.key (c.in_ok-key.ensures i) in
    let f = func_read i (g.H.Handler.shows_expr i) (g.H.Handler.shows_body i) c.in_ok-func.func (c.in_ok-func.ensures i) in
    (model.Set k.0 f.0, c.in_ok-prop.ensures i k.0 f.0 k.1 f.1, when_false _ _ (ap pure.ends_key (sym (c.kind.ensures i)) ∙ sym c.ends_key.ensures ∙ c.if-ends_key.false) (then _ k.2 (made _ f.2)))

pub short-returns : goal.short-returns
unfolding pure.short_of
short-returns g t c = λ i. (model.Short (named i c.args.name), c.in_ok-prop.ensures i, when_false _ _ (or_none _ _ (sym (c.is_mark.ensures i) ∙ c.if-is_mark.false) (sym (c.is_mark-else-is_mark.ensures i) ∙ c.if-is_mark-2.false)) (just _ _ _))

pub short-returns-then-is_mark : goal.short-returns-then-is_mark
short-returns-then-is_mark = properties.short-returns-then-is_mark

pub tail-returns-then-is_mark : goal.tail-returns-then-is_mark
tail-returns-then-is_mark g t c = λ i.
    let a = rw (c.step.ensures.at i, c.step.ensures.records i) at (c.in_ok-args.ensures i) in
    (a.0, a.1, tail_turn_call (env_at i c.args.depth) _ _ (sym (c.is_mark.ensures i) ∙ c.if-is_mark.true) a.2)

pub tails-loop-items-init : goal.tails-loop-items-init
tails-loop-items-init g t c = λ i. rw c.new-items.ensures.items (looping_init _ _ _ _)

pub tails-loop-items-preserved : goal.tails-loop-items-preserved
tails-loop-items-preserved g t c = λ i. let n = rw c.in-Next.is at (c.in_ok-item.ensures i) in let a = tail_shown i (g.H.Handler.shows_expr i) c.in-Next.item _ n in
    rw c.in_ok-push-in-Next.ensures.items (looping_again _ a.0 (tail_turn_gains (env_at i c.args.depth) (env_local i c.args.depth)) (c.loop-items.invariant i) a.2 a.1)

pub tails-loop-items-smaller : goal.tails-loop-items-smaller
tails-loop-items-smaller g t c = fewer_left c.args.source.now _ _ (λ i. let n = rw c.in-Next.is at (c.in_ok-item.ensures i) in let a = tail_shown i (g.H.Handler.shows_expr i) c.in-Next.item _ n in again_shorter _ (tail_turn_gains (env_at i c.args.depth) (env_local i c.args.depth)) _ _ _ _ a.0 a.2)

pub tails-returns-in-Last : goal.tails-returns-in-Last
tails-returns-in-Last g t c = λ i. let n = rw c.in-Last.is at (c.in_ok-item.ensures i) in looping_stop _ (c.loop-items.invariant i) n

pub tails-returns-in_err-item : goal.tails-returns-in_err-item
tails-returns-in_err-item g t c = λ i. looping_failed c.args.source.now i c.tail.new.self.place c.in_err-item.field-0.0 c.from_residual.result (ItemsOf (ShowTail i (g.H.Handler.shows_expr i)) Itself) c.from_residual.ensures.1 (c.loop-items.invariant i) (c.in_err-item.ensures i)

pub template-returns : goal.template-returns
unfolding template_of
template-returns g t c = λ i.
    let a = c.in_ok-read.ensures i in
    let last : Part = record { value = a.2.0; behind = text_of i c.in_ok-read.read.last.after } in
    let all = subst (λ ns. ShowAll (ShowPart i (g.H.Handler.shows_expr i)) ns (a.0 ++ last ∷ [])) (sym c.in_ok-push.ensures.items) (all_more (ShowPart i (g.H.Handler.shows_expr i)) _ a.0 _ last a.1 (a.2.0, a.2.1, refl)) in
    (model.Template c.args.at (text_of i c.args.first) (parts_of (a.0 ++ last ∷ [])), c.in_ok-node.ensures i (a.0 ++ last ∷ []) all, refl, refl, made _ a.2.2)

pub template_parts-loop-items-init : goal.template_parts-loop-items-init
template_parts-loop-items-init g t c = λ i. rw c.new-items.ensures.items (looping_init _ _ _ _)

pub template_parts-loop-items-preserved : goal.template_parts-loop-items-preserved
template_parts-loop-items-preserved g t c = λ i. let n = rw c.in-Next.is at (c.in_ok-item.ensures i) in
    rw c.in_ok-push-in-Next.ensures.items (looping_again _ (record { value = n.0; behind = text_of i c.in-Next.item.after }) (part_turn_gains (env_at i c.args.depth) (env_local i c.args.depth)) (c.loop-items.invariant i) n.2 (n.0, n.1, refl))

pub template_parts-loop-items-smaller : goal.template_parts-loop-items-smaller
template_parts-loop-items-smaller g t c = fewer_left c.args.source.now _ _ (λ i. let n = rw c.in-Next.is at (c.in_ok-item.ensures i) in again_shorter _ (part_turn_gains (env_at i c.args.depth) (env_local i c.args.depth)) _ _ _ _ (record { value = n.0; behind = text_of i c.in-Next.item.after }) n.2)

pub template_parts-returns-in-Last : goal.template_parts-returns-in-Last
template_parts-returns-in-Last g t c = λ i. let n = rw c.in-Last.is at (c.in_ok-item.ensures i) in let x = looping_stop (record { value = n.0; behind = text_of i c.in-Last.last.after }) (c.loop-items.invariant i) n.2 in (x.0, x.1, (n.0, n.1, x.2))

pub template_parts-returns-in_err-item : goal.template_parts-returns-in_err-item
template_parts-returns-in_err-item g t c = λ i. looping_failed c.args.source.now i c.part_turn.new.self.place c.in_err-item.field-0.0 c.from_residual.result (ItemsOf (ShowPart i (g.H.Handler.shows_expr i)) (PartOf i (g.H.Handler.shows_expr i))) c.from_residual.ensures.1 (c.loop-items.invariant i) (c.in_err-item.ensures i)

pub unary-returns : goal.unary-returns
unary-returns = operators.unary-returns

pub unary-returns-then-is_alone : goal.unary-returns-then-is_alone
unary-returns-then-is_alone = operators.unary-returns-then-is_alone

pub assign_in-returns-then-is_single : goal.assign_in-returns-then-is_single
assign_in-returns-then-is_single = operators.assign_in-returns-then-is_single
