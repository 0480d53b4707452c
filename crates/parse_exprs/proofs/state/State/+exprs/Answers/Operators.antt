-- Operators, with assignments, conditions and `new`.
use Rattle.parse_exprs.proofs.Alone.{alone_read, single_read}
use Rattle.parse_exprs.proofs.Calls.{refuses_none}
use Rattle.parse_exprs.proofs.ChainExits.{maybe_args_shown}
use Rattle.parse_exprs.proofs.Climbing.{climb_next, climb_refused, climb_start, climb_stop, no_powers, start_refused}
use Rattle.parse_exprs.proofs.EndLoops.{ends_stop, operands_more}
use Rattle.parse_exprs.proofs.Exits.{refused_twice}
use Rattle.parse_exprs.proofs.FuncParts.{refused_behind}
use Rattle.parse_exprs.proofs.Loops.{all_more}
use Rattle.parse_exprs.proofs.Made.{made_answers}
use Rattle.parse_exprs.proofs.Onward.{onward, onward_false, onward_true, ranked_maps}
use Rattle.parse_exprs.proofs.OperatorLevels.{reads_so}
use Rattle.parse_exprs.proofs.RankFacts.{assigns_rank, begins_rank, raises_rank}
use Rattle.parse_exprs.proofs.Steps.{handed, just, made, made_twice, read_at, read_is, refused, then, when_false, when_true}
use Rattle.parse_exprs.proofs.state.State.+exprs.Goals.{assign_in-then-not-is_assign_mark-via-else-not-is_assign_mark+then-not-may_be_assigned, assign_in-then-not-is_assign_mark-via-then-not-is_assign_mark, prefix-else-is_prefix, prefix-then-is_prefix}
use Rattle.parse_exprs.specs.Answers.{Answers, records}
use Rattle.parse_exprs.specs.Env.{env_at}
use Rattle.parse_exprs.specs.Levels.{level_with}
use Rattle.parse_exprs.specs.Means.{Itself, RankedOf, ShowRanked}
use Rattle.parse_exprs.specs.Ranks.{assigns, begins, raises}
use Rattle.parse_exprs.specs.Source.{front}
use Rattle.grammar_parser_specs.specs.Exprs.{APrefix, and_level, assign_of, assign_tail, atom_case, binary_case, branches_of, chain_case, coalesce_level, cond_of, cond_tail, is_atom, is_op, is_word_kind, left_of, level_of, mark_of, new_from, new_of, operands_from, or_from, or_level, plain_of, postfix_of, power_of, power_turn, prefix_of, short_circuit, unary_of, update_of, with_last}
use Rattle.grammar_parser_specs.specs.Parser.{bind, head_of, loop}
use Rattle.script_grammar.specs.Endings.{operands_ending}
use Rattle.script_grammar.specs.Kinds.{is_assign_mark, is_prefix, is_update, is_word}
use Rattle.script_grammar.specs.Lexeme.{Lexeme, lexeme_of}
use Rattle.script_grammar.specs.Proper.{left_rank, rank}
use Rattle.script_grammar.specs.Shows.{ShowOperand}
use Rattle.script_grammar.specs.Tree.{Expr}
use Rattle.script_grammar.specs.TreeLists.{Operand, maybe_args_of, operands_of}
use Rattle.std.proofs.Common.{Err, None, Some, [], ap, arith, false, nat_le, refl, subst, sym, true, ◌&&◌, ◌++◌, ◌-◌, ◌||◌, ◌∙◌, ◌∷◌, ◌≡◌}
use Rattle.script_grammar.specs.Tree as model
use Rattle.parse_exprs.proofs.state.State.+exprs.Goals as goal

pub assign_in-returns : goal.assign_in-returns
unfolding assign_of plain_of assign_tail
assign_in-returns g t c = λ i.
    let t = c.in_ok-target.ensures i in
    let a = rw (c.step-2.ensures.at i, c.step-2.ensures.records i) at (c.in_ok-value.ensures i) in
    let same = c.kind-kind.ensures i in
    let no_arrow = sym (c.is_arrow_head.ensures i) ∙ c.if-is_arrow_head.false in
    let is = ap is_assign_mark (sym same) ∙ sym c.is_assign_mark.ensures ∙ c.if-not-is_assign_mark.false in
    let may = assigns_rank t.0 ∙ ap assigns (sym t.2) ∙ sym c.may_be_assigned.ensures ∙ c.if-not-may_be_assigned.false in (
      model.Assign (mark_of c.kind-kind.result) t.0 a.0,
      rw (sym c.mark_of.ensures) (c.in_ok-node.ensures i t.0 a.0 t.1 a.1),
      refl,
      a.3,
      when_false _ _ no_arrow (then _ t.4 (read_is (when_true _ _ (ap (λ x. x && nat_le (rank t.0) left_rank) is ∙ may) (made _ a.4)) (ap (λ k. model.Assign (mark_of k) t.0 a.0) (sym same)))),
    )

pub assign_in-returns-in_err-value : goal.assign_in-returns-in_err-value
unfolding assign_of plain_of assign_tail
assign_in-returns-in_err-value g t c = λ i.
    let s = c.args.source.now in
    let rs = records s i c.args.self.now.place in
    let p = c.assign.new.self.place in
    let e = c.in_err-value.field-0.0 in
    let t = c.in_ok-target.ensures i in
    let no_arrow = sym (c.is_arrow_head.ensures i) ∙ c.if-is_arrow_head.false in
    let is = ap is_assign_mark (sym (c.kind-kind.ensures i)) ∙ sym c.is_assign_mark.ensures ∙ c.if-not-is_assign_mark.false in
    let may = assigns_rank t.0 ∙ ap assigns (sym t.2) ∙ sym c.may_be_assigned.ensures ∙ c.if-not-may_be_assigned.false in
    let yes = ap (λ x. x && nat_le (rank t.0) left_rank) is ∙ may in
    handed s i p e c.from_residual-in_err-value.result (RankedOf (g.H.Handler.shows_expr i)) rs _ c.from_residual-in_err-value.ensures.1
    (onward_false (Itself {A = Expr}) s i p (Err e) rs (front s i c.args.self.now.place.at) _ _ no_arrow
    (refused_behind s i p e rs _ _ t.4
    (onward_true (Itself {A = Expr}) s i p (Err e) _ _ _ _ yes (refused s i p e _ _ _ (rw (c.step-2.ensures.at i, c.step-2.ensures.records i) at (c.in_err-value.ensures i))))))

pub assign_in-returns-then-is_arrow_head : goal.assign_in-returns-then-is_arrow_head
unfolding assign_of
assign_in-returns-then-is_arrow_head g t c = λ i.
    let shows = g.H.Handler.shows_expr i in
    let s = c.args.source.now in
    let rs = records s i c.args.self.now.place in
    onward_true (RankedOf shows) s i c.arrow.new.self.place c.arrow.result rs (front s i c.args.self.now.place.at) _ _ (sym (c.is_arrow_head.ensures i) ∙ c.if-is_arrow_head.true) (c.arrow.ensures i)

pub assign_in-returns-then-not-is_assign_mark : goal.assign_in-returns-then-not-is_assign_mark
unfolding assign_of plain_of assign_tail
assign_in-returns-then-not-is_assign_mark g t c = λ i.
    let s = c.args.source.now in
    let t = c.in_ok-target.ensures i in
    let same = sym (c.kind-kind.ensures i) in
    let no_arrow = sym (c.is_arrow_head.ensures i) ∙ c.if-is_arrow_head.false in
    let no : (is_assign_mark (head_of (front s i c.cond.new.self.place.at)).kind && nat_le (rank t.0) left_rank) ≡ false = elim c.then-not-is_assign_mark.branch [ assign_in-then-not-is_assign_mark-via-then-not-is_assign_mark w ↦ ap (λ x. x && nat_le (rank t.0) left_rank) (ap is_assign_mark same ∙ sym c.is_assign_mark.ensures ∙ w.if-not-is_assign_mark.true) | assign_in-then-not-is_assign_mark-via-else-not-is_assign_mark+then-not-may_be_assigned w ↦ ap (λ x. x && nat_le (rank t.0) left_rank) (ap is_assign_mark same ∙ sym c.is_assign_mark.ensures ∙ w.if-not-is_assign_mark.false) ∙ (assigns_rank t.0 ∙ ap assigns (sym t.2) ∙ sym w.may_be_assigned.ensures ∙ w.if-not-may_be_assigned.true) ] in
    (t.0, t.1, t.2, t.3, when_false _ _ no_arrow (then _ t.4 (when_false _ _ no (just _ _ _))))

pub cond-returns : goal.cond-returns
unfolding cond_of
cond-returns g t c = λ i.
    let shows = g.H.Handler.shows_expr i in
    let s = c.args.source.now in
    let rs = records s i c.args.self.now.place in
    let a = c.in_ok-first.ensures i in
    onward (RankedOf shows) s i c.cond_tail.new.self.place c.cond_tail.result rs _ (cond_tail (env_at i c.args.depth) c.args.with_in) (ranked_maps shows) a.4 (c.cond_tail.ensures i a.0 a.1 a.2 a.3)

pub cond-returns-then-not-is_mark : goal.cond-returns-then-not-is_mark
unfolding cond_of cond_tail
cond-returns-then-not-is_mark g t c = λ i.
    let a = c.in_ok-first.ensures i in
    (a.0, a.1, a.2, a.3, then _ a.4 (when_false _ _ (sym (c.is_mark.ensures i) ∙ c.if-not-is_mark.true) (just _ _ _)))

pub cond_tail-returns : goal.cond_tail-returns
unfolding cond_tail branches_of
cond_tail-returns g t c = λ i t m r e.
    let a = rw (c.step.ensures.at i, c.step.ensures.records i) at (c.in_ok-yes.ensures i) in
    let b = c.in_ok-no.ensures i in
    let is = sym (c.is_mark.ensures i) ∙ c.if-not-is_mark.false in
    (model.Cond t a.0 b.0, c.in_ok-node.ensures i t a.0 b.0 m a.1 b.1, refl, b.3, when_true _ _ is (then _ a.4 (then _ (c.in_ok-expect.ensures i) (made _ b.4))))

pub level-loop-left-init : goal.level-loop-left-init
level-loop-left-init g t c = λ i.
    let s = c.args.source.now in
    let p = c.power.new.self.place in
    let a = c.in_ok-left.ensures i in
    (a.0, a.1, a.2, a.3, climb_start (env_at i c.args.depth) c.args.with_in c.args.heads (records s i c.args.self.now.place) (front s i c.args.self.now.place.at) c.args.of a.0 (records s i p) (front s i p.at) a.4)

pub level-loop-left-preserved : goal.level-loop-left-preserved
level-loop-left-preserved g t c = λ i.
    let s = c.args.source.now in
    let p = c.loop-left.self.place in
    let n = c.operands_from.new.self.place in
    let a = c.loop-left.invariant i in
    let b = rw c.operand_level-lower.ensures at (c.in_ok-left-2.ensures i a.0 a.1 a.2 a.3) in
    let is = c.level_with-next.ensures ∙ ap (level_with c.args.with_in) (c.kind.ensures i) in
    let on = reads_so c.loop-left.read c.level_with-next.result c.args.of c.requires.of (sym c.reads_on.ensures ∙ c.if-not-reads_on.false) in
    (b.0, b.1, b.2, b.3, climb_next (env_at i c.args.depth) c.args.with_in c.args.heads (records s i c.args.self.now.place) (front s i c.args.self.now.place.at) c.args.of c.loop-left.read c.level_with-next.result a.0 (records s i p) (front s i p.at) c.requires.of a.4 is on b.0 (records s i n) (front s i n.at) b.4)

pub level-returns-in_err-left : goal.level-returns-in_err-left
level-returns-in_err-left g t c = λ i.
    let s = c.args.source.now in
    let rs = records s i c.args.self.now.place in
    let ts = front s i c.args.self.now.place.at in
    let p = c.power.new.self.place in
    let e = c.in_err-left.field-0.0 in
    handed s i p e c.from_residual.result (RankedOf (g.H.Handler.shows_expr i)) rs _ c.from_residual.ensures.1 (start_refused (env_at i c.args.depth) c.args.with_in c.args.heads rs ts s i p e c.args.of c.requires.of (c.in_err-left.ensures i))

pub level-returns-in_err-left-2 : goal.level-returns-in_err-left-2
level-returns-in_err-left-2 g t c = λ i.
    let s = c.args.source.now in
    let rs = records s i c.args.self.now.place in
    let ts = front s i c.args.self.now.place.at in
    let q = c.loop-left.self.place in
    let p = c.operands_from.new.self.place in
    let e = c.in_err-left-2.field-0.0 in
    let a = c.loop-left.invariant i in
    let b = rw c.operand_level-lower.ensures at (c.in_err-left-2.ensures i a.0 a.1 a.2 a.3) in
    let is = c.level_with-next.ensures ∙ ap (level_with c.args.with_in) (c.kind.ensures i) in
    let on = reads_so c.loop-left.read c.level_with-next.result c.args.of c.requires.of (sym c.reads_on.ensures ∙ c.if-not-reads_on.false) in
    handed s i p e c.from_residual-in_err-left-2.result (RankedOf (g.H.Handler.shows_expr i)) rs _ c.from_residual-in_err-left-2.ensures.1
    (climb_refused (env_at i c.args.depth) c.args.with_in c.args.heads rs ts c.args.of c.loop-left.read c.level_with-next.result a.0 (records s i q) (front s i q.at) c.requires.of a.4 is on s i p e b)

pub level-returns-then-not-reads_on : goal.level-returns-then-not-reads_on
level-returns-then-not-reads_on g t c = λ i.
    let s = c.args.source.now in
    let p = c.loop-left.self.place in
    let a = c.loop-left.invariant i in
    let is = c.level_with-next.ensures ∙ ap (level_with c.args.with_in) (c.kind.ensures i) in
    (a.0, a.1, a.2, a.3, climb_stop (env_at i c.args.depth) c.args.with_in c.args.heads (records s i c.args.self.now.place) (front s i c.args.self.now.place.at) c.args.of c.loop-left.read c.level_with-next.result a.0 (records s i p) (front s i p.at) c.requires.of a.4 is (sym c.reads_on.ensures ∙ c.if-not-reads_on.true))

pub new_in-returns : goal.new_in-returns
unfolding new_of new_from
new_in-returns g t c = λ i.
    let shows = g.H.Handler.shows_expr i in
    let s = c.args.source.now in
    let rs = records s i c.args.self.now.place in
    let h = rw (c.step.ensures.at i, c.step.ensures.records i) at (c.in_ok-head.ensures i) in
    let a = c.in_ok-members.ensures i in
    let b = maybe_args_shown shows c.in_ok-args.args _ (c.in_ok-args.ensures i) in
    let k = c.in_ok-callee.ensures.makes i h.0 a.0 (h.1, h.2, h.3) a.1 in
    let n = model.New c.token-at.result.start (chain_case h.0 a.0) (maybe_args_of b.0) in
    let is = sym (c.is_word.ensures i) ∙ c.if-not-is_word.false in
    let head = begins_rank h.0 ∙ sym (ap begins h.2) ∙ sym c.may_begin_chain.ensures ∙ c.if-not-may_begin_chain.false in
    made_answers (RankedOf shows) (λ v. ShowRanked shows v n) s i c.make_new-2.new.self.place c.make_new-2.result rs _ (c.make_new-2.ensures.makes i (chain_case h.0 a.0) b.0 k.0 b.1)
    (λ v p. (n, p.0, p.1, p.2, rw (c.make_new-2.ensures.place, c.make_chain.ensures.place) (read_is (when_true _ _ is (then _ h.4 (when_true _ _ head (then _ a.2 (made _ b.2))))) (ap (λ (x : Lexeme). model.New x.start (chain_case h.0 a.0) (maybe_args_of b.0)) (sym (c.token-at.ensures.lexeme i))))))

pub new_in-returns-in_err-args : goal.new_in-returns-in_err-args
unfolding new_of new_from
new_in-returns-in_err-args g t c = λ i.
    let s = c.args.source.now in
    let rs = records s i c.args.self.now.place in
    let p = c.new_args.new.self.place in
    let e = c.in_err-args.field-0.0 in
    let h = rw (c.step.ensures.at i, c.step.ensures.records i) at (c.in_ok-head.ensures i) in
    let a = c.in_ok-members.ensures i in
    let is = sym (c.is_word.ensures i) ∙ c.if-not-is_word.false in
    let head = begins_rank h.0 ∙ sym (ap begins h.2) ∙ sym c.may_begin_chain.ensures ∙ c.if-not-may_begin_chain.false in
    handed s i p e c.from_residual-in_err-args.result (RankedOf (g.H.Handler.shows_expr i)) rs _ c.from_residual-in_err-args.ensures.1
    (onward_true (Itself {A = Expr}) s i p (Err e) rs (front s i c.args.self.now.place.at) _ _ is
    (refused_behind s i p e rs _ _ h.4
    (onward_true (Itself {A = Expr}) s i p (Err e) _ _ _ _ head (refused_behind s i p e _ _ _ a.2 (refused s i p e _ _ _ (c.in_err-args.ensures i))))))

pub new_in-returns-in_err-members : goal.new_in-returns-in_err-members
unfolding new_of new_from
new_in-returns-in_err-members g t c = λ i.
    let s = c.args.source.now in
    let rs = records s i c.args.self.now.place in
    let p = c.members.new.self.place in
    let e = c.in_err-members.field-0.0 in
    let h = rw (c.step.ensures.at i, c.step.ensures.records i) at (c.in_ok-head.ensures i) in
    let is = sym (c.is_word.ensures i) ∙ c.if-not-is_word.false in
    let head = begins_rank h.0 ∙ sym (ap begins h.2) ∙ sym c.may_begin_chain.ensures ∙ c.if-not-may_begin_chain.false in
    handed s i p e c.from_residual-in_err-members.result (RankedOf (g.H.Handler.shows_expr i)) rs _ c.from_residual-in_err-members.ensures.1
    (onward_true (Itself {A = Expr}) s i p (Err e) rs (front s i c.args.self.now.place.at) _ _ is
    (refused_behind s i p e rs _ _ h.4
    (onward_true (Itself {A = Expr}) s i p (Err e) _ _ _ _ head (refused s i p e _ _ _ (c.in_err-members.ensures i)))))

pub new_in-returns-then-not-may_begin_chain : goal.new_in-returns-then-not-may_begin_chain
unfolding new_of new_from
new_in-returns-then-not-may_begin_chain g t c = λ i.
    let shows = g.H.Handler.shows_expr i in
    let s = c.args.source.now in
    let rs = records s i c.args.self.now.place in
    let h = rw (c.step.ensures.at i, c.step.ensures.records i) at (c.in_ok-head.ensures i) in
    let n = model.New c.token-at.result.start h.0 (maybe_args_of None) in
    let is = sym (c.is_word.ensures i) ∙ c.if-not-is_word.false in
    let tail = begins_rank h.0 ∙ sym (ap begins h.2) ∙ sym c.may_begin_chain.ensures ∙ c.if-not-may_begin_chain.true in
    made_answers (RankedOf shows) (λ v. ShowRanked shows v n) s i c.make_new.new.self.place c.make_new.result rs _ (c.make_new.ensures.makes i h.0 None h.1 tt)
    (λ v p. (n, p.0, p.1, p.2, rw c.make_new.ensures.place (read_is (when_true _ _ is (then _ h.4 (when_false _ _ tail (just _ _ _)))) (ap (λ (x : Lexeme). model.New x.start h.0 (maybe_args_of None)) (sym (c.token-at.ensures.lexeme i))))))

pub operands_from-returns : goal.operands_from-returns
operands_from-returns g d c = λ i t m r e.
    let shows = g.H.Handler.shows_expr i in
    let s = c.args.source.now in
    let rs = records s i c.args.self.now.place in
    let b = c.in_ok-rest.ensures i in
    made_answers (RankedOf shows) (λ x. ShowRanked shows x (binary_case t b.0)) s i c.make_binary.new.self.place c.make_binary.result rs _ (c.make_binary.ensures.makes i t b.0 (m, r, e) b.1 (b.2 ∙ ap (λ x. operands_ending x (operands_of b.0)) e))
    (λ x p. (binary_case t b.0, p.0, p.1, p.2, rw c.make_binary.ensures.place (made _ b.3)))

pub power-returns : goal.power-returns
unfolding power_of
power-returns g t c = λ i.
    let shows = g.H.Handler.shows_expr i in
    let s = c.args.source.now in
    let rs = records s i c.args.self.now.place in
    let a = c.in_ok-first.ensures i in
    let b = c.in_ok-rest.ensures i in
    let yes = raises_rank a.0 ∙ ap raises (sym a.2) ∙ sym c.may_be_raised.ensures ∙ c.if-not-may_be_raised.false in
    made_answers (RankedOf shows) (λ x. ShowRanked shows x (binary_case a.0 b.0)) s i c.make_binary.new.self.place c.make_binary.result rs _ (c.make_binary.ensures.makes i a.0 b.0 (a.1, a.2, a.3) b.1 (b.2 ∙ ap (λ x. operands_ending x (operands_of b.0)) a.3))
    (λ x p. (binary_case a.0 b.0, p.0, p.1, p.2, rw c.make_binary.ensures.place (then _ a.4 (when_true _ _ yes (made_twice (loop (power_turn (env_at i c.args.depth)) (front s i c.unary.new.self.place.at)) (λ m. with_last m.items m.last) (binary_case a.0) b.3)))))

pub power-returns-in_err-rest : goal.power-returns-in_err-rest
unfolding power_of
power-returns-in_err-rest g t c = λ i.
    let shows = g.H.Handler.shows_expr i in
    let s = c.args.source.now in
    let rs = records s i c.args.self.now.place in
    let p = c.powers.new.self.place in
    let e = c.in_err-rest.field-0.0 in
    let a = c.in_ok-first.ensures i in
    let yes = raises_rank a.0 ∙ ap raises (sym a.2) ∙ sym c.may_be_raised.ensures ∙ c.if-not-may_be_raised.false in
    let fault = refused_twice s i p e _ (loop (power_turn (env_at i c.args.depth)) (front s i c.unary.new.self.place.at)) (λ m. with_last m.items m.last) (binary_case a.0) (c.in_err-rest.ensures i) in
    handed s i p e c.from_residual-in_err-rest.result (RankedOf shows) rs _ c.from_residual-in_err-rest.ensures.1 (refused_behind s i p e rs _ _ a.4 (onward_true (Itself {A = Expr}) s i p (Err e) _ _ _ _ yes fault))

pub power-returns-then-not-is_mark : goal.power-returns-then-not-is_mark
unfolding power_of
power-returns-then-not-is_mark g t c = λ i.
    let a = c.in_ok-first.ensures i in
    (a.0, a.1, a.2, a.3, then _ a.4 (no_powers (env_at i c.args.depth) a.0 _ _ (sym (c.is_mark.ensures i) ∙ c.if-not-is_mark.true)))

pub powers-returns-in-Last-Some : goal.powers-returns-in-Last-Some
powers-returns-in-Last-Some g t c = λ i.
    let shows = g.H.Handler.shows_expr i in
    let n = rw (c.in-Last-Some.is, c.in-Last-Some.field-0-is) at (c.in_ok-item.ensures i) in
    let o : Operand = record { op = c.in-Last-Some.item.part.op; is_word = c.in-Last-Some.item.part.is_word; value = n.0 } in
    let x = ends_stop (Some o) (c.loop-items.invariant i) n.2.1 in
    (x.0 ++ o ∷ [], rw c.in_ok-push-in-Last-Some.ensures.items (all_more (ShowOperand shows) _ x.0 _ o x.1 (n.0, n.1, refl)), n.2.0 ∙ sym (operands_more _ x.0 o), made _ x.3)

pub prefix-returns-then-depth-ge-DEPTH_LIMIT : goal.prefix-returns-then-depth-ge-DEPTH_LIMIT
prefix-returns-then-depth-ge-DEPTH_LIMIT g t c = λ i.
    let k = c.kind-kind.result in
    let begins : is_prefix k || is_update k ≡ c.if-is_prefix.no_room = elim c.if-is_prefix.branch [
      | prefix-then-is_prefix w ↦ ap (λ x. x || is_update k) (sym c.is_prefix.ensures ∙ w.if-is_prefix.true) ∙ (sym w.if-is_prefix.true ∙ sym w.no_room-is)
      | prefix-else-is_prefix w ↦ ap (λ x. x || is_update k) (sym c.is_prefix.ensures ∙ w.if-is_prefix.false) ∙ (sym w.is_update.ensures ∙ sym w.no_room-is)
    ] in
    rw c.no_room.ensures (refuses_none i c.args.depth APrefix c.args.source.now c.args.self.now.place c.if-is_prefix.no_room (omega arith) (ap (λ x. is_prefix x || is_update x) (sym (c.kind-kind.ensures i)) ∙ begins))

pub prefix_in-returns-then-is_prefix : goal.prefix_in-returns-then-is_prefix
unfolding prefix_of
prefix_in-returns-then-is_prefix g t c = λ i.
    let token = c.token-token.result in
    let same = c.token-token.ensures.lexeme i in
    let a = rw (c.step.ensures.at i, c.step.ensures.records i) at (c.in_ok-of.ensures i) in
    let node = c.in_ok-node.ensures i a.0 a.1 in
    let yes = ap (λ (x : Lexeme). is_prefix x.kind) (sym same) ∙ sym c.is_prefix.ensures ∙ c.if-is_prefix.true in (
      model.Unary token.start (mark_of token.kind) a.0 (is_word_kind token.kind),
      rw (sym c.mark_of.ensures, sym c.is_word_kind-is_word.ensures) node,
      refl,
      a.3,
      read_is (when_true _ _ yes (made _ a.4)) (ap (λ (x : Lexeme). model.Unary x.start (mark_of x.kind) a.0 (is_word_kind x.kind)) (sym same)),
    )

pub prefix_in-returns-then-is_update : goal.prefix_in-returns-then-is_update
unfolding prefix_of
prefix_in-returns-then-is_update g t c = λ i.
    let token = c.token-token.result in
    let same = c.token-token.ensures.lexeme i in
    let a = rw (c.step-then-is_update.ensures.at i, c.step-then-is_update.ensures.records i) at (c.in_ok-of-2.ensures i) in
    let node = c.in_ok-node-2.ensures i a.0 a.1 in
    let no = ap (λ (x : Lexeme). is_prefix x.kind) (sym same) ∙ sym c.is_prefix.ensures ∙ c.if-is_prefix.false in
    let yes = ap (λ (x : Lexeme). is_update x.kind) (sym same) ∙ sym c.is_update.ensures ∙ c.if-is_update.true in (
      model.Update token.start (mark_of token.kind) true a.0,
      rw (sym c.mark_of-then-is_update.ensures) node,
      refl,
      a.3,
      read_is (when_false _ _ no (when_true _ _ yes (made _ a.4))) (ap (λ (x : Lexeme). model.Update x.start (mark_of x.kind) true a.0) (sym same)),
    )

pub unary-returns : goal.unary-returns
unfolding unary_of update_of
unary-returns g t c = λ i.
    let shows = g.H.Handler.shows_expr i in
    let s = c.args.source.now in
    let rs = records s i c.args.self.now.place in
    let ts = front s i c.args.self.now.place.at in
    let p = c.postfix.new.self.place in
    let o = c.postfix.result in
    let a = c.in_ok-first.ensures i in
    let same = sym (c.kind-kind.ensures i) in
    let no_prefix = ap is_prefix same ∙ sym c.is_prefix.ensures ∙ c.if-is_prefix.false in
    let no_update = ap is_update same ∙ sym c.is_update.ensures ∙ c.if-is_update.false in
    onward_false (RankedOf shows) s i p o rs ts _ _ (ap (λ b. b || is_update (head_of ts).kind) no_prefix ∙ no_update)
    (subst (λ (x : Lexeme). Answers (RankedOf shows) s i p o rs (bind (left_of (env_at i c.args.depth) c.args.heads) (postfix_of x.start) ts)) (c.token-at.ensures.lexeme i)
    (onward (RankedOf shows) s i p o rs _ (postfix_of c.token-at.result.start) (ranked_maps shows) a.4 (c.postfix.ensures i a.0 a.1 a.2 a.3)))

pub unary-returns-then-is_alone : goal.unary-returns-then-is_alone
unary-returns-then-is_alone g t c = λ i.
    let shows = g.H.Handler.shows_expr i in
    let s = c.args.source.now in
    let token = c.token-token.result in
    let same = c.token-token.ensures.lexeme i in
    let l = head_of (front s i c.args.self.now.place.at) in
    let is = ap (λ (x : Lexeme). is_atom x.kind) (sym same) ∙ c.is_alone.ensures.atom c.if-is_alone.true in
    let ends = c.is_alone.ensures.end i c.if-is_alone.true in
    made_answers (RankedOf shows) (λ e. ShowRanked shows e (atom_case token.kind (lexeme_of s.get s.set i.texts token))) s i c.alone.new.self.place c.alone.result (records s i c.args.self.now.place) _ (c.alone.ensures.makes i s.get s.set)
    (λ e p.
    let shown = subst (λ (x : Lexeme). ShowRanked shows e (atom_case x.kind x)) same p in
    (atom_case l.kind l, shown.0, shown.1, shown.2, rw c.alone.ensures.place (read_at (alone_read _ _ _ _ is ends) (c.step.ensures.records i) (c.step.ensures.at i))))

pub assign_in-returns-then-is_single : goal.assign_in-returns-then-is_single
assign_in-returns-then-is_single g t c = λ i.
    let shows = g.H.Handler.shows_expr i in
    let s = c.args.source.now in
    let token = c.token-token.result in
    let same = c.token-token.ensures.lexeme i in
    let l = head_of (front s i c.args.self.now.place.at) in
    let is = ap (λ (x : Lexeme). is_atom x.kind) (sym same) ∙ c.is_single.ensures.atom c.if-is_single.true in
    let ends = c.is_single.ensures.end i c.if-is_single.true in
    made_answers (RankedOf shows) (λ e. ShowRanked shows e (atom_case token.kind (lexeme_of s.get s.set i.texts token))) s i c.alone.new.self.place c.alone.result (records s i c.args.self.now.place) _ (c.alone.ensures.makes i s.get s.set)
    (λ e p.
    let shown = subst (λ (x : Lexeme). ShowRanked shows e (atom_case x.kind x)) same p in
    (atom_case l.kind l, shown.0, shown.1, shown.2, rw c.alone.ensures.place (read_at (single_read _ _ _ _ is ends) (c.step.ensures.records i) (c.step.ensures.at i))))
