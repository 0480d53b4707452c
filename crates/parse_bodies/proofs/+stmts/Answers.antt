use Rattle.parse_bodies.proofs.Blocks.{stmt_deeper, stmt_no_room}
use Rattle.parse_bodies.proofs.Clauses.{all_joined, clause_made, clause_read, clause_turn_read, maybe_clause_made, maybe_clause_read, none_shown, some_shown}
use Rattle.parse_bodies.proofs.Faults.{refused_behind}
use Rattle.parse_bodies.proofs.Gains.{case_turn_gains, clause_turn_gains, stmt_turn_gains}
use Rattle.parse_bodies.proofs.Locals.{block_local}
use Rattle.parse_bodies.proofs.Parts.{maybe_read, maybe_stmt_read, stmt_maps}
use Rattle.parse_bodies.proofs.Rooms.{no_room_refuses}
use Rattle.parse_bodies.specs.Blocks.{block_at, stmts_at}
use Rattle.parse_bodies.specs.Means.{ListOf, MaybeClauseOf, StmtOf, place_of}
use Rattle.parse_exprs.proofs.Loops.{again_shorter, fewer_left, looping_again, looping_failed, looping_init, looping_stop}
use Rattle.parse_exprs.proofs.Made.{made_answers}
use Rattle.parse_exprs.proofs.Onward.{onward, onward_false, onward_true}
use Rattle.parse_exprs.proofs.Steps.{handed, just, made, refused, then, when_false, when_true}
use Rattle.parse_exprs.specs.Answers.{records}
use Rattle.parse_exprs.specs.Means.{ItemsOf, Itself}
use Rattle.grammar_parser_specs.specs.Parser.{Again, Stop}
use Rattle.grammar_parser_specs.specs.Stmts.{block_stmt, braced_from, braced_of, case_of, case_turn, clause_turn, clauses_from, default_of, do_of, else_of, for_decl, for_from, for_head, for_in_from, for_named, for_of, for_valued, if_of, labelled_of, more_clauses, stmt_turn, stmts_from, switch_of, try_of, while_of}
use Rattle.script_grammar.specs.Interpretation.{maybe_named, named}
use Rattle.script_grammar.specs.Proper.{takes_else}
use Rattle.script_grammar.specs.Shows.{ShowClause}
use Rattle.script_grammar.specs.TreeLists.{binds_of, clauses_of, maybe_expr_of, maybe_stmt_of, stmts_of}
use Rattle.std.proofs.Common.{Some, [], ap, refl, sym, ◌++◌, ◌∙◌, ◌∷◌, ◌≡◌}
use Rattle.grammar_parser_specs.specs.Stmts as pure
use Rattle.script_grammar.specs.Tree as tree
use Rattle.parse_bodies.proofs.+stmts.Goals as goal

pub switch::behind_default-returns : goal.switch::behind_default-returns
unfolding more_clauses
switch::behind_default-returns g t c = λ i d h. let a = c.in_ok-cases.ensures i in
    made_answers (ListOf (ShowClause (g.H.Handler.shows_expr i) (g.H.Handler.shows_stmt i))) _ c.args.source.now i c.cases.new.state.place c.joined.result (records c.args.source.now i c.args.state.now.place) _ c.joined.ensures
    (λ v p. (d ∷ a.0, rw (p, c.in_ok-push.ensures.items, c.new-first.ensures.items) (h, a.1), made (λ m. d ∷ m.items) a.2))

pub stmts::block_stmt-returns : goal.stmts::block_stmt-returns
unfolding block_stmt
stmts::block_stmt-returns g t c = λ i. let a = c.in_ok-items.ensures i in (tree.Block (stmts_of a.0), c.in_ok-node.ensures i a.0 a.1, refl, made _ a.2)

pub stmts::braced-returns : goal.stmts::braced-returns
unfolding braced_of
stmts::braced-returns g t c = λ i. let a = c.in_ok-stmts.ensures i in (a.0, a.1, then _ (c.in_ok-expect.ensures i) a.2)

pub stmts::braced_from-returns : goal.stmts::braced_from-returns
unfolding braced_from
stmts::braced_from-returns g t c = λ i. let a = c.in_ok-stmts.ensures i in (a.0, a.1, then _ a.2 (made _ (c.in_ok-expect.ensures i)))

pub switch::case_clause-returns : goal.switch::case_clause-returns
unfolding case_of
switch::case_clause-returns g t c = λ i. let a = c.in_ok-test.ensures i in let b = c.in_ok-items.ensures i in (a.0, a.1, (b.0, b.1, then _ a.4 (then _ (c.in_ok-expect.ensures i) (made _ b.2))))

pub switch::case_turn-returns : goal.switch::case_turn-returns
unfolding case_turn
switch::case_turn-returns g t c = λ i. let a = clause_read (g.H.Handler.shows_expr i) (g.H.Handler.shows_stmt i) c.in_ok-item.item (rw (c.step.ensures.at i, c.step.ensures.records i) at (c.in_ok-item.ensures i)) in
    clause_made (g.H.Handler.shows_expr i) (g.H.Handler.shows_stmt i) c.in_ok-item.item Again a.1 (when_true _ _ (sym (c.is_word.ensures i) ∙ c.if-not-is_word.false) (made Again a.2))

pub switch::cases-loop-items-init : goal.switch::cases-loop-items-init
switch::cases-loop-items-init g t c = λ i. rw c.new-items.ensures.items (looping_init _ _ _ _)

pub switch::cases-loop-items-preserved : goal.switch::cases-loop-items-preserved
switch::cases-loop-items-preserved g t c = λ i. let a = clause_turn_read (g.H.Handler.shows_expr i) (g.H.Handler.shows_stmt i) c.in-Next.item (rw c.in-Next.is at (c.in_ok-item.ensures i)) in rw c.in_ok-push-in-Next.ensures.items (looping_again _ a.0 (case_turn_gains (block_at i c.args.depth) (block_local i c.args.depth) c.args.returns) (c.loop-items.invariant i) a.2 a.1)

pub switch::cases-loop-items-smaller : goal.switch::cases-loop-items-smaller
switch::cases-loop-items-smaller g t c = fewer_left c.args.source.now _ _ (λ i. let a = clause_turn_read (g.H.Handler.shows_expr i) (g.H.Handler.shows_stmt i) c.in-Next.item (rw c.in-Next.is at (c.in_ok-item.ensures i)) in again_shorter _ (case_turn_gains (block_at i c.args.depth) (block_local i c.args.depth) c.args.returns) _ _ _ _ a.0 a.2)

pub switch::cases-returns-in-Last : goal.switch::cases-returns-in-Last
switch::cases-returns-in-Last g t c = λ i. let b = rw c.in-Last.is at (c.in_ok-item.ensures i) in looping_stop _ (c.loop-items.invariant i) b

pub switch::cases-returns-in_err-item : goal.switch::cases-returns-in_err-item
switch::cases-returns-in_err-item g t c = λ i. looping_failed c.args.source.now i c.case_turn.new.state.place c.in_err-item.field-0.0 c.from_residual.result (ItemsOf (ShowClause (g.H.Handler.shows_expr i) (g.H.Handler.shows_stmt i)) Itself) c.from_residual.ensures.1 (c.loop-items.invariant i) (c.in_err-item.ensures i)

pub switch::clause_turn-returns-then-is_word : goal.switch::clause_turn-returns-then-is_word
unfolding clause_turn
switch::clause_turn-returns-then-is_word g t c = λ i. let a = clause_read (g.H.Handler.shows_expr i) (g.H.Handler.shows_stmt i) c.in_ok-item.item (rw (c.step.ensures.at i, c.step.ensures.records i) at (c.in_ok-item.ensures i)) in
    clause_made (g.H.Handler.shows_expr i) (g.H.Handler.shows_stmt i) c.in_ok-item.item Again a.1 (when_true _ _ (sym (c.is_word.ensures i) ∙ c.if-is_word.true) (made Again a.2))

pub switch::clause_turn-returns-then-is_word-2 : goal.switch::clause_turn-returns-then-is_word-2
unfolding clause_turn
switch::clause_turn-returns-then-is_word-2 g t c = λ i. let a = clause_read (g.H.Handler.shows_expr i) (g.H.Handler.shows_stmt i) c.in_ok-last.last (rw (c.step-then-is_word-2.ensures.at i, c.step-then-is_word-2.ensures.records i) at (c.in_ok-last.ensures i)) in
    clause_made (g.H.Handler.shows_expr i) (g.H.Handler.shows_stmt i) c.in_ok-last.last (λ x. Stop (Some x)) a.1
    (when_false _ _ (sym (c.is_word.ensures i) ∙ c.if-is_word.false) (when_true _ _ (sym (c.is_word-2.ensures i) ∙ c.if-is_word-2.true) (made (λ x. Stop (Some x)) a.2)))

pub switch::clauses_from-returns : goal.switch::clauses_from-returns
unfolding clauses_from
switch::clauses_from-returns g t c = λ i. let a = c.in_ok-read.ensures i in
    let o = maybe_clause_read (g.H.Handler.shows_expr i) (g.H.Handler.shows_stmt i) c.in_ok-read.read.last (λ o. record { items = a.0; last = o }) a.2 in
    let d = c.in_ok-more.ensures i o.0 o.1 in
    made_answers (ListOf (ShowClause (g.H.Handler.shows_expr i) (g.H.Handler.shows_stmt i))) _ c.args.source.now i c.more_clauses.new.state.place c.joined.result (records c.args.source.now i c.args.state.now.place) _ c.joined.ensures
    (λ v p. (a.0 ++ d.0, rw p (all_joined _ _ _ _ _ a.1 d.1), then _ o.2 (made _ d.2)))

pub switch::clauses_from-returns-in_err-more : goal.switch::clauses_from-returns-in_err-more
unfolding clauses_from
switch::clauses_from-returns-in_err-more g t c = λ i. let s = c.args.source.now in let p = c.more_clauses.new.state.place in let e = c.in_err-more.field-0.0 in
    let a = c.in_ok-read.ensures i in
    let o = maybe_clause_read (g.H.Handler.shows_expr i) (g.H.Handler.shows_stmt i) c.in_ok-read.read.last (λ o. record { items = a.0; last = o }) a.2 in
    handed s i p e c.from_residual-in_err-more.result (ListOf (ShowClause (g.H.Handler.shows_expr i) (g.H.Handler.shows_stmt i))) _ _ c.from_residual-in_err-more.ensures.1 (refused_behind s i p e _ o.2 (refused s i p e _ _ _ (c.in_err-more.ensures i o.0 o.1)))

pub switch::clauses_to_default-loop-items-init : goal.switch::clauses_to_default-loop-items-init
switch::clauses_to_default-loop-items-init g t c = λ i. rw c.new-items.ensures.items (looping_init _ _ _ _)

pub switch::clauses_to_default-loop-items-preserved : goal.switch::clauses_to_default-loop-items-preserved
switch::clauses_to_default-loop-items-preserved g t c = λ i. let a = clause_turn_read (g.H.Handler.shows_expr i) (g.H.Handler.shows_stmt i) c.in-Next.item (rw c.in-Next.is at (c.in_ok-item.ensures i)) in rw c.in_ok-push-in-Next.ensures.items (looping_again _ a.0 (clause_turn_gains (block_at i c.args.depth) (block_local i c.args.depth) c.args.returns) (c.loop-items.invariant i) a.2 a.1)

pub switch::clauses_to_default-loop-items-smaller : goal.switch::clauses_to_default-loop-items-smaller
switch::clauses_to_default-loop-items-smaller g t c = fewer_left c.args.source.now _ _ (λ i. let a = clause_turn_read (g.H.Handler.shows_expr i) (g.H.Handler.shows_stmt i) c.in-Next.item (rw c.in-Next.is at (c.in_ok-item.ensures i)) in again_shorter _ (clause_turn_gains (block_at i c.args.depth) (block_local i c.args.depth) c.args.returns) _ _ _ _ a.0 a.2)

pub switch::clauses_to_default-returns-in-Last : goal.switch::clauses_to_default-returns-in-Last
switch::clauses_to_default-returns-in-Last g t c = λ i.
    let b = maybe_clause_read (g.H.Handler.shows_expr i) (g.H.Handler.shows_stmt i) c.in-Last.last Stop (rw c.in-Last.is at (c.in_ok-item.ensures i)) in
    let x = looping_stop b.0 (c.loop-items.invariant i) b.2 in
    (x.0, x.1, maybe_clause_made (g.H.Handler.shows_expr i) (g.H.Handler.shows_stmt i) c.in-Last.last (λ o. record { items = x.0; last = o }) b.1 x.2)

pub switch::clauses_to_default-returns-in_err-item : goal.switch::clauses_to_default-returns-in_err-item
switch::clauses_to_default-returns-in_err-item g t c = λ i. looping_failed c.args.source.now i c.clause_turn.new.state.place c.in_err-item.field-0.0 c.from_residual.result (ItemsOf (ShowClause (g.H.Handler.shows_expr i) (g.H.Handler.shows_stmt i)) (MaybeClauseOf (g.H.Handler.shows_expr i) (g.H.Handler.shows_stmt i))) c.from_residual.ensures.1 (c.loop-items.invariant i) (c.in_err-item.ensures i)

pub switch::default_clause-returns : goal.switch::default_clause-returns
unfolding default_of
switch::default_clause-returns g t c = λ i. let b = c.in_ok-items.ensures i in (b.0, b.1, then _ (c.in_ok-expect.ensures i) (made _ b.2))

pub loops::do_from-returns : goal.loops::do_from-returns
unfolding do_of
loops::do_from-returns g t c = λ i. let b = c.in_ok-body.ensures i in let a = c.in_ok-test.ensures i in
    (tree.Do b.0 a.0 c.in_ok-semi.semi, c.in_ok-node.ensures i b.0 a.0 b.1 a.1, refl, then _ b.3 (then _ (c.in_ok-expect_word.ensures i) (then _ a.2 (made _ (c.in_ok-semi.ensures i)))))

pub stmts::else_part-returns : goal.stmts::else_part-returns
unfolding else_of
stmts::else_part-returns g t c = λ i. let a = rw (c.step.ensures.at i, c.step.ensures.records i) at (c.in_ok-no.ensures i) in (a.0, a.1, a.2, when_true _ _ (sym (c.is_word.ensures i) ∙ c.if-not-is_word.false) (made Some a.3))

pub loops::for_decl-returns : goal.loops::for_decl-returns
unfolding for_decl
loops::for_decl-returns g t c = λ i. onward (StmtOf (g.H.Handler.shows_stmt i)) c.args.source.now i c.for_named.new.state.place c.for_named.result _ _ _ (stmt_maps (g.H.Handler.shows_stmt i)) (c.in_ok-name.ensures i) (c.for_named.ensures i)

pub loops::for_expr-returns : goal.loops::for_expr-returns
loops::for_expr-returns g t c = λ i. let a = c.in_ok-value.ensures i in onward (StmtOf (g.H.Handler.shows_stmt i)) c.args.source.now i c.for_valued.new.state.place c.for_valued.result _ _ _ (stmt_maps (g.H.Handler.shows_stmt i)) a.4 (c.for_valued.ensures i a.0 a.1 a.2)

pub loops::for_from-returns : goal.loops::for_from-returns
unfolding for_from
loops::for_from-returns g t c = λ i n h.
    let a = maybe_read (g.H.Handler.shows_expr i) c.in_ok-test.test (c.in_ok-test.ensures i) in
    let b = maybe_read (g.H.Handler.shows_expr i) c.in_ok-update.update (c.in_ok-update.ensures i) in
    let d = c.in_ok-body.ensures i in (
      tree.For n (maybe_expr_of a.0) (maybe_expr_of b.0) d.0,
      c.in_ok-node.ensures i n a.0 b.0 d.0 h a.1 b.1 d.1,
      d.2,
      then _ (c.in_ok-expect.ensures i) (then _ a.2 (then _ (c.in_ok-expect-2.ensures i) (then _ b.2 (then _ (c.in_ok-expect-3.ensures i) (made _ d.3))))),
    )

pub loops::for_from-returns-in_err-body : goal.loops::for_from-returns-in_err-body
unfolding for_from
loops::for_from-returns-in_err-body g t c = λ i n h. let s = c.args.source.now in let p = c.stmt.new.state.place in let e = c.in_err-body.field-0.0 in
    let a = maybe_read (g.H.Handler.shows_expr i) c.in_ok-test.test (c.in_ok-test.ensures i) in
    let b = maybe_read (g.H.Handler.shows_expr i) c.in_ok-update.update (c.in_ok-update.ensures i) in
    handed s i p e c.from_residual-in_err-body.result (StmtOf (g.H.Handler.shows_stmt i)) _ _ c.from_residual-in_err-body.ensures.1
    (refused_behind s i p e _ (c.in_ok-expect.ensures i) (refused_behind s i p e _ a.2 (refused_behind s i p e _ (c.in_ok-expect-2.ensures i) (refused_behind s i p e _ b.2 (refused_behind s i p e _ (c.in_ok-expect-3.ensures i) (refused s i p e _ _ _ (c.in_err-body.ensures i)))))))

pub loops::for_from-returns-in_err-expect-3 : goal.loops::for_from-returns-in_err-expect-3
unfolding for_from
loops::for_from-returns-in_err-expect-3 g t c = λ i n h. let s = c.args.source.now in let p = c.expect-3.new.self in let e = c.in_err-expect-3.field-0.0 in
    let a = maybe_read (g.H.Handler.shows_expr i) c.in_ok-test.test (c.in_ok-test.ensures i) in
    let b = maybe_read (g.H.Handler.shows_expr i) c.in_ok-update.update (c.in_ok-update.ensures i) in
    handed s i p e c.from_residual-in_err-expect-3.result (StmtOf (g.H.Handler.shows_stmt i)) _ _ c.from_residual-in_err-expect-3.ensures.1
    (refused_behind s i p e _ (c.in_ok-expect.ensures i) (refused_behind s i p e _ a.2 (refused_behind s i p e _ (c.in_ok-expect-2.ensures i) (refused_behind s i p e _ b.2 (refused s i p e _ _ _ (c.in_err-expect-3.ensures i))))))

pub loops::for_from-returns-in_err-update : goal.loops::for_from-returns-in_err-update
unfolding for_from
loops::for_from-returns-in_err-update g t c = λ i n h. let s = c.args.source.now in let p = c.option-2.new.state.place in let e = c.in_err-update.field-0.0 in
    let a = maybe_read (g.H.Handler.shows_expr i) c.in_ok-test.test (c.in_ok-test.ensures i) in
    handed s i p e c.from_residual-in_err-update.result (StmtOf (g.H.Handler.shows_stmt i)) _ _ c.from_residual-in_err-update.ensures.1
    (refused_behind s i p e _ (c.in_ok-expect.ensures i) (refused_behind s i p e _ a.2 (refused_behind s i p e _ (c.in_ok-expect-2.ensures i) (refused s i p e _ _ _ (c.in_err-update.ensures i)))))

pub loops::for_head-returns-then-is_mark : goal.loops::for_head-returns-then-is_mark
unfolding for_head
loops::for_head-returns-then-is_mark g t c = λ i. onward_true (StmtOf (g.H.Handler.shows_stmt i)) c.args.source.now i c.for_from.new.state.place c.for_from.result _ _ _ _ (sym (c.is_mark.ensures i) ∙ c.if-is_mark.true) (c.for_from.ensures i tree.NoInit refl)

pub loops::for_in_from-returns : goal.loops::for_in_from-returns
unfolding for_in_from
loops::for_in_from-returns g t c = λ i n h. let a = c.in_ok-over.ensures i in let b = c.in_ok-body.ensures i in
    (tree.ForIn n a.0 b.0, c.in_ok-node.ensures i n a.0 b.0 h a.1 b.1, b.2, then _ a.4 (then _ (c.in_ok-expect.ensures i) (made _ b.3)))

pub loops::for_named-returns : goal.loops::for_named-returns
unfolding for_named
loops::for_named-returns g t c = λ i. let a = c.in_ok-binds.ensures i in let s = c.args.source.now in
    onward_false (StmtOf (g.H.Handler.shows_stmt i)) s i c.for_from.new.state.place c.for_from.result _ _ _ _ (sym (c.is_word.ensures i) ∙ c.if-is_word.false)
    (onward (StmtOf (g.H.Handler.shows_stmt i)) s i c.for_from.new.state.place c.for_from.result _ _ _ (stmt_maps (g.H.Handler.shows_stmt i)) a.3 (c.for_from.ensures i (tree.BindsInit c.args.decl (binds_of a.0)) (a.0, a.1, refl)))

pub loops::for_named-returns-then-is_word : goal.loops::for_named-returns-then-is_word
unfolding for_named
loops::for_named-returns-then-is_word g t c = λ i.
    onward_true (StmtOf (g.H.Handler.shows_stmt i)) c.args.source.now i c.for_in_from.new.state.place c.for_in_from.result _ _ _ _ (sym (c.is_word.ensures i) ∙ c.if-is_word.true)
    (rw (c.step.ensures.at i, c.step.ensures.records i) at (c.for_in_from.ensures i (tree.BindEach c.args.decl (named i c.args.name)) refl))

pub loops::for_stmt-returns : goal.loops::for_stmt-returns
unfolding for_of
loops::for_stmt-returns g t c = λ i. onward (StmtOf (g.H.Handler.shows_stmt i)) c.args.source.now i c.for_head.new.state.place c.for_head.result _ _ _ (stmt_maps (g.H.Handler.shows_stmt i)) (c.in_ok-expect.ensures i) (c.for_head.ensures i)

pub loops::for_valued-returns : goal.loops::for_valued-returns
unfolding for_valued
loops::for_valued-returns g t c = λ i t h k.
    onward_false (StmtOf (g.H.Handler.shows_stmt i)) c.args.source.now i c.for_from.new.state.place c.for_from.result _ _ _ _ (sym (c.is_for_in.ensures i t k) ∙ c.if-is_for_in.false) (c.for_from.ensures i (tree.ValueInit t) (t, h, refl))

pub loops::for_valued-returns-then-is_for_in : goal.loops::for_valued-returns-then-is_for_in
unfolding for_valued
loops::for_valued-returns-then-is_for_in g t c = λ i t h k.
    onward_true (StmtOf (g.H.Handler.shows_stmt i)) c.args.source.now i c.for_in_from.new.state.place c.for_in_from.result _ _ _ _ (sym (c.is_for_in.ensures i t k) ∙ c.if-is_for_in.true)
    (rw (c.step.ensures.at i, c.step.ensures.records i) at (c.for_in_from.ensures i (tree.TargetEach t) (t, h, refl)))

pub stmts::if_from-returns : goal.stmts::if_from-returns
unfolding if_of
stmts::if_from-returns g t c = λ i. let a = c.in_ok-test.ensures i in let b = c.in_ok-yes.ensures i in
    let d = maybe_stmt_read (g.H.Handler.shows_stmt i) c.in_ok-no.no (c.in_ok-no.ensures i b.0 b.2) in
    made_answers (StmtOf (g.H.Handler.shows_stmt i)) (λ v. g.H.Handler.shows_stmt i v.node (tree.If a.0 b.0 (maybe_stmt_of d.0)) × (v.takes_else ≡ takes_else (tree.If a.0 b.0 (maybe_stmt_of d.0)))) c.args.source.now i c.make_if.new.state.place c.make_if.result (records c.args.source.now i c.args.state.now.place) _ (c.make_if.ensures.makes i a.0 b.0 d.0 a.1 b.1 d.1)
    (λ v p. (tree.If a.0 b.0 (maybe_stmt_of d.0), p.0, p.1, rw c.make_if.ensures.place (then _ a.2 (then _ b.3 (made _ d.2)))))

pub stmts::items-loop-items-init : goal.stmts::items-loop-items-init
stmts::items-loop-items-init g t c = λ i. rw c.new-items.ensures.items (looping_init _ _ _ _)

pub stmts::items-loop-items-preserved : goal.stmts::items-loop-items-preserved
stmts::items-loop-items-preserved g t c = λ i. let a = rw c.in-Next.is at (c.in_ok-item.ensures i) in rw c.in_ok-push-in-Next.ensures.items (looping_again _ a.0 (stmt_turn_gains (stmts_at i c.args.depth) (block_local i c.args.depth).stmts c.args.returns) (c.loop-items.invariant i) a.2 a.1)

pub stmts::items-loop-items-smaller : goal.stmts::items-loop-items-smaller
stmts::items-loop-items-smaller g t c = fewer_left c.args.source.now _ _ (λ i. let a = rw c.in-Next.is at (c.in_ok-item.ensures i) in again_shorter _ (stmt_turn_gains (stmts_at i c.args.depth) (block_local i c.args.depth).stmts c.args.returns) _ _ _ _ a.0 a.2)

pub stmts::items-returns-in-Last : goal.stmts::items-returns-in-Last
stmts::items-returns-in-Last g t c = λ i. let b = rw c.in-Last.is at (c.in_ok-item.ensures i) in looping_stop _ (c.loop-items.invariant i) b

pub stmts::items-returns-in_err-item : goal.stmts::items-returns-in_err-item
stmts::items-returns-in_err-item g t c = λ i. looping_failed c.args.source.now i c.stmt_turn.new.state.place c.in_err-item.field-0.0 c.from_residual.result (ItemsOf (g.H.Handler.shows_stmt i) Itself) c.from_residual.ensures.1 (c.loop-items.invariant i) (c.in_err-item.ensures i)

pub stmts::labelled-returns : goal.stmts::labelled-returns
unfolding labelled_of
stmts::labelled-returns g t c = λ i. let b = c.in_ok-body.ensures i in
    (tree.Label (named i c.in_ok-name.name) b.0, c.in_ok-node.ensures i b.0 b.1, b.2, then _ (c.in_ok-name.ensures i) (then _ (c.in_ok-expect.ensures i) (made _ b.3)))

pub switch::more_clauses-returns-in-None : goal.switch::more_clauses-returns-in-None
unfolding more_clauses
switch::more_clauses-returns-in-None g t c = λ i o h. let e = none_shown (ShowClause (g.H.Handler.shows_expr i) (g.H.Handler.shows_stmt i)) o (rw c.in-None.is at h) in rw (e, c.new.ensures.items) ([], tt, just _ _ _)

pub switch::more_clauses-returns-in-Some : goal.switch::more_clauses-returns-in-Some
unfolding more_clauses
switch::more_clauses-returns-in-Some g t c = λ i o h. let x = some_shown (ShowClause (g.H.Handler.shows_expr i) (g.H.Handler.shows_stmt i)) c.in-Some.default o (rw c.in-Some.is at h) in rw x.2 (c.behind_default.ensures i x.0 x.1)

pub stmts::stmt-returns : goal.stmts::stmt-returns
stmts::stmt-returns g t c = λ i. rw (stmt_deeper i c.args.depth (place_of c.args.position) c.if-depth-ge-DEPTH_LIMIT.false) (c.stmt_in.ensures i)

pub stmts::stmt-returns-then-depth-ge-DEPTH_LIMIT : goal.stmts::stmt-returns-then-depth-ge-DEPTH_LIMIT
stmts::stmt-returns-then-depth-ge-DEPTH_LIMIT g t c = λ i. rw (stmt_no_room i c.args.depth (place_of c.args.position) c.if-depth-ge-DEPTH_LIMIT.true)
    (no_room_refuses _ c.args.source.now i c.args.state.now.place c.no_room.result (pure.begins_stmt (place_of c.args.position)) c.begins_stmt-begins.result (c.begins_stmt-begins.ensures ∙ ap (pure.begins_stmt (place_of c.args.position)) (c.kind.ensures i)) c.no_room.ensures)

pub stmts::stmt_turn-returns : goal.stmts::stmt_turn-returns
unfolding stmt_turn
stmts::stmt_turn-returns g t c = λ i. let a = c.in_ok-item.ensures i in (a.0, a.1, when_false _ _ (sym (c.ends_items.ensures ∙ ap pure.ends_items (c.kind.ensures i)) ∙ c.if-ends_items.false) (made _ a.3))

pub stmts::stmts_from-returns : goal.stmts::stmts_from-returns
unfolding stmts_from
stmts::stmts_from-returns g t c = λ i. let a = c.in_ok-stmts.ensures i in (a.0, a.1, made _ a.2)

pub switch::switch_from-returns : goal.switch::switch_from-returns
unfolding switch_of
switch::switch_from-returns g t c = λ i. let a = c.in_ok-of.ensures i in let b = c.in_ok-clauses.ensures i in
    (tree.Switch a.0 (clauses_of b.0), c.in_ok-node.ensures i a.0 b.0 a.1 b.1, refl, then _ a.2 (then _ (c.in_ok-expect.ensures i) (then _ b.2 (made _ (c.in_ok-expect-2.ensures i)))))

pub switch::switch_from-returns-in_err-expect-2 : goal.switch::switch_from-returns-in_err-expect-2
unfolding switch_of
switch::switch_from-returns-in_err-expect-2 g t c = λ i. let s = c.args.source.now in let p = c.expect-2.new.self in let e = c.in_err-expect-2.field-0.0 in let a = c.in_ok-of.ensures i in let b = c.in_ok-clauses.ensures i in
    handed s i p e c.from_residual-in_err-expect-2.result (StmtOf (g.H.Handler.shows_stmt i)) _ _ c.from_residual-in_err-expect-2.ensures.1
    (refused_behind s i p e _ a.2 (refused_behind s i p e _ (c.in_ok-expect.ensures i) (refused_behind s i p e _ b.2 (refused s i p e _ _ _ (c.in_err-expect-2.ensures i)))))

pub stmts::try_from-returns : goal.stmts::try_from-returns
unfolding try_of
stmts::try_from-returns g t c = λ i. let a = c.in_ok-body.ensures i in let b = c.in_ok-handler.ensures i in
    (tree.Try (stmts_of a.0) (maybe_named i c.in_ok-param.param) (stmts_of b.0), c.in_ok-node.ensures i a.0 b.0 a.1 b.1, refl, then _ a.2 (then _ (c.in_ok-expect_word.ensures i) (then _ (c.in_ok-param.ensures i) (made _ b.2))))

pub stmts::try_from-returns-in_err-handler : goal.stmts::try_from-returns-in_err-handler
unfolding try_of
stmts::try_from-returns-in_err-handler g t c = λ i. let s = c.args.source.now in let p = c.braced-2.new.state.place in let e = c.in_err-handler.field-0.0 in let a = c.in_ok-body.ensures i in
    handed s i p e c.from_residual-in_err-handler.result (StmtOf (g.H.Handler.shows_stmt i)) _ _ c.from_residual-in_err-handler.ensures.1
    (refused_behind s i p e _ a.2 (refused_behind s i p e _ (c.in_ok-expect_word.ensures i) (refused_behind s i p e _ (c.in_ok-param.ensures i) (refused s i p e _ _ _ (c.in_err-handler.ensures i)))))

pub loops::while_from-returns : goal.loops::while_from-returns
unfolding while_of
loops::while_from-returns g t c = λ i. let a = c.in_ok-test.ensures i in let b = c.in_ok-body.ensures i in
    (tree.While a.0 b.0, c.in_ok-node.ensures i a.0 b.0 a.1 b.1, b.2, then _ a.2 (made _ b.3))
