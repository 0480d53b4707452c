use Rattle.std.proofs.Common.{◌∙◌, ℕ, refl, subst, arith}
use Rattle.compile_shown.specs.Shown.{flagged}
use Rattle.compile_shown.specs.UpTo.{IsUpTo}
use Rattle.compile_shown.proofs.Flags.{flag_at, flag_next, flags_length}
use Rattle.compile_shown.proofs.Upward.{upward}
use Rattle.compile_shown.proofs.flagged.add_flagged.Goals as goal

pub loop-place-init : goal.loop-place-init
loop-place-init g c = (c.requires.belongs, λ want is are before. before, refl, omega arith, omega arith)

pub pass_function-requires-clause-place : goal.pass_function-requires-clause-place
pass_function-requires-clause-place g c =
    let state = c.requires.state in
    let same = flags_length state.0 c.args.board.now.initial.parts.records c.args.shown.now state.2 in
    omega (arith, same)

pub pass_function-requires-clause-state : goal.pass_function-requires-clause-state
pass_function-requires-clause-state g c =
    let state = c.requires.state in
    (state.0, state.1, c.loop-place.invariant.1 state.0 state.1 state.2 state.3)

pub pass_function-requires-clause-room : goal.pass_function-requires-clause-room
pass_function-requires-clause-room g c = λ yes.
    let state = c.requires.state in
    let sum = c.loop-place.invariant.2 in
    let most = c.loop-place.invariant.4 in
    let room = c.requires.room in (
      flagged c.args.shown.now,
      record {
        upward = upward state.0 c.args.board.now.bytes c.args.board.now.initial state.1 c.args.shown.now state.2;
        shows = flag_next c.args.shown.now c.loop-place.place ∙ yes;
        room = omega (arith, sum, most, room);
      },
    )

pub loop-place-preserved : goal.loop-place-preserved
loop-place-preserved g c =
    let state = c.requires.state in
    let before = c.loop-place.invariant in
    let e = c.in_ok-pass_function.ensures in
    let sum = e.sum in
    let sum_before = before.2 in
    let rising = e.rising in
    let rising_before = before.3 in
    let counted = e.counted (flagged c.args.shown.now) (upward state.0 c.args.board.now.bytes c.args.board.now.initial state.1 c.args.shown.now state.2) (flag_next c.args.shown.now c.loop-place.place) in
    let counted_before = before.4 in (
      e.belongs,
      λ want is are start. e.state want is (flag_at want c.args.board.now.initial.parts.records c.args.shown.now c.loop-place.place are (omega arith)) (before.1 want is are start),
      sum ∙ sum_before,
      omega (arith, rising, rising_before),
      omega (arith, counted, counted_before),
    )

pub returns-clause-state : goal.returns-clause-state
returns-clause-state g c = λ want is are before.
    subst (λ (n : ℕ). IsUpTo want c.args.board.now.bytes c.args.board.now.initial is n c.loop-place.merger) (omega arith) (c.loop-place.invariant.1 want is are before)

pub returns-clause-belongs : goal.returns-clause-belongs
returns-clause-belongs g c = c.loop-place.invariant.0

pub returns-clause-sum : goal.returns-clause-sum
returns-clause-sum g c = c.loop-place.invariant.2

pub returns-clause-rising : goal.returns-clause-rising
returns-clause-rising g c = c.loop-place.invariant.3

pub returns-clause-counted : goal.returns-clause-counted
returns-clause-counted g c = c.loop-place.invariant.4

pub returns-in_err-pass_function-clause-belongs : goal.returns-in_err-pass_function-clause-belongs
returns-in_err-pass_function-clause-belongs g c = c.in_err-pass_function.ensures.belongs

pub returns-in_err-pass_function-clause-sum : goal.returns-in_err-pass_function-clause-sum
returns-in_err-pass_function-clause-sum g c = c.in_err-pass_function.ensures.sum ∙ c.loop-place.invariant.2

pub returns-in_err-pass_function-clause-rising : goal.returns-in_err-pass_function-clause-rising
returns-in_err-pass_function-clause-rising g c =
    let now = c.in_err-pass_function.ensures.rising in
    let before = c.loop-place.invariant.3 in
    omega (arith, now, before)

pub returns-clause-most : goal.returns-clause-most
returns-clause-most g c = let counted = c.loop-place.invariant.4 in omega (arith, counted)

pub returns-in_err-pass_function-clause-most : goal.returns-in_err-pass_function-clause-most
returns-in_err-pass_function-clause-most g c =
    let state = c.requires.state in
    let most = c.in_err-pass_function.ensures.most (flagged c.args.shown.now) (upward state.0 c.args.board.now.bytes c.args.board.now.initial state.1 c.args.shown.now state.2) (flag_next c.args.shown.now c.loop-place.place) in
    let counted = c.loop-place.invariant.4 in
    omega (arith, most, counted)
