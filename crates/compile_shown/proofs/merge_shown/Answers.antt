use Rattle.std.proofs.Common.{◌^◌, ◌<◌, length, sym, subst}
use Rattle.stencil_data.specs.MergedView.{MergedView}
use Rattle.bytecode_buf.specs.InRange.{TextsSmall}
use Rattle.compile_wanted.specs.Shows.{Shows}
use Rattle.compile_initial.specs.declared.InitialStencil.{InitialStencil}
use Rattle.compile_initial.specs.Initial.{IsInitialOf}
use Rattle.compile_shown.specs.UpTo.{BeginsWith}
use Rattle.compile_shown.proofs.Flags.{flags_length}
use Rattle.compile_shown.proofs.Steps.{few_at_end, shown_at_end, small_at_end}
use Rattle.compile_shown.proofs.merge_shown.Goals as goal

pub begin-requires : goal.begin-requires
begin-requires g c =
    let board = c.args.board.now in
    (board.bytes, subst (λ (i : InitialStencil). IsInitialOf board.bytes i) (sym c.initial.ensures) c.requires.board.initial)

pub add_flagged-requires-clause-state : goal.add_flagged-requires-clause-state
add_flagged-requires-clause-state g c =
    let board = c.args.board.now in
    let begun = subst (λ (i : InitialStencil). BeginsWith i c.in_ok-merger.merger) c.initial.ensures c.in_ok-merger.ensures in
    (c.requires.flags.0, c.requires.board.initial, c.requires.flags.1, begun c.requires.flags.0 board.bytes c.requires.board.initial)

pub returns-clause-shown : goal.returns-clause-shown
returns-clause-shown g c = λ want are is.
    let board = c.args.board.now in
    let begun = subst (λ (i : InitialStencil). BeginsWith i c.in_ok-merger.merger) c.initial.ensures c.in_ok-merger.ensures in
    subst (λ (m : MergedView). Shows want is.items (length board.bytes) m) (sym c.finish-merged.ensures.merged)
    (shown_at_end want board.bytes board.initial is (length c.args.shown.now) c.add_flagged.new.merger (flags_length want board.initial.parts.records c.args.shown.now are)
    (c.in_ok-add_flagged.ensures.state want is are (begun want board.bytes is)))

pub returns-clause-few : goal.returns-clause-few
returns-clause-few g c =
    let board = c.args.board.now in
    let want = c.requires.flags.0 in
    let is = c.requires.board.initial in
    let begun = subst (λ (i : InitialStencil). BeginsWith i c.in_ok-merger.merger) c.initial.ensures c.in_ok-merger.ensures in
    subst (λ (m : MergedView). length m.texts < 2 ^ 31) (sym c.finish-merged.ensures.merged)
    (few_at_end want board.bytes board.initial is (length c.args.shown.now) c.add_flagged.new.merger (c.in_ok-add_flagged.ensures.state want is c.requires.flags.1 (begun want board.bytes is)))

pub returns-clause-small : goal.returns-clause-small
returns-clause-small g c =
    let board = c.args.board.now in
    let want = c.requires.flags.0 in
    let is = c.requires.board.initial in
    let begun = subst (λ (i : InitialStencil). BeginsWith i c.in_ok-merger.merger) c.initial.ensures c.in_ok-merger.ensures in
    subst (λ (m : MergedView). TextsSmall m.texts) (sym c.finish-merged.ensures.merged)
    (small_at_end want board.bytes board.initial is (length c.args.shown.now) c.add_flagged.new.merger (c.in_ok-add_flagged.ensures.state want is c.requires.flags.1 (begun want board.bytes is)))
