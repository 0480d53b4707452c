use Rattle.std.proofs.Common.{◌≡◌, ◌∙◌, ℕ, List, IfOk, length, sym, ap, subst, arith}
use Rattle.compile_specs.specs.Shown.{Wanted}
use Rattle.compile_initial.specs.declared.InitialStencil.{InitialStencil}
use Rattle.compile_shown.specs.Shown.{AreFlags, ShowsWanted}
use Rattle.compile_shown.proofs.Flags.{flags_length}
use Rattle.compile_shown.proofs.Lacking.{lacks_most}
use Rattle.compile_shown.proofs.compile_flagged.Goals as goal

pub merge_shown-requires-clause-room : goal.merge_shown-requires-clause-room
merge_shown-requires-clause-room g c =
    let flags = c.requires.flags in
    let same : length c.in_ok-pass.pass.cells ≡ length c.args.shown.now =
    ap length c.in_ok-pass.ensures.belongs.cells ∙ c.in_ok-board.ensures.cells ∙ sym (flags_length flags.0 c.args.initial.now.parts.records c.args.shown.now flags.1) in
    let most = lacks_most c.args.shown.now c.in_ok-pass.pass same in
    let room = c.requires.room in
    omega (arith, most, room)

pub returns-clause-shown : goal.returns-clause-shown
returns-clause-shown g c =
    let shown = c.args.shown.now in
    subst (λ (b : List ℕ). IfOk c.merge_shown.result (λ merged. (want : Wanted) → AreFlags want c.args.initial.now.parts.records shown → ShowsWanted want b c.args.initial.now merged)) c.in_ok-board.ensures.bytes_are
    (subst (λ (i : InitialStencil). IfOk c.merge_shown.result (λ merged. (want : Wanted) → AreFlags want i.parts.records shown → ShowsWanted want c.in_ok-board.board.bytes i merged)) c.in_ok-board.ensures.initial_is c.merge_shown.ensures.shown)

pub returns-clause-most : goal.returns-clause-most
returns-clause-most g c =
    let flags = c.requires.flags in
    let same : length c.in_ok-pass.pass.cells ≡ length c.args.shown.now =
    ap length c.in_ok-pass.ensures.belongs.cells ∙ c.in_ok-board.ensures.cells ∙ sym (flags_length flags.0 c.args.initial.now.parts.records c.args.shown.now flags.1) in
    let most = lacks_most c.args.shown.now c.in_ok-pass.pass same in
    let more = c.merge_shown.ensures.most in
    omega (arith, most, more)
