use Rattle.std.proofs.Common.{◌∙◌, arith}
use Rattle.compile_wanted.specs.Numbers.{to_show}
use Rattle.compile_shown.proofs.Flags.{flags_count}
use Rattle.compile_shown.proofs.compile_shown.Goals as goal

pub compile_flagged-requires-clause-room : goal.compile_flagged-requires-clause-room
compile_flagged-requires-clause-room g c =
    let count = flags_count (to_show c.args.wanted) c.args.initial.now.parts.records c.deref.result.now (c.deref.ensures.value ∙ c.in_ok-flags.ensures) in
    let room = c.requires.room in
    omega (arith, count, room)

pub returns-clause-most : goal.returns-clause-most
returns-clause-most g c =
    let count = flags_count (to_show c.args.wanted) c.args.initial.now.parts.records c.deref.result.now (c.deref.ensures.value ∙ c.in_ok-flags.ensures) in
    let most = c.compile_flagged.ensures.most in
    omega (arith, count, most)
