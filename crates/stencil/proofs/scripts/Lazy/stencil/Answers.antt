use Rattle.std.proofs.Common.{arith}
use Rattle.compile_wanted.specs.Numbers.{to_show}
use Rattle.stencil.proofs.ScriptLemmas.{shown_few, shown_of}
use Rattle.stencil.proofs.scripts.Lazy.stencil.Goals as goal

pub compile_shown-requires-clause-room : goal.compile_shown-requires-clause-room
compile_shown-requires-clause-room c =
    let few = shown_few (to_show c.args.wanted) c.args.self.now.initial in
    let counted = c.function_count.ensures in
    let room = c.new-sheet.ensures.room in
    omega (arith, few, counted, room)

pub returns : goal.returns
returns c =
    let e = c.in_ok-stencil.ensures in
    shown_of (to_show c.args.wanted) c.args.text.now c.args.self.now.initial c.in_ok-stencil.stencil c.requires e.shown e.few e.small
