use Rattle.std.proofs.Common.{◌≡◌, ◌∙◌, length, option_map, None, sym, ap, arith}
use Rattle.std.specs.Arc.{arc_value}
use Rattle.stencil_board.specs.Files.{IsFilled, file_at}
use Rattle.stencil_board.specs.Passes.{at_hand}
use Rattle.stencil_board.proofs.AtHand.{keeps_both}
use Rattle.stencil_board.proofs.Counting.{lacking_less, lacking_one_less, lacks_some, one_lacking}
use Rattle.stencil_board.proofs.FilledFacts.{filled_compiled, filled_texts, if_some}
use Rattle.stencil_board.proofs.board.Board.fill.Goals as goal

pub returns-in-Some-clause-compiled : goal.returns-in-Some-clause-compiled
returns-in-Some-clause-compiled g c =
    let board = c.args.self.now in
    let file = file_at g.N.Sources.files board.file in
    filled_compiled file board.bytes board.initial.parts.texts c.requires.board.picked c.args.number (arc_value c.in-Some.found)
    (if_some (λ made. IsFilled file c.args.number (arc_value made)) c.in_ok-found.field-0 c.in-Some.found c.in-Some.is c.in_ok-found.ensures.is)

pub returns-in-Some-clause-texts : goal.returns-in-Some-clause-texts
returns-in-Some-clause-texts g c =
    let board = c.args.self.now in
    let file = file_at g.N.Sources.files board.file in
    filled_texts file board.bytes board.initial.parts.texts c.requires.board.picked c.args.number (arc_value c.in-Some.found)
    (if_some (λ made. IsFilled file c.args.number (arc_value made)) c.in_ok-found.field-0 c.in-Some.found c.in-Some.is c.in_ok-found.ensures.is)

pub returns-in-Some-clause-counted : goal.returns-in-Some-clause-counted
returns-in-Some-clause-counted g c = λ shown is.
    let less = lacking_less shown c.args.pass.now c.at_hand.new.pass (ap length (c.in_ok-found.ensures.belongs.cells ∙ sym c.requires.belongs.cells)) c.in_ok-found.ensures.keeps in
    omega (arith, less)

pub compile-requires-clause-room : goal.compile-requires-clause-room
compile-requires-clause-room g c =
    let room = c.requires.room in
    let shown = room.0 in
    let same : length c.at_hand.new.pass.cells ≡ length c.args.pass.now.cells = ap length (c.in_ok-found.ensures.belongs.cells ∙ sym c.requires.belongs.cells) in
    let long : length c.args.pass.now.cells ≡ length c.args.self.now.cells = ap length c.requires.belongs.cells in
    let high = c.requires.number.1 in
    let less = lacking_less shown c.args.pass.now c.at_hand.new.pass same c.in_ok-found.ensures.keeps in
    let none : at_hand c.at_hand.new.pass c.args.number ≡ None = sym c.in_ok-found.ensures.found ∙ ap (option_map arc_value) c.in_default.is in
    let some = lacks_some shown c.args.number c.at_hand.new.pass c.requires.number.0 (omega (arith, same, long, high)) room.1 none in
    let left = room.2 in
    omega (arith, less, some, left)

pub returns-clause-compiled : goal.returns-clause-compiled
returns-clause-compiled g c =
    let board = c.args.self.now in
    filled_compiled (file_at g.N.Sources.files board.file) board.bytes board.initial.parts.texts c.requires.board.picked c.args.number (arc_value c.in_ok-held.held) c.in_ok-held.ensures.is

pub returns-clause-texts : goal.returns-clause-texts
returns-clause-texts g c =
    let board = c.args.self.now in
    filled_texts (file_at g.N.Sources.files board.file) board.bytes board.initial.parts.texts c.requires.board.picked c.args.number (arc_value c.in_ok-held.held) c.in_ok-held.ensures.is

pub returns-clause-keeps : goal.returns-clause-keeps
returns-clause-keeps g c = keeps_both c.args.pass.now c.at_hand.new.pass c.put.new.pass c.in_ok-found.ensures.keeps c.put.ensures.keeps

pub returns-in_err-held-clause-keeps : goal.returns-in_err-held-clause-keeps
returns-in_err-held-clause-keeps g c = keeps_both c.args.pass.now c.at_hand.new.pass c.put.new.pass c.in_ok-found.ensures.keeps c.put.ensures.keeps

pub returns-clause-counted : goal.returns-clause-counted
returns-clause-counted g c = λ shown is.
    let same : length c.at_hand.new.pass.cells ≡ length c.args.pass.now.cells = ap length (c.in_ok-found.ensures.belongs.cells ∙ sym c.requires.belongs.cells) in
    let long : length c.args.pass.now.cells ≡ length c.args.self.now.cells = ap length c.requires.belongs.cells in
    let high = c.requires.number.1 in
    let less = lacking_less shown c.args.pass.now c.at_hand.new.pass same c.in_ok-found.ensures.keeps in
    let none : at_hand c.at_hand.new.pass c.args.number ≡ None = sym c.in_ok-found.ensures.found ∙ ap (option_map arc_value) c.in_default.is in
    let one =
    lacking_one_less shown c.args.number c.at_hand.new.pass c.put.new.pass (arc_value c.in_ok-held.held) c.requires.number.0 (omega (arith, same, long, high))
    (ap length (c.put.ensures.belongs.cells ∙ sym c.in_ok-found.ensures.belongs.cells)) c.put.ensures.keeps is none c.in_ok-held.ensures.found in
    let counts = c.compile.ensures.counted in
    let up = counts.count in
    omega (arith, less, one, up)

pub returns-clause-most : goal.returns-clause-most
returns-clause-most g c = λ shown is.
    let same : length c.at_hand.new.pass.cells ≡ length c.args.pass.now.cells = ap length (c.in_ok-found.ensures.belongs.cells ∙ sym c.requires.belongs.cells) in
    let long : length c.args.pass.now.cells ≡ length c.args.self.now.cells = ap length c.requires.belongs.cells in
    let high = c.requires.number.1 in
    let none : at_hand c.at_hand.new.pass c.args.number ≡ None = sym c.in_ok-found.ensures.found ∙ ap (option_map arc_value) c.in_default.is in
    let one = one_lacking shown c.args.number c.args.pass.now c.at_hand.new.pass same c.in_ok-found.ensures.keeps c.requires.number.0 (omega (arith, same, long, high)) is none in
    let up = c.compile.ensures.counted.count in
    omega (arith, one, up)

pub returns-in_err-made-clause-most : goal.returns-in_err-made-clause-most
returns-in_err-made-clause-most g c = λ shown is.
    let same : length c.at_hand.new.pass.cells ≡ length c.args.pass.now.cells = ap length (c.in_ok-found.ensures.belongs.cells ∙ sym c.requires.belongs.cells) in
    let long : length c.args.pass.now.cells ≡ length c.args.self.now.cells = ap length c.requires.belongs.cells in
    let high = c.requires.number.1 in
    let none : at_hand c.at_hand.new.pass c.args.number ≡ None = sym c.in_ok-found.ensures.found ∙ ap (option_map arc_value) c.in_default.is in
    let one = one_lacking shown c.args.number c.args.pass.now c.at_hand.new.pass same c.in_ok-found.ensures.keeps c.requires.number.0 (omega (arith, same, long, high)) is none in
    let up = c.compile.ensures.counted.count in
    omega (arith, one, up)

pub returns-in_err-held-clause-most : goal.returns-in_err-held-clause-most
returns-in_err-held-clause-most g c = λ shown is.
    let same : length c.at_hand.new.pass.cells ≡ length c.args.pass.now.cells = ap length (c.in_ok-found.ensures.belongs.cells ∙ sym c.requires.belongs.cells) in
    let long : length c.args.pass.now.cells ≡ length c.args.self.now.cells = ap length c.requires.belongs.cells in
    let high = c.requires.number.1 in
    let none : at_hand c.at_hand.new.pass c.args.number ≡ None = sym c.in_ok-found.ensures.found ∙ ap (option_map arc_value) c.in_default.is in
    let one = one_lacking shown c.args.number c.args.pass.now c.at_hand.new.pass same c.in_ok-found.ensures.keeps c.requires.number.0 (omega (arith, same, long, high)) is none in
    let up = c.compile.ensures.counted.count in
    omega (arith, one, up)
