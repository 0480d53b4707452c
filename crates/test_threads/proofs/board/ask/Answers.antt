use Rattle.std.proofs.Common.{◌≡◌, ℕ, List, length, true, sym, subst, ap, arith}
use Rattle.std.specs.Arc.{arc_value}
use Rattle.lazy_compile.specs.Delazified.{all_texts}
use Rattle.lazy_compile.specs.declared.Delazified.{Delazified}
use Rattle.lazy_function.specs.Numbered.{IsCompiledFunction}
use Rattle.lazy_function.specs.Texts.{AreAmong}
use Rattle.lazy_function.proofs.Among.{test_of_among}
use Rattle.stencil_board.proofs.Counting.{suffices_all}
use Rattle.stencil_board.specs.Files.{File, IsFilled, file_at}
use Rattle.test_threads.proofs.board.ask.Goals as goal

-- what a function of the picked file is compiled to is its result
filled : (file : File) (bytes : List ℕ) (texts : List (List ℕ)) → file ≡ record { bytes = bytes; texts = texts } → (number : ℕ) (made : Delazified) → IsCompiledFunction bytes number made → AreAmong texts (all_texts made) → IsFilled file number made
filled file bytes texts is number made compiled among =
    subst (λ (f : File). IsFilled f number made) (sym is) (record { compiled = compiled; among = test_of_among texts (all_texts made) among })

pub request-requires-clause-room : goal.request-requires-clause-room
request-requires-clause-room g c =
    let same = ap length c.requires.belongs.cells in
    let two = c.requires.two in
    let room = c.new-sheet.ensures.room in
    (λ k. true, suffices_all c.args.board.now.initial c.args.number c.args.pass.now _ (omega (arith, same, two, room)))

pub returns-clause-is : goal.returns-clause-is
returns-clause-is g c =
    let board = c.args.board.now in
    filled (file_at g.N.Sources.files board.file) board.bytes board.initial.parts.texts c.requires.board.picked c.args.number (arc_value c.in_ok-made.made) c.in_ok-made.ensures.compiled c.in_ok-made.ensures.texts
