use Rattle.std.proofs.Common.{◌≡◌, ◌∙◌, ℕ, List, length, true, ap, sym, subst, arith}
use Rattle.std.specs.Arc.{arc_value}
use Rattle.lazy_compile.specs.Delazified.{all_texts}
use Rattle.lazy_compile.specs.declared.Delazified.{Delazified}
use Rattle.lazy_function.specs.Numbered.{IsCompiledFunction}
use Rattle.lazy_function.specs.Texts.{AreAmong}
use Rattle.lazy_function.proofs.Among.{test_of_among}
use Rattle.stencil_board.proofs.Counting.{suffices_all}
use Rattle.stencil_board.specs.Files.{File, IsFilled, file_at}
use Rattle.example_scripts.proofs.threads.ask.Goals as goal

filled : (file : File) (bytes : List ℕ) (texts : List (List ℕ)) (number : ℕ) (made : Delazified) → file ≡ record { bytes = bytes; texts = texts } → IsCompiledFunction bytes number made → AreAmong texts (all_texts made) → IsFilled file number made
filled file bytes texts number made is compiled among =
    subst (λ (f : File). IsFilled f number made) (sym is) (record { compiled = compiled; among = test_of_among texts (all_texts made) among })

pub request-requires-clause-room : goal.request-requires-clause-room
request-requires-clause-room g c =
    let same = ap length c.requires.belongs.cells in
    let all = c.requires.count in
    let room = c.new-sheet.ensures.room in
    (λ k. true, suffices_all c.args.board.now.initial c.args.number c.args.pass.now _ (omega (arith, same, all, room)))

pub returns-clause-filled : goal.returns-clause-filled
returns-clause-filled g c =
    let board = c.args.board.now in
    let files = g.N.Sources.files in
    filled (file_at files 0) board.bytes board.initial.parts.texts c.args.number (arc_value c.in_ok-made.made) (ap (file_at files) (sym c.requires.file) ∙ c.requires.board.picked)
    c.in_ok-made.ensures.compiled c.in_ok-made.ensures.texts
