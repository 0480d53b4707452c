use Rattle.std.proofs.Common.{ℕ, ◌+◌, List, refl, sym, subst, arith}
use Rattle.std.proofs.lemmas.Result.{on_ok_weaker}
use Rattle.lazy_compile.specs.declared.Delazified.{Delazified}
use Rattle.lazy_compile.specs.Delazified.{all_texts}
use Rattle.lazy_compile.proofs.Behind.{words_many}
use Rattle.lazy_function.specs.Numbered.{IsCompiledFunction}
use Rattle.lazy_function.specs.Texts.{AreAmong}
use Rattle.stencil_merge.specs.Atoms.{TakesIn}
use Rattle.stencil_merge.specs.Merging.{Adds}
use Rattle.compile_shown.proofs.Flags.{few_records}
use Rattle.compile_shown.proofs.Steps.{compiled_next, few_next, number_next, same_texts}
use Rattle.compile_shown.proofs.flagged.add_function.Goals as goal

pub overflow_cast-number : goal.overflow_cast-number
overflow_cast-number g c =
    let state = c.requires.state in
    let few = few_records state.0 c.args.board.now.bytes c.args.board.now.initial state.1 in
    let lt = c.requires.place in
    omega (arith, few, lt)

pub overflow_add-number : goal.overflow_add-number
overflow_add-number g c =
    let state = c.requires.state in
    let few = few_records state.0 c.args.board.now.bytes c.args.board.now.initial state.1 in
    let lt = c.requires.place in
    omega (arith, few, lt)

pub request-requires-clause-number : goal.request-requires-clause-number
request-requires-clause-number g c =
    let lt = c.requires.place in
    let cells = c.requires.board.cells in
    (omega arith, omega (arith, lt, cells))

pub add_behind-requires-clause-function : goal.add_behind-requires-clause-function
add_behind-requires-clause-function g c =
    let state = c.requires.state in
    number_next state.0 c.args.board.now.bytes c.args.board.now.initial state.1 c.args.place c.args.merger.now c.requires.place state.2

pub add_behind-requires-clause-known : goal.add_behind-requires-clause-known
add_behind-requires-clause-known g c = let state = c.requires.state in words_many c.args.merger.now.texts state.2.known

pub add_behind-requires-clause-few : goal.add_behind-requires-clause-few
add_behind-requires-clause-few g c =
    let state = c.requires.state in
    let made = c.args.board.now.initial in
    few_next state.0 c.args.board.now.bytes made state.1 c.args.place (c.args.place + 1) c.deref-alone.result.now c.args.merger.now c.deref.result.now c.deref.ensures.value refl c.requires.place
    (subst (λ (d : Delazified). IsCompiledFunction c.args.board.now.bytes (c.args.place + 1) d) (sym c.deref-alone.ensures) c.in_ok-made.ensures.compiled)
    (subst (λ (d : Delazified). AreAmong made.parts.texts (all_texts d)) (sym c.deref-alone.ensures) c.in_ok-made.ensures.texts)
    state.2

pub returns-clause-state : goal.returns-clause-state
returns-clause-state g c =
    let made = c.args.board.now.initial in
    on_ok_weaker c.add_behind.result
    (λ adds want is flag before.
    compiled_next want c.args.board.now.bytes made is c.args.place (c.args.place + 1) c.deref-alone.result.now c.args.merger.now c.add_behind.new.self refl c.requires.place
    (subst (λ (d : Delazified). IsCompiledFunction c.args.board.now.bytes (c.args.place + 1) d) (sym c.deref-alone.ensures) c.in_ok-made.ensures.compiled)
    (subst (λ (d : Delazified). AreAmong made.parts.texts (all_texts d)) (sym c.deref-alone.ensures) c.in_ok-made.ensures.texts)
    (subst (λ (ts : List (List ℕ)). Adds (c.args.place + 1) c.deref-alone.result.now.stencil ts c.args.merger.now c.add_behind.new.self)
    (same_texts want c.args.board.now.bytes made is c.args.place c.deref-alone.result.now c.args.merger.now c.deref.result.now c.deref.ensures.value before) adds)
    (subst (λ (ts : List (List ℕ)). TakesIn c.args.merger.now.texts ts c.add_behind.new.self.texts)
    (same_texts want c.args.board.now.bytes made is c.args.place c.deref-alone.result.now c.args.merger.now c.deref.result.now c.deref.ensures.value before) c.add_behind.ensures.texts)
    c.add_behind.ensures.records flag before)
    c.add_behind.ensures.adds
