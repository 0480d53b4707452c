use Rattle.std.proofs.Common.{rules, ◌≡◌, ◌∙◌, ◌+◌, ◌≤◌, length, sym, ap, subst, arith}
use Rattle.std.specs.Arc.{arc_value}
use Rattle.std.proofs.lemmas.Result.{on_ok_weaker}
use Rattle.lazy_compile.specs.declared.Delazified.{Delazified}
use Rattle.compile_initial.specs.declared.Nesting.{Nesting}
use Rattle.compile_initial.specs.Initial.{IsInitialOf}
use Rattle.lazy_function.specs.Numbered.{IsChainOf, IsCompiledFunction, around_in}
use Rattle.stencil_board.specs.Files.{IsFilled, file_at}
use Rattle.stencil_board.specs.Views.{BoardView}
use Rattle.stencil_board.specs.Passes.{lacking}
use Rattle.stencil_board.proofs.AtHand.{keeps_both}
use Rattle.stencil_board.proofs.Counting.{lacking_less}
use Rattle.stencil_board.proofs.FilledFacts.{filled_compiled, filled_texts, if_some}
use Rattle.stencil_board.proofs.Upward.{around_shown}
use Rattle.stencil_board.proofs.board.Board.+request.Goals as goal

-- ---- at hand

pub returns-in-Some-clause-compiled : goal.returns-in-Some-clause-compiled
returns-in-Some-clause-compiled g t c =
    let board = c.args.self.now in
    let file = file_at g.N.Sources.files board.file in
    filled_compiled file board.bytes board.initial.parts.texts c.requires.board.picked c.args.number (arc_value c.in-Some.found)
    (if_some (λ made. IsFilled file c.args.number (arc_value made)) c.in_ok-found.field-0 c.in-Some.found c.in-Some.is c.in_ok-found.ensures.is)

pub returns-in-Some-clause-texts : goal.returns-in-Some-clause-texts
returns-in-Some-clause-texts g t c =
    let board = c.args.self.now in
    let file = file_at g.N.Sources.files board.file in
    filled_texts file board.bytes board.initial.parts.texts c.requires.board.picked c.args.number (arc_value c.in-Some.found)
    (if_some (λ made. IsFilled file c.args.number (arc_value made)) c.in_ok-found.field-0 c.in-Some.found c.in-Some.is c.in_ok-found.ensures.is)

pub returns-in-Some-clause-counted : goal.returns-in-Some-clause-counted
returns-in-Some-clause-counted g t c = λ shown upward is.
    let less = lacking_less shown c.args.pass.now c.at_hand.new.pass (ap length (c.in_ok-found.ensures.belongs.cells ∙ sym c.requires.belongs.cells)) c.in_ok-found.ensures.keeps in
    omega (arith, less)

-- ---- directly in the script

pub fill-requires-clause-chain : goal.fill-requires-clause-chain
fill-requires-clause-chain g t c =
    subst (λ (b : BoardView). IsChainOf c.args.self.now.bytes b.initial c.args.number c.chain_in_script-chain.result.now) c.self.view_is (c.chain_in_script-chain.ensures c.args.self.now.bytes)

pub fill-requires-clause-room : goal.fill-requires-clause-room
fill-requires-clause-room g t c =
    let given = c.requires.room in
    let less = lacking_less given.0 c.args.pass.now c.at_hand.new.pass (ap length (c.in_ok-found.ensures.belongs.cells ∙ sym c.requires.belongs.cells)) c.in_ok-found.ensures.keeps in
    let room = given.1.room in
    (given.0, given.1.shows, omega (arith, less, room))

pub returns-then-around-eq0-clause-keeps : goal.returns-then-around-eq0-clause-keeps
returns-then-around-eq0-clause-keeps g t c = keeps_both c.args.pass.now c.at_hand.new.pass c.fill.new.pass c.in_ok-found.ensures.keeps c.fill.ensures.keeps

pub returns-then-around-eq0-clause-counted : goal.returns-then-around-eq0-clause-counted
returns-then-around-eq0-clause-counted g t c = λ shown upward is.
    let less = lacking_less shown c.args.pass.now c.at_hand.new.pass (ap length (c.in_ok-found.ensures.belongs.cells ∙ sym c.requires.belongs.cells)) c.in_ok-found.ensures.keeps in
    on_ok_weaker c.fill.result
    (λ (h : g.T.Ticks.count c.fill.new.tally + lacking shown c.fill.new.pass ≤ g.T.Ticks.count c.args.tally.now + lacking shown c.at_hand.new.pass). omega (arith, less, h))
    (c.fill.ensures.counted shown is)

-- ---- in another function

pub request-requires : goal.request-requires
request-requires g t c κs within =
    let board = c.args.self.now in
    let around = c.around_of-around.result in
    let before = c.around_of-around.ensures.before in
    let smaller = c.decreases in
    let some = c.if-around-eq0.false in
    let high = c.requires.number.1 in
    let given = c.requires.room in
    let less = lacking_less given.0 c.args.pass.now c.at_hand.new.pass (ap length (c.in_ok-found.ensures.belongs.cells ∙ sym c.requires.belongs.cells)) c.in_ok-found.ensures.keeps in
    let room = given.1.room in
    let place : around ≡ around_in board.initial c.args.number = c.around_of-around.ensures.is ∙ ap (λ (b : BoardView). around_in b.initial c.args.number) c.self.view_is in (
      omega (arith, before, smaller),
      (
        search rules,
        (
          search rules,
          (
            c.requires.board,
            (
              c.in_ok-found.ensures.belongs,
              (
                (omega (arith, some), omega (arith, before, high)),
                (
                  given.0,
                  record {
                    upward = given.1.upward;
                    shows = around_shown board given.0 c.args.number around c.requires.board.cells c.requires.number given.1.upward given.1.shows place some;
                    room = omega (arith, less, room);
                  },
                ),
              ),
            ),
          ),
        ),
      ),
    )

pub returns-in_err-outer-clause-keeps : goal.returns-in_err-outer-clause-keeps
returns-in_err-outer-clause-keeps g t c = keeps_both c.args.pass.now c.at_hand.new.pass c.request.new.pass c.in_ok-found.ensures.keeps c.request.ensures.keeps

pub chain_inside-chain-requires-clause-made : goal.chain_inside-chain-requires-clause-made
chain_inside-chain-requires-clause-made g t c =
    let board = c.args.self.now in (
      board.bytes,
      subst (λ (b : BoardView). IsInitialOf board.bytes b.initial) (sym c.self.view_is) c.requires.board.initial,
      subst (λ (a : Nesting). IsCompiledFunction board.bytes a.number c.deref.result.now) c.around_of-around.ensures.is
          (subst (λ (d : Delazified). IsCompiledFunction board.bytes c.around_of-around.result.number d) (sym c.deref.ensures) c.in_ok-outer.ensures.compiled),
    )

pub fill-requires-2-clause-chain : goal.fill-requires-2-clause-chain
fill-requires-2-clause-chain g t c =
    let board = c.args.self.now in
    subst (λ (b : BoardView). IsChainOf board.bytes b.initial c.args.number c.chain_inside-chain.result.now) c.self.view_is
    (c.chain_inside-chain.ensures board.bytes
    (subst (λ (a : Nesting). IsCompiledFunction board.bytes a.number c.deref.result.now) c.around_of-around.ensures.is
    (subst (λ (d : Delazified). IsCompiledFunction board.bytes c.around_of-around.result.number d) (sym c.deref.ensures) c.in_ok-outer.ensures.compiled)))

pub fill-requires-2-clause-room : goal.fill-requires-2-clause-room
fill-requires-2-clause-room g t c =
    let board = c.args.self.now in
    let given = c.requires.room in
    let less = lacking_less given.0 c.args.pass.now c.at_hand.new.pass (ap length (c.in_ok-found.ensures.belongs.cells ∙ sym c.requires.belongs.cells)) c.in_ok-found.ensures.keeps in
    let room = given.1.room in
    let place : c.around_of-around.result ≡ around_in board.initial c.args.number = c.around_of-around.ensures.is ∙ ap (λ (b : BoardView). around_in b.initial c.args.number) c.self.view_is in
    let shows = around_shown board given.0 c.args.number c.around_of-around.result c.requires.board.cells c.requires.number given.1.upward given.1.shows place c.if-around-eq0.false in
    let counted = c.in_ok-outer.ensures.counted given.0 given.1.upward shows in
    let sum = c.request.ensures.sum in
    (given.0, given.1.shows, omega (arith, less, room, counted, sum))

pub returns-clause-keeps : goal.returns-clause-keeps
returns-clause-keeps g t c =
    keeps_both c.args.pass.now c.at_hand.new.pass c.fill-2.new.pass c.in_ok-found.ensures.keeps
    (keeps_both c.at_hand.new.pass c.request.new.pass c.fill-2.new.pass c.request.ensures.keeps c.fill-2.ensures.keeps)

pub returns-clause-counted : goal.returns-clause-counted
returns-clause-counted g t c = λ shown upward is.
    let board = c.args.self.now in
    let less = lacking_less shown c.args.pass.now c.at_hand.new.pass (ap length (c.in_ok-found.ensures.belongs.cells ∙ sym c.requires.belongs.cells)) c.in_ok-found.ensures.keeps in
    let place : c.around_of-around.result ≡ around_in board.initial c.args.number = c.around_of-around.ensures.is ∙ ap (λ (b : BoardView). around_in b.initial c.args.number) c.self.view_is in
    let shows = around_shown board shown c.args.number c.around_of-around.result c.requires.board.cells c.requires.number upward is place c.if-around-eq0.false in
    let counted = c.in_ok-outer.ensures.counted shown upward shows in
    on_ok_weaker c.fill-2.result
    (λ (h : g.T.Ticks.count c.fill-2.new.tally + lacking shown c.fill-2.new.pass ≤ g.T.Ticks.count c.request.new.tally + lacking shown c.request.new.pass). omega (arith, less, counted, h))
    (c.fill-2.ensures.counted shown is)

-- ---- at most

pub returns-then-around-eq0-clause-most : goal.returns-then-around-eq0-clause-most
returns-then-around-eq0-clause-most g t c = λ shown upward is.
    let less = lacking_less shown c.args.pass.now c.at_hand.new.pass (ap length (c.in_ok-found.ensures.belongs.cells ∙ sym c.requires.belongs.cells)) c.in_ok-found.ensures.keeps in
    let most = c.fill.ensures.most shown is in
    omega (arith, less, most)

pub returns-in_err-outer-clause-most : goal.returns-in_err-outer-clause-most
returns-in_err-outer-clause-most g t c = λ shown upward is.
    let board = c.args.self.now in
    let less = lacking_less shown c.args.pass.now c.at_hand.new.pass (ap length (c.in_ok-found.ensures.belongs.cells ∙ sym c.requires.belongs.cells)) c.in_ok-found.ensures.keeps in
    let place : c.around_of-around.result ≡ around_in board.initial c.args.number = c.around_of-around.ensures.is ∙ ap (λ (b : BoardView). around_in b.initial c.args.number) c.self.view_is in
    let shows = around_shown board shown c.args.number c.around_of-around.result c.requires.board.cells c.requires.number upward is place c.if-around-eq0.false in
    let most = c.request.ensures.most shown upward shows in
    omega (arith, less, most)

pub returns-clause-most : goal.returns-clause-most
returns-clause-most g t c = λ shown upward is.
    let board = c.args.self.now in
    let less = lacking_less shown c.args.pass.now c.at_hand.new.pass (ap length (c.in_ok-found.ensures.belongs.cells ∙ sym c.requires.belongs.cells)) c.in_ok-found.ensures.keeps in
    let place : c.around_of-around.result ≡ around_in board.initial c.args.number = c.around_of-around.ensures.is ∙ ap (λ (b : BoardView). around_in b.initial c.args.number) c.self.view_is in
    let shows = around_shown board shown c.args.number c.around_of-around.result c.requires.board.cells c.requires.number upward is place c.if-around-eq0.false in
    let counted = c.in_ok-outer.ensures.counted shown upward shows in
    let most = c.fill-2.ensures.most shown is in
    omega (arith, less, counted, most)
