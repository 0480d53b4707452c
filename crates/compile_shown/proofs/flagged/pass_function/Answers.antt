use Rattle.std.proofs.Common.{◌∙◌, ◌+◌, refl, subst}
use Rattle.std.proofs.lemmas.Result.{on_ok_weaker}
use Rattle.compile_shown.specs.UpTo.{IsFlagAt}
use Rattle.compile_shown.proofs.Steps.{passed}
use Rattle.compile_shown.proofs.flagged.pass_function.Goals as goal

pub add_function-requires-clause-room : goal.add_function-requires-clause-room
add_function-requires-clause-room g c = c.requires.room c.if-is_shown.true

pub returns-then-is_shown-clause-state : goal.returns-then-is_shown-clause-state
returns-then-is_shown-clause-state g c =
    on_ok_weaker c.add_function.result
    (λ step want is flag before. step want is (subst (IsFlagAt want c.args.board.now.initial.parts.records c.args.place) c.if-is_shown.true flag) before)
    c.add_function.ensures.state

pub returns-then-is_shown-clause-counted : goal.returns-then-is_shown-clause-counted
returns-then-is_shown-clause-counted g c = λ shown up at. c.add_function.ensures.counted shown up (at ∙ c.if-is_shown.true)

pub returns-else-is_shown-clause-state : goal.returns-else-is_shown-clause-state
returns-else-is_shown-clause-state g c = λ want is flag before.
    passed want c.args.board.now.bytes c.args.board.now.initial is c.args.place (c.args.place + 1) c.args.merger.now refl c.requires.place
    (subst (IsFlagAt want c.args.board.now.initial.parts.records c.args.place) c.if-is_shown.false flag) before

pub returns-then-is_shown-clause-most : goal.returns-then-is_shown-clause-most
returns-then-is_shown-clause-most g c = λ shown up at. c.add_function.ensures.most shown up (at ∙ c.if-is_shown.true)
