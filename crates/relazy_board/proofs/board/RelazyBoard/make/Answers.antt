use Rattle.std.proofs.Common.{sym, subst}
use Rattle.std.specs.Arc.{arc_value}
use Rattle.lazy_compile.specs.declared.Delazified.{Delazified}
use Rattle.lazy_function.specs.Numbered.{IsCompiledFunction}
use Rattle.relazy_board.proofs.Results.{result_of}
use Rattle.relazy_board.proofs.board.RelazyBoard.make.Goals as goal

pub keep-requires : goal.keep-requires
keep-requires g c =
    result_of c.slot.result.now c.args.self.now.bytes c.args.number (arc_value c.in_ok-made.made) c.slot.ensures.bytes c.slot.ensures.number c.in_ok-made.ensures

pub returns-in-None-clause-compiled : goal.returns-in-None-clause-compiled
returns-in-None-clause-compiled g c =
    subst (λ (d : Delazified). IsCompiledFunction c.args.self.now.bytes c.args.number d) (sym c.of_own.ensures) c.in_ok-made.ensures
