use Rattle.std.proofs.Common.{◌∙◌, ap, arith}
use Rattle.std.proofs.lemmas.List.{take_all}
use Rattle.compile_shown.specs.Counting.{trues}
use Rattle.session_requests.proofs.Lacking.{none_in_front, one_false, one_true}
use Rattle.session_requests.proofs.work.trues.Goals as goal
use Rattle.session_requests.proofs.work.trues.Goals.{then-flag, else-flag}

pub loop-flag-init : goal.loop-flag-init
loop-flag-init c = (let none = none_in_front c.args.flags.now in omega (arith, none), omega arith)

pub loop-flag-preserved : goal.loop-flag-preserved
loop-flag-preserved c =
    elim c.if-flag.branch [
      | then-flag w ↦ (one_true c.args.flags.now c.loop-flag.flag-index c.loop-flag.count c.if-flag.count c.loop-flag.invariant.0 w.if-flag.true w.count-is, (let few = c.loop-flag.invariant.1 in omega arith))
      | else-flag w ↦ (one_false c.args.flags.now c.loop-flag.flag-index c.loop-flag.count c.if-flag.count c.loop-flag.invariant.0 w.if-flag.false w.count-is, (let few = c.loop-flag.invariant.1 in omega arith))
    ]

pub returns : goal.returns
returns c = c.loop-flag.invariant.0 ∙ ap trues (take_all c.loop-flag.flag-index c.args.flags.now (omega arith))
