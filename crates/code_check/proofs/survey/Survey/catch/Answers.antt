use Rattle.code_check.proofs.Catches.{walk_stops, walks_all, walks_more}
use Rattle.code_check.proofs.Stops.{handed}
use Rattle.code_check.proofs.survey.Survey.catch.Goals as goal

pub loop-node-preserved : goal.loop-node-preserved
loop-node-preserved c = walks_more c.args.notes.now c.args.starts.now (record { at = c.args.at; depth = c.args.depth }) c.args.self.now c.args.index.now c.loop-node.node c.loop-node.self c.loop-node.index c.loop-node.invariant c.loop-node-test.true c.catch_at.new.self c.catch_at.new.index c.in_ok-catch_at.ensures.shape c.in_ok-catch_at.ensures.ok

pub returns-in_err-catch_at-clause-err : goal.returns-in_err-catch_at-clause-err
returns-in_err-catch_at-clause-err c =
    handed c.from_residual.result c.in_err-catch_at.field-0.0 c.from_residual.ensures.1
    (walk_stops c.args.notes.now c.args.starts.now (record { at = c.args.at; depth = c.args.depth }) c.args.self.now c.args.index.now c.loop-node.node c.loop-node.self c.loop-node.index c.loop-node.invariant c.loop-node-test.true)
    c.in_err-catch_at.ensures.err

pub returns-clause-ok : goal.returns-clause-ok
returns-clause-ok c = walks_all c.args.notes.now c.args.starts.now (record { at = c.args.at; depth = c.args.depth }) c.args.self.now c.args.index.now c.loop-node.node c.loop-node.self c.loop-node.index c.loop-node-test.false c.loop-node.invariant
