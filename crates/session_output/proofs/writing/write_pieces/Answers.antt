use Rattle.std.proofs.Common.{refl}
use Rattle.session_output.proofs.Pieces.{round_all, round_front, writing_end, writing_more, writing_start}
use Rattle.session_output.proofs.writing.write_pieces.Goals as goal

pub loop-done-init : goal.loop-done-init
loop-done-init g c = writing_start c.args.script.now c.args.pieces.now (g.K.Sink.faults c.args.sink.now) (g.K.Sink.taken c.args.sink.now) c.requires.pieces

pub write_round-requires-clause-pieces : goal.write_round-requires-clause-pieces
write_round-requires-clause-pieces g c κs within = round_all c.args.script.now c.args.pieces.now c.pieces_behind-round.result.now c.loop-done.done _ _ _ _ c.pieces_behind-round.ensures.are c.pieces_behind-round.ensures.within c.loop-done.invariant

pub loop-done-preserved : goal.loop-done-preserved
loop-done-preserved g c =
    writing_more c.args.script.now c.args.pieces.now c.pieces_behind-round.result.now c.loop-done.done _ _ _ _ _ _ _ c.pieces_behind-round.ensures.are c.pieces_behind-round.ensures.within refl c.in-Ok.ensures.count c.in-Ok.ensures.took c.loop-done.invariant

pub returns-in-Err-Failed-clause-took : goal.returns-in-Err-Failed-clause-took
returns-in-Err-Failed-clause-took g c =
    round_front c.args.script.now c.args.pieces.now c.pieces_behind-round.result.now c.loop-done.done _ _ _ _ _ c.pieces_behind-round.ensures.are c.pieces_behind-round.ensures.within c.in-Err-Failed.ensures.took c.loop-done.invariant

pub returns-in-Err-NoMemory-clause-took : goal.returns-in-Err-NoMemory-clause-took
returns-in-Err-NoMemory-clause-took g c =
    round_front c.args.script.now c.args.pieces.now c.pieces_behind-round.result.now c.loop-done.done _ _ _ _ _ c.pieces_behind-round.ensures.are c.pieces_behind-round.ensures.within c.in-Err-NoMemory.ensures.took c.loop-done.invariant

pub returns-clause-took : goal.returns-clause-took
returns-clause-took g c = writing_end c.args.script.now c.args.pieces.now c.loop-done.done _ _ _ _ c.loop-done-test.false c.loop-done.invariant
