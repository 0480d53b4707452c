use Rattle.std.proofs.Common.{arith}
use Rattle.relazy_board.proofs.Depths.{depth_bound}
use Rattle.test_threads.proofs.relazy.discard_under_reading.Goals as goal

pub request-requires-clause-room : goal.request-requires-clause-room
request-requires-clause-room c =
    let deep = depth_bound c.args.board.now.initial c.args.number in
    let room = c.new-sheet.ensures.room in
    omega (arith, deep, room)
