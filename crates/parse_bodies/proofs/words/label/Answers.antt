use Rattle.script_grammar.specs.Kinds.{is_name}
use Rattle.parse_bodies.proofs.Blocks.{label_deeper, label_no_room}
use Rattle.parse_bodies.proofs.Rooms.{no_room_refuses}
use Rattle.parse_bodies.proofs.words.label.Goals as goal

pub returns-then-depth-ge-DEPTH_LIMIT : goal.returns-then-depth-ge-DEPTH_LIMIT
returns-then-depth-ge-DEPTH_LIMIT g c = λ i. rw (label_no_room i c.args.depth c.if-depth-ge-DEPTH_LIMIT.true) (no_room_refuses _ c.args.source.now i c.args.state.now.place c.no_room.result is_name c.is_name-begins.result (c.is_name-begins.ensures i) c.no_room.ensures)

pub returns : goal.returns
returns g c = λ i. rw (label_deeper i c.args.depth c.if-depth-ge-DEPTH_LIMIT.false) (c.name.ensures i)
