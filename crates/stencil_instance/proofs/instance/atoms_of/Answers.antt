use Rattle.std.proofs.Common.{◌+◌, [], slice_index_or}
use Rattle.stencil_instance.proofs.Seen.{found_next}
use Rattle.stencil_instance.proofs.instance.atoms_of.Goals as goal

pub loop-place-preserved : goal.loop-place-preserved
loop-place-preserved c =
    found_next c.args.desk.now c.loop-place.desk c.intern.new.desk c.loop-place.atoms.items c.push.new.self.items c.args.texts.now c.loop-place.place c.intern.result
    (slice_index_or c.args.table.now.list.texts (c.args.base + c.loop-place.place) []) c.loop-place-test.true (c.requires.texts.each c.loop-place.place c.loop-place-test.true)
    c.in_ok-push.ensures.items c.intern.ensures.table c.intern.ensures.still c.intern.ensures.seen c.loop-place.invariant
