use Rattle.std.proofs.Common.{arith, ◌∙◌, ap, not, get_or}
use Rattle.parse_track.specs.AtomSets.{has_atom}
use Rattle.parse_track.proofs.Clashes.{seen_step, repeated_step, not_not}
use Rattle.parse_track.proofs.offsets.first_repeated.Goals as goal

pub loop-name-preserved : goal.loop-name-preserved
loop-name-preserved c = (
  seen_step c.args.names.now c.loop-name.name-index (record { atom = 0; at = 0 }) (has_atom c.loop-name.seen.marks.items c.loop-name.seen.version) (has_atom c.insert.new.self.marks.items c.insert.new.self.version) (omega arith) c.in_ok-is_new.ensures.has c.loop-name.invariant.0,
  repeated_step c.args.names.now c.loop-name.name-index (record { atom = 0; at = 0 }) c.loop-name.first c.lesser_if-first.result _ (not c.in_ok-is_new.is_new) (omega arith)
      c.lesser_if-first.ensures
      (ap not c.in_ok-is_new.ensures.added ∙ (not_not _ ∙ c.loop-name.invariant.0 (get_or c.args.names.now c.loop-name.name-index (record { atom = 0; at = 0 })).atom))
      c.loop-name.invariant.1,
)
