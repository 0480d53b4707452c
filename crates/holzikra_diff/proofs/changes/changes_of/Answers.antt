use Rattle.std.proofs.lemmas.List.Elements.{All-same, All-push}
use Rattle.holzikra_diff.specs.Changes.{IsChange}
use Rattle.holzikra_diff.proofs.changes.changes_of.Goals as goal
use Rattle.holzikra_diff.proofs.changes.changes_of.Goals.{then-is_none+in_ok-change-2+in_ok-push-2, else-is_none}

pub paired-preserved : goal.paired-preserved
paired-preserved c =
    All-same (IsChange c.args.old_lines.now c.args.new_lines.now) c.push.new.self.items _ c.in_ok-push.ensures.items
    (All-push (IsChange c.args.old_lines.now c.args.new_lines.now) c.paired.changes.items c.in_ok-change.change c.paired.invariant c.in_ok-change.ensures)

pub removed-preserved : goal.removed-preserved
removed-preserved c =
    elim c.if-is_none.branch [
      | then-is_none+in_ok-change-2+in_ok-push-2 w ↦
          rw w.changes-is
          (All-same (IsChange c.args.old_lines.now c.args.new_lines.now) w.push-then-is_none.new.self.items _ w.in_ok-push-2.ensures.items
          (All-push (IsChange c.args.old_lines.now c.args.new_lines.now) c.removed.changes.items w.in_ok-change-2.change c.removed.invariant w.in_ok-change-2.ensures))
      | else-is_none w ↦ rw w.changes-is c.removed.invariant
    ]
