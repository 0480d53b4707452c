use Rattle.holzikra_diff.proofs.changes.change_of.Goals as goal

pub returns : goal.returns
returns c = rw (c.lines_in.ensures, c.lines_in-2.ensures) at c.in_ok-edits.ensures
