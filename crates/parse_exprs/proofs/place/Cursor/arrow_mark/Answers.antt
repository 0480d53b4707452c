use Rattle.std.proofs.Common.{◌∙◌, sym}
use Rattle.parse_exprs.proofs.Steps.{arrow_read, read_at}
use Rattle.parse_exprs.proofs.place.Cursor.arrow_mark.Goals as goal

pub returns : goal.returns
returns c = λ i. read_at (arrow_read _ _ (sym (c.is_arrow.ensures i) ∙ c.if-not-is_arrow.false)) (c.step.ensures.records i) (c.step.ensures.at i)
