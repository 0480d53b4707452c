use Rattle.std.proofs.Common.{◌∙◌, sym}
use Rattle.parse_exprs.proofs.Steps.{expect_read, read_at}
use Rattle.parse_exprs.proofs.place.Cursor.expect.Goals as goal

pub returns : goal.returns
returns c = λ i. read_at (expect_read _ _ _ (sym (c.is_mark.ensures i) ∙ c.if-not-is_mark.false)) (c.step.ensures.records i) (c.step.ensures.at i)
