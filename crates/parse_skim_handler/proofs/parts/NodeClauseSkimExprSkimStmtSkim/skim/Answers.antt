use Rattle.parse_skim_handler.proofs.Meanings.{adds-then, if_ok}
use Rattle.parse_skim_handler.proofs.parts.NodeClauseSkimExprSkimStmtSkim.skim.Goals as goal

pub returns : goal.returns
returns c = if_ok c.skim-2.result c.skim-2.ensures (λ made h i. adds-then i (c.in_ok-tested.ensures i) (h i))
