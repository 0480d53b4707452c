use Rattle.parse_skim_handler.proofs.Meanings.{adds-then, if_ok}
use Rattle.parse_skim_handler.proofs.functions.NodeParamSkimExprSkim.skim.Goals as goal

pub returns : goal.returns
returns c = if_ok c.skim.result c.skim.ensures (λ made h i. adds-then i (c.in_ok-named.ensures i) (h i))
