use Rattle.parse_skim_handler.proofs.Meanings.{adds-kept, if_ok}
use Rattle.parse_skim_handler.proofs.kept.SkimExprSkim.skim.Goals as goal

pub returns : goal.returns
returns c = if_ok c.then_kept.result c.then_kept.ensures (λ made h i. adds-kept i (c.of_expr-other.ensures i) (h i))
