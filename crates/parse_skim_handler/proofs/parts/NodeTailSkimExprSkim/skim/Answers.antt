use Rattle.parse_skim_handler.specs.Kept.{tail_means}
use Rattle.parse_skim_handler.proofs.Meanings.{made-as}
use Rattle.parse_skim_handler.proofs.parts.NodeTailSkimExprSkim.skim.Goals as goal

pub returns-in-Index : goal.returns-in-Index
returns-in-Index c = made-as c.skim.result c.args.kept tail_means c.args.self _ c.in-Index.is c.skim.ensures

pub returns-in-Call : goal.returns-in-Call
returns-in-Call c = made-as c.skim-in-Call.result c.args.kept tail_means c.args.self _ c.in-Call.is c.skim-in-Call.ensures
