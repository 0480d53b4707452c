use Rattle.parse_skim_handler.specs.Kept.{key_means}
use Rattle.parse_skim_handler.proofs.Meanings.{made-as}
use Rattle.parse_skim_handler.proofs.parts.NodeKeySkimExprSkim.skim.Goals as goal

pub returns-in-Computed : goal.returns-in-Computed
returns-in-Computed c = made-as c.skim.result c.args.kept key_means c.args.self _ c.in-Computed.is c.skim.ensures
