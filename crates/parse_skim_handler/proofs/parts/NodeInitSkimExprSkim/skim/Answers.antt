use Rattle.parse_skim_handler.specs.Kept.{init_means}
use Rattle.parse_skim_handler.proofs.Meanings.{made-as}
use Rattle.parse_skim_handler.proofs.parts.NodeInitSkimExprSkim.skim.Goals as goal

pub returns-in-Value : goal.returns-in-Value
returns-in-Value c = made-as c.skim.result c.args.kept init_means c.args.self _ c.in-Value.is c.skim.ensures

pub returns-in-Binds : goal.returns-in-Binds
returns-in-Binds c = made-as c.skim_binds.result c.args.kept init_means c.args.self _ c.in-Binds.is c.skim_binds.ensures
