use Rattle.std.proofs.Common.{sym}
use Rattle.parse_skim_handler.specs.Kept.{each_means}
use Rattle.parse_skim_handler.specs.Meaning.{name_meant}
use Rattle.parse_skim_handler.proofs.Meanings.{adds-as, adds-kept, if_ok, made-as}
use Rattle.parse_skim_handler.proofs.parts.NodeEachSkimExprSkim.skim.Goals as goal

pub returns-in-Target : goal.returns-in-Target
returns-in-Target c =
    made-as c.then_kept.result c.args.kept each_means c.args.self _ c.in-Target.is
    (if_ok c.then_kept.result c.then_kept.ensures (λ made h i. adds-kept i (c.of_target-target.ensures i) (h i)))

pub returns-in-Bind : goal.returns-in-Bind
returns-in-Bind c =
    made-as c.declared.result c.args.kept each_means c.args.self _ c.in-Bind.is
    (if_ok c.declared.result c.declared.ensures (λ made h i. adds-as i (λ how. name_meant i how c.in-Bind.name) (sym c.declared_as.ensures) (h i)))
