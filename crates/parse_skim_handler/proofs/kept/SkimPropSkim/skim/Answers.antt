use Rattle.std.proofs.Common.{sym}
use Rattle.parse_skim_handler.specs.Kept.{whole_prop_means}
use Rattle.parse_skim_handler.proofs.Meanings.{adds-as, if_ok}
use Rattle.parse_skim_handler.proofs.kept.SkimPropSkim.skim.Goals as goal

pub returns : goal.returns
returns c = if_ok c.then_kept.result c.then_kept.ensures (λ made h i. adds-as i (whole_prop_means i) (sym c.whole-told.ensures) (h i))
