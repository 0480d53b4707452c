use Rattle.parse_track.specs.Told as told
use Rattle.parse_skim_handler.specs.Kept.{own_means}
use Rattle.parse_skim_handler.proofs.Meanings.{adds-region, begun, if_ok, made-as}
use Rattle.parse_skim_handler.proofs.functions.skim_own.Goals as goal

pub returns-in_ok-inside : goal.returns-in_ok-inside
returns-in_ok-inside c =
    made-as c.region.result c.args.kept (λ i own. own_means i own c.args.more c.args.start c.args.body) c.args.own _ c.if-own.true
    (if_ok c.region.result c.region.ensures (λ made h i. adds-region i told.VarBody 0 (begun i (c.nothing.ensures i) (c.in_ok-inside.ensures i)) (h i)))

pub returns-else-own : goal.returns-else-own
returns-else-own c = made-as c.skim_body-else-own.result c.args.kept (λ i own. own_means i own c.args.more c.args.start c.args.body) c.args.own _ c.if-own.false c.skim_body-else-own.ensures
