use Rattle.parse_track.specs.Told as told
use Rattle.parse_skim_handler.specs.Kept.{handling_means}
use Rattle.parse_skim_handler.proofs.Meanings.{adds-region, adds-then, begun, if_ok, made-as}
use Rattle.parse_skim_handler.proofs.parts.skim_handling.Goals as goal

pub returns-in-None : goal.returns-in-None
returns-in-None c = made-as c.skim_block.result c.args.kept (λ i param. handling_means i param c.args.block.items) c.args.param _ c.in-None.is c.skim_block.ensures

pub returns-in_ok-inside-in-Some : goal.returns-in_ok-inside-in-Some
returns-in_ok-inside-in-Some c =
    made-as c.region.result c.args.kept (λ i param. handling_means i param c.args.block.items) c.args.param _ c.in-Some.is
    (if_ok c.region.result c.region.ensures (λ made h i. adds-region i told.Catch 0 (begun i (c.nothing.ensures i) (adds-then i (c.in_ok-named-in-Some.ensures i) (c.in_ok-inside-in-Some.ensures i))) (h i)))
