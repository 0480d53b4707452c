use Rattle.std.proofs.Common.{refl}
use Rattle.parse_track_pieces.proofs.PieceEquations.{says-Passed}
use Rattle.parse_skim_handler.specs.Kept.{body_means}
use Rattle.parse_skim_handler.proofs.Meanings.{adds-same, if_ok, made-as}
use Rattle.parse_skim_handler.proofs.functions.skim_body.Goals as goal

pub returns-in-Braced : goal.returns-in-Braced
returns-in-Braced c = made-as c.skim_read.result c.args.kept (λ i body. body_means i c.args.more c.args.start body) c.args.body _ c.in-Braced.is c.skim_read.ensures

pub returns-in-Short : goal.returns-in-Short
returns-in-Short c = made-as c.skim.result c.args.kept (λ i body. body_means i c.args.more c.args.start body) c.args.body _ c.in-Short.is c.skim.ensures

pub returns-in-Passed : goal.returns-in-Passed
returns-in-Passed c =
    made-as c.with_said.result c.args.kept (λ i body. body_means i c.args.more c.args.start body) c.args.body _ c.in-Passed.is
    (if_ok c.with_said.result c.with_said.ensures (λ made h i. adds-same i (says-Passed i c.args.start) (λ r. refl) refl (h i)))
