use Rattle.std.proofs.Common.{refl}
use Rattle.parse_track_pieces.proofs.PieceEquations.{says-Declared}
use Rattle.parse_skim_handler.proofs.Meanings.{adds-same, if_ok}
use Rattle.parse_skim_handler.proofs.kept.declared.Goals as goal

pub returns : goal.returns
returns c = if_ok c.with_said.result c.with_said.ensures (λ made h i. adds-same i (says-Declared i c.args.how c.args.name) (λ r. refl) refl (h i))
