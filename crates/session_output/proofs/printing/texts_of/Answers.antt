use Rattle.session_output.proofs.Pieces.{are_texts}
use Rattle.session_output.proofs.printing.texts_of.Goals as goal

pub returns : goal.returns
returns g c = are_texts c.args.script.now c.args.pieces.now c.in_ok-texts.texts.items c.in_ok-texts.ensures.outs.0 c.in_ok-texts.ensures.outs.1
