use Rattle.std.proofs.Common.{refl, true}
use Rattle.script_grammar.specs.Interpretation.{named}
use Rattle.script_grammar.specs.Tree as model
use Rattle.parse_track.specs.Tells as tell
use Rattle.parse_track.specs.Told as told
use Rattle.parse_skim_handler.proofs.Made.{stmt-made}
use Rattle.parse_skim_handler.proofs.Meanings.{begun}
use Rattle.parse_skim_handler.proofs.Standing.{region-kept}
use Rattle.parse_skim_handler.proofs.StandingParts.{label-stands}
use Rattle.parse_skim_handler.proofs.handler.SkimmingHandler.make_label.Goals as goal

pub returns : goal.returns
returns c = λ i b h.
    stmt-made i c.in_ok-node.node (model.Label (named i c.args.name) b) true c.in_ok-node.ensures refl refl (begun i (c.nothing.ensures i) (c.in_ok-kept.ensures i))
    (λ top. region-kept i (told.Label (tell.spelled (named i c.args.name))) 0 (c.in_ok-inside.ensures i) (label-stands i c.args.name c.args.body b h))
