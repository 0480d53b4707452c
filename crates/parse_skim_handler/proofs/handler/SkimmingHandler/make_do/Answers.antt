use Rattle.std.proofs.Common.{false, refl, true}
use Rattle.script_grammar.specs.Tree as model
use Rattle.parse_track.specs.Told as told
use Rattle.parse_skim_handler.proofs.Made.{stmt-made}
use Rattle.parse_skim_handler.proofs.Meanings.{adds-then, begun}
use Rattle.parse_skim_handler.proofs.Standing.{kept-stands, region-stands, then-stands}
use Rattle.parse_skim_handler.proofs.handler.SkimmingHandler.make_do.Goals as goal

pub returns : goal.returns
returns c = λ i b t h q.
    let inside = begun i (c.nothing.ensures i) (adds-then i (c.in_ok-done.ensures i) (c.in_ok-inside.ensures i)) in
    stmt-made i c.in_ok-node.node (model.Do b t c.args._semi) true c.in_ok-node.ensures refl refl (begun i (c.nothing-2.ensures i) (c.in_ok-kept.ensures i))
    (λ top. region-stands i told.Loop 0 (kept-stands i inside (then-stands i (h.stands false) q.stands)))
