use Rattle.std.proofs.Common.{false, refl}
use Rattle.script_grammar.specs.Tree as model
use Rattle.script_grammar.specs.TreeLists.{clauses_of}
use Rattle.parse_track.specs.Told as told
use Rattle.parse_skim_handler.proofs.Made.{stmt-made}
use Rattle.parse_skim_handler.proofs.Meanings.{begun, from}
use Rattle.parse_skim_handler.proofs.Standing.{kept-stands, region-stands, then-stands}
use Rattle.parse_skim_handler.proofs.StandingParts.{clauses-stand}
use Rattle.parse_skim_handler.proofs.handler.SkimmingHandler.make_switch.Goals as goal

pub returns : goal.returns
returns c = λ i t cs h q.
    let inside = begun i (c.nothing.ensures i) (c.in_ok-inside.ensures i) in
    stmt-made i c.in_ok-node.node (model.Switch t (clauses_of cs)) false c.in_ok-node.ensures refl refl (from i (c.of_expr.ensures i) (c.in_ok-kept.ensures i))
    (λ top. then-stands i h.stands (region-stands i told.Switch 0 (kept-stands i inside (clauses-stand i c.args.clauses.items cs q))))
