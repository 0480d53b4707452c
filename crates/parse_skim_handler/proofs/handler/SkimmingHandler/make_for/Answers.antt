use Rattle.std.proofs.Common.{false, refl, true}
use Rattle.script_grammar.specs.Tree as model
use Rattle.script_grammar.specs.TreeLists.{maybe_expr_of}
use Rattle.parse_track.specs.Told as told
use Rattle.parse_skim_handler.proofs.Made.{stmt-made}
use Rattle.parse_skim_handler.proofs.Meanings.{adds-then, begun}
use Rattle.parse_skim_handler.proofs.Standing.{kept-stands, region-stands, then-stands}
use Rattle.parse_skim_handler.proofs.StandingParts.{init-stands, maybe_expr-stands}
use Rattle.parse_skim_handler.proofs.handler.SkimmingHandler.make_for.Goals as goal

pub returns : goal.returns
returns c = λ i n t u b h q r w.
    let inside = begun i (c.nothing.ensures i) (adds-then i (c.in_ok-begun.ensures i) (adds-then i (c.in_ok-tested.ensures i) (adds-then i (c.in_ok-updated.ensures i) (c.in_ok-inside.ensures i)))) in
    let parts = then-stands i (init-stands i c.args.init n h) (then-stands i (maybe_expr-stands i c.args.test t q) (then-stands i (maybe_expr-stands i c.args.update u r) (w.stands false))) in
    let head = begun i (c.nothing-2.ensures i) (c.in_ok-head.ensures i) in
    stmt-made i c.in_ok-node.node (model.For n (maybe_expr_of t) (maybe_expr_of u) b) true c.in_ok-node.ensures refl refl (begun i (c.nothing-3.ensures i) (c.in_ok-kept.ensures i))
    (λ top. region-stands i told.Loop 0 (kept-stands i head (region-stands i told.ForHead 0 (kept-stands i inside parts))))
