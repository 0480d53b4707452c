use Rattle.std.proofs.Common.{false, refl}
use Rattle.script_grammar.specs.Interpretation.{maybe_named}
use Rattle.script_grammar.specs.Tree as model
use Rattle.parse_track.specs.Tells as tell
use Rattle.parse_track.specs.declared.region.Jump.TheVariants as jump
use Rattle.parse_track_pieces.proofs.Saying.{same-says, tell-says}
use Rattle.parse_skim_handler.proofs.Made.{stmt-made}
use Rattle.parse_skim_handler.proofs.Meanings.{begun}
use Rattle.parse_skim_handler.proofs.handler.SkimmingHandler.make_continue.Goals as goal

pub returns : goal.returns
returns c = λ i.
    stmt-made i c.in_ok-node.node (model.Continue c.args.at (maybe_named i c.args.label) c.args._semi) false c.in_ok-node.ensures refl refl (begun i (c.nothing.ensures i) (c.in_ok-kept.ensures i))
    (λ top. record {
      says = same-says (c.in_ok-jump.ensures i) (tell-says (tell.tells_jump jump.Continue c.args.at (maybe_named i c.args.label)));
      puts = λ r. refl;
      first = λ e k. refl;
    })
