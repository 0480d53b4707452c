use Rattle.std.proofs.Common.{sym, ◌∙◌}
use Rattle.std.proofs.lemmas.Iterator.Adapters.{YieldsList-from_vec}
use Rattle.std.proofs.lemmas.Iterator.Consumers.{YieldsList-end}
use Rattle.parse_track_pieces.proofs.Appending.{map-same}
use Rattle.parse_skim_handler.specs.Kept.{bind_means}
use Rattle.parse_skim_handler.specs.Meaning.{all_meant}
use Rattle.parse_skim_handler.proofs.Meanings.{adds-as, adds-more, adds-nothing}
use Rattle.parse_skim_handler.proofs.parts.skim_all_binds.Goals as goal

pub loop-bind-init : goal.loop-bind-init
loop-bind-init c = λ i. adds-nothing i c.args.kept

pub loop-bind-preserved : goal.loop-bind-preserved
loop-bind-preserved c = λ i. adds-more i (bind_means i c.args.how) c.loop-bind.yielded c.in-Some.bind (c.loop-bind.invariant i) (c.in_ok-made.ensures i)

pub returns : goal.returns
returns c = λ i.
    let start = c.into_iter-bind-iterator.ensures.into_iter_gives in
    let seen = YieldsList-end (YieldsList-from_vec c.args.binds.items start.0 (start.1 ∙ c.args.binds.ok.0)) c.loop-bind.yielded c.loop-bind.bind-iterator c.loop-bind.yielded_by c.next.result c.next.new.self c.in-None.is c.next.ensures.steps in
    let same = sym (map-same c.loop-bind.yielded) ∙ seen.0 in
    adds-as i (all_meant (bind_means i c.args.how)) (sym same) (c.loop-bind.invariant i)
