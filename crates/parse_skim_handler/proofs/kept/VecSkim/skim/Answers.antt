use Rattle.std.proofs.Common.{sym, ◌∙◌}
use Rattle.std.proofs.lemmas.Iterator.Adapters.{YieldsList-from_vec}
use Rattle.std.proofs.lemmas.Iterator.Consumers.{YieldsList-end}
use Rattle.parse_track_pieces.proofs.Appending.{map-same}
use Rattle.parse_skim_handler.specs.Meaning.{all_meant}
use Rattle.parse_skim_handler.proofs.Meanings.{adds-as, adds-more, adds-nothing}
use Rattle.parse_skim_handler.proofs.kept.VecSkim.skim.Goals as goal

pub loop-part-init : goal.loop-part-init
loop-part-init g c = λ i. adds-nothing i c.args.kept

pub loop-part-preserved : goal.loop-part-preserved
loop-part-preserved g c = λ i. adds-more i (g.T.Skim.means i) c.loop-part.yielded c.in-Some.part (c.loop-part.invariant i) (c.in_ok-made.ensures i)

pub returns : goal.returns
returns g c = λ i.
    let start = c.into_iter-part-iterator.ensures.into_iter_gives in
    let seen = YieldsList-end (YieldsList-from_vec c.args.self.items start.0 (start.1 ∙ c.args.self.ok.0)) c.loop-part.yielded c.loop-part.part-iterator c.loop-part.yielded_by c.next.result c.next.new.self c.in-None.is c.next.ensures.steps in
    let same = sym (map-same c.loop-part.yielded) ∙ seen.0 in
    adds-as i (all_meant (g.T.Skim.means i)) (sym same) (c.loop-part.invariant i)
