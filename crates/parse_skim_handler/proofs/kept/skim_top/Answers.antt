use Rattle.std.proofs.Common.{sym, true, ◌∙◌}
use Rattle.std.proofs.lemmas.Iterator.Adapters.{YieldsList-from_vec}
use Rattle.std.proofs.lemmas.Iterator.Consumers.{YieldsList-end}
use Rattle.parse_track_pieces.proofs.Appending.{map-same}
use Rattle.parse_skim_handler.specs.Kept.{stmt_means}
use Rattle.parse_skim_handler.specs.Meaning.{all_meant}
use Rattle.parse_skim_handler.proofs.Meanings.{adds-as, adds-more, adds-nothing}
use Rattle.parse_skim_handler.proofs.kept.skim_top.Goals as goal

pub loop-item-init : goal.loop-item-init
loop-item-init c = λ i. adds-nothing i c.args.kept

pub loop-item-preserved : goal.loop-item-preserved
loop-item-preserved c = λ i. adds-more i (stmt_means i true) c.loop-item.yielded c.in-Some.item (c.loop-item.invariant i) (c.in_ok-made.ensures i)

pub returns : goal.returns
returns c = λ i.
    let start = c.into_iter-item-iterator.ensures.into_iter_gives in
    let seen = YieldsList-end (YieldsList-from_vec c.args.items.items start.0 (start.1 ∙ c.args.items.ok.0)) c.loop-item.yielded c.loop-item.item-iterator c.loop-item.yielded_by c.next.result c.next.new.self c.in-None.is c.next.ensures.steps in
    let same = sym (map-same c.loop-item.yielded) ∙ seen.0 in
    adds-as i (all_meant (stmt_means i true)) (sym same) (c.loop-item.invariant i)
