use Rattle.std.proofs.Common.{◌∙◌, ◌++◌, ap, sym}
use Rattle.std.specs.List.{flat_map}
use Rattle.std.proofs.lemmas.Iterator.Consumers.{YieldsList-end}
use Rattle.std.proofs.lemmas.Iterator.Adapters.{YieldsList-from_vec}
use Rattle.parse_handlers.proofs.KeptLists.{map-same, flat_map-more}
use Rattle.parse_handlers.proofs.gather.VecGather.gather.Goals as goal

pub loop-part-preserved : goal.loop-part-preserved
loop-part-preserved g c = flat_map-more g.T.Gather.holds c.loop-part.yielded c.in-Some.part _ _ _ c.loop-part.invariant c.in_ok-gather.ensures

pub returns : goal.returns
returns g c =
    let start = c.into_iter-part-iterator.ensures.into_iter_gives in
    let seen = YieldsList-end (YieldsList-from_vec c.args.self.items start.0 (start.1 ∙ c.args.self.ok.0)) c.loop-part.yielded c.loop-part.part-iterator c.loop-part.yielded_by c.next.result c.next.new.self c.in-None.is c.next.ensures.steps in
    c.loop-part.invariant ∙ ap (λ xs. c.args.into.now.items ++ flat_map g.T.Gather.holds xs) (sym (map-same c.loop-part.yielded) ∙ seen.0)
