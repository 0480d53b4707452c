use Rattle.std.proofs.Common.{◌∙◌, sym, subst}
use Rattle.std.proofs.lemmas.Iterator.Consumers.{YieldsList-end}
use Rattle.std.proofs.lemmas.Iterator.Adapters.{YieldsList-from_vec}
use Rattle.parse_track_pieces.proofs.Appending.{map-same}
use Rattle.compile_first_pass.specs.Skims.{AreSkimmed}
use Rattle.compile_first_pass.proofs.SkimLemmas.{none_skimmed, more_skimmed}
use Rattle.compile_first_pass.proofs.skim.skim_bodies.Goals as goal

pub loop-body-init : goal.loop-body-init
loop-body-init g c = none_skimmed g.H.Handler.shows_body c.in_ok-told.told.items c.in_ok-found.found.items c.in_ok-errors.errors.items c.in_ok-told.ensures.items c.in_ok-found.ensures.items c.in_ok-errors.ensures.items

pub loop-body-preserved : goal.loop-body-preserved
loop-body-preserved g c =
    more_skimmed g.H.Handler.shows_body c.loop-body.yielded c.loop-body.told.items _ c.loop-body.found.items _ c.loop-body.errors.items _ c.in-Some.body c.apart-skimmed.result
    c.loop-body.invariant c.apart-skimmed.ensures c.in_ok-push.ensures.items c.in_ok-push-2.ensures.items c.in_ok-push-3.ensures.items

pub returns : goal.returns
returns g c =
    let start = c.into_iter-body-iterator.ensures.into_iter_gives in
    let seen = YieldsList-end (YieldsList-from_vec c.args.bodies.items start.0 (start.1 ∙ c.args.bodies.ok.0)) c.loop-body.yielded c.loop-body.body-iterator c.loop-body.yielded_by c.next.result c.next.new.self c.in-None.is c.next.ensures.steps in
    let same = sym (map-same c.loop-body.yielded) ∙ seen.0 in
    subst (λ bodies. AreSkimmed g.H.Handler.shows_body bodies c.loop-body.told.items c.loop-body.found.items c.loop-body.errors.items) same c.loop-body.invariant
