use Rattle.std.proofs.Common.{List, None, refl, map, drop_of_length-le, get_or, sym, ap, ◌∙◌}
use Rattle.parse_track.specs.EarlyErrors.{sooner}
use Rattle.parse_track.specs.Notes.{notes_stmts}
use Rattle.parse_early_handler.specs.declared.nodes.BodyErrors.{BodyErrors}
use Rattle.parse_early_handler.specs.Firsts.{first_of}
use Rattle.parse_early_handler.proofs.Bodies.{bodies-first, own_first}
use Rattle.parse_early_handler.proofs.Parting.{then-first, same-first}
use Rattle.parse_early_handler.proofs.Sooner.{sooner_none}
use Rattle.parse_early_handler.proofs.Turns.{first_on, next_at}
use Rattle.parse_early_handler.proofs.early.first_of_bodies.Goals as goal

pub loop-body-init : goal.loop-body-init
loop-body-init c = refl

pub loop-body-preserved : goal.loop-body-preserved
loop-body-preserved c =
    let none : BodyErrors = record { first = None; strict = None } in
    let xs = c.args.bodies.now in
    let k = c.loop-body.body-index in
    first_on own_first xs k (get_or xs k none) c.loop-body.first (get_or xs k none).first _ _ (next_at xs k none c.loop-body-test.true) refl c.sooner-first.ensures c.loop-body.invariant

pub returns : goal.returns
returns c = λ i items deferred e k h q.
    let rest = ap (λ (xs : List BodyErrors). sooner c.loop-body.first (first_of (map own_first xs))) (sym (drop_of_length-le c.args.bodies.now c.loop-body-test.false)) in
    let whole = sym (sooner_none c.loop-body.first) ∙ (rest ∙ c.loop-body.invariant) in
    (same-first whole (then-first {xs = notes_stmts items} (record { is = (h.holds e k).first }) (bodies-first i e k c.args.bodies.now deferred q))).is
