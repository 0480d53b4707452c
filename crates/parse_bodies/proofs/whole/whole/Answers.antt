use Rattle.std.proofs.Common.{◌+◌, ◌∙◌, List, [], ◌∷◌, ◌++◌, reverse, length, sym, ap, subst, append-nil, length-append, Err}
use Rattle.std.specs.Prelude.{Vec}
use Rattle.std.specs.declared.alloc.Global.{Global}
use Rattle.parse_exprs.specs.declared.place.Pending.{Pending}
use Rattle.parse_exprs.proofs.Closing.{ended}
use Rattle.parse_bodies.specs.Means.{BodyOf}
use Rattle.parse_bodies.proofs.Later.{Going, going_init, going_read, going_faulty, going_listed, going_refused, next_ahead, none_ahead, none_taken, handed_on}
use Rattle.parse_bodies.proofs.whole.whole.Goals.{in-Ok+in_ok-push-in-Ok, in-Err, in-Ok-5, in-Err-5}
use Rattle.parse_bodies.proofs.whole.whole.Goals as goal

pub loop-init : goal.loop-init
loop-init g c = (
  ap length c.new-read.ensures.items,
  λ i.
      subst (λ nodes. Going (g.H.Handler.shows_body i) c.args.source.now i c.script-top.result nodes (c.script-top.new.state.place.pending.items ++ reverse c.new-waiting.result.items)) (sym c.new-bodies.ensures.items)
      (subst (Going (g.H.Handler.shows_body i) c.args.source.now i c.script-top.result [])
      (sym (ap (λ (w : List Pending). c.script-top.new.state.place.pending.items ++ reverse w) c.new-waiting.ensures.items ∙ append-nil c.script-top.new.state.place.pending.items))
      (going_init (g.H.Handler.shows_body i) c.args.source.now i _ c.script-top.new.state.place c.script-top.result c.requires.start c.requires.none (c.script-top.ensures i))),
)

pub returns-in_err-top : goal.returns-in_err-top
returns-in_err-top g c = λ i.
    let nothing = sym c.append.new.self.ok.0 ∙ none_taken c.pop.result _ _ c.pop.ensures.cases c.in_default.not-Some in
    let going = subst (Going (g.H.Handler.shows_body i) c.args.source.now i c.loop.top c.loop.bodies.items) (none_ahead c.loop.state.place.pending.items c.loop.waiting.items _ _ c.reverse.ensures.items c.in_ok-append.ensures.items nothing) (c.loop.invariant.1 i) in
    handed_on (g.H.Handler.shows_body i) c.args.source.now i c.in_err-top.field-0.0 c.from_residual-in_err-top.result c.from_residual-in_err-top.ensures.1
    (going_refused (g.H.Handler.shows_body i) c.args.source.now i c.in_err-top.field-0.0 c.loop.bodies.items (ended c.args.source.now c.requires.source i)
    (subst (λ r. Going (g.H.Handler.shows_body i) c.args.source.now i r c.loop.bodies.items []) c.in_err-top.was going))

pub returns-in_default : goal.returns-in_default
returns-in_default g c = λ i.
    let nothing = sym c.append.new.self.ok.0 ∙ none_taken c.pop.result _ _ c.pop.ensures.cases c.in_default.not-Some in
    let going = subst (Going (g.H.Handler.shows_body i) c.args.source.now i c.loop.top c.loop.bodies.items) (none_ahead c.loop.state.place.pending.items c.loop.waiting.items _ _ c.reverse.ensures.items c.in_ok-append.ensures.items nothing) (c.loop.invariant.1 i) in
    going_listed (g.H.Handler.shows_body i) c.args.source.now i (record { top = c.in_ok-top.field-0; bodies = c.loop.bodies }) (ended c.args.source.now c.requires.source i)
    (subst (λ r. Going (g.H.Handler.shows_body i) c.args.source.now i r c.loop.bodies.items []) c.in_ok-top.was going)

pub loop-preserved : goal.loop-preserved
loop-preserved g c = (
  ap length c.in_ok-push.ensures.items ∙ length-append _ _ ∙ ap (λ n. n + 1) c.loop.invariant.0,
  λ i.
      let s = c.args.source.now in
      let shows = g.H.Handler.shows_body i in
      let rest : List Pending = reverse c.pop.new.self.items in
      let going = subst (Going shows s i c.loop.top c.loop.bodies.items) (next_ahead c.loop.state.place.pending.items c.loop.waiting.items _ _ c.pop.new.self.items c.in-Some.next c.reverse.ensures.items c.in_ok-append.ensures.items c.in-Some.ensures.items) (c.loop.invariant.1 i) in
      let b = c.pending_body.ensures i in
      elim c.match-pending_body.branch [
        | in-Ok+in_ok-push-in-Ok w ↦
            subst (λ top. Going shows s i top c.match-pending_body.bodies.items (c.pending_body.new.state.place.pending.items ++ reverse c.match-pending_body.waiting.items)) (sym w.top-is)
            (subst (λ nodes. Going shows s i c.loop.top nodes (c.pending_body.new.state.place.pending.items ++ reverse c.match-pending_body.waiting.items)) (sym (ap (λ (v : Vec _ Global). v.items) w.bodies-is ∙ w.in_ok-push-in-Ok.ensures.items))
            (subst (λ (v : Vec Pending Global). Going shows s i c.loop.top (c.loop.bodies.items ++ w.in-Ok.body.node ∷ []) (c.pending_body.new.state.place.pending.items ++ reverse v.items)) (sym w.waiting-is)
            (going_read shows s i c.pending_body.new.state.place c.loop.top c.loop.bodies.items w.in-Ok.body c.in-Some.next rest (rw w.in-Ok.is at b) going)))
        | in-Err w ↦
            subst (λ top. Going shows s i top c.match-pending_body.bodies.items (c.pending_body.new.state.place.pending.items ++ reverse c.match-pending_body.waiting.items)) (sym w.top-is)
            (subst (λ (ps : List Pending). Going shows s i (Err w.in-Err.fault) c.match-pending_body.bodies.items ps) (sym (ap (λ (v : Vec Pending Global). c.pending_body.new.state.place.pending.items ++ reverse v.items) w.waiting-is ∙ ap (λ ps. c.pending_body.new.state.place.pending.items ++ reverse ps) w.clear.ensures.items ∙ append-nil c.pending_body.new.state.place.pending.items))
            (going_faulty shows s i c.pending_body.new.state.place c.loop.top c.loop.bodies.items c.match-pending_body.bodies.items w.in-Err.fault c.in-Some.next rest (BodyOf shows) (sym c.lacks_memory.ensures ∙ c.if-lacks_memory.false) (rw w.in-Err.is at b) going))
      ],
)
