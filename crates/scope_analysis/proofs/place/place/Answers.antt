use Rattle.std.proofs.Common.{◌≡◌, ◌+◌, ◌∙◌, Bool, if◌then◌else◌, sym, ap, arith, refl, get_or}
use Rattle.stencil_data.specs.declared.scopes.BindKind.TheVariants as bind
use Rattle.stencil_data.specs.Slots.{is_param, takes_frame}
use Rattle.scope_analysis.specs.Kept.{declarations_of}
use Rattle.scope_analysis.proofs.Placing.{place_turn, one_at_most}
use Rattle.scope_analysis.proofs.place.place.Goals as goal
use Rattle.scope_analysis.proofs.place.place.Goals.{then-is_closed, else-is_closed}

pub loop-name-preserved : goal.loop-name-preserved
loop-name-preserved c =
    let moved : c.if-is_closed.closed ≡ c.loop-name.closed + (if c.is_next-is_closed.result then 1 else 0) =
    elim c.if-is_closed.branch [
      | then-is_closed w ↦ w.closed-is ∙ ap (λ (b : Bool). c.loop-name.closed + (if b then 1 else 0)) (sym w.if-is_closed.true)
      | else-is_closed w ↦ w.closed-is ∙ (let none : c.loop-name.closed ≡ c.loop-name.closed + 0 = omega arith in none) ∙ ap (λ (b : Bool). c.loop-name.closed + (if b then 1 else 0)) (sym w.if-is_closed.false)
    ] in
    record {
      envs_few = omega (arith, c.loop-name.invariant.envs_few, c.after-next.ensures.env, one_at_most c.is_next-is_closed.result);
      args_few = omega (arith, c.loop-name.invariant.args_few, c.after-next.ensures.arg, one_at_most (is_param (get_or c.args.names.now c.loop-name.name-index (record { atom = 0; kind = bind.Param })).kind));
      frames_few = omega (arith, c.loop-name.invariant.frames_few, c.after-next.ensures.frame, one_at_most (takes_frame c.slot_of-slot.result));
      going = λ inner later ready.
          place_turn c.args.known.now.texts.now c.args.known.now.closed.now c.args.number inner later c.args.frame (declarations_of c.args.known.now.texts.now c.args.names.now)
          c.args.names.now c.loop-name.name-index c.loop-name.bindings.items c.push.new.self.items
          c.loop-name.next.env c.loop-name.next.arg c.loop-name.next.frame c.loop-name.closed c.after-next.result.env c.after-next.result.arg c.after-next.result.frame c.if-is_closed.closed c.is_next-is_closed.result c.slot_of-slot.result (get_or c.args.names.now c.loop-name.name-index (record { atom = 0; kind = bind.Param }))
          (omega arith) refl c.is_next-is_closed.ensures.is c.slot_of-slot.ensures c.in_ok-push.ensures.items
          c.after-next.ensures.env c.after-next.ensures.arg c.after-next.ensures.frame moved
          (c.loop-name.invariant.going inner later ready);
    }
