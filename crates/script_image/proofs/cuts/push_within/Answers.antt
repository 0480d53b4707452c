use Rattle.std.proofs.Common.{arith, length, refl, ◌+◌, ◌≤◌}
use Rattle.script_image.specs.declared.pieces.Place.TheVariants as place
use Rattle.script_image.specs.declared.script_lines.Listing.TheVariants as of
use Rattle.script_image.proofs.Cutting.{begins, ends, goes_on, lead_push}
use Rattle.script_image.proofs.cuts.push_within.Goals as goal

pub loop-at-init : goal.loop-at-init
loop-at-init c = (
  lead_push of.Code c.args.merged.now (place.Before 0) (place.Before c.args.number) (place.Within c.args.number 0 0) c.args.pieces.now.items _ c.in_ok-push.ensures.items c.requires.lead (begins c.args.merged.now c.args.number c.args.code.now c.requires.part c.requires.number),
  omega arith,
)

pub loop-at-preserved : goal.loop-at-preserved
loop-at-preserved c =
    let more = c.if-code-turn-gt-PIECE_INSTRUCTIONS.true in
    let few : c.loop-at.turn + 2048 ≤ length c.args.code.now = omega (arith, more) in (
      lead_push of.Code c.args.merged.now (place.Before 0) (place.Within c.args.number c.loop-at.at c.loop-at.turn) (place.Within c.args.number c.offset_behind-next.result (c.loop-at.turn + 2048)) c.loop-at.pieces.items _ c.in_ok-push-2.ensures.items c.loop-at.invariant.0
          (goes_on c.args.merged.now c.args.number c.args.code.now c.requires.part c.loop-at.at c.loop-at.turn c.offset_behind-next.result (c.loop-at.turn + 2048) 2048 refl few c.offset_behind-next.ensures),
      few,
    )

pub overflow_add-to : goal.overflow_add-to
overflow_add-to c = let there = c.requires.number in let few = c.requires.few in omega (arith, there, few)

pub returns : goal.returns
returns c =
    lead_push of.Code c.args.merged.now (place.Before 0) (place.Within c.args.number c.loop-at.at c.loop-at.turn) (place.Before (c.args.number + 1)) c.loop-at.pieces.items _ c.in_ok-push-3.ensures.items c.loop-at.invariant.0
    (ends c.args.merged.now c.args.number c.args.code.now c.requires.part c.loop-at.at c.loop-at.turn (c.args.number + 1) c.loop-at.invariant.1 refl)
