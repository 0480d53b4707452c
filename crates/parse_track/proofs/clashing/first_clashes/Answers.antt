use Rattle.std.proofs.Common.{Option, ℕ, suc, ◌<◌, ◌∷◌, drop, length, map, arith, add-one, drop-cons, sym, ap, ◌∙◌}
use Rattle.std.proofs.lemmas.List.{drop_all}
use Rattle.parse_track.specs.EarlyErrors.{smaller}
use Rattle.parse_track.specs.Clashes.{clashes, no_firsts}
use Rattle.parse_track.specs.LexicalNames.{offset_for}
use Rattle.parse_track.specs.Log.{told_items, told_region, outermost}
use Rattle.parse_track.specs.Rows.{row_of}
use Rattle.parse_track.proofs.ClashSteps.{outer_clash_step, outer_clash_end}
use Rattle.parse_track.proofs.Keeping.{nothing_for}
use Rattle.parse_track.proofs.clashing.first_clashes.Goals as goal

pub loop-region-init : goal.loop-region-init
loop-region-init c = λ heads.
    ap (λ (o : Option ℕ). smaller o (clashes heads no_firsts (told_items (map row_of c.args.rows.now) (told_region (length c.args.rows.now) (map row_of c.args.rows.now)) (outermost 0 (map row_of c.args.rows.now)))))
    (ap (offset_for heads) c.none-found.ensures ∙ nothing_for heads)

pub loop-region-preserved : goal.loop-region-preserved
loop-region-preserved c = λ heads.
    let l : c.loop-region.region < length c.args.rows.now = omega arith in
    outer_clash_step heads (map row_of c.args.rows.now) (told_region (length c.args.rows.now) (map row_of c.args.rows.now)) c.args.rows.now c.loop-region.region c.index-rows-region.result
    (offset_for heads c.loop-region.found) (offset_for heads c.clash_in_outermost.new.found) _
    (rw add-one (drop-cons c.args.rows.now c.loop-region.region c.index-rows-region.result l ∙ ap (λ x. x ∷ drop (suc c.loop-region.region) c.args.rows.now) (sym c.index-rows-region.is)))
    (c.in_ok-clash_in_outermost.ensures heads)
    (c.loop-region.invariant heads)

pub returns : goal.returns
returns c = λ heads.
    outer_clash_end heads c.args.rows.now (drop c.loop-region.region c.args.rows.now) c.loop-region.region (offset_for heads c.loop-region.found)
    (drop_all c.loop-region.region c.args.rows.now (omega arith)) (c.loop-region.invariant heads)
