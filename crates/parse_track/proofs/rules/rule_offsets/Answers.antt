use Rattle.std.proofs.Common.{suc, ◌<◌, ◌∷◌, drop, length, map, arith, add-one, drop-cons, sym, ap, ◌∙◌}
use Rattle.std.proofs.lemmas.List.{drop_all}
use Rattle.parse_track.specs.EarlyErrors.{smaller, smallest, at_regions}
use Rattle.parse_track.specs.Log.{told_region, known_names, told_items, outermost}
use Rattle.parse_track.specs.Rows.{row_of}
use Rattle.parse_track.specs.Rules.{rule_of, offset_of}
use Rattle.parse_track.proofs.Seeking.{seek_outer_step, seek_outer_end}
use Rattle.parse_track.proofs.rules.rule_offsets.Goals as goal

pub loop-region-init : goal.loop-region-init
loop-region-init c = λ rule.
    ap (λ o. smaller o (smallest (at_regions (rule_of rule (known_names c.args.known.now)) (told_items (map row_of c.args.rows.now) (told_region (length c.args.rows.now) (map row_of c.args.rows.now)) (outermost 0 (map row_of c.args.rows.now))))))
    (c.none-offsets.ensures rule)

pub loop-region-preserved : goal.loop-region-preserved
loop-region-preserved c = λ rule.
    let l : c.loop-region.region < length c.args.rows.now = omega arith in
    seek_outer_step (rule_of rule (known_names c.args.known.now)) (map row_of c.args.rows.now) (told_region (length c.args.rows.now) (map row_of c.args.rows.now)) c.args.rows.now c.loop-region.region c.index-rows-region.result
    (offset_of c.loop-region.offsets rule) (offset_of c.seek_in_outermost.new.offsets rule) _
    (rw add-one (drop-cons c.args.rows.now c.loop-region.region c.index-rows-region.result l ∙ ap (λ x. x ∷ drop (suc c.loop-region.region) c.args.rows.now) (sym c.index-rows-region.is)))
    (c.in_ok-seek_in_outermost.ensures rule)
    (c.loop-region.invariant rule)

pub returns : goal.returns
returns c = λ rule.
    seek_outer_end (rule_of rule (known_names c.args.known.now)) c.args.rows.now (drop c.loop-region.region c.args.rows.now) c.loop-region.region (offset_of c.loop-region.offsets rule)
    (drop_all c.loop-region.region c.args.rows.now (omega arith)) (c.loop-region.invariant rule)
