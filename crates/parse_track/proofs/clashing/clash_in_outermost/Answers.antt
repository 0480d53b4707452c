use Rattle.std.proofs.Common.{◌∷◌, [], length, map, sym, ap, ◌∙◌}
use Rattle.parse_track.specs.AtomTables.{entry}
use Rattle.parse_track.specs.EarlyErrors.{smaller}
use Rattle.parse_track.specs.Log.{told_items, told_region, Inner}
use Rattle.parse_track.specs.Rows.{row_of}
use Rattle.parse_track.specs.Clashes.{no_firsts}
use Rattle.parse_track.specs.LexicalNames.{offset_for, firsts_of}
use Rattle.parse_track.proofs.ClashSteps.{clashes_same}
use Rattle.parse_track.proofs.Keeping.{nothing_within, nothing_first}
use Rattle.parse_track.proofs.Smallest.{smaller_none}
use Rattle.parse_track.proofs.clashing.clash_in_outermost.Goals as goal

pub returns-in-Some : goal.returns-in-Some
returns-in-Some c = rw c.in-Some.is (λ heads. sym (smaller_none (offset_for heads c.args.found.now)))

pub returns-in_ok-clash_in_item-in-None : goal.returns-in_ok-clash_in_item-in-None
returns-in_ok-clash_in_item-in-None c = rw c.in-None.is (λ heads.
    c.in_ok-clash_in_item-in-None.ensures.found (nothing_within c.new-names.result.entries.items c.new-names.ensures 0) heads
    ∙ ap (smaller (offset_for heads c.args.found.now))
    (clashes_same heads (told_items (map row_of c.args.rows.now) (told_region (length c.args.rows.now) (map row_of c.args.rows.now)) (Inner c.args.region ∷ []))
    (firsts_of heads 0 (entry c.new-names.result.entries.items)) no_firsts (nothing_first heads 0 c.new-names.result.entries.items c.new-names.ensures)))
