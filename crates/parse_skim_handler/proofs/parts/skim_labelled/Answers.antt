use Rattle.std.proofs.Common.{sym, ◌∙◌}
use Rattle.parse_track.specs.Told as told
use Rattle.parse_skim_handler.specs.Kept.{labelled_as}
use Rattle.parse_skim_handler.proofs.Meanings.{adds-region, begun, if_ok, means-as}
use Rattle.parse_skim_handler.proofs.parts.skim_labelled.Goals as goal

pub returns-then-on : goal.returns-then-on
returns-then-on c = if_ok c.skim.result c.skim.ensures (λ made h i. means-as i (λ on. labelled_as i on c.args.body) (sym c.labels_on-on.ensures ∙ c.if-on.true) (begun i (c.nothing-begin.ensures i) (h i)))

pub returns-in_ok-inside : goal.returns-in_ok-inside
returns-in_ok-inside c =
    if_ok c.region.result c.region.ensures (λ made h i.
    let inside = begun i (c.nothing-begin.ensures i) (c.in_ok-inside.ensures i) in
    means-as i (λ on. labelled_as i on c.args.body) (sym c.labels_on-on.ensures ∙ c.if-on.false) (begun i (c.nothing-around.ensures i) (adds-region i told.Block 0 inside (h i))))
