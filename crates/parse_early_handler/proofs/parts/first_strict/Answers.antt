use Rattle.std.proofs.Common.{List, None, drop_of_length-le, get_or, sym, ap, ◌∙◌}
use Rattle.parse_track.specs.EarlyErrors.{smaller}
use Rattle.parse_track.proofs.Smallest.{smaller_none}
use Rattle.parse_early_handler.specs.declared.directive.Directive.TheVariants as kind
use Rattle.parse_early_handler.specs.declared.nodes.StmtErrors.{StmtErrors}
use Rattle.parse_early_handler.specs.Firsts.{strict_first}
use Rattle.parse_early_handler.proofs.Turns.{next_at, strict_ends, strict_on}
use Rattle.parse_early_handler.proofs.parts.first_strict.Goals as goal

abbrev none : StmtErrors
none = record { first = None; directive = kind.No }

pub loop-item-preserved : goal.loop-item-preserved
loop-item-preserved c =
    let xs = c.args.items.now in
    let k = c.loop-item.item-index in
    strict_on xs k (get_or xs k none) c.ends.result c.loop-item.first c.strict_at-at.result _ _ (next_at xs k none c.loop-item-test.true) c.ends.ensures c.if-ends.false c.strict_at-at.ensures c.smaller-first.ensures c.loop-item.invariant

pub returns-then-ends : goal.returns-then-ends
returns-then-ends c =
    let xs = c.args.items.now in
    let k = c.loop-item.item-index in
    sym (smaller_none c.loop-item.first)
    ∙ (ap (smaller c.loop-item.first) (sym (strict_ends xs k (get_or xs k none) c.ends.result (next_at xs k none c.loop-item-test.true) c.ends.ensures c.if-ends.true)) ∙ c.loop-item.invariant)

pub returns : goal.returns
returns c =
    sym (smaller_none c.loop-item.first)
    ∙ (ap (λ (xs : List StmtErrors). smaller c.loop-item.first (strict_first xs)) (sym (drop_of_length-le c.args.items.now c.loop-item-test.false)) ∙ c.loop-item.invariant)
