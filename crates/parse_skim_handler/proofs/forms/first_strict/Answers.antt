use Rattle.std.proofs.Common.{List, ap, map, sym, ◌∙◌}
use Rattle.parse_track.specs.EarlyErrors.{smaller}
use Rattle.parse_track.proofs.Smallest.{smaller_none}
use Rattle.parse_early_handler.specs.Directives.{ends, strict_at}
use Rattle.parse_early_handler.specs.Firsts.{strict_first}
use Rattle.parse_early_handler.specs.declared.nodes.StmtErrors.{StmtErrors}
use Rattle.parse_early_handler.proofs.Turns.{strict_ends, strict_on}
use Rattle.parse_skim_handler.specs.Packed.{stmt_errors}
use Rattle.parse_skim_handler.proofs.Images.{ended_image, next_image}
use Rattle.parse_skim_handler.proofs.forms.first_strict.Goals as goal

pub loop-item-preserved : goal.loop-item-preserved
loop-item-preserved c =
    let xs = c.args.items.now in
    let k = c.loop-item.item-index in
    let x = c.item-item.result in
    strict_on (map stmt_errors xs) k (stmt_errors x) c.ends.result c.loop-item.first c.strict_at-at.result _ _ (next_image stmt_errors xs k x c.loop-item-test.true c.item-item.is) (c.ends.ensures ∙ ap ends c.directive-directive.ensures) c.if-ends.false (c.strict_at-at.ensures ∙ ap strict_at c.directive-directive.ensures) c.smaller-first.ensures c.loop-item.invariant

pub returns-then-ends : goal.returns-then-ends
returns-then-ends c =
    let xs = c.args.items.now in
    let k = c.loop-item.item-index in
    let x = c.item-item.result in
    sym (smaller_none c.loop-item.first)
    ∙ (ap (smaller c.loop-item.first) (sym (strict_ends (map stmt_errors xs) k (stmt_errors x) c.ends.result (next_image stmt_errors xs k x c.loop-item-test.true c.item-item.is) (c.ends.ensures ∙ ap ends c.directive-directive.ensures) c.if-ends.true)) ∙ c.loop-item.invariant)

pub returns : goal.returns
returns c =
    sym (smaller_none c.loop-item.first)
    ∙ (ap (λ (xs : List StmtErrors). smaller c.loop-item.first (strict_first xs)) (sym (ended_image stmt_errors c.args.items.now c.loop-item.item-index c.loop-item-test.false)) ∙ c.loop-item.invariant)
