use Rattle.std.proofs.Common.{ap, ◌∙◌}
use Rattle.parse_early_handler.specs.Firsts.{target_first}
use Rattle.parse_skim_handler.specs.Telling.{told_puts, told_says}
use Rattle.parse_skim_handler.proofs.kept.of_target.Goals as goal

pub returns : goal.returns
returns c = λ i. record {
  says = λ rest. ap (λ w. told_says i w.told rest) c.whole-told.ensures;
  puts = λ inner. ap (λ w. told_puts i w.told inner) c.whole-told.ensures;
  first = c.target_first-first.ensures ∙ ap (λ w. target_first w.errors) c.whole-told.ensures;
}
