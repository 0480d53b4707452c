use Rattle.std.proofs.Common.{[], ap, sym, ◌∙◌}
use Rattle.parse_handlers.specs.FoundOf.{founds_before}
use Rattle.parse_early_handler.proofs.Sooner.{sooner_none}
use Rattle.parse_skim_handler.specs.Telling.{told_found}
use Rattle.parse_skim_handler.proofs.Telling.{founds-then}
use Rattle.parse_skim_handler.proofs.kept.with_said.Goals as goal

pub returns : goal.returns
returns c = λ i.
    let told = c.in_ok-told.ensures in
    record {
      says = λ rest. told.says i rest;
      puts = λ r. ap (λ l. founds_before i l r) told.found ∙ founds-then i (told_found c.args.kept.told) [] r;
      first = sym (sooner_none c.args.kept.first);
    }
