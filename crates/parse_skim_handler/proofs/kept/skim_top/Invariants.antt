use Rattle.std.proofs.Common.{true}
use Rattle.script_grammar.specs.Interpretation.{Interpretation}
use Rattle.parse_skim_handler.specs.Kept.{Adds, stmt_means}
use Rattle.parse_skim_handler.specs.Meaning.{all_meant}
use Rattle.parse_skim_handler.proofs.kept.skim_top.Given as goal

abbrev pub invariant-loop-item : goal.invariant-loop-item
invariant-loop-item l = (i : Interpretation) → Adds i l.initial.made l.made (all_meant (stmt_means i true) l.yielded)
