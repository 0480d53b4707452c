use Rattle.script_grammar.specs.Interpretation.{Interpretation}
use Rattle.parse_skim_handler.specs.Kept.{Adds, bind_means}
use Rattle.parse_skim_handler.specs.Meaning.{all_meant}
use Rattle.parse_skim_handler.proofs.parts.skim_all_binds.Given as goal

abbrev pub invariant-loop-bind : goal.invariant-loop-bind
invariant-loop-bind l = (i : Interpretation) → Adds i l.initial.made l.made (all_meant (bind_means i l.how) l.yielded)
