use Rattle.script_grammar.specs.Interpretation.{Interpretation}
use Rattle.parse_skim_handler.specs.Kept.{Adds}
use Rattle.parse_skim_handler.specs.Meaning.{all_meant}
use Rattle.parse_skim_handler.proofs.kept.VecSkim.skim.Given as goal

abbrev pub invariant-loop-part : goal.invariant-loop-part
invariant-loop-part g l = (i : Interpretation) → Adds i l.initial.made l.made (all_meant (g.T.Skim.means i) l.yielded)
