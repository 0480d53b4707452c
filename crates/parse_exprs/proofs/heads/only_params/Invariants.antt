use Rattle.std.proofs.Common.{◌-◌}
use Rattle.script_grammar.specs.Interpretation.{Interpretation}
use Rattle.grammar_script_laws.proofs.Strides.{Striding}
use Rattle.parse_exprs.specs.Source.{lexemes}
use Rattle.parse_exprs.proofs.heads.only_params.Given as goal

abbrev pub invariant-loop-at : goal.invariant-loop-at
invariant-loop-at l = (i : Interpretation) → Striding (lexemes l.fn.source i) l.fn.opening l.fn.closing l.at l.starts

abbrev pub decreases-loop-at : goal.decreases-loop-at
decreases-loop-at l = l.fn.closing - l.at
