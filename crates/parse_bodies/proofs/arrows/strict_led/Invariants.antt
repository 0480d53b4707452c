use Rattle.std.proofs.Common.{drop, length}
use Rattle.script_grammar.specs.Interpretation.{Interpretation}
use Rattle.script_grammar.specs.Shows.{ShowParam}
use Rattle.script_grammar.specs.TreeLists.{Param}
use Rattle.grammar_parser_specs.specs.Parser.{led}
use Rattle.grammar_parser_specs.specs.Stmts.{strict_turn}
use Rattle.parse_exprs.proofs.Loops.{Looping}
use Rattle.parse_exprs.specs.Answers.{records}
use Rattle.parse_exprs.specs.Env.{env_at}
use Rattle.parse_exprs.specs.Source.{front}
use Rattle.parse_bodies.proofs.arrows.strict_led.Given as goal

abbrev pub invariant-loop-items : goal.invariant-loop-items
invariant-loop-items g l = (i : Interpretation) (t : Param) → ShowParam i (g.H.Handler.shows_expr i) l.fn.first t → Looping (ShowParam i (g.H.Handler.shows_expr i)) (strict_turn (env_at i l.fn.depth)) (records l.fn.source i l.fn.state.place) (led (strict_turn (env_at i l.fn.depth)) t (front l.fn.source i l.fn.state.place.at)) (records l.fn.source i l.state.place) (front l.fn.source i l.state.place.at) l.items.items

abbrev pub decreases-loop-items : goal.decreases-loop-items
decreases-loop-items g l = length (drop l.state.place.at l.fn.source.tokens.now)
