use Rattle.std.proofs.Common.{drop, length}
use Rattle.script_grammar.specs.Interpretation.{Interpretation}
use Rattle.script_grammar.specs.TreeLists.{Bind}
use Rattle.grammar_parser_specs.specs.Parser.{led}
use Rattle.grammar_parser_specs.specs.Stmts.{bind_turn}
use Rattle.parse_exprs.specs.Answers.{records}
use Rattle.parse_exprs.specs.Env.{env_at}
use Rattle.parse_exprs.specs.Source.{front}
use Rattle.parse_bodies.specs.Means.{ShowEnded}
use Rattle.parse_bodies.proofs.Names.{BindsSoFar}
use Rattle.parse_bodies.proofs.bindings.binds_led.Given as goal

abbrev pub invariant-names : goal.invariant-names
invariant-names g l = (i : Interpretation) (b : Bind) → ShowEnded i (g.H.Handler.shows_expr i) l.fn.first b → BindsSoFar i (g.H.Handler.shows_expr i) (bind_turn (env_at i l.fn.depth) l.fn.with_in) (records l.fn.source i l.fn.state.place) (led (bind_turn (env_at i l.fn.depth) l.fn.with_in) b (front l.fn.source i l.fn.state.place.at)) (records l.fn.source i l.state.place) (front l.fn.source i l.state.place.at) l.items.items l.ending

abbrev pub decreases-names : goal.decreases-names
decreases-names g l = length (drop l.state.place.at l.fn.source.tokens.now)
