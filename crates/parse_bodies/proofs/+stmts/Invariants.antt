use Rattle.parse_bodies.specs.Blocks.{block_at, stmts_at}
use Rattle.parse_exprs.proofs.Loops.{Looping}
use Rattle.parse_exprs.specs.Answers.{records}
use Rattle.parse_exprs.specs.Source.{front}
use Rattle.grammar_parser_specs.specs.Parser.{loop}
use Rattle.grammar_parser_specs.specs.Stmts.{case_turn, clause_turn, stmt_turn}
use Rattle.script_grammar.specs.Interpretation.{Interpretation}
use Rattle.script_grammar.specs.Shows.{ShowClause}
use Rattle.std.proofs.Common.{drop, length, ◌*◌, ◌+◌, ◌-◌}
use Rattle.parse_bodies.proofs.+stmts.Given as goal

abbrev pub decreases-switch::behind_default : goal.decreases-switch::behind_default
decreases-switch::behind_default g l = 64 * (400 - l.depth) + 7

abbrev pub decreases-stmts::block_stmt : goal.decreases-stmts::block_stmt
decreases-stmts::block_stmt g l = 64 * (400 - l.depth) + 5

abbrev pub decreases-stmts::braced : goal.decreases-stmts::braced
decreases-stmts::braced g l = 64 * (400 - l.depth) + 5

abbrev pub decreases-stmts::braced_from : goal.decreases-stmts::braced_from
decreases-stmts::braced_from g l = 64 * (400 - l.depth) + 4

abbrev pub decreases-switch::case_clause : goal.decreases-switch::case_clause
decreases-switch::case_clause g l = 64 * (400 - l.depth) + 4

abbrev pub decreases-switch::case_turn : goal.decreases-switch::case_turn
decreases-switch::case_turn g l = 64 * (400 - l.depth) + 5

abbrev pub decreases-switch::cases : goal.decreases-switch::cases
decreases-switch::cases g l = 64 * (400 - l.depth) + 6

abbrev pub decreases-switch::cases-loop-items : goal.decreases-switch::cases-loop-items
decreases-switch::cases-loop-items g l = length (drop l.state.place.at l.fn.source.tokens.now)

abbrev pub decreases-switch::clause_turn : goal.decreases-switch::clause_turn
decreases-switch::clause_turn g l = 64 * (400 - l.depth) + 5

abbrev pub decreases-switch::clauses_from : goal.decreases-switch::clauses_from
decreases-switch::clauses_from g l = 64 * (400 - l.depth) + 9

abbrev pub decreases-switch::clauses_to_default : goal.decreases-switch::clauses_to_default
decreases-switch::clauses_to_default g l = 64 * (400 - l.depth) + 6

abbrev pub decreases-switch::clauses_to_default-loop-items : goal.decreases-switch::clauses_to_default-loop-items
decreases-switch::clauses_to_default-loop-items g l = length (drop l.state.place.at l.fn.source.tokens.now)

abbrev pub decreases-stmts::declaration_stmt : goal.decreases-stmts::declaration_stmt
decreases-stmts::declaration_stmt g l = 64 * (400 - l.depth) + 12

abbrev pub decreases-switch::default_clause : goal.decreases-switch::default_clause
decreases-switch::default_clause g l = 64 * (400 - l.depth) + 4

abbrev pub decreases-loops::do_from : goal.decreases-loops::do_from
decreases-loops::do_from g l = 64 * (400 - l.depth) + 1

abbrev pub decreases-stmts::else_behind : goal.decreases-stmts::else_behind
decreases-stmts::else_behind g l = 64 * (400 - l.depth) + 2

abbrev pub decreases-stmts::else_part : goal.decreases-stmts::else_part
decreases-stmts::else_part g l = 64 * (400 - l.depth) + 1

abbrev pub decreases-loops::for_decl : goal.decreases-loops::for_decl
decreases-loops::for_decl g l = 64 * (400 - l.depth) + 3

abbrev pub decreases-loops::for_expr : goal.decreases-loops::for_expr
decreases-loops::for_expr g l = 64 * (400 - l.depth) + 3

abbrev pub decreases-loops::for_from : goal.decreases-loops::for_from
decreases-loops::for_from g l = 64 * (400 - l.depth) + 1

abbrev pub decreases-loops::for_head : goal.decreases-loops::for_head
decreases-loops::for_head g l = 64 * (400 - l.depth) + 4

abbrev pub decreases-loops::for_in_from : goal.decreases-loops::for_in_from
decreases-loops::for_in_from g l = 64 * (400 - l.depth) + 1

abbrev pub decreases-loops::for_named : goal.decreases-loops::for_named
decreases-loops::for_named g l = 64 * (400 - l.depth) + 2

abbrev pub decreases-loops::for_stmt : goal.decreases-loops::for_stmt
decreases-loops::for_stmt g l = 64 * (400 - l.depth) + 5

abbrev pub decreases-loops::for_valued : goal.decreases-loops::for_valued
decreases-loops::for_valued g l = 64 * (400 - l.depth) + 2

abbrev pub decreases-stmts::if_from : goal.decreases-stmts::if_from
decreases-stmts::if_from g l = 64 * (400 - l.depth) + 3

abbrev pub decreases-stmts::items : goal.decreases-stmts::items
decreases-stmts::items g l = 64 * (400 - l.depth) + 2

abbrev pub decreases-stmts::items-loop-items : goal.decreases-stmts::items-loop-items
decreases-stmts::items-loop-items g l = length (drop l.state.place.at l.fn.source.tokens.now)

abbrev pub decreases-stmts::jump_stmt : goal.decreases-stmts::jump_stmt
decreases-stmts::jump_stmt g l = 64 * (400 - l.depth) + 3

abbrev pub decreases-stmts::labelled : goal.decreases-stmts::labelled
decreases-stmts::labelled g l = 64 * (400 - l.depth) + 1

abbrev pub decreases-switch::more_clauses : goal.decreases-switch::more_clauses
decreases-switch::more_clauses g l = 64 * (400 - l.depth) + 8

abbrev pub decreases-stmts::nested_stmt : goal.decreases-stmts::nested_stmt
decreases-stmts::nested_stmt g l = 64 * (400 - l.depth) + 11

abbrev pub decreases-stmts::plain_stmt : goal.decreases-stmts::plain_stmt
decreases-stmts::plain_stmt g l = 64 * (400 - l.depth) + 2

abbrev pub decreases-stmts::stmt : goal.decreases-stmts::stmt
decreases-stmts::stmt g l = 64 * (400 - l.depth) + 0

abbrev pub decreases-stmts::stmt_in : goal.decreases-stmts::stmt_in
decreases-stmts::stmt_in g l = 64 * (400 - l.depth) + 13

abbrev pub decreases-stmts::stmt_turn : goal.decreases-stmts::stmt_turn
decreases-stmts::stmt_turn g l = 64 * (400 - l.depth) + 1

abbrev pub decreases-stmts::stmts_from : goal.decreases-stmts::stmts_from
decreases-stmts::stmts_from g l = 64 * (400 - l.depth) + 3

abbrev pub decreases-switch::switch_from : goal.decreases-switch::switch_from
decreases-switch::switch_from g l = 64 * (400 - l.depth) + 10

abbrev pub decreases-stmts::try_from : goal.decreases-stmts::try_from
decreases-stmts::try_from g l = 64 * (400 - l.depth) + 6

abbrev pub decreases-loops::while_from : goal.decreases-loops::while_from
decreases-loops::while_from g l = 64 * (400 - l.depth) + 1

abbrev pub invariant-switch::cases-loop-items : goal.invariant-switch::cases-loop-items
invariant-switch::cases-loop-items g l = (i : Interpretation) → Looping (ShowClause (g.H.Handler.shows_expr i) (g.H.Handler.shows_stmt i)) (case_turn (block_at i l.fn.depth) l.fn.returns) (records l.fn.source i l.fn.state.place) (loop (case_turn (block_at i l.fn.depth) l.fn.returns) (front l.fn.source i l.fn.state.place.at)) (records l.fn.source i l.state.place) (front l.fn.source i l.state.place.at) l.items.items

abbrev pub invariant-switch::clauses_to_default-loop-items : goal.invariant-switch::clauses_to_default-loop-items
invariant-switch::clauses_to_default-loop-items g l = (i : Interpretation) → Looping (ShowClause (g.H.Handler.shows_expr i) (g.H.Handler.shows_stmt i)) (clause_turn (block_at i l.fn.depth) l.fn.returns) (records l.fn.source i l.fn.state.place) (loop (clause_turn (block_at i l.fn.depth) l.fn.returns) (front l.fn.source i l.fn.state.place.at)) (records l.fn.source i l.state.place) (front l.fn.source i l.state.place.at) l.items.items

abbrev pub invariant-stmts::items-loop-items : goal.invariant-stmts::items-loop-items
invariant-stmts::items-loop-items g l = (i : Interpretation) → Looping (g.H.Handler.shows_stmt i) (stmt_turn (stmts_at i l.fn.depth) l.fn.returns) (records l.fn.source i l.fn.state.place) (loop (stmt_turn (stmts_at i l.fn.depth) l.fn.returns) (front l.fn.source i l.fn.state.place.at)) (records l.fn.source i l.state.place) (front l.fn.source i l.state.place.at) l.items.items
