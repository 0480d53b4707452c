-- Statements read with the bodies of their functions passed over.
use Rattle.std.specs.Prelude.{ℕ}
use Rattle.script_grammar.specs.Tree.{Body, BracedBody, Stmts, no_stmts}
use Rattle.grammar_parser_specs.specs.Filling.{fill_stmts}

-- A body in braces that was passed over has no statements, wherever its function starts.
abbrev pub passed_over : ℕ → Body
passed_over start = BracedBody no_stmts

-- The statements with each braced body of their outermost functions emptied.
abbrev pub emptied : Stmts → Stmts
emptied = fill_stmts passed_over
