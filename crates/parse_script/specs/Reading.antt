-- What the tokens of a file are read as, by a handler whose nodes stand for trees as `shows` says.
use Rattle.std.specs.Prelude.{ℕ, List, map, Result, Ok, Err}
use Rattle.script_grammar.specs.Braced.{braced_all}
use Rattle.script_grammar.specs.Fault.{FirstFault, ScriptPart, Unexpected, TooDeep}
use Rattle.script_grammar.specs.Interpretation.{Interpretation}
use Rattle.script_grammar.specs.Lexeme.{Lexeme}
use Rattle.script_grammar.specs.Pieces.{whole}
use Rattle.script_grammar.specs.Shows.{ShowAll}
use Rattle.script_grammar.specs.Tree.{Stmts}
use Rattle.grammar_parser_specs.specs.Filling.{fill_stmts}
use Rattle.parse_exprs.specs.declared.place.ParseFault.{ParseFault}
use Rattle.parse_exprs.specs.declared.place.ParseFault.TheVariants as faults
use Rattle.parse_exprs.specs.Env.{body_at}
use Rattle.parse_bodies.specs.declared.whole.Script.{Script}
use Rattle.parse_bodies.specs.Whole.{IsText}

-- these texts of atoms, and these statements of a body that was passed over, by where its function starts
abbrev pub under : List (List ℕ) → (ℕ → Stmts) → Interpretation
under texts bodies = record { texts = texts; bodies = bodies }

-- There is a node for the script that the tokens are, and one for each braced body of the functions in it, in the order of the
-- source, those inside a body after it. In each of them the body of a function has the statements that the interpretation
-- gives to it.
pub record IsShown {B : Type 0} (shows : Interpretation → B → Stmts → Type 0) (i : Interpretation) (tokens : List Lexeme)
    (script : Script B) : Type 0 where
  pub items : Stmts
  pub is : IsText tokens items
  pub top : shows i script.top (fill_stmts (body_at i) items)
  pub bodies : ShowAll (shows i) script.bodies.items (map (fill_stmts (body_at i)) (braced_all items))

-- the tokens are a script, or this is their first fault, unless memory was wanting
abbrev pub IsReadingBy : {B : Type 0} → (Interpretation → B → Stmts → Type 0) → Interpretation → List Lexeme → Result (Script B) ParseFault → Type 0
IsReadingBy shows i tokens (Ok script) = IsShown shows i tokens script
IsReadingBy shows i tokens (Err (faults.Unexpected token)) = FirstFault (ScriptPart whole 0) tokens token Unexpected
IsReadingBy shows i tokens (Err (faults.TooDeep token)) = FirstFault (ScriptPart whole 0) tokens token TooDeep
IsReadingBy shows i tokens (Err faults.NoMemory) = Unit {0}
