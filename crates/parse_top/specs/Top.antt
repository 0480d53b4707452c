-- What the statements of a script itself are read as, by a handler whose nodes stand for trees as `shows` says.
use Rattle.std.specs.Prelude.{ℕ, List, Result, Ok, Err}
use Rattle.script_grammar.specs.Interpretation.{Interpretation}
use Rattle.script_grammar.specs.Lexeme.{Lexeme}
use Rattle.script_grammar.specs.Tree.{Stmts}
use Rattle.grammar_parser_specs.specs.Filling.{fill_stmts}
use Rattle.parse_exprs.specs.declared.place.ParseFault.{ParseFault}
use Rattle.parse_exprs.specs.declared.place.ParseFault.TheVariants as faults
use Rattle.parse_exprs.specs.Env.{body_at}
use Rattle.parse_bodies.specs.Whole.{IsText}
use Rattle.parse_script.specs.Reading.{under}

-- the tokens are a script, and none of them is too deep
abbrev pub AreAScript : List Lexeme → Type 0
AreAScript tokens = (items : Stmts) × IsText tokens items

-- The node stands for the statements of the script that the tokens are. Whatever statements are given for the bodies of functions,
-- by where the functions start: these stand in each braced body.
abbrev pub ShowsTop : {B : Type 0} → (Interpretation → B → Stmts → Type 0) → List (List ℕ) → List Lexeme → B → Type 0
ShowsTop shows texts tokens top = (items : Stmts) (bodies : ℕ → Stmts) → IsText tokens items
    → shows (under texts bodies) top (fill_stmts (body_at (under texts bodies)) items)

-- The same of one interpretation; where a fault was found, the tokens are no script, and nothing is said where memory ran out.
abbrev pub IsTopOf : {B : Type 0} → (Interpretation → B → Stmts → Type 0) → Interpretation → List Lexeme → Result B ParseFault → Type 0
IsTopOf shows i tokens (Ok top) = (items : Stmts) → IsText tokens items → shows i top (fill_stmts (body_at i) items)
IsTopOf shows i tokens (Err (faults.Unexpected token)) = AreAScript tokens → ⊥
IsTopOf shows i tokens (Err (faults.TooDeep token)) = AreAScript tokens → ⊥
IsTopOf shows i tokens (Err faults.NoMemory) = Unit {0}
