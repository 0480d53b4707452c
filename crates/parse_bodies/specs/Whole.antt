-- What a script that is read whole comes to.
use Rattle.std.specs.Prelude.{ℕ, ◌≤◌, ◌≡◌, List, [], ◌∷◌, ◌++◌, map, get_or, Result, Ok, Err, Bool, true, false}
use Rattle.script_grammar.specs.declared.token.Kind.TheVariants as kind
use Rattle.script_grammar.specs.Interpretation.{Interpretation}
use Rattle.script_grammar.specs.Lexeme.{Lexeme}
use Rattle.script_grammar.specs.Shows.{ShowAll}
use Rattle.script_grammar.specs.Tree.{Stmts}
use Rattle.script_grammar.specs.Pieces as grammar
use Rattle.script_grammar.specs.Pieces.{depths}
use Rattle.script_grammar.specs.Print.{print_stmts}
use Rattle.script_grammar.specs.Script.{IsScript}
use Rattle.script_grammar.specs.Fault.{depth_limit, ScriptPart, Unexpected, TooDeep, FirstFault}
use Rattle.grammar_parser_specs.specs.Filling.{fill_stmts}
use Rattle.script_grammar.specs.Braced.{braced_all}
use Rattle.parse_exprs.specs.declared.source.Source.{Source}
use Rattle.parse_exprs.specs.declared.place.ParseFault.{ParseFault}
use Rattle.parse_exprs.specs.declared.place.ParseFault.TheVariants as faults
use Rattle.parse_exprs.specs.Env.{body_at}
use Rattle.parse_exprs.specs.Source.{lexemes}
use Rattle.parse_bodies.specs.declared.whole.Script.{Script}

-- the tokens are a script with this tree and its End token, and none of them is too deep
pub record IsText (ts : List Lexeme) (items : Stmts) : Type 0 where
  pub inner : List Lexeme
  pub end : Lexeme
  pub split : ts ≡ inner ++ end ∷ []
  pub ends : end.kind ≡ kind.End
  pub script : IsScript inner end items
  pub shallow : (j : ℕ) → get_or (depths (print_stmts grammar.whole 0 items) inner end script.fits) j 0 ≤ depth_limit

-- whether memory ran out
abbrev pub lacks_memory : {B : Type 0} → Result B ParseFault → Bool
lacks_memory (Err faults.NoMemory) = true
lacks_memory _ = false

-- A node for the statements of the script, and one for each braced body of the functions in it, in the order of the source,
-- those inside a body after it. In each of them the body of a function has the statements that the interpretation gives to it.
pub record IsRead {B : Type 0} (i : Interpretation) (shows : B → Stmts → Type 0) (s : Source) (script : Script B) : Type 0 where
  pub items : Stmts
  pub is : IsText (lexemes s i) items
  pub top : shows script.top (fill_stmts (body_at i) items)
  pub bodies : ShowAll shows script.bodies.items (map (fill_stmts (body_at i)) (braced_all items))

-- the tokens of the source are a script, or the first fault is that of their text, unless memory ran out
abbrev pub IsWhole : {B : Type 0} → Interpretation → (B → Stmts → Type 0) → Source → Result (Script B) ParseFault → Type 0
IsWhole i shows s (Ok script) = IsRead i shows s script
IsWhole i shows s (Err (faults.Unexpected token)) = FirstFault (ScriptPart grammar.whole 0) (lexemes s i) token Unexpected
IsWhole i shows s (Err (faults.TooDeep token)) = FirstFault (ScriptPart grammar.whole 0) (lexemes s i) token TooDeep
IsWhole i shows s (Err faults.NoMemory) = Unit {0}
