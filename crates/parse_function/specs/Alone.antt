-- Tokens that are all of one function, as its extent is read alone.
use Rattle.std.specs.Prelude.{◌≡◌, ℕ, ◌≤◌, List, [], ◌∷◌, ◌++◌, get_or, None, Result, Ok, Err}
use Rattle.script_grammar.specs.declared.token.Kind.TheVariants as kind
use Rattle.script_grammar.specs.declared.token.FuncForm.{FuncForm}
use Rattle.script_grammar.specs.declared.tree.Func.{Func}
use Rattle.script_grammar.specs.Fault.{depth_limit}
use Rattle.script_grammar.specs.Interpretation.{Interpretation}
use Rattle.script_grammar.specs.Lexeme.{Lexeme}
use Rattle.script_grammar.specs.Pieces.{whole, depths}
use Rattle.script_grammar.specs.Script.{IsFunction, print_alone}
use Rattle.script_grammar.specs.Tree.{Function}
use Rattle.script_grammar.specs.TreeOf.{func_of}
use Rattle.parse_exprs.specs.declared.place.ParseFault.{ParseFault}
use Rattle.parse_exprs.specs.declared.place.ParseFault.TheVariants as faults
use Rattle.parse_exprs.specs.Env.{body_at}
use Rattle.parse_parts.specs.Parts.{fill_inside}

-- The tokens are a function of this form from its parameters on, with this tree, and an End token. None of them is too deep.
pub record AreFunction (ts : List Lexeme) (form : FuncForm) (f : Function) : Type 0 where
  pub inner : List Lexeme
  pub end : Lexeme
  pub split : ts ≡ inner ++ end ∷ []
  pub ends : end.kind ≡ kind.End
  pub is : IsFunction whole form None 0 inner end f
  pub shallow : (j : ℕ) → get_or (depths (print_alone whole 0 f) inner end is.fits) j 0 ≤ depth_limit

-- What was read stands for the function that the tokens are, where the body of each function inside it has the statements that
-- the interpretation gives. Where a fault was found, they are none; nothing is said where memory ran out.
abbrev pub IsReadAlone : Interpretation → List Lexeme → FuncForm → Result Func ParseFault → Type 0
IsReadAlone i ts form (Ok func) = (f : Function) → AreFunction ts form f → func_of i func ≡ fill_inside (body_at i) f
IsReadAlone i ts form (Err (faults.Unexpected token)) = (f : Function) → AreFunction ts form f → ⊥
IsReadAlone i ts form (Err (faults.TooDeep token)) = (f : Function) → AreFunction ts form f → ⊥
IsReadAlone i ts form (Err faults.NoMemory) = Unit {0}
