-- A function whose tokens are read without those in the bodies of some functions directly in it.
use Rattle.std.specs.Prelude.{◌≡◌, ℕ, ◌≤◌, List, map, get_or, Bool, Option}
use Rattle.script_grammar.specs.declared.token.FuncForm.{FuncForm}
use Rattle.script_grammar.specs.Lexeme.{Lexeme}
use Rattle.script_grammar.specs.Pieces.{whole, depths}
use Rattle.script_grammar.specs.Script.{IsFunction, print_alone}
use Rattle.script_grammar.specs.Tree.{Named, Function}
use Rattle.scope_analysis.specs.Functions.{Inner}
use Rattle.grammar_skip_laws.specs.Holes.{Hole, place_of, LeavesOut, hollow_places}
use Rattle.grammar_skip_laws.specs.Hollow.{hollow_inside}

-- The tokens without those in the chosen bodies, one for each chosen function directly in this one that has a braced body, in
-- order: they are this function with these bodies empty, and none of them is too deep.
pub record Skipped (chosen : ℕ → Bool) (inner : List Inner) (form : FuncForm) (name : Option Named) (limit : ℕ) (tokens : List Lexeme)
    (next : Lexeme) (f : Function) : Type 0 where
  pub holes : List Hole
  pub left : List Lexeme
  pub leaves : LeavesOut holes tokens left
  pub places : map place_of holes ≡ hollow_places chosen inner
  pub is : IsFunction whole form name 0 left next (hollow_inside chosen f)
  pub shallow : (j : ℕ) → get_or (depths (print_alone whole 0 (hollow_inside chosen f)) left next is.fits) j 0 ≤ limit
