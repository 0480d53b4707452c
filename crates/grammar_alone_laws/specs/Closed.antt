-- Where a bracket closes that a token opened.
use Rattle.std.specs.Prelude.{◌≡◌, List, ◌∷◌, ◌++◌, Some, map}
use Rattle.script_grammar.specs.declared.brackets.Bracket.{Bracket}
use Rattle.script_grammar.specs.Lexeme.{Lexeme}
use Rattle.script_grammar.specs.Matching.{part_of, closed_by, IsBalanced}

-- one of these tokens closes this bracket, and those before it are balanced
pub record ClosedBehind (b : Bracket) (behind : List Lexeme) : Type 0 where
  pub between : List Lexeme
  pub closing : Lexeme
  pub others : List Lexeme
  pub split : behind ≡ between ++ closing ∷ others
  pub closes : closed_by (part_of closing.kind) ≡ Some b
  pub balanced : IsBalanced (map (λ (t : Lexeme). t.kind) between)
