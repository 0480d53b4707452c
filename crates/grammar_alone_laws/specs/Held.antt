-- The functions whose tokens are a part of those that stand at some places.
use Rattle.std.specs.Prelude.{ℕ, List, [], ◌∷◌}
use Rattle.script_grammar.specs.Pieces.{whole, Piece}
use Rattle.script_grammar.specs.Print.{print_function}
use Rattle.script_grammar.specs.Proper.{ProperFunction}
use Rattle.script_grammar.specs.Tree.{Function}
use Rattle.scope_analysis.specs.Functions.{Inner}
use Rattle.grammar_alone_laws.specs.Carried.{Carries}

-- whatever fits these places has a part that fits this function, as it is printed at some depth
pub record Holds (ps : List Piece) (f : Function) : Type 0 where
  pub depth : ℕ
  pub proper : ProperFunction whole f
  pub carries : Carries ps (print_function whole depth f)

abbrev pub AllHeld : List Piece → List Inner → Type 0
AllHeld ps [] = Unit {0}
AllHeld ps (i ∷ is) = Holds ps i.func × AllHeld ps is

pub record Inside (is : List Inner) (ps : List Piece) : Type 0 where
  pub held : AllHeld ps is
