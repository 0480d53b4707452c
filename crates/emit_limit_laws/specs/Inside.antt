-- The functions directly in a part of a tree, in its print, among all functions that start in it, and in its notes.
use Rattle.std.specs.Prelude.{◌≡◌, ℕ, ◌+◌, ◌*◌, ◌≤◌, List, [], ◌∷◌, ◌++◌, length}
use Rattle.script_grammar.specs.Pieces.{whole, Piece}
use Rattle.script_grammar.specs.Print.{print_function}
use Rattle.script_grammar.specs.Proper.{ProperFunction}
use Rattle.script_grammar.specs.Tree.{Function, function}
use Rattle.parse_track.specs.declared.region.Early.{Early}
use Rattle.parse_track.specs.Notes.{notes_function}
use Rattle.scope_analysis.specs.Functions.{Inner}
use Rattle.grammar_start_laws.specs.Started.{Started, started_function, started_params, started_body}
use Rattle.emit_limit_laws.specs.Places.{depths_of}

-- a part of a list, and what is after it
pub record Cut {A : Type 0} (all part back : List A) : Type 0 where
  pub front : List A
  pub is : all ≡ front ++ (part ++ back)

-- A function in a part of its function, which begins after n levels: where it is printed, and where it is listed. Of
-- the scopes around it at most four are entered at each level.
pub record Here (behind : ℕ) (i : Inner) (depths depths_left : List ℕ) (starts starts_left : List Started)
    (notes notes_left : List Early) : Type 0 where
  pub depth : ℕ
  pub around : length i.around + behind ≤ 4 * depth
  pub proper : ProperFunction whole i.func
  pub printed : Cut depths (depths_of (print_function whole depth i.func)) depths_left
  pub started : Cut starts (started_function i.func) starts_left
  pub noted : Cut notes (notes_function i.func) notes_left

abbrev pub InnerIn : ℕ → List Inner → List ℕ → List Started → List Early → Type 0
InnerIn behind [] depths starts notes = Unit {0}
InnerIn behind (i ∷ is) depths starts notes =
    (depths_left : List ℕ) × (starts_left : List Started) × (notes_left : List Early)
    × Here behind i depths depths_left starts starts_left notes notes_left × InnerIn behind is depths_left starts_left notes_left

-- these functions are directly in a part that is printed so, in this order
pub record Inside (behind : ℕ) (is : List Inner) (ps : List Piece) (starts : List Started) (notes : List Early) : Type 0 where
  pub found : InnerIn behind is (depths_of ps) starts notes

-- the functions that start inside a function
abbrev pub started_inside : Function → List Started
started_inside (function form start end name params comma bare body) = started_params params ++ started_body body
