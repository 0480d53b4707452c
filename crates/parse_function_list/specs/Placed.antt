-- The functions of a script in order of number. Which function is directly in which, and that they are numbered in the order
-- in which their parameters start, is this project's own choice.
use Rattle.std.specs.Prelude.{◌≡◌, ℕ, suc, ◌+◌, Option, option_map, List, [], ◌∷◌, ◌++◌, length, map}
use Rattle.stencil_data.specs.declared.functions.Extent.{Extent}
use Rattle.stencil_data.specs.declared.functions.FuncKind.{FuncKind}
use Rattle.script_grammar.specs.Interpretation.{Interpretation, text_of}
use Rattle.script_grammar.specs.Tree.{Function, function}
use Rattle.scope_analysis.specs.DeclaredNames.{Text}
use Rattle.scope_analysis.specs.Functions.{Inner, inner_function}
use Rattle.parse_function_list.specs.declared.list.ListedFunction.{ListedFunction}

-- a function in brief: what a record keeps of it, but for the names that it closes over
pub record Brief : Type 0 where
  pub extent : Extent
  pub kind : FuncKind
  pub name : Option Text
  pub inner : List Extent

abbrev pub extent_of : Function → Extent
extent_of (function form start end name ps comma bare body) = record { start = start; end = end }

abbrev pub extents_of : List Inner → List Extent
extents_of = map (λ (f : Inner). extent_of f.func)

-- the functions directly in one
abbrev pub directly_in : Inner → List Inner
directly_in f = inner_function f.kind f.name f.func

abbrev pub brief_of : Inner → Brief
brief_of f = record { extent = extent_of f.func; kind = f.kind; name = f.name; inner = extents_of (directly_in f) }

-- a function where it stands: the number of the function around it, 0 for the script, and its place among those directly there
pub record Placed : Type 0 where
  pub brief : Brief
  pub around : ℕ
  pub place : ℕ

-- These functions stand directly in the one of number `around`, from the place `place` on: they and all functions in them, in
-- order of number, from `at` on. Each stands before those in it.
pub data AllPlaced : (around place at : ℕ) → List Inner → List Placed → Type 0 where
  no_placed : (around place at : ℕ) → AllPlaced around place at [] []
  more_placed : (around place at : ℕ) (f : Inner) (rest : List Inner) (inside after : List Placed)
      → AllPlaced at 0 (suc at) (directly_in f) inside → AllPlaced around (suc place) (suc at + length inside) rest after
      → AllPlaced around place at (f ∷ rest) (record { brief = brief_of f; around = around; place = place } ∷ (inside ++ after))

-- what was found of a function, by the texts of its atoms
abbrev pub placed_of : Interpretation → ListedFunction → Placed
placed_of i f = record {
  brief = record { extent = f.extent; kind = f.kind; name = option_map (text_of i) f.name; inner = f.inner.items };
  around = f.around;
  place = f.place;
}

-- Those that were found are all functions of a script with these directly in it, in order of number, from 1.
abbrev pub ArePlaced : Interpretation → List ListedFunction → List Inner → Type 0
ArePlaced i found inner = (all : List Placed) × AllPlaced 0 0 1 inner all × (map (placed_of i) found ≡ all)
