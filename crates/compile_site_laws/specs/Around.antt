-- Functions of a script by their numbers, each where the function around it has it. This project's own choice.
use Rattle.std.specs.Prelude.{◌≡◌, ℕ, zero, suc, Some, List, slice_get}
use Rattle.script_grammar.specs.Shows.{ShowAll}
use Rattle.script_grammar.specs.Tree.{Stmts}
use Rattle.stencil_data.specs.LinkView.{LinkView}
use Rattle.emit_stmts.specs.Functions.{top_script}
use Rattle.compile_specs.specs.Eager.{Site, compiled_at}
use Rattle.parse_function_list.specs.Placed.{Placed, brief_of}

-- The function of this number hands down this chain to the function at this place directly in it. Where the number is 0 the
-- script does, whose chains come first here.
abbrev pub HandsDown : List (List LinkView) → List Site → (number place : ℕ) → List LinkView → Type 0
HandsDown top all zero place chain = slice_get top place ≡ Some chain
HandsDown top all (suc n) place chain = (s : Site) × (slice_get all n ≡ Some s) × (slice_get (compiled_at s).chains place ≡ Some chain)

-- The function at this site is the one that is listed so, and its chain is the one that is handed down there.
pub record IsPlacedAt (top : List (List LinkView)) (all : List Site) (p : Placed) (s : Site) : Type 0 where
  pub brief : p.brief ≡ brief_of s.inner
  pub chain : HandsDown top all p.around p.place s.chain

-- one for one
abbrev pub ArePlacedAt : Stmts → (end : ℕ) → List Placed → List Site → Type 0
ArePlacedAt items end ps all = ShowAll (IsPlacedAt (top_script items end).chains all) ps all
