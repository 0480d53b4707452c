-- A script and every function of it, compiled from one tree. This project's own choice: it is what a full parse of the
-- whole script gives, with no lazy step.
use Rattle.std.specs.Prelude.{◌≡◌, ℕ, ◌-◌, List, [], ◌∷◌, ◌++◌, map, slice_get, Some}
use Rattle.script_grammar.specs.Tree.{Stmts}
use Rattle.stencil_data.specs.LinkView.{LinkView}
use Rattle.stencil_data.specs.Named.{NamedFunction}
use Rattle.bytecode_buf.specs.Command.{Command}
use Rattle.scope_analysis.specs.Functions.{Inner, inner_function, inner_script}
use Rattle.emit_stmts.specs.Functions.{Compiled, function_script, top_script}

-- a function where it stands, with the chain of scopes around it
pub record Site : Type 0 where
  pub inner : Inner
  pub chain : List LinkView

abbrev pub sites : List Inner → List (List LinkView) → List Site
sites [] chains = []
sites (i ∷ is) [] = []
sites (i ∷ is) (c ∷ cs) = record { inner = i; chain = c } ∷ sites is cs

abbrev pub compiled_at : Site → Compiled
compiled_at s = function_script s.inner.kind s.inner.name s.inner.func s.chain

-- the functions directly in a function, under the chains that it hands down
abbrev pub sites_in : Site → List Site
sites_in s = sites (inner_function s.inner.kind s.inner.name s.inner.func) (compiled_at s).chains

-- the functions directly in a script whose text ends here
abbrev pub top_sites : Stmts → ℕ → List Site
top_sites items end = sites (inner_script items) (top_script items end).chains

-- The functions at these sites, and all that are in them: in the order of the source, which is that of the offsets where
-- their parameters start, so each function stands before those in it.
pub data AllSites : List Site → List Site → Type 0 where
  no_sites : AllSites [] []
  more_sites : (s : Site) (rest inside after : List Site) → AllSites (sites_in s) inside → AllSites rest after
      → AllSites (s ∷ rest) (s ∷ (inside ++ after))

-- all functions of a script, in order of number, from 1
abbrev pub AreFunctions : Stmts → ℕ → List Site → Type 0
AreFunctions items end all = AllSites (top_sites items end) all

-- the function of this number, and the chain that it gets
pub record HasSite (items : Stmts) (end : ℕ) (number : ℕ) (s : Site) : Type 0 where
  pub all : List Site
  pub functions : AreFunctions items end all
  pub is : slice_get all (number - 1) ≡ Some s

-- a script compiled whole: itself, and its functions in order of number, from 1
pub record IsEager (items : Stmts) (end : ℕ) (top : NamedFunction (List Command)) (functions : List (NamedFunction (List Command))) : Type 0 where
  pub script : top ≡ (top_script items end).part
  pub all : List Site
  pub are : AreFunctions items end all
  pub each : functions ≡ map (λ (s : Site). (compiled_at s).part) all
