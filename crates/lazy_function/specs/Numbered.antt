-- A function of a script by its number, from 1, and what it is compiled to. This project's own choice.
use Rattle.std.specs.Prelude.{◌≡◌, ℕ, ◌-◌, ◌≤◌, List, length, slice_get, slice_index_or, Some}
use Rattle.script_grammar.specs.Tree.{Stmts}
use Rattle.stencil_data.specs.LinkView.{LinkView}
use Rattle.compile_specs.specs.Eager.{Site, AreFunctions}
use Rattle.session_specs.specs.Sources.{IsValid}
use Rattle.compile_initial.specs.declared.Nesting.{Nesting}
use Rattle.compile_initial.specs.declared.InitialStencil.{InitialStencil}
use Rattle.compile_initial.specs.Initial.{IsInitialOf}
use Rattle.lazy_compile.specs.declared.Delazified.{Delazified}
use Rattle.lazy_compile.specs.Delazified.{IsCompiledAlone}

-- a number of a function of the script
abbrev pub IsNumberIn : InitialStencil → ℕ → Type 0
IsNumberIn initial number = (1 ≤ number) × (number ≤ length initial.parts.records)

-- where the function of this number stands: in which function, or in the script itself (0), and at which place there
abbrev pub around_in : InitialStencil → ℕ → Nesting
around_in initial number = slice_index_or initial.around.items (number - 1) (record { number = 0; place = 0 })

-- the chain is the one that the function of this number gets where the whole script is compiled
abbrev pub IsChainOf : List ℕ → InitialStencil → ℕ → List LinkView → Type 0
IsChainOf bytes initial number chain = (is : IsInitialOf bytes initial) (s : Site) → slice_get is.all (number - 1) ≡ Some s → chain ≡ s.chain

-- Whatever script the bytes are, this is what its function of this number is compiled to where the whole script is.
abbrev pub IsCompiledFunction : List ℕ → ℕ → Delazified → Type 0
IsCompiledFunction bytes number made =
    (items : Stmts) (count : ℕ) (all : List Site) (m : Site)
    → IsValid bytes items count → AreFunctions items (length bytes) all → slice_get all (number - 1) ≡ Some m → IsCompiledAlone made m
