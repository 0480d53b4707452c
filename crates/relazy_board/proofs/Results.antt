-- What is at hand in the slot of a function is what that function is compiled to.
use Rattle.std.proofs.Common.{◌≡◌, ℕ, List, Option, Some, None, IfSome, sym, subst}
use Rattle.compile_initial.specs.declared.InitialStencil.{InitialStencil}
use Rattle.lazy_compile.specs.declared.Delazified.{Delazified}
use Rattle.lazy_function.specs.Numbered.{IsCompiledFunction, around_in}
use Rattle.relazy_board.specs.declared.place.FunctionPlace.{FunctionPlace}
use Rattle.relazy_board.specs.Results.{IsResultOf}

pub result_of : (place : FunctionPlace) (bytes : List ℕ) (number : ℕ) (made : Delazified) → place.bytes.now ≡ bytes → place.number ≡ number → IsCompiledFunction bytes number made → IsResultOf place made
unfolding IsResultOf
result_of place bytes number made of numbered is =
    subst (λ (n : ℕ). IsCompiledFunction place.bytes.now n made) (sym numbered) (subst (λ (bs : List ℕ). IsCompiledFunction bs number made) (sym of) is)

compiled_of : (place : FunctionPlace) (bytes : List ℕ) (number : ℕ) (made : Delazified) → place.bytes.now ≡ bytes → place.number ≡ number → IsResultOf place made → IsCompiledFunction bytes number made
unfolding IsResultOf
compiled_of place bytes number made of numbered is =
    subst (λ (n : ℕ). IsCompiledFunction bytes n made) numbered (subst (λ (bs : List ℕ). IsCompiledFunction bs place.number made) of is)

pub compiled_if : (place : FunctionPlace) (bytes : List ℕ) (number : ℕ) (made : Option Delazified) → place.bytes.now ≡ bytes → place.number ≡ number → IfSome made (IsResultOf place) → IfSome made (IsCompiledFunction bytes number)
compiled_if place bytes number None of numbered is = is
compiled_if place bytes number (Some made) of numbered is = compiled_of place bytes number made of numbered is

-- the same, where the function is the one around another
pub compiled_around : (bytes : List ℕ) (number : ℕ) (one two : InitialStencil) (made same : Delazified) → one ≡ two → made ≡ same
    → IsCompiledFunction bytes (around_in one number).number made → IsCompiledFunction bytes (around_in two number).number same
compiled_around bytes number one two made same e f is =
    subst (λ (i : InitialStencil). IsCompiledFunction bytes (around_in i number).number same) e (subst (λ (d : Delazified). IsCompiledFunction bytes (around_in one number).number d) f is)
