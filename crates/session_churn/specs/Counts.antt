-- How many instructions a script has, whatever tree its bytes have. This project's own choice.
use Rattle.std.specs.Prelude.{◌≡◌, ℕ, ◌-◌, List, length, map, sum, slice_get, Some}
use Rattle.script_grammar.specs.Tree.{Stmts}
use Rattle.stencil_data.specs.Named.{NamedMerged}
use Rattle.bytecode_buf.specs.Command.{Command}
use Rattle.compile_specs.specs.Eager.{Site, AreFunctions, compiled_at}
use Rattle.compile_specs.specs.Shown.{All, IsShown}
use Rattle.script_image.specs.ScriptLines.{instruction_count, listed_merged}
use Rattle.session_specs.specs.Sources.{IsValid}

-- the script of these bytes has n instructions where all its functions are compiled, with those of its own part
abbrev pub HasInstructions : List ℕ → ℕ → Type 0
HasInstructions bytes count =
    (items : Stmts) (functions : ℕ) (merged : NamedMerged (List Command)) → IsValid bytes items functions → IsShown All items (length bytes) merged
    → count ≡ instruction_count (listed_merged merged)

-- how many instructions a function has where it is compiled
abbrev pub size_at : Site → ℕ
size_at s = length (compiled_at s).part.code

-- the function of this number has n instructions
abbrev pub FunctionHas : List ℕ → ℕ → ℕ → Type 0
FunctionHas bytes number count =
    (items : Stmts) (functions : ℕ) (all : List Site) (m : Site)
    → IsValid bytes items functions → AreFunctions items (length bytes) all → slice_get all (number - 1) ≡ Some m → count ≡ size_at m

-- all functions together have n instructions
abbrev pub HaveInstructions : List ℕ → ℕ → Type 0
HaveInstructions bytes count =
    (items : Stmts) (functions : ℕ) (all : List Site) → IsValid bytes items functions → AreFunctions items (length bytes) all
    → count ≡ sum (map size_at all)
