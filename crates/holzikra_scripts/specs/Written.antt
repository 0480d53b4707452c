-- What is written of a compiled script. The definitions of the listings are those of script_image.
use Rattle.std.specs.Prelude.{◌≡◌, ℕ, ◌<◌, Bool, List, [], ◌++◌, length, codes, Option}
use Rattle.stencil_data.specs.MergedView.{MergedView}
use Rattle.stencil_data.specs.Named.{NamedMerged}
use Rattle.stencil_data.specs.StandsFor.{MergedStandsFor}
use Rattle.bytecode_buf.specs.Command.{Listed}
use Rattle.script_image.specs.Listed.{ShowsListed}
use Rattle.script_image.specs.declared.script_lines.Listing.{Listing}
use Rattle.session_words.specs.Asked as asked
use Rattle.holzikra_listing.specs.Notes.{IsListing}
use Rattle.holzikra_words.specs.declared.functions.FunctionWord.{FunctionWord}
use Rattle.holzikra_scripts.specs.Notes.{IsScriptLine}
use Rattle.holzikra_scripts.specs.declared.choice.Choice.{Choice}
use Rattle.holzikra_scripts.specs.declared.choice.Choice.TheVariants as choice
use Rattle.holzikra_scripts.specs.declared.choice.Chosen.{Chosen}
use Rattle.holzikra_scripts.specs.declared.choice.Chosen.TheVariants as found

-- a listing of what a script stands for
abbrev pub Lines : Type 0
Lines = NamedMerged (List Listed) → List ℕ

-- the line of the file, and behind it this listing of the script that the stencil stands for
abbrev pub IsPlain : Lines → List ℕ → MergedView → List ℕ → Type 0
IsPlain lines name stencil out =
    (named : NamedMerged (List Listed)) → MergedStandsFor ShowsListed stencil named → out ≡ codes "file " ++ name ++ codes "\n" ++ lines named

-- this listing with notes, or itself, behind other lines
pub record HasNoted (plain out : List ℕ) : Type 0 where
  pub head : List ℕ
  pub text : List ℕ
  pub noted : Bool
  pub whole : out ≡ head ++ text
  pub is : IsListing noted text plain

-- such a listing of the script that the stencil stands for
abbrev pub IsNoted : Lines → MergedView → List ℕ → Type 0
IsNoted lines stencil out = (named : NamedMerged (List Listed)) → MergedStandsFor ShowsListed stencil named → HasNoted (lines named) out

-- the line of the value of a file of this name and so many bytes, of the script that the stencil stands for, by its source text where it is at hand
abbrev pub IsJson : Listing → (name : List ℕ) → (bytes : ℕ) → (source : Option (List ℕ)) → MergedView → List ℕ → Type 0
IsJson listing name bytes source stencil out =
    (named : NamedMerged (List Listed)) → MergedStandsFor ShowsListed stencil named → IsScriptLine listing name bytes source named out

-- the functions that are chosen, in the words of a command of `stencilc`
abbrev pub wanted_of : Choice → asked.Wanted
wanted_of choice.All = asked.All
wanted_of (choice.Numbers numbers) = asked.Numbers numbers.items

-- where no function is named, all are chosen
abbrev pub IsChoiceOf : List FunctionWord → Choice → Type 0
IsChoiceOf words chosen = words ≡ [] → chosen ≡ choice.All

-- the same of what words come to, of which one may mean no function
abbrev pub IsChosenBy : List FunctionWord → Chosen → Type 0
IsChosenBy words (found.These chosen) = IsChoiceOf words chosen
IsChosenBy words (found.Nothing place) = place < length words
