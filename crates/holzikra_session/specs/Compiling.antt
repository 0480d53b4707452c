-- What compiling a text comes to, and what is written of it. What a judge says of a text is its own: `judges` is what its verdict means,
-- and `shows` what is shown of the script that a text is where these functions are wanted.
use Rattle.std.specs.Prelude.{◌≡◌, ℕ, ◌<◌, List, ◌++◌, length, codes, Option}
use Rattle.stencil_data.specs.MergedView.{MergedView}
use Rattle.stencil_data.specs.Named.{NamedMerged}
use Rattle.stencil_data.specs.StandsFor.{MergedStandsFor}
use Rattle.bytecode_buf.specs.Command.{Command, Listed, ShowsCommands}
use Rattle.script_image.specs.ScriptLines.{code_text, scope_text, listed_merged}
use Rattle.script_image.specs.declared.script_lines.Listing.TheVariants as of
use Rattle.session_words.specs.Asked.{Wanted}
use Rattle.holzikra_stats.specs.Counts as counts
use Rattle.holzikra_words.specs.declared.code.CodeFormat.{CodeFormat}
use Rattle.holzikra_words.specs.declared.code.CodeFormat.TheVariants as code
use Rattle.holzikra_words.specs.declared.scopes.ScopesFormat.{ScopesFormat}
use Rattle.holzikra_words.specs.declared.scopes.ScopesFormat.TheVariants as scopes
use Rattle.holzikra_words.specs.declared.functions.FunctionWord.{FunctionWord}
use Rattle.holzikra_scripts.specs.declared.choice.Choice.{Choice}
use Rattle.holzikra_scripts.specs.declared.choice.Choice.TheVariants as choice
use Rattle.holzikra_scripts.specs.declared.counts.Row.{Row}
use Rattle.holzikra_scripts.specs.Notes.{IsScriptLine}
use Rattle.holzikra_scripts.specs.Written.{HasNoted, IsChoiceOf, wanted_of}
use Rattle.holzikra_session.specs.declared.verdict.Verdict.{Verdict}
use Rattle.holzikra_session.specs.declared.verdict.Verdict.TheVariants as verdict
use Rattle.holzikra_session.specs.declared.verdict.Compiled.{Compiled}
use Rattle.holzikra_session.specs.declared.verdict.Compiled.TheVariants as compiled
use Rattle.holzikra_session.specs.declared.inspected.Inspected.{Inspected}
use Rattle.holzikra_session.specs.declared.inspected.Inspected.TheVariants as inspected

-- what a judge means by a verdict on a text, and by what is shown of it where these functions are wanted
abbrev pub Judging : Type 1
Judging = List ℕ → Verdict → Type 0

abbrev pub Showing : Type 1
Showing = Wanted → List ℕ → NamedMerged (List Command) → Type 0

-- what is written of what is shown
abbrev pub Writing : Type 1
Writing = Choice → NamedMerged (List Listed) → List ℕ → Type 0

-- the stencil stands for what is shown of the script that the text is, where those functions are wanted that these words mean
pub record IsScript (shows : Showing) (words : List FunctionWord) (text : List ℕ) (stencil : MergedView) (chosen : Choice) : Type 0 where
  pub named : NamedMerged (List Command)
  pub choice : IsChoiceOf words chosen
  pub is : shows (wanted_of chosen) text named
  pub stands : MergedStandsFor ShowsCommands stencil named

-- what compiling a text comes to
abbrev pub IsCompiledBy : Judging → Showing → List FunctionWord → List ℕ → Compiled → Type 0
IsCompiledBy judges shows words text (compiled.Script stencil chosen) = IsScript shows words text stencil chosen
IsCompiledBy judges shows words text (compiled.Refused reason) = judges text (verdict.Refused reason)
IsCompiledBy judges shows words text (compiled.NoFunction place) = place < length words

-- what is written is this of what is shown of the script that the text is
pub record IsWritten (shows : Showing) (words : List FunctionWord) (text : List ℕ) (Of : Writing) (out : List ℕ) : Type 0 where
  pub named : NamedMerged (List Command)
  pub chosen : Choice
  pub choice : IsChoiceOf words chosen
  pub is : shows (wanted_of chosen) text named
  pub written : Of chosen (listed_merged named) out

-- what a command has for a text
abbrev pub IsInspected : {A : Type 0} → Judging → List FunctionWord → List ℕ → (A → Type 0) → Inspected A → Type 0
IsInspected judges words text Is (inspected.Script value) = Is value
IsInspected judges words text Is (inspected.Refused reason) = judges text (verdict.Refused reason)
IsInspected judges words text Is (inspected.NoFunction place) = place < length words

-- the code of a file of this name and so many bytes: the listing as `stencilc code` writes it; that with notes, or itself, where no function is
-- left out; or the line of its value in JSON, with the places of the source text where that is at hand
abbrev pub IsCode : CodeFormat → (name : List ℕ) → (bytes : ℕ) → (source : Option (List ℕ)) → Choice → NamedMerged (List Listed) → List ℕ → Type 0
IsCode code.Plain name bytes source chosen named out = out ≡ codes "file " ++ name ++ codes "\n" ++ code_text named
IsCode code.Human name bytes source chosen named out = chosen ≡ choice.All → HasNoted (code_text named) out
IsCode code.Json name bytes source chosen named out = IsScriptLine of.Code name bytes source named out

-- the scopes: the listing as `stencilc scopes` writes it, or the line of its value in JSON; of drawings nothing is said
abbrev pub AreScopes : ScopesFormat → (name : List ℕ) → (bytes : ℕ) → (source : Option (List ℕ)) → Choice → NamedMerged (List Listed) → List ℕ → Type 0
AreScopes scopes.Plain name bytes source chosen named out = out ≡ codes "file " ++ name ++ codes "\n" ++ scope_text named
AreScopes scopes.Json name bytes source chosen named out = IsScriptLine of.Scopes name bytes source named out
AreScopes scopes.Human name bytes source chosen named out = Unit {0}
AreScopes scopes.Dot name bytes source chosen named out = Unit {0}

-- the counts are those of the stencil
pub record AreCountsOf (stencil : MergedView) (text : List ℕ) (row : Row) : Type 0 where
  pub functions : row.counts.functions ≡ length stencil.records
  pub closed : row.counts.closed ≡ counts.closed_count stencil
  pub instructions : row.counts.instructions ≡ counts.instruction_count stencil
  pub bytes : row.counts.bytes ≡ counts.byte_count stencil
  pub source : row.source_bytes ≡ length text

-- the counts are those of a stencil of the whole script that the text is
pub record AreCounts (shows : Showing) (words : List FunctionWord) (text : List ℕ) (row : Row) : Type 0 where
  pub stencil : MergedView
  pub chosen : Choice
  pub is : IsScript shows words text stencil chosen
  pub counts : AreCountsOf stencil text row
