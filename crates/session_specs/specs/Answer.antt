-- What is written for a command, and whether a file of it is refused: from the words and the bytes of each file.
use Rattle.std.specs.Prelude.{◌≡◌, ℕ, ◌+◌, ◌<◌, ◌≤◌, Bool, true, false, ◌||◌, ◌⊎◌, List, [], ◌∷◌, ◌++◌, length, Some, codes}
use Rattle.std.specs.Fmt.{decimal}
use Rattle.script_grammar.specs.Tree.{Stmts}
use Rattle.stencil_data.specs.Named.{NamedMerged}
use Rattle.bytecode_buf.specs.Command.{Command, Listed}
use Rattle.session_words.specs.declared.options.Command.{Command as Word}
use Rattle.session_words.specs.declared.options.Command.TheVariants as word
use Rattle.session_words.specs.Asked.{Wanted, Job, Asked, Files, Trial, Churn}
use Rattle.session_words.specs.Asked as asked
use Rattle.session_words.specs.Words.{asked_of}
use Rattle.compile_specs.specs.Shown.{IsShown}
use Rattle.compile_specs.specs.Shown as shown
use Rattle.script_image.specs.ScriptLines.{code_text, scope_text, instruction_count, listed_merged}
use Rattle.session_trial.specs.Generated.{generated}
use Rattle.session_image_specs.specs.Images.{IsImage, IsImageFor, IsNoImage, AreVerifiedLines}
use Rattle.session_specs.specs.Refusals.{Refusal, TooLong, NoImage, refusal_line}
use Rattle.session_specs.specs.Sources.{Source, IsScript, IsRefused, IsSource, HasAll}

-- the most bytes that the files of a command may have together
abbrev pub most_bytes : ℕ
most_bytes = 16777215

-- the functions to be shown compiled
abbrev pub to_show : Wanted → shown.Wanted
to_show asked.All = shown.All
to_show asked.Nothing = shown.Numbers []
to_show (asked.Numbers ns) = shown.Numbers ns

-- ---- one file

abbrev pub file_line : List ℕ → List ℕ
file_line name = codes "file " ++ name ++ codes "\n"

-- the script of a tree, whose text has n bytes, with the functions that are wanted shown compiled
abbrev pub Shows : Wanted → Stmts → ℕ → (NamedMerged (List Command) → Type 0) → Type 0
Shows want items size Then = (merged : NamedMerged (List Command)) × IsShown (to_show want) items size merged × Then merged

-- what a command writes for a script with n functions
abbrev pub IsWritten : Word → Wanted → List ℕ → ℕ → Stmts → ℕ → List ℕ → Type 0
IsWritten word.Code want name size items count out = Shows want items size (λ merged. out ≡ file_line name ++ code_text (listed_merged merged))
IsWritten word.Scopes want name size items count out = Shows want items size (λ merged. out ≡ file_line name ++ scope_text (listed_merged merged))
IsWritten word.Check want name size items count out = out ≡ name ++ codes ": ok, " ++ decimal count ++ codes " functions\n"
IsWritten word.Save want name size items count out = Shows want items size (λ merged. IsImage merged out)
IsWritten word.Load want name size items count out = ⊥
IsWritten word.Verify want name size items count out = ⊥

-- for a file of source text
abbrev pub IsOfSource : Word → Wanted → List ℕ → List ℕ → Source → List ℕ → Bool → Type 0
IsOfSource command want name file (IsScript items count) out refused = IsWritten command want name (length file) items count out × (refused ≡ false)
IsOfSource command want name file (IsRefused why) out refused = (out ≡ refusal_line name why) × (refused ≡ true)

abbrev pub FromSource : Word → Wanted → List ℕ → List ℕ → List ℕ → Bool → Type 0
FromSource command want name file out refused = (source : Source) × IsSource want file source × IsOfSource command want name file source out refused

abbrev pub RefusedAs : List ℕ → Refusal → List ℕ → Bool → Type 0
RefusedAs name why out refused = (out ≡ refusal_line name why) × (refused ≡ true)

-- for an image whose code is listed
pub record IsListed (name file : List ℕ) (out : List ℕ) (refused : Bool) : Type 0 where
  pub merged : NamedMerged (List Listed)
  pub is : IsImageFor file merged
  pub listed : out ≡ file_line name ++ code_text merged
  pub fine : refused ≡ false

-- for an image whose code is verified
pub record IsChecked (name file : List ℕ) (out : List ℕ) (refused : Bool) : Type 0 where
  pub lines : List ℕ
  pub verified : AreVerifiedLines file lines refused
  pub written : out ≡ file_line name ++ lines

abbrev pub IsOf : Word → Wanted → List ℕ → List ℕ → List ℕ → Bool → Type 0
IsOf word.Code want name file out refused = FromSource word.Code want name file out refused
IsOf word.Scopes want name file out refused = FromSource word.Scopes want name file out refused
IsOf word.Check want name file out refused = FromSource word.Check want name file out refused
IsOf word.Save want name file out refused = FromSource word.Save want name file out refused
IsOf word.Load want name file out refused = IsListed name file out refused ⊎ (IsNoImage file × RefusedAs name NoImage out refused)
IsOf word.Verify want name file out refused = IsChecked name file out refused ⊎ (IsNoImage file × RefusedAs name NoImage out refused)

-- what is written for a file after n bytes of other files, and whether it is refused
abbrev pub IsOfFile : Word → Wanted → ℕ → List ℕ → List ℕ → List ℕ → Bool → Type 0
IsOfFile command want before name file out refused =
    ((most_bytes < before + length file) × RefusedAs name TooLong out refused)
    ⊎ ((before + length file ≤ most_bytes) × IsOf command want name file out refused)

-- ---- all files of a command

-- for the files of these names, which hold these bytes, after n bytes of others
abbrev pub IsOfFiles : Word → Wanted → (List ℕ → List ℕ) → ℕ → List (List ℕ) → List ℕ → Bool → Type 0
IsOfFiles command want held before [] out refused = (out ≡ []) × (refused ≡ false)
IsOfFiles command want held before (name ∷ names) out refused =
    (first : List ℕ) × (first_refused : Bool) × (later : List ℕ) × (later_refused : Bool)
    × IsOfFile command want before name (held name) first first_refused
    × IsOfFiles command want held (before + length (held name)) names later later_refused
    × (out ≡ first ++ later) × (refused ≡ (first_refused || later_refused))

-- ---- generated texts

abbrev pub counts_text : ℕ → ℕ → List ℕ
counts_text functions instructions = decimal functions ++ codes " functions, " ++ decimal instructions ++ codes " instructions\n"

abbrev pub numbers_text : ℕ → ℕ → List ℕ
numbers_text number size = decimal number ++ codes " " ++ decimal size ++ codes ": "

-- the script of the text that is generated from a number and a size, whole, and how many functions it has
abbrev pub OfGenerated : ℕ → ℕ → (ℕ → NamedMerged (List Command) → Type 0) → Type 0
OfGenerated number size Then =
    (items : Stmts) × (count : ℕ) × HasAll (generated number size) asked.All items count
    × Shows asked.All items (length (generated number size)) (λ merged. Then count merged)

abbrev pub IsTrial : ℕ → ℕ → List ℕ → Type 0
IsTrial number size out = OfGenerated number size (λ count merged.
    out ≡ codes "trial " ++ numbers_text number size ++ decimal (length (generated number size)) ++ codes " bytes, "
    ++ counts_text count (instruction_count (listed_merged merged)))

abbrev pub IsChurn : ℕ → ℕ → List ℕ → Type 0
IsChurn number size out = OfGenerated number size (λ count merged.
    out ≡ codes "churn " ++ numbers_text number size ++ counts_text count (instruction_count (listed_merged merged)))

-- ---- the answer

-- what is written for what is asked, and whether a file is refused
abbrev pub IsAnswerTo : Asked → (List ℕ → List ℕ) → List ℕ → Bool → Type 0
IsAnswerTo (Files job) held out refused = IsOfFiles job.command job.want held 0 job.files out refused
IsAnswerTo (Trial number size workers) held out refused = IsTrial number size out × (refused ≡ false)
IsAnswerTo (Churn number size workers) held out refused = IsChurn number size out × (refused ≡ false)

-- The answer to the words of a command, where the files hold these bytes. Words that ask for nothing have none.
pub record IsAnswer (words : List (List ℕ)) (held : List ℕ → List ℕ) (out : List ℕ) (refused : Bool) : Type 0 where
  pub asked : Asked
  pub form : asked_of words ≡ Some asked
  pub answer : IsAnswerTo asked held out refused
