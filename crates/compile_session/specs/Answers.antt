-- What the calls for one file answer.
use Rattle.std.specs.Prelude.{◌≡◌, ℕ, Bool, true, List, [], length, Option, Some, None, Vec}
use Rattle.std.specs.declared.alloc.Global.{Global}
use Rattle.script_grammar.specs.Tree.{Stmts}
use Rattle.session_outside.specs.Loops.{IsWholeBehind}
use Rattle.session_words.specs.declared.options.Command.{Command}
use Rattle.session_words.specs.Asked.{Wanted, Job, Files}
use Rattle.session_specs.specs.Answer as answer
use Rattle.session_specs.specs.Answer.{IsOfFile, most_bytes}
use Rattle.session_specs.specs.Compiled.{CompilesFile, compiles_none}
use Rattle.session_specs.specs.Refusals as line
use Rattle.session_specs.specs.Sources.{IsSource, IsRefused, IsLeastOf, IsValid, missing}
use Rattle.compile_first_pass.specs.declared.pass.SyntaxScript.{SyntaxScript}
use Rattle.compile_first_pass.specs.Passes.{IsSyntaxOf}
use Rattle.compile_first_pass.specs.Passes as pass
use Rattle.compile_session.specs.declared.answer.FileAnswer.{FileAnswer}
use Rattle.compile_session.specs.declared.source.SourceText.{SourceText}
use Rattle.compile_session.specs.declared.source.SourceText.TheVariants as source
use Rattle.compile_session.specs.declared.source.SourceVerdict.{SourceVerdict}
use Rattle.compile_session.specs.declared.source.SourceVerdict.TheVariants as verdict
use Rattle.compile_session.specs.declared.refusal.Refusal.{Refusal}
use Rattle.compile_session.specs.declared.refusal.Refusal.TheVariants as refusal

-- the refusal that the code's stands for
abbrev pub refusal_of : Refusal → line.Refusal
refusal_of refusal.TooLong = line.TooLong
refusal_of (refusal.Source fault) = pass.refusal_of fault
refusal_of (refusal.NoFunction number) = line.NoFunction number
refusal_of refusal.NoImage = line.NoImage

-- no wanted number is above this count of functions, or this is the least that is
abbrev pub IsMissing : Wanted → ℕ → Option ℕ → Type 0
IsMissing want count None = missing count want ≡ []
IsMissing want count (Some number) = IsLeastOf (missing count want) number

-- The file is this script without errors, which has the functions that are wanted.
pub record IsScriptOf (want : Wanted) (file : List ℕ) (script : SyntaxScript) : Type 0 where
  pub is : IsSyntaxOf file script
  pub present : missing (length script.functions.items) want ≡ []

-- what a file of source text is
abbrev pub IsSourceText : Wanted → List ℕ → SourceText → Type 0
IsSourceText want file (source.Script script) = IsScriptOf want file script
IsSourceText want file (source.Refused why) = IsSource want file (IsRefused (refusal_of why))

-- The file is a script without errors of n functions, among which are those that are wanted.
pub record IsFineOf (want : Wanted) (file : List ℕ) (functions : ℕ) : Type 0 where
  pub items : Stmts
  pub valid : IsValid file items functions
  pub present : missing functions want ≡ []

-- what checking a file of source text comes to
abbrev pub IsSourceVerdict : Wanted → List ℕ → SourceVerdict → Type 0
IsSourceVerdict want file (verdict.Fine functions) = IsFineOf want file functions
IsSourceVerdict want file (verdict.Refused why) = IsSource want file (IsRefused (refusal_of why))

-- what is written for a file that is within the limit, and whether it is refused: this, and nothing else
pub record IsAnswerFor (command : Command) (want : Wanted) (name file : List ℕ) (given : FileAnswer) : Type 0 where
  pub is : answer.IsOf command want name file given.text given.refused
  pub only : (other : List ℕ) (other_refused : Bool) → answer.IsOf command want name file other other_refused
      → (other ≡ given.text) × (other_refused ≡ given.refused)

-- The text and whether the file is refused are the answer for a file that has these bytes, and there is no other.
pub record Settles (job : Job) (before : ℕ) (name file : List ℕ) (text : List ℕ) (refused : Bool) : Type 0 where
  pub is : IsOfFile job.command job.want before name file text refused
  pub only : (other : List ℕ) (other_refused : Bool) → IsOfFile job.command job.want before name file other other_refused
      → (other ≡ text) × (other_refused ≡ refused)

-- the same of whatever file was read so, after n bytes of others
abbrev pub SettlesRead : Job → List ℕ → Option (Vec ℕ Global) → FileAnswer → Type 0
SettlesRead job name read answer =
    (before : ℕ) (file : List ℕ) → IsWholeBehind most_bytes before file read → Settles job before name file answer.text answer.refused

-- n functions were compiled for what was read of a file: as many as whatever file was read so, after m bytes of others,
-- shows compiled, and none where the command compiles none whatever its files hold.
pub record CountsRead (job : Job) (read : Option (Vec ℕ Global)) (count : ℕ) : Type 0 where
  pub is : (before : ℕ) (file : List ℕ) → IsWholeBehind most_bytes before file read → CompilesFile job.command job.want before file count
  pub none : compiles_none (Files job) ≡ true → count ≡ 0
