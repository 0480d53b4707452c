-- How a command ends, and what it answers for all its files.
use Rattle.std.specs.Prelude.{◌≡◌, ℕ, ◌^◌, ◌≤◌, Bool, true, false, List, length, Vec, Option}
use Rattle.std.specs.declared.alloc.Global.{Global}
use Rattle.session_outside.specs.Loops.{AreWholeBehind}
use Rattle.session_words.specs.Asked.{Job, Asked, Files, Trial, Churn}
use Rattle.session_specs.specs.Answer.{IsAnswerTo, IsOfFiles, most_bytes}
use Rattle.session_specs.specs.Compiled.{CompilesAsked, compiles_none}
use Rattle.compile_session.specs.Printed.{texts_in}
use Rattle.compile_session.specs.declared.answer.WholeAnswer.{WholeAnswer}
use Rattle.compile_session.specs.Work.{files_of}
use Rattle.compile_session.specs.declared.status.Status.{Status}
use Rattle.compile_session.specs.declared.status.Status.TheVariants as status

abbrev pub status_of : Bool → Status
status_of true = status.Refused
status_of false = status.Done

-- the status says that all was done
abbrev pub IsWhole : Status → Type 0
IsWhole status.Done = Unit {0}
IsWhole status.Refused = Unit {0}
IsWhole status.BadWords = ⊥
IsWhole status.ReadFault = ⊥
IsWhole status.WriteFault = ⊥
IsWhole status.NoMemory = ⊥

-- the status says that nothing was written
abbrev pub IsBefore : Status → Type 0
IsBefore status.Done = ⊥
IsBefore status.Refused = ⊥
IsBefore status.BadWords = Unit {0}
IsBefore status.ReadFault = Unit {0}
IsBefore status.WriteFault = ⊥
IsBefore status.NoMemory = ⊥

-- The text and whether a file is refused are the answer for these files, after n bytes of others, and there is no other.
pub record SettlesAll (job : Job) (held : List ℕ → List ℕ) (before : ℕ) (names : List (List ℕ)) (text : List ℕ) (refused : Bool) : Type 0 where
  pub is : IsOfFiles job.command job.want held before names text refused
  pub only : (other : List ℕ) (other_refused : Bool) → IsOfFiles job.command job.want held before names other other_refused
      → (other ≡ text) × (other_refused ≡ refused)

-- the same of what was read of the files of a command
abbrev pub AnswersAll : Job → List (Option (Vec ℕ Global)) → WholeAnswer → Type 0
AnswersAll job reads answer =
    (held : List ℕ → List ℕ) → AreWholeBehind most_bytes held 0 job.files reads
    → SettlesAll job held 0 job.files (texts_in answer.files.items) answer.refused

-- The text and whether a file is refused are the answer to what is asked, and there is no other.
pub record SettlesWork (asked : Asked) (held : List ℕ → List ℕ) (text : List ℕ) (refused : Bool) : Type 0 where
  pub is : IsAnswerTo asked held text refused
  pub only : (other : List ℕ) (other_refused : Bool) → IsAnswerTo asked held other other_refused → (other ≡ text) × (other_refused ≡ refused)

-- the same of what was read of its files
abbrev pub AnswersWork : Asked → List (Option (Vec ℕ Global)) → WholeAnswer → Type 0
AnswersWork asked reads answer =
    (held : List ℕ → List ℕ) → AreWholeBehind most_bytes held 0 (files_of asked) reads
    → SettlesWork asked held (texts_in answer.files.items) answer.refused

-- whether each function that is shown is compiled once for what is asked: `churn` compiles functions again and again
abbrev pub compiles_once : Asked → Bool
compiles_once (Files j) = true
compiles_once (Trial number size workers) = true
compiles_once (Churn number size workers) = false

-- n functions were compiled for what is asked, by what was read of its files: where each is compiled once, as many as whatever
-- files were read so show compiled, and none where none are whatever the files hold. They are at most 2^40.
pub record CountsWork (asked : Asked) (reads : List (Option (Vec ℕ Global))) (count : ℕ) : Type 0 where
  pub is : compiles_once asked ≡ true → (held : List ℕ → List ℕ) → AreWholeBehind most_bytes held 0 (files_of asked) reads
      → CompilesAsked asked held count
  pub few : count ≤ 2 ^ 40
  pub none : compiles_none asked ≡ true → count ≡ 0

-- the same of a generated text, whatever else is asked
abbrev pub CountsTrial : (number size : ℕ) → ℕ → Type 0
CountsTrial number size count = (workers : ℕ) (reads : List (Option (Vec ℕ Global))) → CountsWork (Trial number size workers) reads count

-- of a text whose functions are compiled again and again no more is said than that the count is small
abbrev pub CountsChurn : ℕ → Type 0
CountsChurn count = count ≤ 2 ^ 40

-- what words may ask for is no more than this
abbrev pub IsBounded : Asked → Type 0
IsBounded (Files j) = (length j.files ≤ 64) × (1 ≤ j.workers) × (j.workers ≤ 16)
IsBounded (Trial number size workers) = (size ≤ 100000) × (1 ≤ workers) × (workers ≤ 16)
IsBounded (Churn number size workers) = (size ≤ 100000) × (1 ≤ workers) × (workers ≤ 16)
