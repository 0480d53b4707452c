-- The files of a command whose functions are asked for. This project's own choice.
use Rattle.std.specs.Prelude.{◌≡◌, ℕ, ◌+◌, ◌≤◌, true, false, List, [], ◌∷◌, length, Option, Some, None, Vec, slice_get}
use Rattle.std.specs.declared.alloc.Global.{Global}
use Rattle.stencil_data.specs.MergedView.{MergedView}
use Rattle.session_words.specs.declared.options.Command.{Command}
use Rattle.session_words.specs.declared.options.FileJob.{FileJob}
use Rattle.session_words.specs.Asked.{Job, wanted}
use Rattle.session_specs.specs.Answer.{to_show}
use Rattle.session_specs.specs.Compiled.{shows_scripts}
use Rattle.stencil_board.specs.Files.{File}
use Rattle.session_requests.specs.declared.requests.Request.{Request}
use Rattle.session_requests.specs.Requests.{AreAllAsked}
use Rattle.session_requests.specs.Views.{WorkView}
use Rattle.session_requests.specs.Works.{AreWorks, IsMergedOf, shown_of, work_at}
use Rattle.compile_session.specs.declared.answer.FileAnswer.{FileAnswer}
use Rattle.compile_session.specs.declared.start.FileStart.{FileStart}
use Rattle.compile_session.specs.declared.start.FileStart.TheVariants as start
use Rattle.compile_session.specs.Listed.{IsWrittenFor}
use Rattle.compile_session.specs.Starts.{AreStarts}
use Rattle.compile_session.specs.Workers.{SettlesFile}

-- the file that a board is picked for: its bytes, and the texts of its script
abbrev pub picked_file : Option (Vec ℕ Global) → FileStart → File
picked_file None given = record { bytes = []; texts = [] }
picked_file (Some bytes) (start.Script script) = record { bytes = bytes.items; texts = script.initial.parts.texts }
picked_file (Some bytes) (start.Refused why) = record { bytes = []; texts = [] }

-- one for each file after its first pass
abbrev pub picked_files : List (Option (Vec ℕ Global)) → List FileStart → List File
picked_files reads [] = []
picked_files [] (given ∷ starts) = []
picked_files (read ∷ reads) (given ∷ starts) = picked_file read given ∷ picked_files reads starts

-- The functions of a script are asked for as it was found by its first pass, and of a file that is refused none are.
abbrev pub IsAskedOf : Option (Vec ℕ Global) → FileStart → Option WorkView → Type 0
IsAskedOf read (start.Refused why) work = work ≡ None
IsAskedOf None (start.Script script) work = Unit {0}
IsAskedOf (Some bytes) (start.Script script) None = ⊥
IsAskedOf (Some bytes) (start.Script script) (Some work) =
    (work.board.bytes ≡ bytes.items) × (work.board.initial ≡ script.initial) × (work.shown ≡ script.shown.items)

-- one for each file
pub record AreAsked (reads : List (Option (Vec ℕ Global))) (starts : List FileStart) (works : List (Option WorkView)) : Type 0 where
  pub long : length works ≡ length starts
  pub each : (number : ℕ) (read : Option (Vec ℕ Global)) (given : FileStart)
      → slice_get reads number ≡ Some read → slice_get starts number ≡ Some given → IsAskedOf read given (work_at works number)

-- All that the command wants of these files is asked for, in its order.
abbrev pub AreAskedBy : FileJob → List (Option WorkView) → (files : List ℕ) → List Request → Type 0
AreAskedBy job works files requests = AreAllAsked job.order (to_show (wanted job.want)) works files requests

-- The command shows the scripts of its files. Of n of these the first passes were made, and their functions can be asked for.
pub record CanBeShown (files : List File) (job : FileJob) (reads : List (Option (Vec ℕ Global))) (starts : List FileStart)
    (works : List (Option WorkView)) (count : ℕ) : Type 0 where
  pub shows : shows_scripts job.command ≡ true
  pub named : count ≤ length job.files.items
  pub read : count ≤ length reads
  pub started : AreStarts (wanted job.want) reads count starts
  pub asked : AreAsked reads starts works
  pub fit : AreWorks files works

-- This is the answer for the file of this number, and as many functions are shown in it as are to be.
pub record ShowsFile (job : Job) (reads : List (Option (Vec ℕ Global))) (works : List (Option WorkView)) (number : ℕ)
    (answer : FileAnswer) : Type 0 where
  pub settles : SettlesFile job reads number answer
  pub count : answer.compiled ≡ shown_of (work_at works number)

-- The answer shows the script whose functions are asked for.
pub record ShowsScript (command : Command) (work : Option WorkView) (name : List ℕ) (answer : FileAnswer) : Type 0 where
  pub merged : MergedView
  pub is : IsMergedOf work merged
  pub written : IsWrittenFor command name merged answer.text
  pub fine : answer.refused ≡ false
  pub count : answer.compiled ≡ shown_of work

-- how many functions are shown in these answers
abbrev pub compiled_in : List FileAnswer → ℕ
compiled_in [] = 0
compiled_in (answer ∷ answers) = answer.compiled + compiled_in answers
