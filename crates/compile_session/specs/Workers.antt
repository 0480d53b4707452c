-- The files of a command, each answered by itself: by which worker, and after which others, is of no matter.
use Rattle.std.specs.Prelude.{◌≡◌, ℕ, ◌^◌, ◌≤◌, ◌<◌, List, length, Option, Some, Vec, slice_get}
use Rattle.std.specs.declared.alloc.Global.{Global}
use Rattle.session_outside.specs.Loops.{HaveAtMost}
use Rattle.session_words.specs.declared.options.FileJob.{FileJob}
use Rattle.session_words.specs.Asked.{Job}
use Rattle.session_specs.specs.Answer.{most_bytes}
use Rattle.compile_session.specs.declared.answer.FileAnswer.{FileAnswer}
use Rattle.compile_session.specs.Answers.{CountsRead, SettlesRead}

-- n files of the command were read, none of more bytes than there may be
pub record CanBeAnswered (job : FileJob) (reads : List (Option (Vec ℕ Global))) (count : ℕ) : Type 0 where
  pub within : HaveAtMost most_bytes reads
  pub named : count ≤ length job.files.items
  pub read : count ≤ length reads

-- This is the answer for the file of this number, by what was read of it, and it shows n functions compiled, fewer than 2^24.
pub record SettlesFile (job : Job) (reads : List (Option (Vec ℕ Global))) (number : ℕ) (answer : FileAnswer) : Type 0 where
  pub settles : (name : List ℕ) (read : Option (Vec ℕ Global)) → slice_get job.files number ≡ Some name → slice_get reads number ≡ Some read
      → SettlesRead job name read answer
  pub counts : (read : Option (Vec ℕ Global)) → slice_get reads number ≡ Some read → CountsRead job read answer.compiled
  pub few : answer.compiled < 2 ^ 24

-- these are the answers for n files, in their order
pub record SettleFiles (job : Job) (reads : List (Option (Vec ℕ Global))) (count : ℕ) (answers : List FileAnswer) : Type 0 where
  pub long : length answers ≡ count
  pub each : (number : ℕ) (answer : FileAnswer) → slice_get answers number ≡ Some answer → SettlesFile job reads number answer
