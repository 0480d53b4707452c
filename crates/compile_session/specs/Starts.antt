-- A file of source text after its first pass. This project's own choice.
use Rattle.std.specs.Prelude.{◌≡◌, ℕ, ◌≤◌, List, [], length, Option, Some, None, Vec, slice_get}
use Rattle.std.specs.declared.alloc.Global.{Global}
use Rattle.session_outside.specs.Loops.{HaveAtMost}
use Rattle.session_words.specs.Asked.{Wanted}
use Rattle.session_specs.specs.Answer.{most_bytes, to_show}
use Rattle.session_specs.specs.Sources.{IsSource, IsRefused, missing}
use Rattle.compile_initial.specs.Initial.{IsInitialOf}
use Rattle.compile_shown.specs.Shown.{AreFlags}
use Rattle.compile_session.specs.declared.refusal.Refusal.TheVariants as refusal
use Rattle.compile_session.specs.declared.start.FileStart.{FileStart}
use Rattle.compile_session.specs.declared.start.FileStart.TheVariants as start
use Rattle.compile_session.specs.declared.start.ScriptStart.{ScriptStart}
use Rattle.compile_session.specs.Answers.{refusal_of}

-- The bytes are a script without errors, which has the functions that are wanted; this is what it is before any function is
-- compiled, and of each function whether it is shown.
pub record IsScriptStart (want : Wanted) (bytes : List ℕ) (script : ScriptStart) : Type 0 where
  pub is : IsInitialOf bytes script.initial
  pub present : missing (length script.initial.parts.records) want ≡ []
  pub flags : AreFlags (to_show want) script.initial.parts.records script.shown.items

-- of what was read of a file
abbrev pub IsStart : Wanted → Option (Vec ℕ Global) → FileStart → Type 0
IsStart want None (start.Script script) = ⊥
IsStart want None (start.Refused why) = why ≡ refusal.TooLong
IsStart want (Some bytes) (start.Script script) = IsScriptStart want bytes.items script
IsStart want (Some bytes) (start.Refused why) = IsSource want bytes.items (IsRefused (refusal_of why))

-- of the file of this number
abbrev pub IsStartAt : Wanted → List (Option (Vec ℕ Global)) → ℕ → FileStart → Type 0
IsStartAt want reads number given = (read : Option (Vec ℕ Global)) → slice_get reads number ≡ Some read → IsStart want read given

-- n files were read, none of more bytes than there may be
pub record CanBeRead (reads : List (Option (Vec ℕ Global))) (count : ℕ) : Type 0 where
  pub within : HaveAtMost most_bytes reads
  pub read : count ≤ length reads

-- these are n files after their first passes, in their order
pub record AreStarts (want : Wanted) (reads : List (Option (Vec ℕ Global))) (count : ℕ) (starts : List FileStart) : Type 0 where
  pub long : length starts ≡ count
  pub each : (number : ℕ) (given : FileStart) → slice_get starts number ≡ Some given → IsStartAt want reads number given
