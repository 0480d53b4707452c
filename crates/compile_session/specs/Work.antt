-- What words ask for, as the code takes it: which commands take source text, and which files are read. Words are session_words'
-- `asked_of`.
use Rattle.std.specs.Prelude.{◌≡◌, ℕ, Bool, true, false, List, [], Option, Some, None, Result, Ok, Err}
use Rattle.session_words.specs.declared.options.Command.{Command}
use Rattle.session_words.specs.declared.options.Command.TheVariants as command
use Rattle.session_words.specs.declared.options.Options.{Options}
use Rattle.session_words.specs.Asked.{Asked, Files, Trial, Churn, asked}
use Rattle.session_words.specs.Words.{asked_of}
use Rattle.compile_session.specs.declared.status.Status.{Status}
use Rattle.compile_session.specs.declared.status.Status.TheVariants as status

-- commands that take files as source text, and not as images
abbrev pub is_source : Command → Bool
is_source command.Code = true
is_source command.Scopes = true
is_source command.Check = true
is_source command.Save = true
is_source command.Load = false
is_source command.Verify = false

-- the names of the files that are read for what is asked
abbrev pub files_of : Asked → List (List ℕ)
files_of (Files j) = j.files
files_of (Trial number size workers) = []
files_of (Churn number size workers) = []

abbrev pub names_of : Option Asked → List (List ℕ)
names_of None = []
names_of (Some a) = files_of a

-- the work that the words ask for, or why there is none
abbrev pub IsWorkOf : List (List ℕ) → Result Options Status → Type 0
IsWorkOf words (Ok work) = asked_of words ≡ Some (asked work)
IsWorkOf words (Err status.BadWords) = asked_of words ≡ None
IsWorkOf words (Err status.NoMemory) = Unit {0}
IsWorkOf words (Err status.Done) = ⊥
IsWorkOf words (Err status.Refused) = ⊥
IsWorkOf words (Err status.ReadFault) = ⊥
IsWorkOf words (Err status.WriteFault) = ⊥
