-- How many functions the answer to a command shows compiled: no more are compiled for it. This project's own choice.
use Rattle.std.specs.Prelude.{◌≡◌, ℕ, ◌+◌, ◌<◌, ◌≤◌, ◌⊎◌, Bool, true, false, if◌then◌else◌, List, [], ◌∷◌, length, Option, Some, None}
use Rattle.script_grammar.specs.Tree.{Stmts}
use Rattle.stencil_data.specs.Named.{NamedFunction}
use Rattle.bytecode_buf.specs.Command.{Command}
use Rattle.session_words.specs.declared.options.Command.{Command as Word}
use Rattle.session_words.specs.declared.options.Command.TheVariants as word
use Rattle.session_words.specs.Asked.{Wanted, Asked, Files, Trial, Churn}
use Rattle.session_words.specs.Asked as asked
use Rattle.session_words.specs.Words.{asked_of}
use Rattle.session_trial.specs.Generated.{generated}
use Rattle.session_specs.specs.Answer.{Shows, most_bytes}
use Rattle.session_specs.specs.Sources.{Source, IsScript, IsRefused, IsSource, HasAll}

-- ---- one file

-- of the functions of a script, how many are compiled; the others are told by a record alone
abbrev pub compiled_among : List (Option (NamedFunction (List Command))) → ℕ
compiled_among [] = 0
compiled_among (None ∷ entries) = compiled_among entries
compiled_among (Some function ∷ entries) = 1 + compiled_among entries

-- of the script of a tree, whose text has n bytes, m functions are shown compiled where these are wanted
abbrev pub Compiles : Wanted → Stmts → ℕ → ℕ → Type 0
Compiles want items size count = Shows want items size (λ merged. count ≡ compiled_among merged.entries)

-- whether a command shows the scripts of its files: it lists or saves them
abbrev pub shows_scripts : Word → Bool
shows_scripts word.Code = true
shows_scripts word.Scopes = true
shows_scripts word.Save = true
shows_scripts word.Check = false
shows_scripts word.Load = false
shows_scripts word.Verify = false

-- of a file of source text that has n bytes; of one that is refused none is
abbrev pub CompilesSource : Wanted → ℕ → Source → ℕ → Type 0
CompilesSource want size (IsScript items functions) count = Compiles want items size count
CompilesSource want size (IsRefused why) count = count ≡ 0

-- of a file of which a script is shown, or is not
abbrev pub CompilesOf : Bool → Wanted → List ℕ → ℕ → Type 0
CompilesOf true want file count = (source : Source) × IsSource want file source × CompilesSource want (length file) source count
CompilesOf false want file count = count ≡ 0

-- of a file after n bytes of other files
abbrev pub CompilesFile : Word → Wanted → ℕ → List ℕ → ℕ → Type 0
CompilesFile command want before file count =
    ((most_bytes < before + length file) × (count ≡ 0))
    ⊎ ((before + length file ≤ most_bytes) × CompilesOf (shows_scripts command) want file count)

-- ---- all files of a command

-- of the files of these names, which hold these bytes, after n bytes of others
abbrev pub CompilesFiles : Word → Wanted → (List ℕ → List ℕ) → ℕ → List (List ℕ) → ℕ → Type 0
CompilesFiles command want held before [] count = count ≡ 0
CompilesFiles command want held before (name ∷ names) count =
    (first : ℕ) × (later : ℕ)
    × CompilesFile command want before (held name) first
    × CompilesFiles command want held (before + length (held name)) names later
    × (count ≡ first + later)

-- ---- the answer

-- of what is asked. A trial compiles every function of its text; of `churn`, which compiles functions again and again, nothing is said.
abbrev pub CompilesAsked : Asked → (List ℕ → List ℕ) → ℕ → Type 0
CompilesAsked (Files job) held count = CompilesFiles job.command job.want held 0 job.files count
CompilesAsked (Trial number size workers) held count = (items : Stmts) × HasAll (generated number size) asked.All items count
CompilesAsked (Churn number size workers) held count = ⊥

-- n functions are shown compiled in the answer to the words of a command, where the files hold these bytes.
pub record ShowsCompiled (words : List (List ℕ)) (held : List ℕ → List ℕ) (count : ℕ) : Type 0 where
  pub asked : Asked
  pub form : asked_of words ≡ Some asked
  pub compiled : CompilesAsked asked held count

-- ---- commands for which none is compiled

abbrev pub wants_none : Wanted → Bool
wants_none asked.All = false
wants_none asked.Nothing = true
wants_none (asked.Numbers numbers) = false

-- for what is asked, whatever the files hold: it shows no script, or no function is wanted
abbrev pub compiles_none : Asked → Bool
compiles_none (Files job) = if shows_scripts job.command then wants_none job.want else true
compiles_none (Trial number size workers) = false
compiles_none (Churn number size workers) = false

-- for these words, which may ask for nothing
abbrev pub words_compile_none : Option Asked → Bool
words_compile_none None = true
words_compile_none (Some a) = compiles_none a
