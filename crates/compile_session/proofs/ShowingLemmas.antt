-- A file whose functions are asked for: what is printed is its answer, and as many functions are shown as are to be.
use Rattle.std.proofs.Common.{List, None, Option, Some, Vec, [], ap, arith, false, length, refl, subst, suc, sym, take, true, zero, ℕ, ◌+◌, ◌<◌, ◌^◌, ◌∙◌, ◌∷◌, ◌≡◌, ◌≤◌}
use Rattle.std.proofs.lemmas.List.Elements.{All-weaker}
use Rattle.std.proofs.lemmas.Option.{get_or_from_slice_get, slice_get_within}
use Rattle.std.specs.List.{All}
use Rattle.std.specs.Prelude.{slice_get, ◌*◌}
use Rattle.std.specs.declared.alloc.Global.{Global}
use Rattle.compile_image_laws.proofs.Images.{script_stands}
use Rattle.compile_initial.specs.Initial.{IsInitialOf}
use Rattle.compile_initial.specs.declared.InitialStencil.{InitialStencil}
use Rattle.compile_session.proofs.CompiledLemmas.{shown_compiles}
use Rattle.compile_session.proofs.CountLemmas.{compiles_refused, counts_long, counts_read}
use Rattle.compile_session.proofs.CountingLemmas.{times_most}
use Rattle.compile_session.proofs.FileLemmas.{answers_refused, settles_read}
use Rattle.compile_session.proofs.ShownLemmas.{shown_few}
use Rattle.compile_session.proofs.SourceLemmas.{answers_source, settles_long}
use Rattle.compile_session.specs.Answers.{CountsRead, IsAnswerFor, SettlesRead, refusal_of}
use Rattle.compile_session.specs.Showing.{IsAskedOf, ShowsFile, ShowsScript, compiled_in}
use Rattle.compile_session.specs.Starts.{IsScriptStart, IsStart}
use Rattle.compile_session.specs.Work.{is_source}
use Rattle.compile_session.specs.Workers.{SettleFiles}
use Rattle.compile_session.specs.declared.answer.FileAnswer.{FileAnswer}
use Rattle.compile_session.specs.declared.refusal.Refusal.{Refusal}
use Rattle.compile_session.specs.declared.start.ScriptStart.{ScriptStart}
use Rattle.compile_shown.proofs.Flags.{flags_count, same_count}
use Rattle.compile_shown.specs.Counting.{trues}
use Rattle.compile_shown.specs.Shown.{AreFlags, shown_in}
use Rattle.compile_wanted.specs.Shows.{Shows}
use Rattle.emit_limit_laws.proofs.RisingSites.{sites_few}
use Rattle.helper_tasks.specs.Jobs.{GivesEach}
use Rattle.session_requests.specs.Views.{HandView, WorkView}
use Rattle.session_requests.specs.Works.{IsMerged, IsWorkOf, shown_of, shown_total, work_at}
use Rattle.session_specs.specs.Answer.{IsWritten, to_show}
use Rattle.session_specs.specs.Compiled.{CompilesOf, shows_scripts}
use Rattle.session_specs.specs.Refusals.{refusal_line}
use Rattle.session_specs.specs.Sources.{HasAll, IsScript}
use Rattle.session_words.specs.Asked.{Job}
use Rattle.session_words.specs.declared.options.Command.{Command}
use Rattle.stencil_board.specs.Files.{File}
use Rattle.stencil_data.specs.MergedView.{MergedView}
use Rattle.session_words.specs.declared.options.Command.TheVariants as command
use Rattle.compile_specs.specs.Shown as wanting
use Rattle.compile_session.specs.declared.start.FileStart.TheVariants as start

-- a command that shows scripts takes files as source text
pub source_if_shown : (c : Command) → shows_scripts c ≡ true → is_source c ≡ true
source_if_shown command.Code h = refl
source_if_shown command.Scopes h = refl
source_if_shown command.Save h = refl
source_if_shown command.Check h = absurd (cc)
source_if_shown command.Load h = absurd (cc)
source_if_shown command.Verify h = absurd (cc)

-- a script has fewer functions than this
pub records_below : (bytes : List ℕ) (made : InitialStencil) → IsInitialOf bytes made → length made.parts.records < 2 ^ 24
records_below bytes made is =
    let stands = script_stands bytes is.items (length made.parts.records) is.short is.valid in
    let few = sites_few is.valid.read.inner is.valid.read.end is.items (length bytes) is.all stands is.functions in
    let tokens = stands.few in
    let count = same_count wanting.All bytes made is in
    omega (arith, few, tokens, count)

-- ---- one script

module _ (j : Job) (shows : shows_scripts j.command ≡ true) (bytes : Vec ℕ Global) (script : ScriptStart) (started : IsScriptStart j.want bytes.items script) where
  has_all : HasAll bytes.items j.want started.is.items (length script.initial.parts.records)
  has_all = record { valid = started.is.valid; present = started.present }

  -- as many functions are shown as there are such flags
  shown_count_is : (count : ℕ) → count ≡ trues script.shown.items → count ≡ shown_in (to_show j.want) script.initial
  shown_count_is count is = is ∙ flags_count (to_show j.want) script.initial.parts.records script.shown.items started.flags

  pub compiles_shown : (count : ℕ) → count ≡ trues script.shown.items → CompilesOf (shows_scripts j.command) j.want bytes.items count
  compiles_shown count is =
      subst (λ b. CompilesOf b j.want bytes.items count) (sym shows)
      (IsScript started.is.items (length script.initial.parts.records), has_all, shown_compiles j.want bytes.items script.initial started.is count (shown_count_is count is))

  pub few_shown : (count : ℕ) → count ≡ trues script.shown.items → count < 2 ^ 24
  few_shown count is =
      let same = shown_count_is count is in
      let few = shown_few (to_show j.want) script.initial in
      let below = records_below bytes.items script.initial started.is in
      omega (arith, same, few, below)

  -- what is printed of what is shown of it
  pub answers_shown : (name : List ℕ) (merged : MergedView) (answer : FileAnswer) → Shows (to_show j.want) started.is.items (length bytes.items) merged
      → (Shows (to_show j.want) started.is.items (length bytes.items) merged → IsWritten j.command j.want name (length bytes.items) started.is.items (length script.initial.parts.records) answer.text) → answer.refused ≡ false
      → IsAnswerFor j.command j.want name bytes.items answer
  answers_shown name merged answer s written fine =
      answers_source j.command j.want name bytes.items answer (IsScript started.is.items (length script.initial.parts.records)) (source_if_shown j.command shows) has_all (written s, fine)

-- what is asked of it is its own
pub merged_own : (want : wanting.Wanted) (bytes : List ℕ) (script : ScriptStart) (work : WorkView) (merged : MergedView) → work.board.bytes ≡ bytes → work.board.initial ≡ script.initial → work.shown ≡ script.shown.items
    → AreFlags want script.initial.parts.records script.shown.items → IsMerged work merged → (is : IsInitialOf bytes script.initial) → Shows want is.items (length bytes) merged
merged_own want bytes script work merged same_bytes same_initial same_shown flags m =
    let f : AreFlags want work.board.initial.parts.records work.shown =
    subst (λ (i : InitialStencil). AreFlags want i.parts.records work.shown) (sym same_initial) (subst (λ fs. AreFlags want script.initial.parts.records fs) (sym same_shown) flags) in
    subst (λ (i : InitialStencil). (is : IsInitialOf bytes i) → Shows want is.items (length bytes) merged) same_initial
    (subst (λ (b : List ℕ). (is : IsInitialOf b work.board.initial) → Shows want is.items (length b) merged) same_bytes (m want f))

-- ---- one file

-- a script
pub shows_script : (j : Job) (files : List File) (name : List ℕ) (read : Option (Vec ℕ Global)) (script : ScriptStart) (work : Option WorkView) (answer : FileAnswer) → shows_scripts j.command ≡ true
    → IsStart j.want read (start.Script script) → IsAskedOf read (start.Script script) work → IsWorkOf files work → ShowsScript j.command work name answer
    → SettlesRead j name read answer × CountsRead j read answer.compiled × (answer.compiled < 2 ^ 24)
shows_script j files name None script work answer shows started asked of given = absurd started
shows_script j files name (Some bytes) script None answer shows started asked of given = absurd asked
shows_script j files name (Some bytes) script (Some work) answer shows started asked of given =
    let count : answer.compiled ≡ trues script.shown.items = given.count ∙ (of.count ∙ ap trues asked.2) in
    let merged = merged_own (to_show j.want) bytes.items script work given.merged asked.0 asked.1 asked.2 started.flags given.is started.is in (
      settles_read j name bytes.items (Some bytes) bytes j.command answer refl refl refl
          (answers_shown j shows bytes script started name given.merged answer merged
          (λ s. given.written j.want bytes.items started.is.items (length script.initial.parts.records) started.is.short started.is.valid s) given.fine),
      counts_read j bytes.items (Some bytes) bytes j.command answer.compiled refl refl refl (compiles_shown j shows bytes script started answer.compiled count),
      few_shown j shows bytes script started answer.compiled count,
    )

-- one that is refused
pub shows_refused : (j : Job) (name : List ℕ) (read : Option (Vec ℕ Global)) (why : Refusal) (answer : FileAnswer) → shows_scripts j.command ≡ true → IsStart j.want read (start.Refused why)
    → answer.text ≡ refusal_line name (refusal_of why) → answer.refused ≡ true → answer.compiled ≡ 0
    → SettlesRead j name read answer × CountsRead j read answer.compiled × (answer.compiled < 2 ^ 24)
shows_refused j name None why answer shows started printed is none = (
  λ before file whole. settles_long j before name file answer.text answer.refused whole (printed ∙ ap (λ (w : Refusal). refusal_line name (refusal_of w)) started) is,
  counts_long j None answer.compiled refl none,
  omega (arith, none),
)
shows_refused j name (Some bytes) why answer shows started printed is none = (
  settles_read j name bytes.items (Some bytes) bytes j.command answer refl refl refl (answers_refused j.command j.want name bytes.items why answer (source_if_shown j.command shows) started printed is),
  counts_read j bytes.items (Some bytes) bytes j.command answer.compiled refl refl refl (compiles_refused j.command j.want bytes.items (refusal_of why) answer.compiled started none),
  omega (arith, none),
)

-- ---- all files

-- the sum over the answers is that over the files
pub sums_same : (answers : List FileAnswer) (works : List (Option WorkView)) → length answers ≡ length works → ((k : ℕ) (answer : FileAnswer) → slice_get answers k ≡ Some answer → answer.compiled ≡ shown_of (work_at works k)) → compiled_in answers ≡ shown_total works
sums_same [] [] e h = refl
sums_same [] (w ∷ works) e h = absurd (omega (arith, e))
sums_same (a ∷ answers) [] e h = absurd (omega (arith, e))
sums_same (a ∷ answers) (w ∷ works) e h =
    let first = h 0 a refl in
    let others = sums_same answers works (omega (arith, e)) (λ k answer is. h (suc k) answer is) in
    omega (arith, first, others)

-- they are few
pub sum_few : (answers : List FileAnswer) → ((k : ℕ) (answer : FileAnswer) → slice_get answers k ≡ Some answer → answer.compiled < 2 ^ 24) → compiled_in answers ≤ length answers * 2 ^ 24
sum_few [] h = omega arith
sum_few (a ∷ answers) h =
    let first = h 0 a refl in
    let others = sum_few answers (λ k answer is. h (suc k) answer is) in
    omega (arith, first, others)

-- what all tasks give
pub settle_shown : (j : Job) (reads : List (Option (Vec ℕ Global))) (works : List (Option WorkView)) (count : ℕ) (answers : List FileAnswer) → length answers ≡ count → GivesEach (λ (number : ℕ) (answer : FileAnswer). ShowsFile j reads works number answer) answers
    → (number : ℕ) (answer : FileAnswer) → slice_get answers number ≡ Some answer → ShowsFile j reads works number answer
settle_shown j reads works count answers long each number answer is =
    subst (λ (a : FileAnswer). ShowsFile j reads works number a) (get_or_from_slice_get answers number answer answer is) (each number answer (slice_get_within answers number answer is))

-- a fact that says nothing of the workers holds beside what holds of each
pub fits_all : (P : HandView → Type 0) (C : Type 0) (hands : List HandView) → C → All P hands → All (λ (h : HandView). C × P h) hands
fits_all P C hands given all = All-weaker P (λ (h : HandView). C × P h) (λ h p. (given, p)) hands all

pub settle_all : (j : Job) (reads : List (Option (Vec ℕ Global))) (works : List (Option WorkView)) (count : ℕ) (answers : List FileAnswer) → length answers ≡ count → GivesEach (λ (number : ℕ) (answer : FileAnswer). ShowsFile j reads works number answer) answers
    → SettleFiles j reads count answers
settle_all j reads works count answers long each = record {
  long = long;
  each = λ number answer is. (settle_shown j reads works count answers long each number answer is).settles;
}

-- as many functions are shown in the answers as there are to be shown of the files
pub total_shown : (j : Job) (reads : List (Option (Vec ℕ Global))) (works : List (Option WorkView)) (count : ℕ) (answers : List FileAnswer) → length answers ≡ count → length works ≡ count
    → GivesEach (λ (number : ℕ) (answer : FileAnswer). ShowsFile j reads works number answer) answers → compiled_in answers ≡ shown_total works
total_shown j reads works count answers long same each = sums_same answers works (long ∙ sym same) (λ k answer is. (settle_shown j reads works count answers long each k answer is).count)

pub total_few : (j : Job) (reads : List (Option (Vec ℕ Global))) (count : ℕ) (answers : List FileAnswer) → SettleFiles j reads count answers → count ≤ 64 → compiled_in answers ≤ 2 ^ 30
total_few j reads count answers s few =
    let sum = sum_few answers (λ k answer is. (s.each k answer is).few) in
    let long = s.long in
    omega (arith, sum, long, few)

-- the workers are no more than the command asks for, so they compiled no more than this
pub most_shown : (most workers shown answered compiled : ℕ) → workers ≤ most → answered ≡ shown → compiled ≤ workers * shown → compiled ≤ most * answered
most_shown most workers shown answered compiled le same few =
    let all = times_most workers most shown shown le (omega arith) in
    subst (λ (n : ℕ). compiled ≤ most * n) (sym same) (omega (arith, few, all))

pub hands_few : (workers most total : ℕ) → workers ≤ most → most ≤ 16 → total ≤ 2 ^ 30 → workers * total < 2 ^ 64
hands_few workers most total le few small =
    let all = times_most workers 16 total (2 ^ 30) (omega (arith, le, few)) small in
    omega (arith, all)

-- ---- the sum over the first answers

pub sum_next : (answers : List FileAnswer) (place next : ℕ) (answer : FileAnswer) → next ≡ place + 1 → slice_get answers place ≡ Some answer → compiled_in (take next answers) ≡ compiled_in (take place answers) + answer.compiled
sum_next answers place zero answer is at = absurd (omega (arith, is))
sum_next [] place (suc next) answer is at = absurd (cc)
sum_next (a ∷ answers) zero (suc zero) answer is at =
    let same : a ≡ answer = cc in
    let counts = ap (λ (x : FileAnswer). x.compiled) same in
    omega (arith, counts)
sum_next (a ∷ answers) zero (suc (suc next)) answer is at = absurd (omega (arith, is))
sum_next (a ∷ answers) (suc place) (suc next) answer is at = let h = sum_next answers place next answer (omega (arith, is)) at in omega (arith, h)

pub sum_all : (answers : List FileAnswer) (place : ℕ) → length answers ≤ place → compiled_in (take place answers) ≡ compiled_in answers
sum_all [] zero long = refl
sum_all [] (suc place) long = refl
sum_all (a ∷ answers) zero long = absurd (omega (arith, long))
sum_all (a ∷ answers) (suc place) long = let h = sum_all answers place (omega (arith, long)) in omega (arith, h)
