-- What words ask for: files, or a generated text.
use Rattle.std.proofs.Common.{Bool, List, Option, Some, Vec, arith, false, length, subst, sym, ℕ, ◌≡◌, ◌≤◌}
use Rattle.std.proofs.lemmas.List.{length-map}
use Rattle.std.specs.String.{string_bytes}
use Rattle.std.specs.declared.alloc.Global.{Global}
use Rattle.compile_session.proofs.WordLaws.{asked_bounded, churn_asked, trial_asked}
use Rattle.compile_session.specs.Files.{AnswersAll, AnswersWork, IsBounded, SettlesWork}
use Rattle.compile_session.specs.Printed.{texts_in}
use Rattle.compile_session.specs.declared.answer.WholeAnswer.{WholeAnswer}
use Rattle.session_trial_laws.proofs.Commands.{churn_is_few, trial_is_few}
use Rattle.session_words.specs.Asked.{Asked, Churn, Files, Trial, asked, job}
use Rattle.session_words.specs.Words.{asked_of}
use Rattle.session_words.specs.declared.options.FileJob.{FileJob}
use Rattle.session_words.specs.declared.options.Options.{Options}
use Rattle.session_words.specs.declared.options.Options.TheVariants as options

-- what words ask for is bounded
pub work_bounded : (words : List (List ℕ)) (a : Asked) → asked_of words ≡ Some a → IsBounded a
work_bounded words (Files j) e = let b = asked_bounded words j e in (b.files, b.one, b.workers)
work_bounded words (Trial number size workers) e = let b = trial_asked words number size workers e in (trial_is_few words number size workers e, b.0, b.1)
work_bounded words (Churn number size workers) e = let b = churn_asked words number size workers e in (churn_is_few words number size workers e, b.0, b.1)

-- ---- files

pub files_bounded : (w : Options) (j : FileJob) → w ≡ options.Files j → IsBounded (asked w) → (length j.files.items ≤ 64) × (1 ≤ j.workers) × (j.workers ≤ 16)
files_bounded w j is bounded =
    let b = subst (λ (x : Options). IsBounded (asked x)) is bounded in
    let few = b.0 in
    let long = length-map j.files.items string_bytes in
    (omega (arith, few, long), b.1, b.2)

pub files_answer : (w : Options) (j : FileJob) (reads : List (Option (Vec ℕ Global))) (answer : WholeAnswer) → w ≡ options.Files j → AnswersAll (job j) reads answer → AnswersWork (asked w) reads answer
files_answer w j reads answer is all =
    subst (λ (x : Options). AnswersWork (asked x) reads answer) (sym is)
    (λ held whole. let s = all held whole in record { is = s.is; only = s.only })

-- ---- generated texts

pub trial_work : (w : Options) (number size workers : ℕ) (reads : List (Option (Vec ℕ Global))) (answer : WholeAnswer) → w ≡ options.Trial number size workers
    → ((k : ℕ) (held : List ℕ → List ℕ) → SettlesWork (Trial number size k) held (texts_in answer.files.items) answer.refused) → AnswersWork (asked w) reads answer
trial_work w number size workers reads answer is settles = subst (λ (x : Options). AnswersWork (asked x) reads answer) (sym is) (λ held whole. settles workers held)

pub trial_bounded : (w : Options) (number size workers : ℕ) → w ≡ options.Trial number size workers → IsBounded (asked w) → (size ≤ 100000) × (1 ≤ workers) × (workers ≤ 16)
trial_bounded w number size workers is bounded = subst (λ (x : Options). IsBounded (asked x)) is bounded

pub churn_work : (w : Options) (number size workers : ℕ) (reads : List (Option (Vec ℕ Global))) (answer : WholeAnswer) → w ≡ options.Churn number size workers
    → ((by : ℕ) (held : List ℕ → List ℕ) → SettlesWork (Churn number size by) held (texts_in answer.files.items) answer.refused) → AnswersWork (asked w) reads answer
churn_work w number size workers reads answer is settles = subst (λ (x : Options). AnswersWork (asked x) reads answer) (sym is) (λ held whole. settles workers held)

pub churn_bounded : (w : Options) (number size workers : ℕ) → w ≡ options.Churn number size workers → IsBounded (asked w) → (size ≤ 100000) × (1 ≤ workers) × (workers ≤ 16)
churn_bounded w number size workers is bounded = subst (λ (x : Options). IsBounded (asked x)) is bounded

-- the same text
pub settles_same : (a : Asked) (held : List ℕ → List ℕ) (line text : List ℕ) (refused : Bool) → text ≡ line → refused ≡ false → SettlesWork a held line false → SettlesWork a held text refused
settles_same a held line text refused is fine s = subst (λ (l : List ℕ). SettlesWork a held l refused) (sym is) (subst (λ (b : Bool). SettlesWork a held line b) (sym fine) s)
