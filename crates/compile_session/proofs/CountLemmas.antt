-- How many functions were compiled for one file, and for a generated text: as many as are shown compiled.
use Rattle.std.proofs.Common.{Bool, List, None, Option, Result, Some, Vec, arith, false, inl, inr, length, refl, subst, sym, true, ℕ, ◌<◌, ◌^◌, ◌∙◌, ◌≡◌}
use Rattle.std.proofs.lemmas.Result.{IfOk-weaker}
use Rattle.std.specs.Result.{IfOk}
use Rattle.std.specs.declared.alloc.Global.{Global}
use Rattle.compile_first_pass.specs.declared.pass.SyntaxScript.{SyntaxScript}
use Rattle.compile_session.proofs.CompiledLemmas.{all_compiled, none_compiled}
use Rattle.compile_session.proofs.FileLemmas.{shows_unless_check}
use Rattle.compile_session.specs.Answers.{CountsRead, IsScriptOf}
use Rattle.compile_session.specs.Files.{CountsChurn, CountsTrial, CountsWork}
use Rattle.compile_session.specs.Work.{is_source}
use Rattle.compile_session.specs.declared.answer.FileAnswer.{FileAnswer}
use Rattle.script_grammar.specs.Tree.{Stmts}
use Rattle.session_outside.specs.Loops.{IsWholeBehind}
use Rattle.session_specs.specs.Answer.{most_bytes}
use Rattle.session_specs.specs.Compiled.{Compiles, CompilesOf, shows_scripts}
use Rattle.session_specs.specs.Refusals.{Refusal}
use Rattle.session_specs.specs.Sources.{HasAll, IsRefused, IsScript, IsSource}
use Rattle.session_trial.specs.Generated.{generated}
use Rattle.session_words.specs.Asked.{All, Files, Job, Wanted, asked, job}
use Rattle.session_words.specs.declared.options.Command.{Command}
use Rattle.session_words.specs.declared.options.FileJob.{FileJob}
use Rattle.session_words.specs.declared.options.Options.{Options}
use Rattle.session_words.specs.declared.options.Command.TheVariants as command
use Rattle.session_words.specs.declared.options.Options.TheVariants as options

-- ---- source text

-- of a script that is not shown
pub compiles_checked : (c : Command) (want : Wanted) (file : List ℕ) (count : ℕ) → c ≡ command.Check → count ≡ 0 → CompilesOf (shows_scripts c) want file count
compiles_checked c want file count is none = subst (λ (x : Command). CompilesOf (shows_scripts x) want file count) (sym is) none

pub compiles_script : (c : Command) (want : Wanted) (file : List ℕ) (script : SyntaxScript) (count : ℕ) → is_source c ≡ true → (c ≡ command.Check → ⊥) → (s : IsScriptOf want file script) → Compiles want s.is.items (length file) count
    → CompilesOf (shows_scripts c) want file count
compiles_script c want file script count source not_check s compiles =
    subst (λ (b : Bool). CompilesOf b want file count) (sym (shows_unless_check c source not_check))
    (IsScript s.is.items (length script.functions.items), record { valid = s.is.valid; present = s.present }, compiles)

refused_of : (b : Bool) (want : Wanted) (file : List ℕ) (why : Refusal) (count : ℕ) → IsSource want file (IsRefused why) → count ≡ 0 → CompilesOf b want file count
refused_of true want file why count is none = (IsRefused why, is, none)
refused_of false want file why count is none = none

pub compiles_refused : (c : Command) (want : Wanted) (file : List ℕ) (why : Refusal) (count : ℕ) → IsSource want file (IsRefused why) → count ≡ 0 → CompilesOf (shows_scripts c) want file count
compiles_refused c want file why count is none = refused_of (shows_scripts c) want file why count is none

-- ---- what was read of a file

-- all of it
pub counts_read : (j : Job) (seen : List ℕ) (read : Option (Vec ℕ Global)) (bytes : Vec ℕ Global) (c : Command) (count : ℕ) → j.command ≡ c → read ≡ Some bytes → seen ≡ bytes.items → CompilesOf (shows_scripts c) j.want seen count → CountsRead j read count
counts_read j seen read bytes c count command is same compiles = record {
  is = λ before file whole.
      let w : IsWholeBehind most_bytes before file (Some bytes) = subst (λ (r : Option (Vec ℕ Global)). IsWholeBehind most_bytes before file r) is whole in
      inr (w.1, subst (λ (l : List ℕ). CompilesOf (shows_scripts j.command) j.want l count) (same ∙ w.0) of_job);
  none = λ e. none_compiled (shows_scripts j.command) j.want seen count e of_job;
}
  where
    of_job : CompilesOf (shows_scripts j.command) j.want seen count
    of_job = subst (λ (x : Command). CompilesOf (shows_scripts x) j.want seen count) (sym command) compiles

-- the same of what a last call answers
pub counts_source : {E : Type 0} (j : Job) (seen : List ℕ) (read : Option (Vec ℕ Global)) (bytes : Vec ℕ Global) (r : Result FileAnswer E) → read ≡ Some bytes → seen ≡ bytes.items
    → IfOk r (λ answer. CompilesOf (shows_scripts j.command) j.want seen answer.compiled) → IfOk r (λ answer. CountsRead j read answer.compiled)
counts_source j seen read bytes r is same compiles =
    IfOk-weaker r (λ answer. CompilesOf (shows_scripts j.command) j.want seen answer.compiled) (λ answer. CountsRead j read answer.compiled)
    (λ answer h. counts_read j seen read bytes j.command answer.compiled refl is same h) compiles

-- nothing, since there were too many bytes
pub counts_long : (j : Job) (read : Option (Vec ℕ Global)) (count : ℕ) → read ≡ None → count ≡ 0 → CountsRead j read count
counts_long j read count is none = record {
  is = λ before file whole. inl (subst (λ (r : Option (Vec ℕ Global)). IsWholeBehind most_bytes before file r) is whole, none);
  none = λ e. none;
}

-- ---- what is asked

-- all functions of a generated text are compiled
pub trial_counts : (number size : ℕ) (bytes : List ℕ) (items : Stmts) (functions count : ℕ) → bytes ≡ generated number size → HasAll bytes All items functions → Compiles All items (length bytes) count → count < 2 ^ 32 → CountsTrial number size count
trial_counts number size bytes items functions count is has compiles few workers reads = record {
  is = λ once held whole. (items, subst (λ (n : ℕ). HasAll (generated number size) All items n) (sym all) (subst (λ (b : List ℕ). HasAll b All items functions) is has));
  few = omega (arith, few);
  none = λ e. absurd (cc);
}
  where
    all : count ≡ functions
    all = all_compiled items (length bytes) count functions compiles has.valid.functions

pub files_counted : (w : Options) (j : FileJob) (reads : List (Option (Vec ℕ Global))) (count : ℕ) → w ≡ options.Files j → CountsWork (Files (job j)) reads count → CountsWork (asked w) reads count
files_counted w j reads count is counts = subst (λ (x : Options). CountsWork (asked x) reads count) (sym is) counts

pub trial_counted : (w : Options) (number size workers : ℕ) (reads : List (Option (Vec ℕ Global))) (count : ℕ) → w ≡ options.Trial number size workers → CountsTrial number size count → CountsWork (asked w) reads count
trial_counted w number size workers reads count is counts = subst (λ (x : Options). CountsWork (asked x) reads count) (sym is) (counts workers reads)

-- of a text whose functions are compiled again and again no more is said
pub churn_counted : (w : Options) (number size workers : ℕ) (reads : List (Option (Vec ℕ Global))) (count : ℕ) → w ≡ options.Churn number size workers → CountsChurn count → CountsWork (asked w) reads count
churn_counted w number size workers reads count is few = subst (λ (x : Options). CountsWork (asked x) reads count) (sym is) (record {
  is = λ once. absurd (cc);
  few = few;
  none = λ e. absurd (cc);
})
