-- One file: what is printed is its answer.
use Rattle.std.proofs.Common.{List, None, Option, Some, Vec, [], codes, false, length, refl, subst, sym, true, ℕ, ◌++◌, ◌∙◌, ◌≡◌}
use Rattle.std.specs.Fmt.{decimal}
use Rattle.std.specs.declared.alloc.Global.{Global}
use Rattle.compile_first_pass.specs.Passes.{IsSyntaxOf}
use Rattle.compile_first_pass.specs.declared.pass.SourceFault.{SourceFault}
use Rattle.compile_first_pass.specs.declared.pass.SyntaxScript.{SyntaxScript}
use Rattle.compile_session.proofs.SourceLemmas.{answers_source, settles_within}
use Rattle.compile_session.specs.Answers.{IsAnswerFor, IsFineOf, IsMissing, IsScriptOf, IsSourceText, IsSourceVerdict, SettlesRead, refusal_of}
use Rattle.compile_session.specs.Work.{is_source}
use Rattle.compile_session.specs.declared.answer.FileAnswer.{FileAnswer}
use Rattle.compile_session.specs.declared.refusal.Refusal.{Refusal}
use Rattle.compile_session.specs.declared.source.SourceText.{SourceText}
use Rattle.compile_session.specs.declared.source.SourceVerdict.{SourceVerdict}
use Rattle.compile_session.specs.declared.source.SourceVerdict.TheVariants as verdict
use Rattle.script_grammar.specs.Tree.{Stmts}
use Rattle.session_outside.specs.Loops.{IsWholeBehind}
use Rattle.session_specs.specs.Answer.{IsWritten, most_bytes}
use Rattle.session_specs.specs.Compiled.{shows_scripts}
use Rattle.session_specs.specs.Refusals.{refusal_line}
use Rattle.session_specs.specs.Sources.{IsLeastOf, IsRefused, IsScript, IsSource, IsValid, LacksFunction, missing}
use Rattle.session_words.specs.Asked.{All, Job, Wanted}
use Rattle.session_words.specs.declared.options.Command.{Command}
use Rattle.session_words.specs.declared.options.Command.TheVariants as command
use Rattle.compile_first_pass.specs.declared.pass.SourceFault.TheVariants as fault
use Rattle.compile_first_pass.specs.Passes as pass
use Rattle.compile_session.specs.declared.source.SourceText.TheVariants as source

-- ---- commands

-- a command takes files as source text, or is one of the two that take images
pub is_of_source : (c : Command) → (c ≡ command.Load → ⊥) → (c ≡ command.Verify → ⊥) → is_source c ≡ true
is_of_source command.Code l v = refl
is_of_source command.Scopes l v = refl
is_of_source command.Check l v = refl
is_of_source command.Save l v = refl
is_of_source command.Load l v = absurd (l refl)
is_of_source command.Verify l v = absurd (v refl)

-- a command over source text shows scripts, unless it only checks
pub shows_unless_check : (c : Command) → is_source c ≡ true → (c ≡ command.Check → ⊥) → shows_scripts c ≡ true
shows_unless_check command.Code b h = refl
shows_unless_check command.Scopes b h = refl
shows_unless_check command.Check b h = absurd (h refl)
shows_unless_check command.Save b h = refl
shows_unless_check command.Load b h = absurd (cc)
shows_unless_check command.Verify b h = absurd (cc)

-- ---- source text

-- why a file is no script without errors does not depend on what is wanted of it
pub any_want : (want : Wanted) (file : List ℕ) (fault : SourceFault) → IsSource All file (IsRefused (pass.refusal_of fault)) → IsSource want file (IsRefused (pass.refusal_of fault))
any_want want file (fault.BadUtf8 offset) h = h
any_want want file (fault.Unexpected offset) h = h
any_want want file (fault.TooDeep offset) h = h
any_want want file (fault.Early offset rule) h = h

pub has_wanted : (want : Wanted) (file : List ℕ) (script : SyntaxScript) (count : ℕ) (o : Option ℕ) → IsSyntaxOf file script → count ≡ length script.functions.items → IsMissing want count o → o ≡ None → IsScriptOf want file script
has_wanted want file script count o s counted least none = record {
  is = s;
  present = subst (λ (n : ℕ). missing n want ≡ []) counted (subst (λ (x : Option ℕ). IsMissing want count x) none least);
}

pub lacks_one : (want : Wanted) (file : List ℕ) (script : SyntaxScript) (count : ℕ) (o : Option ℕ) (n : ℕ) → IsSyntaxOf file script → count ≡ length script.functions.items → IsMissing want count o → o ≡ Some n → LacksFunction file want n
lacks_one want file script count o n s counted least some = record {
  items = s.items;
  count = length script.functions.items;
  valid = s.valid;
  least = subst (λ (m : ℕ). IsLeastOf (missing m want) n) counted (subst (λ (x : Option ℕ). IsMissing want count x) some least);
}

pub script_is : (want : Wanted) (file : List ℕ) (o : SourceText) (script : SyntaxScript) → IsSourceText want file o → o ≡ source.Script script → IsScriptOf want file script
script_is want file o script comes is = subst (λ (x : SourceText). IsSourceText want file x) is comes

pub answers_script : (c : Command) (want : Wanted) (name file : List ℕ) (script : SyntaxScript) (answer : FileAnswer) → is_source c ≡ true → (s : IsScriptOf want file script)
    → IsWritten c want name (length file) s.is.items (length script.functions.items) answer.text → answer.refused ≡ false → IsAnswerFor c want name file answer
answers_script c want name file script answer built s written fine =
    answers_source c want name file answer (IsScript s.is.items (length script.functions.items)) built (record { valid = s.is.valid; present = s.present }) (written, fine)

pub answers_checked : (c : Command) (want : Wanted) (name file : List ℕ) (functions : ℕ) (answer : FileAnswer) → c ≡ command.Check → IsFineOf want file functions
    → answer.text ≡ name ++ codes ": ok, " ++ decimal functions ++ codes " functions\n" → answer.refused ≡ false → IsAnswerFor c want name file answer
answers_checked c want name file functions answer is s printed fine =
    subst (λ (x : Command). IsAnswerFor x want name file answer) (sym is)
    (answers_source command.Check want name file answer (IsScript s.items functions) refl (record { valid = s.valid; present = s.present }) (printed, fine))

pub fine_is : (want : Wanted) (file : List ℕ) (v : SourceVerdict) (functions : ℕ) → IsSourceVerdict want file v → v ≡ verdict.Fine functions → IsFineOf want file functions
fine_is want file v functions comes is = subst (λ (x : SourceVerdict). IsSourceVerdict want file x) is comes

pub is_fine : (want : Wanted) (file : List ℕ) (items : Stmts) (count : ℕ) (o : Option ℕ) → IsValid file items count → IsMissing want count o → o ≡ None → IsFineOf want file count
is_fine want file items count o valid least none = record { items = items; valid = valid; present = subst (λ (x : Option ℕ). IsMissing want count x) none least }

pub lacks_function : (want : Wanted) (file : List ℕ) (items : Stmts) (count : ℕ) (o : Option ℕ) (n : ℕ) → IsValid file items count → IsMissing want count o → o ≡ Some n → LacksFunction file want n
lacks_function want file items count o n valid least some = record { items = items; count = count; valid = valid; least = subst (λ (x : Option ℕ). IsMissing want count x) some least }

-- ---- refused source text

pub answers_refused : (c : Command) (want : Wanted) (name file : List ℕ) (why : Refusal) (answer : FileAnswer) → is_source c ≡ true → IsSource want file (IsRefused (refusal_of why))
    → answer.text ≡ refusal_line name (refusal_of why) → answer.refused ≡ true → IsAnswerFor c want name file answer
answers_refused c want name file why answer built comes printed is_refused = answers_source c want name file answer (IsRefused (refusal_of why)) built comes (printed, is_refused)

-- ---- a file that was read whole

pub settles_read : (j : Job) (name seen : List ℕ) (read : Option (Vec ℕ Global)) (bytes : Vec ℕ Global) (c : Command) (answer : FileAnswer) → j.command ≡ c → read ≡ Some bytes → seen ≡ bytes.items → IsAnswerFor c j.want name seen answer → SettlesRead j name read answer
settles_read j name seen read bytes c answer command is same answers before file whole =
    let w : IsWholeBehind most_bytes before file (Some bytes) = subst (λ (r : Option (Vec ℕ Global)). IsWholeBehind most_bytes before file r) is whole in
    settles_within j before name file answer w.1
    (subst (λ (l : List ℕ). IsAnswerFor j.command j.want name l answer) (same ∙ w.0) (subst (λ (x : Command). IsAnswerFor x j.want name seen answer) (sym command) answers))
