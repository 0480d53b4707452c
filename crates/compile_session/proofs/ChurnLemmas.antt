-- A text whose functions are compiled again and again: the line that is printed is the answer, and there is one.
use Rattle.std.proofs.Common.{List, ap, arith, false, length, map, refl, sym, ℕ, ◌++◌, ◌∙◌, ◌≡◌, ◌≤◌}
use Rattle.std.specs.Prelude.{codes}
use Rattle.bytecode_buf.specs.Command.{Command}
use Rattle.compile_first_pass.specs.Passes.{IsSyntaxOf}
use Rattle.compile_first_pass.specs.declared.pass.SyntaxScript.{SyntaxScript}
use Rattle.compile_initial.specs.Initial.{IsInitialOf}
use Rattle.compile_initial.specs.declared.InitialStencil.{InitialStencil}
use Rattle.compile_session.proofs.SourceLemmas.{same_valid}
use Rattle.compile_session.specs.Files.{SettlesWork}
use Rattle.compile_specs.specs.Eager.{Site, compiled_at}
use Rattle.compile_specs.specs.Shown.{All, IsShown, shown}
use Rattle.parse_track.specs.Notes.{closed_names}
use Rattle.script_image.specs.ScriptLines.{instruction_count, listed_merged}
use Rattle.session_churn.specs.Counts.{HasInstructions}
use Rattle.session_specs.specs.Answer.{counts_text, numbers_text}
use Rattle.session_trial.specs.Generated.{generated}
use Rattle.session_trial_laws.proofs.Valid.{generated_is_valid}
use Rattle.stencil_data.specs.Named.{NamedFunction, NamedInitial, NamedMerged}
use Rattle.session_words.specs.Asked as asked

-- a script with all its functions
shown_whole : (bytes : List ℕ) (made : InitialStencil) (is : IsInitialOf bytes made) → (merged : NamedMerged (List Command)) × IsShown All is.items (length bytes) merged
shown_whole bytes made is =
    let fs : List (NamedFunction (List Command)) = map (λ (s : Site). (compiled_at s).part) is.all in (
      shown All (closed_names is.items) is.named.top fs,
      (is.named.top, fs, record { script = ap (λ (n : NamedInitial (List Command)). n.top) is.is; all = is.all; are = is.functions; each = refl }, refl),
    )

-- what is printed
abbrev pub churn_text : ℕ → ℕ → ℕ → ℕ → List ℕ
churn_text number size functions count = codes "churn " ++ numbers_text number size ++ counts_text functions count

pub churn_settles : (number size workers : ℕ) (held : List ℕ → List ℕ) (text : List ℕ) (made : InitialStencil) (count : ℕ) → IsInitialOf (generated number size) made → HasInstructions (generated number size) count
    → text ≡ churn_text number size (length made.parts.records) count → SettlesWork (asked.Churn number size workers) held text false
churn_settles number size workers held text made count is has printed =
    let whole = shown_whole (generated number size) made is in
    let functions : ℕ = length made.parts.records in
    record {
      is = ((is.items, functions, record { valid = is.valid; present = refl }, (whole.0, whole.1, printed ∙ ap (λ (n : ℕ). churn_text number size functions n) (has is.items functions whole.0 is.valid whole.1))), refl);
      only = λ other r o.
          let t = o.0 in
          let same = same_valid (generated number size) t.0 is.items t.1 functions t.2.valid is.valid in (
            t.3.2
                ∙ ap (λ (n : ℕ). churn_text number size n (instruction_count (listed_merged t.3.0))) same.1
                ∙ ap (λ (n : ℕ). churn_text number size functions n) (sym (has t.0 t.1 t.3.0 t.2.valid t.3.1))
                ∙ sym printed,
            o.1,
          );
    }

-- the functions that the first pass found are those that are kept before any is compiled
pub same_functions : (bytes : List ℕ) (script : SyntaxScript) (made : InitialStencil) → IsSyntaxOf bytes script → IsInitialOf bytes made → length script.functions.items ≡ length made.parts.records
same_functions bytes script made syntax is = (same_valid bytes syntax.items is.items (length script.functions.items) (length made.parts.records) syntax.valid is.valid).1

-- a generated text has few functions
pub few_functions : (number size : ℕ) (made : InitialStencil) → size ≤ 100000 → IsInitialOf (generated number size) made → length made.parts.records ≤ 200000
few_functions number size made le is =
    let g = generated_is_valid number size le in
    let same = (same_valid (generated number size) is.items g.0 (length made.parts.records) g.1 is.valid g.2).1 in
    let few = g.3 in
    omega (arith, same, few, le)
