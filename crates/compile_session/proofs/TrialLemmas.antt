-- A trial: the line that is printed is the answer, and there is one.
use Rattle.std.proofs.Common.{List, ap, append_assoc, arith, codes, false, length, refl, subst, sym, ℕ, ◌++◌, ◌<◌, ◌^◌, ◌∙◌, ◌≡◌}
use Rattle.std.specs.Fmt.{decimal}
use Rattle.bytecode_buf.specs.Command.{Command, Listed}
use Rattle.compile_first_pass.specs.Passes.{IsSyntaxOf}
use Rattle.compile_first_pass.specs.declared.pass.SyntaxScript.{SyntaxScript}
use Rattle.compile_session.proofs.CompiledLemmas.{script_compiles}
use Rattle.compile_session.proofs.ShownLemmas.{records_few, shown_few, shows_same}
use Rattle.compile_session.proofs.SourceLemmas.{one_shown, same_valid, sources_equal}
use Rattle.compile_session.specs.Files.{SettlesWork}
use Rattle.compile_session.specs.Starts.{IsScriptStart}
use Rattle.compile_session.specs.declared.start.ScriptStart.{ScriptStart}
use Rattle.compile_shown.proofs.Flags.{flags_count}
use Rattle.compile_shown.specs.Counting.{trues}
use Rattle.compile_shown.specs.Shown.{ShowsWanted, shown_in}
use Rattle.compile_specs.specs.Shown.{IsShown}
use Rattle.compile_wanted.specs.Shows.{Shows}
use Rattle.script_grammar.specs.Tree.{Stmts}
use Rattle.script_image.proofs.Stands.{commands_as_listed}
use Rattle.script_image.specs.Listed.{ShowsListed}
use Rattle.script_image.specs.ScriptLines.{instruction_count, listed_merged}
use Rattle.session_specs.specs.Answer.{counts_text, numbers_text, to_show}
use Rattle.session_specs.specs.Compiled.{Compiles}
use Rattle.session_specs.specs.Refusals.{Refusal}
use Rattle.session_specs.specs.Sources.{HasAll, IsRefused, IsScript, IsSource, Source}
use Rattle.session_trial.specs.Generated.{generated}
use Rattle.stencil_data.specs.MergedView.{MergedView}
use Rattle.stencil_data.specs.Named.{NamedMerged}
use Rattle.stencil_data.specs.StandsFor.{MergedStandsFor}
use Rattle.session_words.specs.Asked as asked
use Rattle.compile_specs.specs.Shown as wanting

-- a script is not refused
pub not_refused : (file : List ℕ) (items : Stmts) (count : ℕ) (why : Refusal) → HasAll file asked.All items count → IsSource asked.All file (IsRefused why) → ⊥
not_refused file items count why has refused = unlike (sources_equal asked.All file (IsScript items count) (IsRefused why) has refused)
  where
    unlike : ◌≡◌ {A = Source} (IsScript items count) (IsRefused why) → ⊥
    unlike e = cc

-- four parts that were appended, one after another
pub appended_four : (out a b c d x y z w : List ℕ) → x ≡ out ++ a → y ≡ x ++ b → z ≡ y ++ c → w ≡ z ++ d → w ≡ out ++ (((a ++ b) ++ c) ++ d)
appended_four out a b c d x y z w first second third fourth =
    fourth ∙ ap (λ (l : List ℕ). l ++ d) (third ∙ ap (λ (l : List ℕ). l ++ c) (second ∙ ap (λ (l : List ℕ). l ++ b) first ∙ append_assoc out a b) ∙ append_assoc out (a ++ b) c)
    ∙ append_assoc out ((a ++ b) ++ c) d

-- what a trial of a text prints
abbrev pub trial_text : ℕ → ℕ → ℕ → ℕ → ℕ → List ℕ
trial_text number size bytes functions count = codes "trial " ++ numbers_text number size ++ decimal bytes ++ codes " bytes, " ++ counts_text functions count

pub trial_settles : (number size workers : ℕ) (held : List ℕ → List ℕ) (text bytes : List ℕ) (items : Stmts) (functions count : ℕ) (shown : MergedView) → bytes ≡ generated number size → HasAll bytes asked.All items functions
    → (s : Shows (to_show asked.All) items (length bytes) shown) → ((named : NamedMerged (List Listed)) → MergedStandsFor ShowsListed shown named → count ≡ instruction_count named) → text ≡ trial_text number size (length bytes) functions count
    → SettlesWork (asked.Trial number size workers) held text false
trial_settles number size workers held text bytes items functions count shown is has s counted printed = record {
  is = ((items, functions, all, (s.named, is_shown, line)), refl);
  only = λ other r o.
      let t = o.0 in
      let same = same_valid (generated number size) t.0 items t.1 functions t.2.valid all.valid in
      let one = one_shown (to_show asked.All) items (length (generated number size)) t.3.0 s.named (subst (λ (x : Stmts). IsShown (to_show asked.All) x (length (generated number size)) t.3.0) same.0 t.3.1) is_shown in (
        t.3.2
            ∙ ap (λ (n : ℕ). trial_text number size (length (generated number size)) n (instruction_count (listed_merged t.3.0))) same.1
            ∙ ap (λ (m : NamedMerged (List Command)). trial_text number size (length (generated number size)) functions (instruction_count (listed_merged m))) one
            ∙ sym line,
        o.1,
      );
}
  where
    all : HasAll (generated number size) asked.All items functions
    all = subst (λ (b : List ℕ). HasAll b asked.All items functions) is has

    is_shown : IsShown (to_show asked.All) items (length (generated number size)) s.named
    is_shown = subst (λ (b : List ℕ). IsShown (to_show asked.All) items (length b) s.named) is s.shown

    line : text ≡ trial_text number size (length (generated number size)) functions (instruction_count (listed_merged s.named))
    line =
        printed
        ∙ ap (λ (b : List ℕ). trial_text number size (length b) functions count) is
        ∙ ap (λ (n : ℕ). trial_text number size (length (generated number size)) functions n) (counted (listed_merged s.named) (commands_as_listed shown s.named s.stands))

-- ---- a script all of whose functions are compiled

pub shows_whole : (bytes : List ℕ) (script : SyntaxScript) (given : ScriptStart) (shown : MergedView) (s : IsSyntaxOf bytes script) → IsScriptStart asked.All bytes given → ShowsWanted wanting.All bytes given.initial shown → Shows wanting.All s.items (length bytes) shown
shows_whole bytes script given shown s started shows =
    shows_same bytes started.is.items s.items (length given.initial.parts.records) (length script.functions.items) wanting.All shown started.is.valid s.valid (shows started.is)

whole_count : (bytes : List ℕ) (given : ScriptStart) (count : ℕ) → IsScriptStart asked.All bytes given → count ≡ trues given.shown.items → count ≡ shown_in wanting.All given.initial
whole_count bytes given count started is = is ∙ flags_count wanting.All given.initial.parts.records given.shown.items started.flags

pub compiles_whole : (bytes : List ℕ) (script : SyntaxScript) (given : ScriptStart) (count : ℕ) (s : IsSyntaxOf bytes script) → IsScriptStart asked.All bytes given → count ≡ trues given.shown.items → Compiles asked.All s.items (length bytes) count
compiles_whole bytes script given count s started is = script_compiles asked.All bytes script given.initial count started.is (whole_count bytes given count started is) s

pub few_whole : (bytes : List ℕ) (given : ScriptStart) (count : ℕ) → IsScriptStart asked.All bytes given → count ≡ trues given.shown.items → count < 2 ^ 32
few_whole bytes given count started is =
    let same = whole_count bytes given count started is in
    let few = shown_few wanting.All given.initial in
    let records = records_few bytes given.initial started.is in
    omega (arith, same, few, records)
