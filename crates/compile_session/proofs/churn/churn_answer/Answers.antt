use Rattle.std.proofs.Common.{List, ap, arith, length, refl, subst, sym, ℕ, ◌∙◌, ◌≡◌, ◌≤◌}
use Rattle.compile_initial.specs.Initial.{IsInitialOf}
use Rattle.compile_session.proofs.ChurnLemmas.{churn_settles, churn_text, few_functions, same_functions}
use Rattle.compile_session.proofs.WorkLemmas.{settles_same}
use Rattle.compile_session.specs.Printed.{texts_in}
use Rattle.compile_session.specs.Files.{CountsChurn}
use Rattle.session_churn.specs.Counts.{HasInstructions}
use Rattle.session_specs.specs.Answer.{most_bytes}
use Rattle.session_specs.specs.Sources.{HasAll}
use Rattle.session_trial_laws.proofs.Valid.{generated_has_all, generated_is_short}
use Rattle.session_words.specs.Asked as asked
use Rattle.compile_session.proofs.churn.churn_answer.Goals as goal

pub script_in-requires-clause-short : goal.script_in-requires-clause-short
script_in-requires-clause-short g c =
    subst (λ (l : List ℕ). length l ≤ most_bytes) (sym (c.as_slice-bytes.ensures.value ∙ c.in_ok-text.ensures)) (generated_is_short c.args.number c.args.size c.requires.size)

pub script_in-requires-clause-script : goal.script_in-requires-clause-script
script_in-requires-clause-script g c =
    let all = generated_has_all c.args.number c.args.size c.requires.size in
    (all.0, all.1, subst (λ (l : List ℕ). HasAll l asked.All all.0 all.1) (sym (c.as_slice-bytes.ensures.value ∙ c.in_ok-text.ensures)) all.2)

pub initial-requires : goal.initial-requires
initial-requires g c = (c.as_slice-bytes.result.now, c.in_ok-script.ensures, refl, c.in_ok-script.ensures.tokens.short)

pub churn-requires-clause-initial : goal.churn-requires-clause-initial
churn-requires-clause-initial g c κs within = c.in_ok-before.ensures c.as_slice-bytes.result.now c.in_ok-script.ensures refl

pub churn-requires-clause-few : goal.churn-requires-clause-few
churn-requires-clause-few g c κs within =
    let is = subst (λ (l : List ℕ). IsInitialOf l c.in_ok-before.before) (c.as_slice-bytes.ensures.value ∙ c.in_ok-text.ensures) (c.in_ok-before.ensures c.as_slice-bytes.result.now c.in_ok-script.ensures refl) in
    let few = few_functions c.args.number c.args.size c.in_ok-before.before c.requires.size is in
    omega (arith, few)

pub returns-clause-settles : goal.returns-clause-settles
returns-clause-settles g c = λ workers held.
    let bytes = c.as_slice-bytes.result.now in
    let same = c.as_slice-bytes.ensures.value ∙ c.in_ok-text.ensures in
    let made = c.in_ok-before.before in
    let is : IsInitialOf bytes made = c.in_ok-before.ensures bytes c.in_ok-script.ensures refl in
    let e = c.len-functions.ensures in
    let o = c.in_ok-script.script.functions.ok.0 in
    let counted : c.len-functions.result ≡ length c.in_ok-script.script.functions.items = omega (arith, e, o) in
    let functions : c.len-functions.result ≡ length made.parts.records = counted ∙ same_functions bytes c.in_ok-script.script made c.in_ok-script.ensures is in
    settles_same (asked.Churn c.args.number c.args.size workers) held c.in_ok-line.line.items (texts_in c.in_ok-answer.answer.files.items) c.in_ok-answer.answer.refused c.in_ok-answer.ensures.text c.in_ok-answer.ensures.fine
    (churn_settles c.args.number c.args.size workers held c.in_ok-line.line.items made c.in_ok-churned.churned.instructions
    (subst (λ (l : List ℕ). IsInitialOf l made) same is)
    (subst (λ (l : List ℕ). HasInstructions l c.in_ok-churned.churned.instructions) same c.in_ok-churned.ensures.instructions)
    (c.in_ok-line.ensures ∙ ap (λ (n : ℕ). churn_text c.args.number c.args.size n c.in_ok-churned.churned.instructions) functions))

pub returns-clause-counts : goal.returns-clause-counts
returns-clause-counts g c = subst (λ (n : ℕ). CountsChurn n) (sym c.in_ok-answer.ensures.count) c.in_ok-churned.ensures.few
