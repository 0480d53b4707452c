use Rattle.std.proofs.Common.{List, ap, arith, length, refl, subst, sym, ℕ, ◌^◌, ◌∙◌, ◌≡◌, ◌≤◌}
use Rattle.compile_session.proofs.CountLemmas.{trial_counts}
use Rattle.compile_session.proofs.CountingLemmas.{times_most}
use Rattle.compile_session.proofs.TrialLemmas.{compiles_whole, few_whole, shows_whole, trial_settles, trial_text}
use Rattle.compile_session.proofs.WorkLemmas.{settles_same}
use Rattle.compile_session.specs.Printed.{texts_in}
use Rattle.compile_session.specs.Compiled.{IsCompiledBy}
use Rattle.compile_session.specs.Files.{CountsTrial}
use Rattle.session_specs.specs.Answer.{most_bytes}
use Rattle.session_specs.specs.Sources.{HasAll}
use Rattle.session_trial_laws.proofs.Valid.{generated_has_all, generated_is_short}
use Rattle.session_words.specs.Asked as asked
use Rattle.compile_session.proofs.trial.trial_answer.Goals as goal

pub script_in-requires-clause-short : goal.script_in-requires-clause-short
script_in-requires-clause-short g c =
    subst (λ (l : List ℕ). length l ≤ most_bytes) (sym (c.as_slice-bytes.ensures.value ∙ c.in_ok-text.ensures)) (generated_is_short c.args.number c.args.size c.requires.size)

pub script_in-requires-clause-script : goal.script_in-requires-clause-script
script_in-requires-clause-script g c =
    let all = generated_has_all c.args.number c.args.size c.requires.size in
    (all.0, all.1, subst (λ (l : List ℕ). HasAll l asked.All all.0 all.1) (sym (c.as_slice-bytes.ensures.value ∙ c.in_ok-text.ensures)) all.2)

pub script_start-requires : goal.script_start-requires
script_start-requires g c = record { is = c.in_ok-script.ensures; present = refl }

pub returns-clause-settles : goal.returns-clause-settles
returns-clause-settles g c = λ by held.
    let is = c.in_ok-script.ensures in
    let functions = length c.in_ok-script.script.functions.items in
    let count = c.instructions-count.result in
    settles_same (asked.Trial c.args.number c.args.size by) held c.in_ok-line.line.items (texts_in c.in_ok-answer.answer.files.items) c.in_ok-answer.answer.refused c.in_ok-answer.ensures.text c.in_ok-answer.ensures.fine
    (trial_settles c.args.number c.args.size by held c.in_ok-line.line.items c.as_slice-bytes.result.now is.items functions count c.in_ok-whole.whole.stencil (c.as_slice-bytes.ensures.value ∙ c.in_ok-text.ensures) (record { valid = is.valid; present = refl })
    (shows_whole c.as_slice-bytes.result.now c.in_ok-script.script c.in_ok-start.start c.in_ok-whole.whole.stencil is c.in_ok-start.ensures c.in_ok-whole.ensures.shows) c.instructions-count.ensures
    (let e = c.len-functions.ensures in
    let o = c.in_ok-script.script.functions.ok.0 in
    let same : c.len-functions.result ≡ functions = omega (arith, e, o) in
    c.in_ok-line.ensures ∙ ap (λ (n : ℕ). trial_text c.args.number c.args.size (length c.as_slice-bytes.result.now) n count) same))

pub returns-clause-counts : goal.returns-clause-counts
returns-clause-counts g c =
    let is = c.in_ok-script.ensures in
    subst (λ (n : ℕ). CountsTrial c.args.number c.args.size n) (sym c.in_ok-answer.ensures.count)
    (trial_counts c.args.number c.args.size c.as_slice-bytes.result.now is.items (length c.in_ok-script.script.functions.items) c.in_ok-whole.whole.shown (c.as_slice-bytes.ensures.value ∙ c.in_ok-text.ensures) (record { valid = is.valid; present = refl })
    (compiles_whole c.as_slice-bytes.result.now c.in_ok-script.script c.in_ok-start.start c.in_ok-whole.whole.shown is c.in_ok-start.ensures c.in_ok-whole.ensures.shown)
    (few_whole c.as_slice-bytes.result.now c.in_ok-start.start c.in_ok-whole.whole.shown c.in_ok-start.ensures c.in_ok-whole.ensures.shown))

pub returns-clause-compiled : goal.returns-clause-compiled
returns-clause-compiled g c =
    let few = few_whole c.as_slice-bytes.result.now c.in_ok-start.start c.in_ok-whole.whole.shown c.in_ok-start.ensures c.in_ok-whole.ensures.shown in
    let below = times_most c.args.workers 16 c.in_ok-whole.whole.shown (2 ^ 32) c.requires.workers.1 (omega (arith, few)) in
    let most = c.in_ok-whole.ensures.most in
    subst (λ (n : ℕ). IsCompiledBy c.args.workers n c.in_ok-whole.whole.compiled) (sym c.in_ok-answer.ensures.count) (record { most = most; few = omega (arith, below, most) })
