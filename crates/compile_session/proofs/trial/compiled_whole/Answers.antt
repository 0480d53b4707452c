use Rattle.std.proofs.Common.{List, Option, Some, [], ap, arith, length, subst, sym, ℕ, ◌*◌, ◌^◌, ◌∙◌, ◌∷◌, ◌≡◌, ◌≤◌}
use Rattle.std.proofs.lemmas.List.{length-set}
use Rattle.std.proofs.lemmas.List.Elements.{All-set}
use Rattle.std.specs.List.{All}
use Rattle.compile_session.proofs.CountingLemmas.{times_most}
use Rattle.compile_session.proofs.ShowingLemmas.{merged_own}
use Rattle.compile_session.proofs.TrialLemmas.{few_whole}
use Rattle.compile_shown.specs.Counting.{trues}
use Rattle.session_requests.specs.Hands.{Fits}
use Rattle.session_requests.specs.Views.{WorkView}
use Rattle.session_requests.specs.Works.{shown_total}
use Rattle.session_specs.specs.Answer.{to_show}
use Rattle.session_words.specs.Asked as asked
use Rattle.compile_session.proofs.trial.compiled_whole.Goals as goal

pub compiled_by-requires : goal.compiled_by-requires
compiled_by-requires g c =
    let works : List (Option WorkView) = Some c.in_ok-work.work ∷ [] in
    let known = c.in_ok-hands-2.hands.items in
    let fits = All-set (Fits works) known 0 c.merged.new.self c.in_ok-stencil.ensures.fits c.in_ok-hands-2.ensures.fit in
    let long : length c.deref-3.result.now ≡ c.args.workers =
    ap length c.deref-3.ensures.value ∙ (length-set known 0 c.merged.new.self ∙ (c.in_ok-hands-2.ensures.count ∙ c.in_ok-hands.ensures.count)) in
    let few = few_whole c.args.bytes.now c.args.start.now c.in_ok-work.work.count c.requires.start (c.in_ok-work.ensures.count ∙ ap trues c.deref.ensures.value) in
    let most = c.requires.workers.1 in
    let all = times_most (length c.deref-3.result.now) 16 (shown_total works) (2 ^ 32) (omega (arith, long, most)) (omega (arith, few)) in (
      works,
      subst (All (Fits works)) (sym c.deref-3.ensures.value) fits,
      omega (arith, all),
    )

pub returns-clause-shows : goal.returns-clause-shows
returns-clause-shows g c =
    let made = c.in_ok-work.ensures.board in
    merged_own (to_show asked.All) c.args.bytes.now c.args.start.now c.in_ok-work.work c.in_ok-stencil.stencil made.bytes_are made.initial_is (c.in_ok-work.ensures.shown ∙ c.deref.ensures.value) c.requires.start.flags c.in_ok-stencil.ensures.merged

pub returns-clause-most : goal.returns-clause-most
returns-clause-most g c =
    let works : List (Option WorkView) = Some c.in_ok-work.work ∷ [] in
    let known = c.in_ok-hands-2.hands.items in
    let fits = All-set (Fits works) known 0 c.merged.new.self c.in_ok-stencil.ensures.fits c.in_ok-hands-2.ensures.fit in
    let long : length c.deref-3.result.now ≡ c.args.workers =
    ap length c.deref-3.ensures.value ∙ (length-set known 0 c.merged.new.self ∙ (c.in_ok-hands-2.ensures.count ∙ c.in_ok-hands.ensures.count)) in
    let one : c.shown_in.result ≡ c.in_ok-work.work.count = c.shown_in.ensures in
    let same : shown_total works ≡ c.shown_in.result = omega (arith, one) in
    subst (λ (n : ℕ). c.compiled_by.result ≤ c.args.workers * n) same
    (subst (λ (n : ℕ). c.compiled_by.result ≤ n * shown_total works) long (c.compiled_by.ensures works (subst (All (Fits works)) (sym c.deref-3.ensures.value) fits)))
