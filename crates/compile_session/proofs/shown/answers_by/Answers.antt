use Rattle.std.proofs.Common.{ap, arith, length, subst, sym, ℕ, ◌^◌, ◌∙◌, ◌≡◌, ◌≤◌}
use Rattle.std.proofs.lemmas.List.Elements.{All-weaker}
use Rattle.std.specs.List.{All}
use denote.Param.{param}
use denote.Param.Send.{Quiet-if, sendable}
use mir.Syntax.{of_param}
use Rattle.compile_session.proofs.Crossing.{files_sync}
use Rattle.compile_session.proofs.ShowingLemmas.{hands_few, most_shown, settle_all, total_few, total_shown}
use Rattle.compile_session.specs.Showing.{CanBeShown, compiled_in}
use Rattle.session_requests.proofs.Crossing.{hand_send}
use Rattle.session_requests.specs.Hands.{Fits}
use Rattle.session_requests.specs.Views.{HandView}
use Rattle.session_requests.specs.Works.{shown_total}
use Rattle.session_words.specs.Asked as asked
use Rattle.compile_session.proofs.shown.answers_by.Goals as goal

pub run_tasks-requires-send-J-Share : goal.run_tasks-requires-send-J-Share
run_tasks-requires-send-J-Share g c κs within =
    let goes = hand_send (param 2 g.row.N) g.N.Sources c.type_bounds.send-N in
    record { owned = goes.owned; leaving = λ k. Quiet-if (k (of_param 4)) _ denote.Exit.unseen (λ x w. tt) (λ x w. tt) }

pub run_tasks-requires-sync-J : goal.run_tasks-requires-sync-J
run_tasks-requires-sync-J g c κs within = search (sendable, files_sync (param 2 g.row.N) g.N.Sources c.type_bounds.send-N c.type_bounds.sync-N)

pub compiled_by-requires : goal.compiled_by-requires
compiled_by-requires g c =
    let files = c.args.files.now in
    let j = asked.job files.job.now in
    let works = files.works.now in
    let can = c.requires.can in
    let answers = c.in_ok-answers.answers.items in
    let outs = c.in_ok-answers.ensures.outs in
    let long : length works ≡ files.count = can.asked.long ∙ can.started.long in
    let settled = settle_all j files.reads.now works files.count answers outs.0 outs.1 in
    let total = total_shown j files.reads.now works files.count answers outs.0 long outs.1 in
    let few = total_few j files.reads.now files.count answers settled c.requires.few in
    let hands : length c.deref.result.now ≡ c.useful_workers-workers.result =
    ap length c.deref.ensures.value ∙ (c.in_ok-answers.ensures.count ∙ (c.in_ok-hands-2.ensures.count ∙ c.in_ok-hands.ensures.count)) in
    let least = c.useful_workers-workers.ensures.1 in
    let most = c.requires.workers.1 in (
      works,
      subst (All (Fits works)) (sym c.deref.ensures.value) (All-weaker _ (Fits works) (λ (h : HandView) (p : CanBeShown g.N.Sources.files files.job.now files.reads.now files.starts.now works files.count × Fits works h). p.1) c.in_ok-answers.hands.items c.in_ok-answers.ensures.shares),
      hands_few (length c.deref.result.now) 16 (shown_total works) (omega (arith, hands, least, most)) (omega arith) (subst (λ (n : ℕ). n ≤ 2 ^ 30) total few),
    )

pub returns-clause-settles : goal.returns-clause-settles
returns-clause-settles g c =
    let files = c.args.files.now in
    settle_all (asked.job files.job.now) files.reads.now files.works.now files.count c.in_ok-answers.answers.items c.in_ok-answers.ensures.outs.0 c.in_ok-answers.ensures.outs.1

pub returns-clause-most : goal.returns-clause-most
returns-clause-most g c =
    let files = c.args.files.now in
    let j = asked.job files.job.now in
    let works = files.works.now in
    let can = c.requires.can in
    let outs = c.in_ok-answers.ensures.outs in
    let long : length works ≡ files.count = can.asked.long ∙ can.started.long in
    let total = total_shown j files.reads.now works files.count c.in_ok-answers.answers.items outs.0 long outs.1 in
    let hands : length c.deref.result.now ≡ c.useful_workers-workers.result =
    ap length c.deref.ensures.value ∙ (c.in_ok-answers.ensures.count ∙ (c.in_ok-hands-2.ensures.count ∙ c.in_ok-hands.ensures.count)) in
    let least = c.useful_workers-workers.ensures.1 in
    let fits = subst (All (Fits works)) (sym c.deref.ensures.value) (All-weaker _ (Fits works) (λ (h : HandView) (p : CanBeShown g.N.Sources.files files.job.now files.reads.now files.starts.now works files.count × Fits works h). p.1) c.in_ok-answers.hands.items c.in_ok-answers.ensures.shares) in
    most_shown files.job.now.workers (length c.deref.result.now) (shown_total works) (compiled_in c.in_ok-answers.answers.items) c.compiled_by.result (omega (arith, hands, least)) total (c.compiled_by.ensures works fits)
