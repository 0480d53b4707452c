use Rattle.std.proofs.Common.{List, [], ap, arith, length, map, refl, subst, sym, take, ℕ, ◌*◌, ◌++◌, ◌+◌, ◌^◌, ◌∙◌, ◌≡◌, ◌≤◌}
use Rattle.std.proofs.lemmas.Option.{slice_get_read}
use Rattle.std.specs.String.{string_bytes}
use Rattle.compile_session.proofs.CountingLemmas.{counted_end, counted_more, counting_start, times_most}
use Rattle.compile_session.proofs.FilesLemmas.{answered_end, answered_more, answering_start, few_at, or_first, or_second}
use Rattle.compile_session.proofs.ShowingLemmas.{sum_all, sum_next, total_few}
use Rattle.compile_session.proofs.TextLemmas.{texts_all, texts_next}
use Rattle.compile_session.proofs.files.answers_of.Goals.{else-refused, then-refused}
use Rattle.compile_session.specs.Printed.{texts_in}
use Rattle.compile_session.specs.Files.{SettlesAll}
use Rattle.compile_session.specs.Showing.{compiled_in}
use Rattle.compile_session.specs.Workers.{SettleFiles}
use Rattle.compile_session.specs.declared.answer.FileAnswer.{FileAnswer}
use Rattle.session_words.specs.Asked as asked
use Rattle.compile_session.proofs.files.answers_of.Goals as goal

pub file_by_file-requires-clause-can : goal.file_by_file-requires-clause-can
file_by_file-requires-clause-can g c = λ κs within.
    let least = c.min-count.ensures in
    let files = c.len.ensures in
    let long = c.args.job.now.files.ok.0 in
    record { within = c.requires.within; named = omega (arith, least, files, long); read = omega (arith, least) }

pub file_by_file-requires-clause-few : goal.file_by_file-requires-clause-few
file_by_file-requires-clause-few g c = λ κs within.
    let least = c.min-count.ensures in
    let files = c.len.ensures in
    let long = c.args.job.now.files.ok.0 in
    let most = c.requires.files in
    omega (arith, least, files, long, most)

pub loop-answer-init : goal.loop-answer-init
loop-answer-init g c = (answering_start (asked.job c.args.job.now) (map string_bytes c.args.job.now.files.items) c.args.reads.now [] refl, counting_start (asked.job c.args.job.now) (map string_bytes c.args.job.now.files.items) c.args.reads.now, refl)

pub overflow_add-compiled : goal.overflow_add-compiled
overflow_add-compiled g c =
    let least = c.min-count.ensures in
    let files = c.len.ensures in
    let long = c.args.job.now.files.ok.0 in
    let same = c.deref-answer-items.ensures.value in
    let at = slice_get_read c.deref-answer-items.result.now (length c.deref-answer-items.result.now) c.loop-answer.answer-index c.answer-item.result refl c.loop-answer-test.true c.answer-item.is in
    let few =
    few_at c.args.job.now c.args.reads.now c.min-count.result c.loop-answer.answer-index c.deref-answer-items.result.now c.answer-item.result
    (subst (λ (l : List FileAnswer). SettleFiles (asked.job c.args.job.now) c.args.reads.now c.min-count.result l) (sym same) c.in_ok-files.ensures.settles) at in
    let below = few.0 in
    let one = few.1 in
    let so_far = c.loop-answer.invariant.1.few in
    let most = c.requires.files in
    omega (arith, least, files, long, below, one, so_far, most)

pub loop-answer-preserved : goal.loop-answer-preserved
loop-answer-preserved g c =
    let least = c.min-count.ensures in
    let files = c.len.ensures in
    let long = c.args.job.now.files.ok.0 in
    let same = c.deref-answer-items.ensures.value in
    let at = slice_get_read c.deref-answer-items.result.now (length c.deref-answer-items.result.now) c.loop-answer.answer-index c.answer-item.result refl c.loop-answer-test.true c.answer-item.is in
    let all = subst (λ (l : List FileAnswer). SettleFiles (asked.job c.args.job.now) c.args.reads.now c.min-count.result l) (sym same) c.in_ok-files.ensures.settles in
    let named : c.min-count.result ≤ length c.args.job.now.files.items = omega (arith, least, files, long) in
    let read : c.min-count.result ≤ length c.args.reads.now = omega (arith, least) in
    let before = c.loop-answer.invariant.2 in
    let one = sum_next c.deref-answer-items.result.now c.loop-answer.answer-index (c.loop-answer.answer-index + 1) c.answer-item.result refl at in
    let summed : c.loop-answer.compiled + c.answer-item.result.compiled ≡ compiled_in (take (c.loop-answer.answer-index + 1) c.deref-answer-items.result.now) = omega (arith, before, one) in (
      answered_more c.args.job.now c.args.reads.now c.min-count.result c.loop-answer.answer-index _ c.deref-answer-items.result.now (texts_in (take c.loop-answer.answer-index c.deref-answer-items.result.now)) (texts_in (take (c.loop-answer.answer-index + 1) c.deref-answer-items.result.now)) c.loop-answer.refused c.if-refused.refused c.answer-item.result
          all
          named read at
          (texts_next c.deref-answer-items.result.now c.loop-answer.answer-index (c.loop-answer.answer-index + 1) c.answer-item.result refl at)
          (elim c.if-refused.branch [
            | then-refused w ↦ or_first c.loop-answer.refused c.answer-item.result.refused c.if-refused.refused w.if-refused.true (w.refused-is ∙ w.if-refused.true)
            | else-refused w ↦ or_second c.loop-answer.refused c.answer-item.result.refused c.if-refused.refused w.if-refused.false w.refused-is
          ])
          refl c.loop-answer.invariant.0,
      counted_more c.args.job.now c.args.reads.now c.min-count.result c.loop-answer.answer-index _ c.deref-answer-items.result.now c.loop-answer.compiled _ c.answer-item.result all named read at refl refl c.loop-answer.invariant.1,
      summed,
    )

pub returns-clause-settles : goal.returns-clause-settles
returns-clause-settles g c =
    let least = c.min-count.ensures in
    let files = c.len.ensures in
    let long = c.args.job.now.files.ok.0 in
    let same = c.deref-answer-items.ensures.value in
    let counted = (subst (λ (l : List FileAnswer). SettleFiles (asked.job c.args.job.now) c.args.reads.now c.min-count.result l) (sym same) c.in_ok-files.ensures.settles).long in
    let past = c.loop-answer-test.false in
    let all = texts_all c.deref-answer-items.result.now c.loop-answer.answer-index (omega (arith, past)) ∙ ap texts_in same in
    λ held whole.
    subst (λ (text : List ℕ). SettlesAll (asked.job c.args.job.now) held 0 (map string_bytes c.args.job.now.files.items) text c.loop-answer.refused) all
    (answered_end c.args.job.now c.args.reads.now c.min-count.result c.loop-answer.answer-index (texts_in (take c.loop-answer.answer-index c.deref-answer-items.result.now)) c.loop-answer.refused (omega (arith, least, files, long)) (omega (arith, counted, past)) c.loop-answer.invariant.0 held whole)

pub returns-clause-counts : goal.returns-clause-counts
returns-clause-counts g c =
    let least = c.min-count.ensures in
    let files = c.len.ensures in
    let long = c.args.job.now.files.ok.0 in
    let same = c.deref-answer-items.ensures.value in
    let counted = (subst (λ (l : List FileAnswer). SettleFiles (asked.job c.args.job.now) c.args.reads.now c.min-count.result l) (sym same) c.in_ok-files.ensures.settles).long in
    let past = c.loop-answer-test.false in
    counted_end c.args.job.now c.args.reads.now c.min-count.result c.loop-answer.answer-index c.loop-answer.compiled (omega (arith, least, files, long)) (omega (arith, counted, past)) c.requires.files c.loop-answer.invariant.1

pub returns-clause-compiled : goal.returns-clause-compiled
returns-clause-compiled g c =
    let least = c.min-count.ensures in
    let files = c.len.ensures in
    let long = c.args.job.now.files.ok.0 in
    let most = c.requires.files in
    let settles = c.in_ok-files.ensures.settles in
    let past = c.loop-answer-test.false in
    let all = sum_all c.deref-answer-items.result.now c.loop-answer.answer-index (omega (arith, past)) in
    let sum : c.loop-answer.compiled ≡ compiled_in c.in_ok-files.files.answers.items = c.loop-answer.invariant.2 ∙ (all ∙ ap compiled_in c.deref-answer-items.ensures.value) in
    let few = total_few (asked.job c.args.job.now) c.args.reads.now c.min-count.result c.in_ok-files.files.answers.items settles (omega (arith, least, files, long, most)) in
    let by = times_most c.args.job.now.workers 16 (compiled_in c.in_ok-files.files.answers.items) (2 ^ 30) c.requires.workers.1 few in
    let bound = c.in_ok-files.ensures.most in
    record { most = subst (λ (n : ℕ). c.in_ok-files.files.compiled ≤ c.args.job.now.workers * n) (sym sum) bound; few = omega (arith, by, bound) }
