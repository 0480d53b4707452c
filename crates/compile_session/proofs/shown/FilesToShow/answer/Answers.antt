use Rattle.std.proofs.Common.{None, Option, Vec, ap, arith, slice_index_or, subst, sym, ℕ, ◌∙◌, ◌≡◌}
use Rattle.std.specs.declared.alloc.Global.{Global}
use Rattle.compile_session.proofs.ShowingLemmas.{shows_refused, shows_script}
use Rattle.compile_session.proofs.StartLemmas.{get_here, script_asked}
use Rattle.compile_session.proofs.WorkerLemmas.{settles_taken}
use Rattle.compile_session.specs.Showing.{IsAskedOf}
use Rattle.compile_session.specs.Starts.{IsStart}
use Rattle.compile_session.specs.declared.start.FileStart.{FileStart}
use Rattle.session_requests.proofs.Fitting.{works_at}
use Rattle.session_requests.specs.Works.{shown_of, work_at}
use Rattle.session_words.specs.Asked as asked
use Rattle.compile_session.proofs.shown.FilesToShow.answer.Goals as goal

pub script_answer-requires-clause-script : goal.script_answer-requires-clause-script
script_answer-requires-clause-script g c =
    let can = c.requires.can in
    let below = c.requires.number in
    let n = c.args.number in
    let reads = c.args.self.now.reads.now in
    let starts = c.args.self.now.starts.now in
    let work = work_at c.args.self.now.works.now n in
    let read : Option (Vec ℕ Global) = slice_index_or reads n None in
    let given = slice_index_or starts n c.index-self-number.result in
    let few = can.read in
    let long = can.started.long in
    let at_read = get_here reads n None (omega (arith, below, few)) in
    let at_start = get_here starts n c.index-self-number.result (omega (arith, below, long)) in
    script_asked (asked.wanted c.args.self.now.job.now.want) read c.in-Script.field-0 work
    (subst (λ (f : FileStart). IsStart (asked.wanted c.args.self.now.job.now.want) read f) c.in-Script.is (can.started.each n given at_start read at_read))
    (subst (λ (f : FileStart). IsAskedOf read f work) c.in-Script.is (can.asked.each n read given at_read at_start))

pub returns-in_ok-answer-in-Script-clause-shows : goal.returns-in_ok-answer-in-Script-clause-shows
returns-in_ok-answer-in-Script-clause-shows g c =
    let can = c.requires.can in
    let below = c.requires.number in
    let n = c.args.number in
    let job = c.args.self.now.job.now in
    let reads = c.args.self.now.reads.now in
    let starts = c.args.self.now.starts.now in
    let works = c.args.self.now.works.now in
    let work = work_at works n in
    let answer = c.in_ok-answer-in-Script.answer in
    let read : Option (Vec ℕ Global) = slice_index_or reads n None in
    let given = slice_index_or starts n c.index-self-number.result in
    let few = can.read in
    let long = can.started.long in
    let at_read = get_here reads n None (omega (arith, below, few)) in
    let at_start = get_here starts n c.index-self-number.result (omega (arith, below, long)) in
    let shows = c.in_ok-answer-in-Script.ensures.shows in
    let all =
    shows_script (asked.job job) g.N.Sources.files c.as_str-name.result.now read c.in-Script.field-0 work answer can.shows
    (subst (λ (f : FileStart). IsStart (asked.wanted job.want) read f) c.in-Script.is (can.started.each n given at_start read at_read))
    (subst (λ (f : FileStart). IsAskedOf read f work) c.in-Script.is (can.asked.each n read given at_read at_start)) (works_at g.N.Sources.files works n can.fit) shows in
    record { settles = settles_taken job reads n c.index.result.now c.as_str-name.result.now None answer c.index.ensures c.as_str-name.ensures.value all.0 all.1 all.2; count = shows.count }

pub returns-in_ok-answer-in-Refused-clause-shows : goal.returns-in_ok-answer-in-Refused-clause-shows
returns-in_ok-answer-in-Refused-clause-shows g c =
    let can = c.requires.can in
    let below = c.requires.number in
    let n = c.args.number in
    let job = c.args.self.now.job.now in
    let reads = c.args.self.now.reads.now in
    let starts = c.args.self.now.starts.now in
    let work = work_at c.args.self.now.works.now n in
    let answer = c.in_ok-answer-in-Refused.answer in
    let read : Option (Vec ℕ Global) = slice_index_or reads n None in
    let given = slice_index_or starts n c.index-self-number.result in
    let few = can.read in
    let long = can.started.long in
    let at_read = get_here reads n None (omega (arith, below, few)) in
    let at_start = get_here starts n c.index-self-number.result (omega (arith, below, long)) in
    let none : work ≡ None = subst (λ (f : FileStart). IsAskedOf read f work) c.in-Refused.is (can.asked.each n read given at_read at_start) in
    let given_is = c.in_ok-answer-in-Refused.ensures in
    let all =
    shows_refused (asked.job job) c.as_str-name.result.now read c.in-Refused.why answer can.shows
    (subst (λ (f : FileStart). IsStart (asked.wanted job.want) read f) c.in-Refused.is (can.started.each n given at_start read at_read)) given_is.text given_is.refused given_is.idle in
    record { settles = settles_taken job reads n c.index.result.now c.as_str-name.result.now None answer c.index.ensures c.as_str-name.ensures.value all.0 all.1 all.2; count = given_is.idle ∙ sym (ap shown_of none) }
