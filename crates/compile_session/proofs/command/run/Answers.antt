use Rattle.std.proofs.Common.{ap, arith, map}
use Rattle.std.specs.String.{string_bytes}
use Rattle.compile_session.proofs.RunLemmas.{GainsFront-all, counted_seen, front_of_answer, may_show, of_alike, once_shown, only_written, opened_all, opened_some, opened_whole, risen, risen_most, risen_none, risen_sum, settled_seen, shows_compiled, turned_front}
use Rattle.compile_session.proofs.WorkLemmas.{work_bounded}
use Rattle.compile_session.specs.Printed.{texts_in}
use Rattle.session_words.specs.Asked.{asked}
use Rattle.compile_session.proofs.command.run.Goals as goal

pub returns-in-Ok-write_answers-clause-front : goal.returns-in-Ok-write_answers-clause-front
returns-in-Ok-write_answers-clause-front g c = λ held tells out refused a.
    let s = settled_seen (asked c.in-Ok.work) (g.L.Shelf.held c.args.shelf.now) held (map string_bytes c.files_of.result.now) c.in-Ok-read_files.reads.items c.deref.result.now c.in-Ok-answer_to.given.answer c.files_of.ensures c.deref.ensures.value tells c.in-Ok-read_files.ensures.read c.in-Ok-answer_to.ensures.settles in
    front_of_answer (map string_bytes c.args.words.now) (asked c.in-Ok.work) held (texts_in c.in-Ok-answer_to.given.answer.files.items) (texts_in c.deref-2.result.now) c.in-Ok-answer_to.given.answer.refused (g.K.Sink.taken c.args.sink.now) (g.K.Sink.taken c.write_answers.new.sink)
    c.in-Ok.ensures s (ap texts_in c.deref-2.ensures.value) (GainsFront-all (g.K.Sink.taken c.args.sink.now) (g.K.Sink.taken c.write_answers.new.sink) (texts_in c.deref-2.result.now) c.in-Ok-write_answers.ensures.took) out refused a

pub returns-in-Err-answer_to-clause-names : goal.returns-in-Err-answer_to-clause-names
returns-in-Err-answer_to-clause-names g c =
    turned_front (map string_bytes c.args.words.now) (asked c.in-Ok.work) (map string_bytes c.files_of.result.now) c.in-Ok-read_files.reads.items (g.L.Shelf.turned c.args.shelf.now) (g.L.Shelf.turned c.read_files.new.shelf) c.in-Ok.ensures c.files_of.ensures c.in-Ok-read_files.ensures.names

pub returns-in-Ok-write_answers-clause-names : goal.returns-in-Ok-write_answers-clause-names
returns-in-Ok-write_answers-clause-names g c =
    turned_front (map string_bytes c.args.words.now) (asked c.in-Ok.work) (map string_bytes c.files_of.result.now) c.in-Ok-read_files.reads.items (g.L.Shelf.turned c.args.shelf.now) (g.L.Shelf.turned c.read_files.new.shelf) c.in-Ok.ensures c.files_of.ensures c.in-Ok-read_files.ensures.names

pub returns-in-Err-Failed-write_answers-clause-names : goal.returns-in-Err-Failed-write_answers-clause-names
returns-in-Err-Failed-write_answers-clause-names g c =
    turned_front (map string_bytes c.args.words.now) (asked c.in-Ok.work) (map string_bytes c.files_of.result.now) c.in-Ok-read_files.reads.items (g.L.Shelf.turned c.args.shelf.now) (g.L.Shelf.turned c.read_files.new.shelf) c.in-Ok.ensures c.files_of.ensures c.in-Ok-read_files.ensures.names

pub returns-clause-names : goal.returns-clause-names
returns-clause-names g c =
    turned_front (map string_bytes c.args.words.now) (asked c.in-Ok.work) (map string_bytes c.files_of.result.now) c.in-Ok-read_files.reads.items (g.L.Shelf.turned c.args.shelf.now) (g.L.Shelf.turned c.read_files.new.shelf) c.in-Ok.ensures c.files_of.ensures c.in-Ok-read_files.ensures.names

pub returns-in-Ok-write_answers-clause-only : goal.returns-in-Ok-write_answers-clause-only
returns-in-Ok-write_answers-clause-only g c = λ held tells whole out refused a.
    let s = settled_seen (asked c.in-Ok.work) (g.L.Shelf.held c.args.shelf.now) held (map string_bytes c.files_of.result.now) c.in-Ok-read_files.reads.items c.deref.result.now c.in-Ok-answer_to.given.answer c.files_of.ensures c.deref.ensures.value tells c.in-Ok-read_files.ensures.read c.in-Ok-answer_to.ensures.settles in
    only_written (map string_bytes c.args.words.now) (asked c.in-Ok.work) held (texts_in c.in-Ok-answer_to.given.answer.files.items) (texts_in c.deref-2.result.now) c.in-Ok-answer_to.given.answer.refused (g.K.Sink.taken c.args.sink.now) (g.K.Sink.taken c.write_answers.new.sink) c.status_of.result c.in-Ok.ensures s (ap texts_in c.deref-2.ensures.value) c.in-Ok-write_answers.ensures.took c.status_of.ensures out refused a

pub returns-in-Ok-write_answers-clause-alike : goal.returns-in-Ok-write_answers-clause-alike
returns-in-Ok-write_answers-clause-alike g c = λ held tells whole others alike out refused a.
    let s = settled_seen (asked c.in-Ok.work) (g.L.Shelf.held c.args.shelf.now) held (map string_bytes c.files_of.result.now) c.in-Ok-read_files.reads.items c.deref.result.now c.in-Ok-answer_to.given.answer c.files_of.ensures c.deref.ensures.value tells c.in-Ok-read_files.ensures.read c.in-Ok-answer_to.ensures.settles in
    only_written (map string_bytes c.args.words.now) (asked c.in-Ok.work) held (texts_in c.in-Ok-answer_to.given.answer.files.items) (texts_in c.deref-2.result.now) c.in-Ok-answer_to.given.answer.refused (g.K.Sink.taken c.args.sink.now) (g.K.Sink.taken c.write_answers.new.sink) c.status_of.result c.in-Ok.ensures s (ap texts_in c.deref-2.ensures.value) c.in-Ok-write_answers.ensures.took c.status_of.ensures out refused (of_alike (map string_bytes c.args.words.now) others held out refused alike a)

pub returns-in-Err-answer_to-clause-opened : goal.returns-in-Err-answer_to-clause-opened
returns-in-Err-answer_to-clause-opened g c = λ held tells. opened_whole (map string_bytes c.args.words.now) (asked c.in-Ok.work) held (map string_bytes c.files_of.result.now) (g.L.Shelf.turned c.args.shelf.now) (g.L.Shelf.turned c.read_files.new.shelf) c.in-Ok.ensures c.files_of.ensures (c.in-Ok-read_files.ensures.opened held tells)

pub returns-in-Ok-write_answers-clause-opened : goal.returns-in-Ok-write_answers-clause-opened
returns-in-Ok-write_answers-clause-opened g c = λ held tells. opened_whole (map string_bytes c.args.words.now) (asked c.in-Ok.work) held (map string_bytes c.files_of.result.now) (g.L.Shelf.turned c.args.shelf.now) (g.L.Shelf.turned c.read_files.new.shelf) c.in-Ok.ensures c.files_of.ensures (c.in-Ok-read_files.ensures.opened held tells)

pub returns-in-Err-Failed-write_answers-clause-opened : goal.returns-in-Err-Failed-write_answers-clause-opened
returns-in-Err-Failed-write_answers-clause-opened g c = λ held tells. opened_whole (map string_bytes c.args.words.now) (asked c.in-Ok.work) held (map string_bytes c.files_of.result.now) (g.L.Shelf.turned c.args.shelf.now) (g.L.Shelf.turned c.read_files.new.shelf) c.in-Ok.ensures c.files_of.ensures (c.in-Ok-read_files.ensures.opened held tells)

pub returns-clause-opened : goal.returns-clause-opened
returns-clause-opened g c = λ held tells. opened_whole (map string_bytes c.args.words.now) (asked c.in-Ok.work) held (map string_bytes c.files_of.result.now) (g.L.Shelf.turned c.args.shelf.now) (g.L.Shelf.turned c.read_files.new.shelf) c.in-Ok.ensures c.files_of.ensures (c.in-Ok-read_files.ensures.opened held tells)

pub returns-in-Err-Failed-clause-opened : goal.returns-in-Err-Failed-clause-opened
returns-in-Err-Failed-clause-opened g c = λ held tells. opened_some (map string_bytes c.args.words.now) (asked c.in-Ok.work) held (map string_bytes c.files_of.result.now) (g.L.Shelf.turned c.args.shelf.now) (g.L.Shelf.turned c.read_files.new.shelf) c.in-Ok.ensures c.files_of.ensures (c.in-Err-Failed.ensures.opened held tells)

pub returns-in-Err-NoMemory-clause-opened : goal.returns-in-Err-NoMemory-clause-opened
returns-in-Err-NoMemory-clause-opened g c = λ held tells. opened_some (map string_bytes c.args.words.now) (asked c.in-Ok.work) held (map string_bytes c.files_of.result.now) (g.L.Shelf.turned c.args.shelf.now) (g.L.Shelf.turned c.read_files.new.shelf) c.in-Ok.ensures c.files_of.ensures (c.in-Err-NoMemory.ensures.opened held tells)

pub returns-in-Ok-write_answers-clause-all_names : goal.returns-in-Ok-write_answers-clause-all_names
returns-in-Ok-write_answers-clause-all_names g c = λ held tells whole. opened_all (map string_bytes c.args.words.now) (asked c.in-Ok.work) held (map string_bytes c.files_of.result.now) (g.L.Shelf.turned c.args.shelf.now) (g.L.Shelf.turned c.read_files.new.shelf) c.in-Ok.ensures c.files_of.ensures (c.in-Ok-read_files.ensures.opened held tells)

pub answer_to-requires-clause-bounded : goal.answer_to-requires-clause-bounded
answer_to-requires-clause-bounded g c κs within = work_bounded (map string_bytes c.args.words.now) (asked c.in-Ok.work) c.in-Ok.ensures

pub returns-in-Ok-write_answers-clause-sum : goal.returns-in-Ok-write_answers-clause-sum
returns-in-Ok-write_answers-clause-sum g c =
    risen_sum (g.T.Ticks.count c.args.tally.now) (g.T.Ticks.room c.args.tally.now) (g.T.Ticks.count c.count_compiled.new.tally) (g.T.Ticks.room c.count_compiled.new.tally) c.in-Ok-answer_to.given.compiled c.count_compiled.ensures

pub returns-in-Ok-write_answers-clause-rising : goal.returns-in-Ok-write_answers-clause-rising
returns-in-Ok-write_answers-clause-rising g c =
    risen (g.T.Ticks.count c.args.tally.now) (g.T.Ticks.room c.args.tally.now) (g.T.Ticks.count c.count_compiled.new.tally) (g.T.Ticks.room c.count_compiled.new.tally) c.in-Ok-answer_to.given.compiled c.count_compiled.ensures

pub returns-in-Ok-write_answers-clause-lazy : goal.returns-in-Ok-write_answers-clause-lazy
returns-in-Ok-write_answers-clause-lazy g c = λ held tells workers compiled may.
    let shows = shows_compiled (map string_bytes c.args.words.now) (asked c.in-Ok.work) held c.in-Ok-answer_to.given.answer.compiled c.in-Ok.ensures (counted_seen (asked c.in-Ok.work) (g.L.Shelf.held c.args.shelf.now) held (map string_bytes c.files_of.result.now) c.in-Ok-read_files.reads.items c.deref.result.now c.in-Ok-answer_to.given.answer.compiled c.files_of.ensures c.deref.ensures.value tells c.in-Ok-read_files.ensures.read c.in-Ok-answer_to.ensures.counts (once_shown (map string_bytes c.args.words.now) (asked c.in-Ok.work) held compiled c.in-Ok.ensures (may_show (map string_bytes c.args.words.now) held workers compiled may))) in
    risen_most (g.T.Ticks.count c.args.tally.now) (g.T.Ticks.room c.args.tally.now) (g.T.Ticks.count c.count_compiled.new.tally) (g.T.Ticks.room c.count_compiled.new.tally) c.in-Ok-answer_to.given.compiled c.count_compiled.ensures (map string_bytes c.args.words.now) (asked c.in-Ok.work) c.in-Ok-answer_to.given.answer.compiled c.in-Ok.ensures c.in-Ok-answer_to.ensures.compiled held shows workers compiled may

pub returns-in-Ok-write_answers-clause-idle : goal.returns-in-Ok-write_answers-clause-idle
returns-in-Ok-write_answers-clause-idle g c = λ none. risen_none (g.T.Ticks.count c.args.tally.now) (g.T.Ticks.room c.args.tally.now) (g.T.Ticks.count c.count_compiled.new.tally) (g.T.Ticks.room c.count_compiled.new.tally) c.in-Ok-answer_to.given.compiled c.count_compiled.ensures (map string_bytes c.args.words.now) (asked c.in-Ok.work) c.in-Ok-answer_to.given.answer.compiled c.in-Ok.ensures c.in-Ok-answer_to.ensures.compiled c.deref.result.now c.in-Ok-answer_to.ensures.counts none

pub returns-in-Err-Failed-write_answers-clause-sum : goal.returns-in-Err-Failed-write_answers-clause-sum
returns-in-Err-Failed-write_answers-clause-sum g c =
    risen_sum (g.T.Ticks.count c.args.tally.now) (g.T.Ticks.room c.args.tally.now) (g.T.Ticks.count c.count_compiled.new.tally) (g.T.Ticks.room c.count_compiled.new.tally) c.in-Ok-answer_to.given.compiled c.count_compiled.ensures

pub returns-in-Err-Failed-write_answers-clause-rising : goal.returns-in-Err-Failed-write_answers-clause-rising
returns-in-Err-Failed-write_answers-clause-rising g c =
    risen (g.T.Ticks.count c.args.tally.now) (g.T.Ticks.room c.args.tally.now) (g.T.Ticks.count c.count_compiled.new.tally) (g.T.Ticks.room c.count_compiled.new.tally) c.in-Ok-answer_to.given.compiled c.count_compiled.ensures

pub returns-in-Err-Failed-write_answers-clause-lazy : goal.returns-in-Err-Failed-write_answers-clause-lazy
returns-in-Err-Failed-write_answers-clause-lazy g c = λ held tells workers compiled may.
    let shows = shows_compiled (map string_bytes c.args.words.now) (asked c.in-Ok.work) held c.in-Ok-answer_to.given.answer.compiled c.in-Ok.ensures (counted_seen (asked c.in-Ok.work) (g.L.Shelf.held c.args.shelf.now) held (map string_bytes c.files_of.result.now) c.in-Ok-read_files.reads.items c.deref.result.now c.in-Ok-answer_to.given.answer.compiled c.files_of.ensures c.deref.ensures.value tells c.in-Ok-read_files.ensures.read c.in-Ok-answer_to.ensures.counts (once_shown (map string_bytes c.args.words.now) (asked c.in-Ok.work) held compiled c.in-Ok.ensures (may_show (map string_bytes c.args.words.now) held workers compiled may))) in
    risen_most (g.T.Ticks.count c.args.tally.now) (g.T.Ticks.room c.args.tally.now) (g.T.Ticks.count c.count_compiled.new.tally) (g.T.Ticks.room c.count_compiled.new.tally) c.in-Ok-answer_to.given.compiled c.count_compiled.ensures (map string_bytes c.args.words.now) (asked c.in-Ok.work) c.in-Ok-answer_to.given.answer.compiled c.in-Ok.ensures c.in-Ok-answer_to.ensures.compiled held shows workers compiled may

pub returns-in-Err-Failed-write_answers-clause-idle : goal.returns-in-Err-Failed-write_answers-clause-idle
returns-in-Err-Failed-write_answers-clause-idle g c = λ none. risen_none (g.T.Ticks.count c.args.tally.now) (g.T.Ticks.room c.args.tally.now) (g.T.Ticks.count c.count_compiled.new.tally) (g.T.Ticks.room c.count_compiled.new.tally) c.in-Ok-answer_to.given.compiled c.count_compiled.ensures (map string_bytes c.args.words.now) (asked c.in-Ok.work) c.in-Ok-answer_to.given.answer.compiled c.in-Ok.ensures c.in-Ok-answer_to.ensures.compiled c.deref.result.now c.in-Ok-answer_to.ensures.counts none

pub returns-clause-sum : goal.returns-clause-sum
returns-clause-sum g c =
    risen_sum (g.T.Ticks.count c.args.tally.now) (g.T.Ticks.room c.args.tally.now) (g.T.Ticks.count c.count_compiled.new.tally) (g.T.Ticks.room c.count_compiled.new.tally) c.in-Ok-answer_to.given.compiled c.count_compiled.ensures

pub returns-clause-rising : goal.returns-clause-rising
returns-clause-rising g c =
    risen (g.T.Ticks.count c.args.tally.now) (g.T.Ticks.room c.args.tally.now) (g.T.Ticks.count c.count_compiled.new.tally) (g.T.Ticks.room c.count_compiled.new.tally) c.in-Ok-answer_to.given.compiled c.count_compiled.ensures

pub returns-clause-lazy : goal.returns-clause-lazy
returns-clause-lazy g c = λ held tells workers compiled may.
    let shows = shows_compiled (map string_bytes c.args.words.now) (asked c.in-Ok.work) held c.in-Ok-answer_to.given.answer.compiled c.in-Ok.ensures (counted_seen (asked c.in-Ok.work) (g.L.Shelf.held c.args.shelf.now) held (map string_bytes c.files_of.result.now) c.in-Ok-read_files.reads.items c.deref.result.now c.in-Ok-answer_to.given.answer.compiled c.files_of.ensures c.deref.ensures.value tells c.in-Ok-read_files.ensures.read c.in-Ok-answer_to.ensures.counts (once_shown (map string_bytes c.args.words.now) (asked c.in-Ok.work) held compiled c.in-Ok.ensures (may_show (map string_bytes c.args.words.now) held workers compiled may))) in
    risen_most (g.T.Ticks.count c.args.tally.now) (g.T.Ticks.room c.args.tally.now) (g.T.Ticks.count c.count_compiled.new.tally) (g.T.Ticks.room c.count_compiled.new.tally) c.in-Ok-answer_to.given.compiled c.count_compiled.ensures (map string_bytes c.args.words.now) (asked c.in-Ok.work) c.in-Ok-answer_to.given.answer.compiled c.in-Ok.ensures c.in-Ok-answer_to.ensures.compiled held shows workers compiled may

pub returns-clause-idle : goal.returns-clause-idle
returns-clause-idle g c = λ none. risen_none (g.T.Ticks.count c.args.tally.now) (g.T.Ticks.room c.args.tally.now) (g.T.Ticks.count c.count_compiled.new.tally) (g.T.Ticks.room c.count_compiled.new.tally) c.in-Ok-answer_to.given.compiled c.count_compiled.ensures (map string_bytes c.args.words.now) (asked c.in-Ok.work) c.in-Ok-answer_to.given.answer.compiled c.in-Ok.ensures c.in-Ok-answer_to.ensures.compiled c.deref.result.now c.in-Ok-answer_to.ensures.counts none

pub count_compiled-requires-clause-room : goal.count_compiled-requires-clause-room
count_compiled-requires-clause-room g c κs within =
    let few = c.in-Ok-answer_to.ensures.compiled.few in
    let room = c.requires.room in
    omega (arith, few, room)

pub workers_of-requires : goal.workers_of-requires
workers_of-requires g c = work_bounded (map string_bytes c.args.words.now) (asked c.in-Ok.work) c.in-Ok.ensures
