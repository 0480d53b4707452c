use Rattle.std.proofs.Common.{map, take, ◌≡◌}
use Rattle.std.specs.String.{string_bytes}
use Rattle.compile_session.proofs.CountingLemmas.{IsCounting}
use Rattle.compile_session.proofs.FilesLemmas.{IsAnswering}
use Rattle.compile_session.specs.Printed.{texts_in}
use Rattle.compile_session.specs.Showing.{compiled_in}
use Rattle.session_words.specs.Asked as asked
use Rattle.compile_session.proofs.files.answers_of.Given as goal

abbrev pub invariant-loop-answer : goal.invariant-loop-answer
invariant-loop-answer g l =
    IsAnswering (asked.job l.job) (map string_bytes l.job.files.items) l.reads l.answer-index (texts_in (take l.answer-index l.answer-items)) l.refused
    × IsCounting (asked.job l.job) (map string_bytes l.job.files.items) l.reads l.answer-index l.compiled
    × (l.compiled ≡ compiled_in (take l.answer-index l.answer-items))
