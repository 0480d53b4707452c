use Rattle.compile_wanted.specs.Numbers.{to_show}
use Rattle.session_requests.proofs.Asking.{AreBefore}
use Rattle.session_requests.proofs.requests.requests_of.Given as goal

abbrev pub invariant-loop-file : goal.invariant-loop-file
invariant-loop-file g l = AreBefore l.order (to_show l.wanted) l.works l.files l.file-index l.requests.items
