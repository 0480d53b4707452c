use Rattle.std.proofs.Common.{subst, arith}
use Rattle.compile_shown.proofs.Flags.{few_records}
use Rattle.compile_specs.specs.Shown.{All}
use Rattle.session_requests.specs.Works.{IsWork, IsWorkOf}
use Rattle.session_requests.proofs.requests.append_asked_of.Goals as goal

pub append_asked-requires : goal.append_asked-requires
append_asked-requires g c =
    let work : IsWork g.N.Sources.files c.in-Some.script = subst (IsWorkOf g.N.Sources.files) c.in-Some.is c.requires in
    let few = few_records All c.in-Some.script.board.bytes c.in-Some.script.board.initial work.board.initial in
    omega (arith, few)
