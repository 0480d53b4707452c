use Rattle.compile_wanted.specs.Numbers.{to_show}
use Rattle.session_requests.proofs.Asking.{asked_more, asked_all}
use Rattle.session_requests.proofs.Fitting.{work_here, at_any}
use Rattle.session_requests.proofs.requests.requests_of.Goals as goal

pub append_asked_of-requires : goal.append_asked_of-requires
append_asked_of-requires g c =
    work_here g.N.Sources.files c.args.works.now _ c.index-works-file.result (c.requires.files c.loop-file.file-index 0 c.loop-file-test.true) c.index-works-file.is c.requires.works

pub loop-file-preserved : goal.loop-file-preserved
loop-file-preserved g c =
    asked_more c.args.order (to_show c.args.wanted) c.args.works.now c.args.files.now c.loop-file.file-index c.index-works-file.result c.loop-file.requests.items c.append_asked_of.new.requests.items
    c.loop-file-test.true (at_any c.args.works.now _ c.index-works-file.result (c.requires.files c.loop-file.file-index 0 c.loop-file-test.true) c.index-works-file.is)
    c.loop-file.invariant (c.in_ok-append_asked_of.ensures)

pub returns : goal.returns
returns g c = record {
  asked = asked_all c.args.order (to_show c.args.wanted) c.args.works.now c.args.files.now c.loop-file.file-index c.loop-file.requests.items c.loop-file-test.false c.loop-file.invariant;
}
