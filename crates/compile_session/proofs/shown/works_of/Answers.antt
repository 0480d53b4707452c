use Rattle.std.proofs.Common.{List, Option, Vec, ap, ap₂, arith, slice_index_or, subst, sym, ℕ, ◌∙◌}
use Rattle.std.specs.declared.alloc.Global.{Global}
use Rattle.compile_session.proofs.StartLemmas.{AskedUpTo, asked_none, asked_push, get_here, picked_at, works_push}
use Rattle.compile_session.specs.Showing.{picked_file}
use Rattle.compile_session.specs.Starts.{IsStart}
use Rattle.compile_session.specs.declared.start.FileStart.{FileStart}
use Rattle.session_requests.specs.Works.{AreWorks}
use Rattle.stencil_board.specs.Files.{File, file_at}
use Rattle.compile_session.proofs.shown.works_of.Goals as goal

pub loop-number-init : goal.loop-number-init
loop-number-init g c = (
  subst (AreWorks g.N.Sources.files) (sym c.new-works.ensures.items) tt,
  subst (AskedUpTo c.args.reads.now c.args.starts.now 0) (sym c.new-works.ensures.items) (asked_none c.args.reads.now c.args.starts.now),
)

pub work_of-requires-clause-picked : goal.work_of-requires-clause-picked
work_of-requires-clause-picked g c =
    let below = c.loop-number-test.true in
    let long = c.requires.started.1.long in
    let read = c.requires.read in
    ap (λ (files : List File). file_at files c.loop-number.number) c.requires.picked
    ∙ picked_at c.args.reads.now c.args.starts.now c.loop-number.number c.index-reads-number.result c.index-starts-number.result (omega (arith, below, read)) (omega (arith, below, long))
    ∙ ap₂ picked_file (sym c.index-reads-number.is) (sym c.index-starts-number.is)

pub work_of-requires-clause-started : goal.work_of-requires-clause-started
work_of-requires-clause-started g c =
    let below = c.loop-number-test.true in
    let long = c.requires.started.1.long in
    let read = c.requires.read in
    let n = c.loop-number.number in
    let want = c.requires.started.0 in
    let read_at : Option (Vec ℕ Global) = slice_index_or c.args.reads.now n c.index-reads-number.result in
    let start_at : FileStart = slice_index_or c.args.starts.now n c.index-starts-number.result in
    let is = c.requires.started.1.each n start_at (get_here c.args.starts.now n c.index-starts-number.result (omega (arith, below, long))) read_at (get_here c.args.reads.now n c.index-reads-number.result (omega (arith, below, read))) in (
      want,
      subst (λ (f : FileStart). IsStart want c.index-reads-number.result f) (sym c.index-starts-number.is)
          (subst (λ (r : Option (Vec ℕ Global)). IsStart want r start_at) (sym c.index-reads-number.is) is),
    )

pub loop-number-preserved : goal.loop-number-preserved
loop-number-preserved g c =
    let below = c.loop-number-test.true in
    let long = c.requires.started.1.long in
    let read = c.requires.read in
    let n = c.loop-number.number in
    let inv = c.loop-number.invariant in
    let more = c.in_ok-push.ensures.items in (
      subst (AreWorks g.N.Sources.files) (sym more) (works_push g.N.Sources.files c.loop-number.works.items c.in_ok-work.work inv.0 c.in_ok-work.ensures.work),
      asked_push c.args.reads.now c.args.starts.now n c.loop-number.works.items _ c.in_ok-work.work c.index-reads-number.result c.index-starts-number.result more c.index-reads-number.is c.index-starts-number.is c.in_ok-work.ensures.asked inv.1,
    )
