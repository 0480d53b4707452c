use Rattle.std.proofs.Common.{Option, Vec, arith, subst, ℕ}
use Rattle.std.proofs.lemmas.Option.{get_or_from_slice_get}
use Rattle.std.specs.declared.alloc.Global.{Global}
use Rattle.compile_session.proofs.WorkerLemmas.{read_within}
use Rattle.compile_session.specs.Starts.{IsStart}
use Rattle.session_specs.specs.Answer.{most_bytes}
use Rattle.session_words.specs.Asked as asked
use Rattle.compile_session.proofs.starts.FirstPasses.start.Goals as goal

pub start_of-requires : goal.start_of-requires
start_of-requires c =
    let below = c.requires.number in
    let few = c.requires.can.read in
    record { within = read_within most_bytes c.args.self.now.reads.now c.args.number c.index-self-number.result c.requires.can.within (omega (arith, below, few)) }

pub returns : goal.returns
returns c = λ read is.
    subst (λ (r : Option (Vec ℕ Global)). IsStart (asked.wanted c.args.self.now.want.now) r c.in_ok-start.start)
    (get_or_from_slice_get c.args.self.now.reads.now c.args.number read c.index-self-number.result is) c.in_ok-start.ensures
