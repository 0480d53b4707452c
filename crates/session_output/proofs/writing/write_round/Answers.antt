use Rattle.std.proofs.Common.{List, Vec, subst, ℕ}
use Rattle.std.specs.declared.alloc.Global.{Global}
use Rattle.session_outside.specs.Sink.{GainsAllOrFront}
use Rattle.session_output.proofs.Pieces.{between_written}
use Rattle.session_output.proofs.Texts.{front_none}
use Rattle.session_output.specs.Texts.{left_of, texts_in}
use Rattle.session_output.proofs.writing.write_round.Goals as goal

pub returns-in-Ok-clause-took : goal.returns-in-Ok-clause-took
returns-in-Ok-clause-took g c = λ from to lead.
    between_written c.args.script.now from to c.args.pieces.now c.in-Ok.texts.items (g.K.Sink.taken c.args.sink.now) (g.K.Sink.taken c.write_each.new.sink) c.write_each.result lead c.in-Ok.ensures
    (subst (λ (l : List (Vec ℕ Global)). GainsAllOrFront (g.K.Sink.taken c.args.sink.now) (g.K.Sink.taken c.write_each.new.sink) (texts_in l) c.write_each.result) c.deref.ensures.value c.write_each.ensures.took)

pub returns-in-Err-clause-took : goal.returns-in-Err-clause-took
returns-in-Err-clause-took g c = λ from to lead. front_none (g.K.Sink.taken c.args.sink.now) (left_of c.args.script.now from)
