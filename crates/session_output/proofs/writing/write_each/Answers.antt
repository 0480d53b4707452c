use Rattle.std.proofs.Common.{List, Vec, length, refl, subst, ℕ, ◌+◌}
use Rattle.std.proofs.lemmas.Option.{slice_get_read}
use Rattle.std.specs.declared.alloc.Global.{Global}
use Rattle.session_outside.specs.Sink.{Gains, GainsFront}
use Rattle.session_output.proofs.Texts.{written_all, written_front, written_more, written_none}
use Rattle.session_output.proofs.writing.write_each.Goals as goal

pub loop-text-init : goal.loop-text-init
loop-text-init g c = written_none (λ (text : Vec ℕ Global). text.items) c.args.texts.now (g.K.Sink.faults c.args.sink.now) (g.K.Sink.taken c.args.sink.now)

pub loop-text-preserved : goal.loop-text-preserved
loop-text-preserved g c =
    written_more (λ (text : Vec ℕ Global). text.items) c.args.texts.now c.loop-text.text-index (c.loop-text.text-index + 1) c.text-item.result _ _ _ _ _ _ refl
    (slice_get_read c.args.texts.now (length c.args.texts.now) c.loop-text.text-index c.text-item.result refl c.loop-text-test.true c.text-item.is) c.in-Ok.ensures.count
    (subst (λ (l : List ℕ). Gains (g.K.Sink.taken c.loop-text.sink) (g.K.Sink.taken c.write_bytes.new.sink) l) c.deref.ensures.value c.in-Ok.ensures.took) c.loop-text.invariant

pub returns-in-Err-Failed-clause-took : goal.returns-in-Err-Failed-clause-took
returns-in-Err-Failed-clause-took g c =
    written_front (λ (text : Vec ℕ Global). text.items) c.args.texts.now c.loop-text.text-index c.text-item.result _ _ _ _ _
    (slice_get_read c.args.texts.now (length c.args.texts.now) c.loop-text.text-index c.text-item.result refl c.loop-text-test.true c.text-item.is)
    (subst (λ (l : List ℕ). GainsFront (g.K.Sink.taken c.loop-text.sink) (g.K.Sink.taken c.write_bytes.new.sink) l) c.deref.ensures.value c.in-Err-Failed.ensures.took) c.loop-text.invariant

pub returns-in-Err-NoMemory-clause-took : goal.returns-in-Err-NoMemory-clause-took
returns-in-Err-NoMemory-clause-took g c =
    written_front (λ (text : Vec ℕ Global). text.items) c.args.texts.now c.loop-text.text-index c.text-item.result _ _ _ _ _
    (slice_get_read c.args.texts.now (length c.args.texts.now) c.loop-text.text-index c.text-item.result refl c.loop-text-test.true c.text-item.is)
    (subst (λ (l : List ℕ). GainsFront (g.K.Sink.taken c.loop-text.sink) (g.K.Sink.taken c.write_bytes.new.sink) l) c.deref.ensures.value c.in-Err-NoMemory.ensures.took) c.loop-text.invariant

pub returns-clause-took : goal.returns-clause-took
returns-clause-took g c = written_all (λ (text : Vec ℕ Global). text.items) c.args.texts.now c.loop-text.text-index _ _ _ _ c.loop-text-test.false c.loop-text.invariant
