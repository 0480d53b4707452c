use Rattle.session_outside.proofs.WriteLemmas.{IsWriting-more, GainsFront-refused}
use Rattle.session_outside.proofs.writing.write_bytes.Goals as goal

pub loop-done-preserved : goal.loop-done-preserved
loop-done-preserved g c = IsWriting-more _ _ _ _ _ _ _ _ _ _ c.loop-done.invariant c.bytes_behind.ensures c.in-Ok.ensures.count c.in-Ok.ensures.within c.in-Ok.ensures.took

pub returns-in-Err-Failed-clause-took : goal.returns-in-Err-Failed-clause-took
returns-in-Err-Failed-clause-took g c = GainsFront-refused _ _ _ _ _ _ _ c.loop-done.invariant c.in-Err-Failed.ensures.refused

pub returns-in-Err-NoMemory-clause-took : goal.returns-in-Err-NoMemory-clause-took
returns-in-Err-NoMemory-clause-took g c = GainsFront-refused _ _ _ _ _ _ _ c.loop-done.invariant c.in-Err-NoMemory.ensures.refused
