use Rattle.std.proofs.Common.{arith}
use Rattle.stencil_xdr_read.proofs.CodeLoop.{reads_next, reads_none, reads_end, atoms_next, atoms_end}
use Rattle.stencil_xdr_read.proofs.code.append_code.Goals as goal

pub returns-in-None : goal.returns-in-None
returns-in-None c = atoms_end c.loop.out.items _ _ (reads_none c.args.code.now c.loop.at c.loop.counter c.loop-test.true c.in-None.ensures.value) c.loop.invariant

pub loop-preserved : goal.loop-preserved
loop-preserved c =
    atoms_next c.args.code.now c.loop.out.items c.append_atom.new.out.items _ c.loop.at c.loop.counter c.in-Some.instr
    (reads_next c.args.code.now c.loop.at c.loop.counter c.in-Some.instr (λ k. omega (arith, c.type_inv.code k)) c.loop-test.true c.in-Some.ensures.value) c.in_ok-append_atom-in-Some.ensures c.loop.invariant

pub returns : goal.returns
returns c = atoms_end c.loop.out.items _ _ (reads_end c.args.code.now c.loop.at c.loop.counter c.loop-test.false) c.loop.invariant
