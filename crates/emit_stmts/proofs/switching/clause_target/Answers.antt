use Rattle.std.proofs.Common.{ℕ, List, drop, length, sym, subst}
use Rattle.bytecode_buf.specs.declared.waits.Wait.{Wait}
use Rattle.bytecode_buf.specs.Appends.{AllRoom}
use Rattle.emit_stmts.proofs.Landing.{clause_landed, first_room, second_room}
use Rattle.emit_stmts.proofs.switching.clause_target.Goals as goal

pub land_test-jumps-requires : goal.land_test-jumps-requires
land_test-jumps-requires c = subst (λ (l : List Wait). AllRoom (length c.args.out.now) (drop c.args.jumps.now.landed l)) (sym c.deref.ensures.value) (first_room (length c.args.out.now) (drop c.args.jumps.now.landed c.args.jumps.now.tests.items) c.args.jumps.now.otherwise.items c.requires)

pub land-requires : goal.land-requires
land-requires c = subst (AllRoom (length c.land_test-jumps.new.out)) (sym c.deref-2.ensures.value) (subst (λ (n : ℕ). AllRoom n c.args.jumps.now.otherwise.items) (sym c.land_test-jumps.ensures.long) (second_room (length c.args.out.now) (drop c.args.jumps.now.landed c.args.jumps.now.tests.items) c.args.jumps.now.otherwise.items c.requires))

pub returns : goal.returns
returns c to lt order = clause_landed c.args.jumps.now c.land.new.waits c.land_test-jumps.ensures.small c.deref.ensures.value c.deref-2.ensures.value c.new-held.ensures.items (c.land_test-jumps.ensures.landed to lt) c.in_ok-land.ensures.bytes c.in_ok-land.ensures.waits c.in_ok-plain.ensures order
