use Rattle.std.proofs.Common.{rules, length, ◌<◌, ap, arith}
use Rattle.stencil.specs.Code.{instructions_from}
use Rattle.stencil.proofs.CodeLemmas.{next_left, none_left}
use Rattle.stencil.proofs.code.CodeIterIterator.next.Goals as goal

pub returns-in-None-clause-steps : goal.returns-in-None-clause-steps
returns-in-None-clause-steps c =
    let none = none_left c.args.self.now.code.now c.args.self.now.at c.in-None.ensures.value in
    (none, none)

pub returns-in-Some-clause-steps : goal.returns-in-Some-clause-steps
returns-in-Some-clause-steps c = next_left c.args.self.now.code.now c.args.self.now.at c.in-Some.instr c.in-Some.ensures.value

pub returns-in-Some-clause-goes : goal.returns-in-Some-clause-goes
returns-in-Some-clause-goes c =
    let code = c.args.self.now.code.now in
    let all = ap length (next_left code c.args.self.now.at c.in-Some.instr c.in-Some.ensures.value) in
    let fewer : length (instructions_from code c.in-Some.instr.next) < length (instructions_from code c.args.self.now.at) = omega (arith, all) in
    search rules
