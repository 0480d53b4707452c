use Rattle.std.proofs.Common.{◌<◌, ◌^◌, length, arith}
use Rattle.code_check.proofs.StartWalk.{decodes, not_decoded}
use Rattle.code_check.proofs.Operands.{reads_fit}
use Rattle.code_check.proofs.Looks.{reads, unread, takes_too_much, next_stops, next_fits, target_stops, target_fits, catch_stops, all_looked, all_indexed}
use Rattle.code_check.specs.Catches.{HasLanding}
use Rattle.code_check.proofs.Catches.{linked_inside, room_inside}
use Rattle.code_check.proofs.Stops.{handed}
use Rattle.code_check.proofs.survey.Survey.look.Goals as goal

pub returns-in_default-clause-err : goal.returns-in_default-clause-err
returns-in_default-clause-err c =
    unread c.args.code.now c.args.notes.now c.args.starts.now c.args.self.now (record { at = c.args.at; depth = c.args.depth }) c.requires.at (not_decoded c.args.code.now c.args.at c.decode_at.result c.decode_at.ensures.value c.in_default.not-Some)

pub step_of-step-requires : goal.step_of-step-requires
step_of-step-requires c = reads_fit c.args.code.now c.args.at c.in-Some.instr (λ k. omega (arith, c.type_inv.code k)) (decodes c.args.code.now c.args.at c.in-Some.instr c.in-Some.ensures.value)

pub returns-then-depth-step-clause-err : goal.returns-then-depth-step-clause-err
returns-then-depth-step-clause-err c =
    takes_too_much c.args.code.now c.args.notes.now c.args.starts.now (record { at = c.args.at; depth = c.args.depth }) c.step_of-step.result (reads c.args.code.now c.args.notes.now c.args.starts.now c.args.self.now (record { at = c.args.at; depth = c.args.depth }) c.in-Some.instr c.step_of-step.result (λ k. omega (arith, c.type_inv.code k)) c.requires.at c.in-Some.ensures.value c.step_of-step.ensures.gains c.step_of-step.ensures.steps) c.args.self.now c.requires.at c.if-depth-step.true

pub land-requires-clause-fits : goal.land-requires-clause-fits
land-requires-clause-fits c =
    let short : length c.args.code.now < 2 ^ 63 = omega arith in
    next_fits c.args.code.now c.args.notes.now c.args.starts.now c.args.self.now (record { at = c.args.at; depth = c.args.depth }) c.step_of-step.result (reads c.args.code.now c.args.notes.now c.args.starts.now c.args.self.now (record { at = c.args.at; depth = c.args.depth }) c.in-Some.instr c.step_of-step.result (λ k. omega (arith, c.type_inv.code k)) c.requires.at c.in-Some.ensures.value c.step_of-step.ensures.gains c.step_of-step.ensures.steps) c.requires.at c.if-depth-step.false short

pub returns-in_err-land-clause-err : goal.returns-in_err-land-clause-err
returns-in_err-land-clause-err c =
    handed c.from_residual.result c.in_err-land.field-0.0 c.from_residual.ensures.1
    (next_stops c.args.code.now c.args.notes.now c.args.starts.now c.args.self.now (record { at = c.args.at; depth = c.args.depth }) c.step_of-step.result (reads c.args.code.now c.args.notes.now c.args.starts.now c.args.self.now (record { at = c.args.at; depth = c.args.depth }) c.in-Some.instr c.step_of-step.result (λ k. omega (arith, c.type_inv.code k)) c.requires.at c.in-Some.ensures.value c.step_of-step.ensures.gains c.step_of-step.ensures.steps) c.requires.at c.if-depth-step.false)
    c.in_err-land.ensures.err

pub land-requires-2-clause-fits : goal.land-requires-2-clause-fits
land-requires-2-clause-fits c =
    let short : length c.args.code.now < 2 ^ 63 = omega arith in
    target_fits c.args.code.now c.args.notes.now c.args.starts.now c.args.self.now (record { at = c.args.at; depth = c.args.depth }) c.step_of-step.result (reads c.args.code.now c.args.notes.now c.args.starts.now c.args.self.now (record { at = c.args.at; depth = c.args.depth }) c.in-Some.instr c.step_of-step.result (λ k. omega (arith, c.type_inv.code k)) c.requires.at c.in-Some.ensures.value c.step_of-step.ensures.gains c.step_of-step.ensures.steps) c.requires.at c.if-depth-step.false c.land.new.self c.in_ok-land.ensures.ok short

pub returns-in_err-land-2-clause-err : goal.returns-in_err-land-2-clause-err
returns-in_err-land-2-clause-err c =
    handed c.from_residual-in_err-land-2.result c.in_err-land-2.field-0.0 c.from_residual-in_err-land-2.ensures.1
    (target_stops c.args.code.now c.args.notes.now c.args.starts.now c.args.self.now (record { at = c.args.at; depth = c.args.depth }) c.step_of-step.result (reads c.args.code.now c.args.notes.now c.args.starts.now c.args.self.now (record { at = c.args.at; depth = c.args.depth }) c.in-Some.instr c.step_of-step.result (λ k. omega (arith, c.type_inv.code k)) c.requires.at c.in-Some.ensures.value c.step_of-step.ensures.gains c.step_of-step.ensures.steps) c.requires.at c.if-depth-step.false c.land.new.self c.in_ok-land.ensures.ok)
    c.in_err-land-2.ensures.err

pub catch-requires-clause-inside : goal.catch-requires-clause-inside
catch-requires-clause-inside c = room_inside c.args.code.now c.args.notes.now c.args.starts.now c.args.self.now (record { at = c.args.at; depth = c.args.depth }) (HasLanding c.args.self.now) c.args.index.now c.requires.at c.requires.indexed

pub catch-requires-clause-linked : goal.catch-requires-clause-linked
catch-requires-clause-linked c = linked_inside c.args.notes.now (length c.args.code.now) (HasLanding c.args.self.now) c.args.index.now c.requires.indexed

pub returns-in_err-catch-clause-err : goal.returns-in_err-catch-clause-err
returns-in_err-catch-clause-err c =
    handed c.from_residual-in_err-catch.result c.in_err-catch.field-0.0 c.from_residual-in_err-catch.ensures.1
    (catch_stops c.args.code.now c.args.notes.now c.args.starts.now c.args.self.now (record { at = c.args.at; depth = c.args.depth }) c.step_of-step.result (reads c.args.code.now c.args.notes.now c.args.starts.now c.args.self.now (record { at = c.args.at; depth = c.args.depth }) c.in-Some.instr c.step_of-step.result (λ k. omega (arith, c.type_inv.code k)) c.requires.at c.in-Some.ensures.value c.step_of-step.ensures.gains c.step_of-step.ensures.steps) c.requires.at c.if-depth-step.false c.land.new.self c.in_ok-land.ensures.ok c.land-2.new.self c.in_ok-land-2.ensures.ok c.args.index.now c.requires.indexed)
    c.in_err-catch.ensures.err

pub returns-clause-goes : goal.returns-clause-goes
returns-clause-goes c = (all_looked c.args.code.now c.args.notes.now c.args.starts.now c.args.self.now (record { at = c.args.at; depth = c.args.depth }) c.step_of-step.result (reads c.args.code.now c.args.notes.now c.args.starts.now c.args.self.now (record { at = c.args.at; depth = c.args.depth }) c.in-Some.instr c.step_of-step.result (λ k. omega (arith, c.type_inv.code k)) c.requires.at c.in-Some.ensures.value c.step_of-step.ensures.gains c.step_of-step.ensures.steps) c.requires.at c.if-depth-step.false c.land.new.self c.in_ok-land.ensures.ok c.land-2.new.self c.in_ok-land-2.ensures.ok c.args.index.now c.requires.indexed c.catch.new.self c.catch.new.index c.in_ok-catch.ensures.ok).0

pub returns-clause-looked : goal.returns-clause-looked
returns-clause-looked c = (all_looked c.args.code.now c.args.notes.now c.args.starts.now c.args.self.now (record { at = c.args.at; depth = c.args.depth }) c.step_of-step.result (reads c.args.code.now c.args.notes.now c.args.starts.now c.args.self.now (record { at = c.args.at; depth = c.args.depth }) c.in-Some.instr c.step_of-step.result (λ k. omega (arith, c.type_inv.code k)) c.requires.at c.in-Some.ensures.value c.step_of-step.ensures.gains c.step_of-step.ensures.steps) c.requires.at c.if-depth-step.false c.land.new.self c.in_ok-land.ensures.ok c.land-2.new.self c.in_ok-land-2.ensures.ok c.args.index.now c.requires.indexed c.catch.new.self c.catch.new.index c.in_ok-catch.ensures.ok).1

pub returns-clause-indexed : goal.returns-clause-indexed
returns-clause-indexed c = all_indexed c.args.code.now c.args.notes.now c.args.starts.now c.args.self.now (record { at = c.args.at; depth = c.args.depth }) c.step_of-step.result (reads c.args.code.now c.args.notes.now c.args.starts.now c.args.self.now (record { at = c.args.at; depth = c.args.depth }) c.in-Some.instr c.step_of-step.result (λ k. omega (arith, c.type_inv.code k)) c.requires.at c.in-Some.ensures.value c.step_of-step.ensures.gains c.step_of-step.ensures.steps) c.requires.at c.if-depth-step.false c.land.new.self c.in_ok-land.ensures.ok c.land-2.new.self c.in_ok-land-2.ensures.ok c.args.index.now c.requires.indexed c.catch.new.self c.catch.new.index c.in_ok-catch.ensures.ok
