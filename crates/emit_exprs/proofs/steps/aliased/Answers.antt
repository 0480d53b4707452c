use Rattle.std.proofs.Common.{ℕ, ◌++◌, ◌∙◌, ap₂}
use Rattle.bytecode_buf.specs.Layout.{laid}
use Rattle.emit_exprs.proofs.Singles.{emits_aliased}
use Rattle.emit_exprs.proofs.steps.aliased.Goals as goal

pub returns : goal.returns
returns c texts =
    emits_aliased texts c.args.out.now c.put.new.self c.args.op c.args.hops c.args.slot c.requires.aliased c.requires.hops c.requires.slot
    (c.in_ok-put.ensures.ok ∙ ap₂ (λ (a : ℕ) (b : ℕ). c.args.out.now ++ laid (record { op = c.args.op; a = a; b = b })) c.from.ensures c.from-2.ensures)
