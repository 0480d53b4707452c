use Rattle.std.proofs.Common.{ℕ, ◌++◌, ◌∙◌, ap, arith}
use Rattle.bytecode_buf.specs.Layout.{laid}
use Rattle.emit_exprs.proofs.Singles.{emits_named}
use Rattle.emit_exprs.proofs.steps.named.Goals as goal

pub returns : goal.returns
returns c texts =
    emits_named texts c.args.out.now c.put.new.self c.args.op c.args.atom c.requires (omega (arith, c.ranges.atom))
    (c.in_ok-put.ensures.ok ∙ ap (λ (a : ℕ). c.args.out.now ++ laid (record { op = c.args.op; a = a; b = 0 })) c.from.ensures)
