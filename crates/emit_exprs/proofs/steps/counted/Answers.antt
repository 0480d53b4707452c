use Rattle.std.proofs.Common.{ℕ, ◌++◌, ◌∙◌, ap}
use Rattle.bytecode_buf.specs.Layout.{laid}
use Rattle.emit_exprs.proofs.Singles.{emits_counted}
use Rattle.emit_exprs.proofs.steps.counted.Goals as goal

pub returns : goal.returns
returns c texts =
    emits_counted texts c.args.out.now c.put.new.self c.args.op c.args.number c.requires.counted c.requires.fits
    (c.in_ok-put.ensures.ok ∙ ap (λ (a : ℕ). c.args.out.now ++ laid (record { op = c.args.op; a = a; b = 0 })) c.from.ensures)
