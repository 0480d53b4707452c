use Rattle.std.proofs.Common.{arith}
use Rattle.scope_analysis.specs.Functions.{function_form}
use Rattle.parse_function.proofs.HoleTexts.{ends_within}
use Rattle.parse_function.proofs.holes.window.Goals as goal

pub bounds-file-at : goal.bounds-file-at
bounds-file-at c =
    let d = c.requires.function in
    let last = ends_within c.args.file.now c.args.inner (function_form d.inner.func) d.items d.inner d.is in
    let lt = c.loop-at-test.true in
    omega (arith, last, lt)
