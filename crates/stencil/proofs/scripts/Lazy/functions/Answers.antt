use Rattle.std.proofs.Common.{arith}
use Rattle.stencil.proofs.ScriptLemmas.{records_few}
use Rattle.stencil.proofs.scripts.Lazy.functions.Goals as goal

pub overflow_cast-result : goal.overflow_cast-result
overflow_cast-result c =
    let few = records_few c.requires.0 c.args.self.now.initial c.requires.1 in
    let counted = c.function_count.ensures in
    omega (arith, few, counted)
