use Rattle.std.proofs.Common.{arith}
use Rattle.script_image.proofs.cuts.Cuts.pass_large.Goals as goal

pub overflow_add-self : goal.overflow_add-self
overflow_add-self c = let there = c.requires.number in let few = c.requires.few in omega (arith, there, few)
