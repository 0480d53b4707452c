use Rattle.std.proofs.Common.{arith}
use Rattle.lazy_compile.proofs.Behind.{words_many}
use Rattle.lazy_compile.proofs.behind_known.Goals as goal

pub split_off-requires : goal.split_off-requires
split_off-requires c = omega (arith, words_many c.args.texts.items c.requires, c.args.texts.ok.0)
