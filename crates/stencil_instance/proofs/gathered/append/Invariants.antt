use Rattle.std.proofs.Common.{◌≡◌, ◌++◌, take}
use Rattle.stencil_instance.proofs.gathered.append.Given as goal

abbrev pub invariant-loop-text : goal.invariant-loop-text
invariant-loop-text l = l.texts.items ≡ l.fn.texts.items ++ take l.text-index l.more
