use Rattle.std.proofs.Common.{◌≡◌, take}
use Rattle.stencil_merge.proofs.texts.interned.Given as goal

abbrev pub invariant-loop-text : goal.invariant-loop-text
invariant-loop-text l = l.atoms ≡ take l.text-index l.texts
