use Rattle.std.proofs.Common.{take}
use Rattle.stencil_merge.proofs.Interning.{Interned}
use Rattle.stencil_merge.proofs.atoms.intern_all.Given as goal

abbrev pub invariant-loop-text : goal.invariant-loop-text
invariant-loop-text l = Interned l.initial.atoms (take l.text-index l.texts) l.atoms l.numbers.items
