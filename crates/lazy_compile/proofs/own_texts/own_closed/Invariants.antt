use Rattle.std.proofs.Common.{take}
use Rattle.lazy_compile.specs.OwnTexts.{AreOwnNames, TakesFrom}
use Rattle.lazy_compile.proofs.own_texts.own_closed.Given as goal

-- those that were passed have their own atoms
abbrev pub invariant-loop-name : goal.invariant-loop-name
invariant-loop-name l = TakesFrom l.texts l.initial.atoms l.atoms × AreOwnNames l.texts l.atoms (take l.name-index l.closed) l.own.items
