use Rattle.std.proofs.Common.{take}
use Rattle.session_images.proofs.Verifying.{AppendsLines}
use Rattle.session_images.proofs.verdicts.append_functions.Given as goal

abbrev pub invariant-loop-index : goal.invariant-loop-index
invariant-loop-index l = AppendsLines 1 (take l.index l.entries) l.initial.out.items l.out.items l.unsound
