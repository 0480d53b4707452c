use Rattle.std.proofs.Common.{List, ℕ, sym, subst}
use Rattle.parser_atoms.specs.Places.{AreWithoutEquals}
use Rattle.stencil_merge.specs.Atoms.{TakesIn}
use Rattle.stencil_merge.proofs.texts.intern_after.Goals as goal

pub intern_all-requires-clause-apart : goal.intern_all-requires-clause-apart
intern_all-requires-clause-apart c = subst AreWithoutEquals (sym c.in_ok-atoms.ensures) c.requires.apart

pub returns-clause-texts : goal.returns-clause-texts
returns-clause-texts c = subst (λ (before : List (List ℕ)). TakesIn before c.args.texts.now c.intern_all.new.atoms) c.in_ok-atoms.ensures c.in_ok-numbers.ensures.texts
