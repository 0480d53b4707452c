use Rattle.std.proofs.Common.{[], subst}
use Rattle.parser_atoms.specs.Places.{AreWithoutEquals}
use Rattle.stencil_merge.proofs.Interning.{takes_among, takes_none}
use Rattle.stencil_merge.proofs.texts.MergedTexts.intern_all.Goals as goal

pub returns-then-is_empty-clause-texts : goal.returns-then-is_empty-clause-texts
returns-then-is_empty-clause-texts c = takes_among c.args.self.now [] c.args.texts.now c.args.self.now (takes_none c.args.self.now (subst AreWithoutEquals c.self.view_is c.self.invariant))
