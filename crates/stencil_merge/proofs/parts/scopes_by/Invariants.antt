use Rattle.std.proofs.Common.{◌≡◌, map, take}
use Rattle.stencil_merge.specs.Atoms.{scope_by}
use Rattle.stencil_merge.proofs.parts.scopes_by.Given as goal

abbrev pub invariant-loop-scope : goal.invariant-loop-scope
invariant-loop-scope l = l.made.items ≡ map (scope_by l.atoms) (take l.scope-index l.scopes)
