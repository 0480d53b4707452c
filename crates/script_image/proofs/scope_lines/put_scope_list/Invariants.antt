use Rattle.std.proofs.Common.{◌≡◌, ◌++◌, drop, map}
use Rattle.stencil_data.specs.StandsFor.{named_scope}
use Rattle.script_image.specs.ScopeLines.{scopes_from}
use Rattle.script_image.proofs.scope_lines.put_scope_list.Given as goal

abbrev pub invariant-loop-number : goal.invariant-loop-number
invariant-loop-number l = (l.out.items ++ l.chunk.items) ++ scopes_from l.number (map (named_scope l.texts) (drop l.number l.scopes)) ≡ (l.initial.out.items ++ l.initial.chunk.items) ++ scopes_from 0 (map (named_scope l.texts) l.scopes)
