use Rattle.std.proofs.Common.{◌≡◌, ◌++◌, take, flat_map}
use Rattle.stencil_data.specs.StandsFor.{named_bindings}
use Rattle.script_image.specs.ScopeLines.{binding_line}
use Rattle.script_image.proofs.scope_lines.put_bindings.Given as goal

abbrev pub invariant-loop-binding : goal.invariant-loop-binding
invariant-loop-binding l = l.out.items ++ l.chunk.items ≡ (l.initial.out.items ++ l.initial.chunk.items) ++ flat_map binding_line (named_bindings l.texts (take l.binding-index l.bindings))
