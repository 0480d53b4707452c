use Rattle.std.proofs.Common.{◌≡◌, ℕ, ◌++◌, List, map, drop}
use Rattle.stencil_data.specs.StandsFor.{text_at}
use Rattle.scope_analysis.specs.DeclaredNames.{declarations}
use Rattle.scope_analysis.specs.Kept.{declarations_of}
use Rattle.scope_analysis.proofs.toplevel.push_all.Given as goal

abbrev pub invariant-loop-atom : goal.invariant-loop-atom
invariant-loop-atom l =
    (texts : List (List ℕ)) → declarations_of texts l.names.items ++ declarations l.kind (map (text_at texts) (drop l.atom-index l.atoms))
    ≡ declarations_of texts l.fn.names.items ++ declarations l.kind (map (text_at texts) l.atoms)
