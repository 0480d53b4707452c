use Rattle.std.proofs.Common.{◌≡◌, ◌++◌, map, drop}
use Rattle.stencil_data.specs.StandsFor.{text_at}
use Rattle.scope_analysis.specs.DeclaredNames.{texts_without}
use Rattle.scope_analysis.proofs.texts.without.Given as goal

abbrev pub invariant-loop-atom : goal.invariant-loop-atom
invariant-loop-atom l =
    map (text_at l.texts) l.kept.items ++ texts_without (map (text_at l.texts) l.gone) (map (text_at l.texts) (drop l.atom-index l.atoms))
    ≡ texts_without (map (text_at l.texts) l.gone) (map (text_at l.texts) l.atoms)
