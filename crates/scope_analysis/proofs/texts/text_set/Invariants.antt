use Rattle.std.proofs.Common.{◌≡◌, map, take}
use Rattle.stencil_data.specs.StandsFor.{text_at}
use Rattle.scope_analysis.specs.DeclaredNames.{Text, has_text}
use Rattle.scope_analysis.specs.TextSets.{has, HasPlace}
use Rattle.scope_analysis.proofs.texts.text_set.Given as goal

abbrev pub invariant-loop-atom : goal.invariant-loop-atom
invariant-loop-atom l =
    HasPlace l.texts l.some.cells.items l.some.later.cells.items l.some.later.others
    × ((q : Text) → has l.texts l.some.cells.items l.some.later.cells.items l.some.later.others q ≡ has_text (map (text_at l.texts) (take l.atom-index l.atoms)) q)
