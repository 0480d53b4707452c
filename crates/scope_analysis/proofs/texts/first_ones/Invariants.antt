use Rattle.std.proofs.Common.{◌≡◌, ◌++◌, map, take, drop}
use Rattle.stencil_data.specs.StandsFor.{text_at}
use Rattle.scope_analysis.specs.DeclaredNames.{Text, has_text, first_ones, first_ones_after}
use Rattle.scope_analysis.specs.TextSets.{has, HasPlace}
use Rattle.scope_analysis.proofs.texts.first_ones.Given as goal

abbrev pub invariant-loop-atom : goal.invariant-loop-atom
invariant-loop-atom l =
    HasPlace l.texts l.seen.cells.items l.seen.later.cells.items l.seen.later.others
    × (((q : Text) → has l.texts l.seen.cells.items l.seen.later.cells.items l.seen.later.others q ≡ has_text (map (text_at l.texts) (take l.atom-index l.atoms)) q)
    × (map (text_at l.texts) l.kept.items ++ first_ones_after (map (text_at l.texts) (take l.atom-index l.atoms)) (map (text_at l.texts) (drop l.atom-index l.atoms)) ≡ first_ones (map (text_at l.texts) l.atoms)))
