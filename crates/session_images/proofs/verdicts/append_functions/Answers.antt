use Rattle.std.proofs.Common.{◌+◌, List, [], ◌∷◌, ℕ, refl, subst}
use Rattle.stencil_data.specs.declared.stencils.Entry.{Entry}
use Rattle.session_images.proofs.Verifying.{AppendsLines, lines_start, lines_more, lines_end, or_first, or_second}
use Rattle.session_images.proofs.verdicts.append_functions.Goals.{then-unsound, else-unsound}
use Rattle.session_images.proofs.verdicts.append_functions.Goals as goal

pub loop-index-preserved : goal.loop-index-preserved
loop-index-preserved c =
    let e : Entry = c.index-entries-index.result in
    let next = c.loop-index.index + 1 in
    lines_more c.args.entries.now c.loop-index.index next e c.args.out.now.items c.loop-index.out.items c.append_entry.new.out.items c.loop-index.unsound c.in_ok-is_unsound.is_unsound c.if-unsound.unsound c.loop-index-test.true refl c.loop-index.invariant
    (subst (λ (x : Entry). AppendsLines next (x ∷ []) c.loop-index.out.items c.append_entry.new.out.items c.in_ok-is_unsound.is_unsound) c.index-entries-index.is c.in_ok-is_unsound.ensures)
    (elim c.if-unsound.branch [
      | then-unsound w ↦ or_first c.loop-index.unsound c.in_ok-is_unsound.is_unsound c.if-unsound.unsound w.if-unsound.true w.unsound-is
      | else-unsound w ↦ or_second c.loop-index.unsound c.in_ok-is_unsound.is_unsound c.if-unsound.unsound w.if-unsound.false w.unsound-is
    ])

pub returns : goal.returns
returns c = lines_end c.args.entries.now c.loop-index.index c.args.out.now.items c.loop-index.out.items c.loop-index.unsound c.loop-index-test.false c.loop-index.invariant
