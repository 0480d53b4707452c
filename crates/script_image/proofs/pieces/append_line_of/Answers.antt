use Rattle.std.proofs.Common.{List, ap, sym, ℕ, ◌++◌, ◌∙◌}
use Rattle.stencil_data.specs.MergedView.{MergedView}
use Rattle.script_image.specs.Listed.{listed_script}
use Rattle.script_image.specs.Pieces.{header_line}
use Rattle.script_image.proofs.Scripts.{header_next}
use Rattle.script_image.proofs.pieces.append_line_of.Goals as goal

pub returns : goal.returns
returns c =
    header_next c.args.merged.now c.args.number c.in-Some.script.now c.args.out.now.items c.append_header.new.out.items c.requires.there (sym c.in-Some.ensures)
    (c.in_ok-append_header-in-Some.ensures
    ∙ ap (λ (texts : List (List ℕ)). c.args.out.now.items ++ header_line c.args.number (listed_script texts c.in-Some.script.now)) (c.deref.ensures.value ∙ ap (λ (m : MergedView). m.texts) c.merged.view_is))
