use Rattle.std.proofs.Common.{List, ap, get_or, ℕ, ◌++◌, ◌-◌, ◌∙◌}
use Rattle.stencil_data.specs.MergedView.{MergedView}
use Rattle.stencil_data.specs.StandsFor.{named_record}
use Rattle.script_image.specs.Listed.{listed_entry}
use Rattle.script_image.specs.Listings.{lines_of}
use Rattle.script_image.specs.ScriptLines.{script_lines}
use Rattle.script_image.proofs.Scripts.{function_next}
use Rattle.script_image.proofs.script_lines.append_numbered.Goals as goal

pub returns : goal.returns
returns c =
    function_next c.args.listing c.args.merged.now c.args.number c.args.out.now.items c.append_function.new.out.items c.index.result.now c.index-2.result.now c.if-number-eq0.false c.requires
    (c.index.ensures ∙ ap (λ (m : MergedView). get_or m.records (c.args.number - 1) c.index.result.now) c.merged.view_is)
    (c.index-2.ensures ∙ ap (λ (m : MergedView). get_or m.entries (c.args.number - 1) c.index-2.result.now) c.merged.view_is)
    (c.in_ok-append_function.ensures
    ∙ ap (λ (texts : List (List ℕ)). c.args.out.now.items ++ script_lines (lines_of c.args.listing) c.args.number (named_record texts c.index.result.now) (listed_entry texts c.index-2.result.now)) (c.deref.ensures.value ∙ ap (λ (m : MergedView). m.texts) c.merged.view_is))
