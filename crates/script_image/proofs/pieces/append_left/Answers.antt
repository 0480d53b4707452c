use Rattle.std.proofs.Common.{List, ap, sym, ℕ, ◌++◌, ◌∙◌}
use Rattle.stencil_data.specs.MergedView.{MergedView}
use Rattle.stencil_data.specs.Views.{FunctionView}
use Rattle.script_image.proofs.Printing.{left_next, left_same}
use Rattle.script_image.proofs.pieces.append_left.Goals as goal

pub returns : goal.returns
returns c =
    left_next c.args.merged.now c.args.number c.in-Some.script.now c.args.out.now.items c.append_code_from.new.out.items c.args.at c.args.turn (sym c.in-Some.ensures)
    (c.in_ok-append_code_from-in-Some.ensures
    ∙ ap (λ (text : List ℕ). c.args.out.now.items ++ text)
    (left_same c.deref.result.now c.args.merged.now.texts c.in-Some.script.now c.deref-in-Some.result.now c.deref-in-Some-2.result.now c.args.at c.args.turn
    (c.deref.ensures.value ∙ ap (λ (m : MergedView). m.texts) c.merged.view_is)
    (c.deref-in-Some.ensures.value ∙ ap (λ (p : FunctionView). p.code) c.script.view_is)
    (c.deref-in-Some-2.ensures.value ∙ ap (λ (p : FunctionView). p.notes) c.script.view_is)))
