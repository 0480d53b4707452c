use Rattle.std.proofs.Common.{List, ap, ℕ, ◌++◌, ◌∙◌}
use Rattle.stencil_data.specs.Views.{FunctionView}
use Rattle.script_image.proofs.Scripts.{whole_code}
use Rattle.script_image.proofs.code_lines.append_code.Goals as goal

pub returns : goal.returns
returns c =
    c.in_ok-append_code_from.ensures
    ∙ ap (λ (text : List ℕ). c.args.out.now.items ++ text)
    (whole_code c.args.texts.now c.args.script.now c.deref.result.now c.deref-2.result.now (c.deref.ensures.value ∙ ap (λ (p : FunctionView). p.code) c.script.view_is) (c.deref-2.ensures.value ∙ ap (λ (p : FunctionView). p.notes) c.script.view_is))
