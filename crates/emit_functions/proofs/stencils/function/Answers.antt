use Rattle.std.proofs.Common.{List, subst, sym}
use Rattle.stencil_data.specs.declared.functions.Extent.{Extent}
use Rattle.stencil_data.specs.declared.stencils.TryNote.{TryNote}
use Rattle.stencil_data.specs.Views.{ScopeView}
use Rattle.emit_functions.specs.FunctionCode.{Drafted}
use Rattle.emit_functions.proofs.FunctionRows.{function_stands}
use Rattle.emit_functions.proofs.stencils.function.Goals as goal

pub returns : goal.returns
returns c = function_stands c.args.texts.now c.args.kind c.args.name c.args.scopes.items c.args.inner.items c.args.chain.now c.args.func.now c.deref-3.result.now c.into_bytes.ensures c.deref-3.ensures.value c.param_count.ensures
    (subst (λ (es : List Extent). Drafted c.args.texts.now c.args.kind c.args.name c.args.scopes.items es c.args.chain.now c.args.func.now c.in_ok-code.field-0.code c.shrink_to_fit.new.self.items) c.deref-2.ensures.value
    (subst (λ (ss : List ScopeView). Drafted c.args.texts.now c.args.kind c.args.name ss c.deref-2.result.now c.args.chain.now c.args.func.now c.in_ok-code.field-0.code c.shrink_to_fit.new.self.items) c.deref.ensures.value
    (subst (λ (ns : List TryNote). Drafted c.args.texts.now c.args.kind c.args.name c.deref.result.now c.deref-2.result.now c.args.chain.now c.args.func.now c.in_ok-code.field-0.code ns) (sym c.shrink_to_fit.ensures.items) c.in_ok-code.ensures)))
