use Rattle.emit_functions.proofs.FunctionRows.{function_row}
use Rattle.emit_functions.proofs.stencils.emit_function.Goals as goal

pub returns : goal.returns
returns c = function_row c.args.site.now c.args.func.now c.bindings_of.result.now c.deref.result.now c.deref-2.result.now c.bindings_of.ensures c.deref.ensures.value c.deref-2.ensures.value c.requires.next c.in_ok-specials.ensures c.in_ok-params.ensures c.in_ok-emit_body.ensures
