use Rattle.std.proofs.Common.{List, subst}
use Rattle.stencil_data.specs.declared.functions.Extent.{Extent}
use Rattle.stencil_data.specs.Views.{ScopeView}
use Rattle.emit_stmts.specs.ScriptCode.{Drafted}
use Rattle.emit_stmts.proofs.ScriptRows.{top_stands}
use Rattle.emit_stmts.proofs.scripts.top.Goals as goal

pub returns : goal.returns
returns c = top_stands c.args.texts.now c.args.scopes.items c.args.inner.items c.args.items.now c.args.end c.into_bytes.ensures
    (subst (λ (es : List Extent). Drafted c.args.texts.now c.args.scopes.items es c.args.items.now c.in_ok-code.field-0.code c.in_ok-code.field-0.notes.items) c.deref-2.ensures.value
    (subst (λ (ss : List ScopeView). Drafted c.args.texts.now ss c.deref-2.result.now c.args.items.now c.in_ok-code.field-0.code c.in_ok-code.field-0.notes.items) c.deref.ensures.value c.in_ok-code.ensures))
