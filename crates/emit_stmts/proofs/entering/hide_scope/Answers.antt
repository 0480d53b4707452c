use Rattle.std.proofs.Common.{◌≡◌, ◌^◌, List, sym, ◌∙◌, ap, subst}
use Rattle.stencil_data.specs.declared.scopes.Binding.{Binding}
use Rattle.stencil_data.specs.Named.{NamedScope}
use Rattle.stencil_data.specs.StandsFor.{named_bindings}
use Rattle.emit_stmts.specs.Positions.{position_of}
use Rattle.emit_stmts.specs.Scoping.{AllBelow}
use Rattle.emit_stmts.specs.Stmts.{hidden_slots}
use Rattle.emit_stmts.proofs.Scopes.{scope_found, scope_hidden}
use Rattle.emit_stmts.proofs.entering.hide_scope.Goals as goal

pub hide-requires : goal.hide-requires
hide-requires c =
    let bindings : c.in-Some.scope.now.bindings ≡ c.deref.result.now = cc in
    subst (AllBelow (2 ^ 24))
    (ap (λ (s : NamedScope). hidden_slots s.bindings) (scope_found c.args.site.now.exprs.texts.now c.args.site.now.scopes.now c.args.number c.in-Some.scope.now c.in-Some.ensures.lookup.3.0 c.in-Some.ensures.lookup.1)
    ∙ (ap (λ (bs : List Binding). hidden_slots (named_bindings c.args.site.now.exprs.texts.now bs)) bindings
    ∙ (sym (c.in_ok-slots-in-Some.ensures c.args.site.now.exprs.texts.now) ∙ sym c.deref-in-Some.ensures.value)))
    (scope_hidden (position_of c.args.site.now).scopes c.args.number c.args.site.now.slots)
