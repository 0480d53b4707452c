use Rattle.std.proofs.Common.{◌≡◌, ℕ, ◌++◌, ◌∷◌, [], List, Some, map, ap, subst, ◌∙◌}
use Rattle.script_grammar.specs.Tree.{Stmts}
use Rattle.script_grammar.specs.TreeLists.{stmts_of}
use Rattle.script_grammar.specs.TreeOf.{stmt_of}
use Rattle.stencil_data.specs.declared.records.ClosedName.{ClosedName}
use Rattle.stencil_data.specs.declared.scopes.Slot.TheVariants as slot
use Rattle.stencil_data.specs.StandsFor.{named_bindings}
use Rattle.stencil_data.specs.Views.{ScopeView}
use Rattle.scope_analysis.specs.declared.names.DeclaredName.{DeclaredName}
use Rattle.scope_analysis.specs.Closed.{inside_global}
use Rattle.scope_analysis.specs.Kept.{under}
use Rattle.scope_analysis.specs.Scopes.{count_stmts, scopes_stmts}
use Rattle.scope_analysis.specs.Walked.{Scoped}
use Rattle.scope_analysis.proofs.Tops.{script_made, bound_global, global_first}
use Rattle.scope_analysis.proofs.toplevel.top_scopes.Goals as goal

pub returns : goal.returns
returns c = λ bodies told.
    let texts : List (List ℕ) = c.args.texts.now in
    let m : Stmts = stmts_of (map (stmt_of (under texts bodies)) c.args.items.now) in
    let inner_known : c.deref-2.result.now ≡ inside_global c.args.closed.now = c.deref-2.ensures.value ∙ c.in_ok-inner.ensures in
    let pushed : c.push.new.self.items ≡ global_first c.in_ok-bindings.bindings.items ∷ [] =
    c.in_ok-push.ensures.items ∙ ap (λ (ss : List ScopeView). ss ++ global_first c.in_ok-bindings.bindings.items ∷ []) c.new-scopes.ensures.items in
    let bound_are : c.in_ok-bindings.bindings.items ≡ map (λ (n : DeclaredName). record { atom = n.atom; kind = n.kind; slot = slot.Global }) c.in_ok-names.names.items =
    c.in_ok-bindings.ensures ∙ ap (map (λ (n : DeclaredName). record { atom = n.atom; kind = n.kind; slot = slot.Global })) c.deref.ensures.value in
    script_made texts (inside_global c.args.closed.now) m c.in_ok-names.names.items c.in_ok-bindings.bindings.items c.add_stmts.new.made.scopes.items c.add_stmts.new.made.closed
    (c.in_ok-names.ensures bodies)
    (ap (named_bindings texts) bound_are ∙ bound_global texts c.in_ok-names.names.items)
    (subst (λ (cs : List ClosedName). Scoped texts cs (record { parent = Some 0; frame = 0 }) (global_first c.in_ok-bindings.bindings.items ∷ []) 0 c.add_stmts.new.made.scopes.items c.add_stmts.new.made.closed (count_stmts m) (scopes_stmts m)) inner_known
    (subst (λ (ss : List ScopeView). Scoped texts c.deref-2.result.now (record { parent = Some 0; frame = 0 }) ss 0 c.add_stmts.new.made.scopes.items c.add_stmts.new.made.closed (count_stmts m) (scopes_stmts m)) pushed (c.in_ok-add_stmts.ensures bodies)))
    told
