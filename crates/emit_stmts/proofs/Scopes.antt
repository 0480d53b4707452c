-- Scopes by their numbers.
use Rattle.std.proofs.Common.{◌≡◌, ℕ, zero, suc, ◌<◌, ◌^◌, ◌++◌, Bool, true, false, if◌then◌else◌, List, [], ◌∷◌, map, length, get_or, sym, ap, arith}
use Rattle.stencil_data.specs.declared.chains.LinkName.{LinkName}
use Rattle.stencil_data.specs.declared.scopes.BindKind.{BindKind}
use Rattle.stencil_data.specs.declared.scopes.BindKind.TheVariants as bind
use Rattle.stencil_data.specs.declared.scopes.Slot.{Slot}
use Rattle.stencil_data.specs.declared.scopes.Slot.TheVariants as slot
use Rattle.stencil_data.specs.Fits.{SlotFits, NamesFit}
use Rattle.stencil_data.specs.Named.{NamedScope}
use Rattle.stencil_data.specs.Resolve.{is_global}
use Rattle.stencil_data.specs.StandsFor.{named_scope, link_of}
use Rattle.stencil_data.specs.Views.{ScopeView}
use Rattle.scope_analysis.specs.Walked.{ScopesFit}
use Rattle.emit_stmts.specs.Frames.{scope_at, global_link, chain_link}
use Rattle.emit_stmts.specs.Scoping.{AllBelow}
use Rattle.emit_stmts.specs.Stmts.{hidden_slot, hidden_slots}

pub scope_found : (texts : List (List ℕ)) (scopes : List ScopeView) (number : ℕ) (s : ScopeView) → number < length scopes → s ≡ get_or scopes number s → scope_at (map (named_scope texts) scopes) number ≡ named_scope texts s
scope_found texts [] number s lt is = absurd (omega arith)
scope_found texts (x ∷ xs) zero s lt is = ap (named_scope texts) (sym is)
scope_found texts (x ∷ xs) (suc n) s lt is = scope_found texts xs n s (omega arith) is

-- ---- slots

bindings_fit : (scopes : List NamedScope) (number : ℕ) → ScopesFit scopes → NamesFit (scope_at scopes number).bindings
bindings_fit [] number fit = tt
bindings_fit (s ∷ ss) zero fit = fit.0
bindings_fit (s ∷ ss) (suc n) fit = bindings_fit ss n fit.1

-- the hidden slots among them
one_below : (kind : BindKind) (slot : Slot) (further : List ℕ) → SlotFits slot → AllBelow (2 ^ 24) further → AllBelow (2 ^ 24) (hidden_slot kind slot ++ further)
one_below bind.Let (slot.Frame index) further fit all = (fit, all)
one_below bind.Const (slot.Frame index) further fit all = (fit, all)
one_below _ _ further fit all = all

pub hidden_below : (names : List LinkName) → NamesFit names → AllBelow (2 ^ 24) (hidden_slots names)
hidden_below [] fit = tt
hidden_below (n ∷ ns) fit = one_below n.kind n.slot (hidden_slots ns) fit.0 (hidden_below ns fit.1)

pub scope_hidden : (scopes : List NamedScope) (number : ℕ) → ScopesFit scopes → AllBelow (2 ^ 24) (hidden_slots (scope_at scopes number).bindings)
scope_hidden scopes number fit = hidden_below (scope_at scopes number).bindings (bindings_fit scopes number fit)

chosen_fits : (global : Bool) (s : NamedScope) → NamesFit s.bindings → NamesFit (if global then global_link else link_of s).names
chosen_fits true s fit = tt
chosen_fits false s fit = fit

pub link_fits : (scopes : List NamedScope) (number : ℕ) → ScopesFit scopes → NamesFit (chain_link (scope_at scopes number)).names
link_fits scopes number fit = chosen_fits (is_global (scope_at scopes number).kind) (scope_at scopes number) (bindings_fit scopes number fit)
