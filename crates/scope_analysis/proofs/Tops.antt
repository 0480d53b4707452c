-- Names at the top, and the scope of a script.
use Rattle.std.proofs.Common.{◌≡◌, ℕ, ◌+◌, if◌then◌else◌, List, [], ◌∷◌, ◌++◌, map, length, Some, None, refl, sym, ◌∙◌, ap, subst, arith, cond, count_by}
use Rattle.std.proofs.lemmas.List.{append-nil}
use Rattle.std.proofs.lemmas.List.Sums.{sum_by-cons}
use Rattle.script_grammar.specs.Tree.{Stmt, Stmts, Block, Empty, Debugger, Binding, Value, If, Do, While, For, ForIn, Continue, Break, Return, Throw, Switch, Label, Try, Declared}
use Rattle.stencil_data.specs.declared.chains.LinkName.{LinkName}
use Rattle.stencil_data.specs.declared.records.ClosedName.{ClosedName}
use Rattle.stencil_data.specs.declared.scopes.Binding as of_scope
use Rattle.stencil_data.specs.declared.scopes.ScopeKind.TheVariants as scope
use Rattle.stencil_data.specs.declared.scopes.Slot.{Slot}
use Rattle.stencil_data.specs.declared.scopes.Slot.TheVariants as slot
use Rattle.stencil_data.specs.Named.{NamedScope, NamedClosed}
use Rattle.stencil_data.specs.Slots.{Unplaced, slots_from, is_param, takes_frame}
use Rattle.stencil_data.specs.StandsFor.{named_bindings, named_scope}
use Rattle.stencil_data.specs.Views.{ScopeView}
use Rattle.scope_analysis.specs.declared.names.DeclaredName.{DeclaredName}
use Rattle.scope_analysis.specs.DeclaredNames.{Text, Declaration, has_text, top_var_names_in, var_names_in}
use Rattle.scope_analysis.specs.Scopes.{Within, unplaced, placed, scopes_stmts, count_stmts, block_inner, global_names, script_scopes, inside, outermost}
use Rattle.scope_analysis.specs.Closed.{closed_bindings, closed_from, named_left}
use Rattle.scope_analysis.specs.Kept.{declaration_of, declarations_of, declared_name}
use Rattle.scope_analysis.specs.Walked.{ScopesFit, within, Added, Scoped, CloseOver}

pub top_vars_split : (s : Stmt) → top_var_names_in s ≡ declared_name s ++ var_names_in s
top_vars_split (Block items) = refl
top_vars_split Empty = refl
top_vars_split (Debugger semi) = refl
top_vars_split (Binding kind binds semi) = refl
top_vars_split (Value value semi) = refl
top_vars_split (If test then_stmt else_stmt) = refl
top_vars_split (Do body test semi) = refl
top_vars_split (While test body) = refl
top_vars_split (For init test update body) = refl
top_vars_split (ForIn each over body) = refl
top_vars_split (Continue at label semi) = refl
top_vars_split (Break at label semi) = refl
top_vars_split (Return value semi) = refl
top_vars_split (Throw value semi) = refl
top_vars_split (Switch _ _) = refl
top_vars_split (Label name body) = refl
top_vars_split (Try body param handler) = refl
top_vars_split (Declared f) = sym (append-nil (declared_name (Declared f)))

abbrev global_name : Declaration → LinkName
global_name d = record { text = d.text; kind = d.kind; slot = slot.Global }

placed_global : (inner : List Text) (ds : List Declaration) (env arg frame : ℕ) → placed ds (slots_from scope.Global env arg frame (unplaced inner ds)) ≡ map global_name ds
placed_global inner [] env arg frame = refl
placed_global inner (d ∷ ds) env arg frame = ap (λ (bs : List LinkName). global_name d ∷ bs) (placed_global inner ds (env + (if has_text inner d.text then 1 else 0)) (arg + (if is_param d.kind then 1 else 0)) (frame + 0))

frames_global : (us : List Unplaced) (env arg frame : ℕ) → count_by takes_frame (slots_from scope.Global env arg frame us) ≡ 0
frames_global [] env arg frame = refl
frames_global (u ∷ us) env arg frame =
    sum_by-cons (λ (s : Slot). cond (takes_frame s) 1 0) slot.Global (slots_from scope.Global (env + (if u.closed then 1 else 0)) (arg + (if is_param u.kind then 1 else 0)) (frame + 0) us) ∙ (let e = frames_global us (env + (if u.closed then 1 else 0)) (arg + (if is_param u.kind then 1 else 0)) (frame + 0) in omega (arith, e))

closed_global : (number : ℕ) (ds : List Declaration) → closed_bindings number (map global_name ds) ≡ []
closed_global number [] = refl
closed_global number (d ∷ ds) = closed_global number ds

abbrev scope_of_bindings : List LinkName → NamedScope
scope_of_bindings bs = record { kind = scope.Global; parent = None; bindings = bs; env_slots = 0 }

abbrev around_at : ℕ → Within
around_at f = record { parent = Some 0; next = 1; frame = f }

-- the global scope with these bindings
abbrev pub global_first : List of_scope.Binding → ScopeView
global_first bindings = record { kind = scope.Global; parent = None; bindings = bindings; env_slots = 0 }

pub script_made : (texts : List (List ℕ)) (closed : List ClosedName) (m : Stmts) (names : List DeclaredName) (bindings : List of_scope.Binding) (scopes : List ScopeView) (to : ℕ)
    → declarations_of texts names ≡ global_names m → named_bindings texts bindings ≡ map global_name (declarations_of texts names)
    → Scoped texts closed (record { parent = Some 0; frame = 0 }) (record { kind = scope.Global; parent = None; bindings = bindings; env_slots = 0 } ∷ []) 0 scopes to (count_stmts m) (scopes_stmts m)
    → CloseOver texts closed (script_scopes m) → map (named_scope texts) scopes ≡ script_scopes m
script_made texts closed m names bindings scopes to names_are bound added told =
    let ds : List Declaration = global_names m in
    let inner : List Text = block_inner m in
    let first : List LinkName = placed ds (slots_from scope.Global 0 0 0 (unplaced inner ds)) in
    let bound_known : named_bindings texts bindings ≡ first = bound ∙ (ap (map global_name) names_are ∙ sym (placed_global inner ds 0 0 0)) in
    let inside_known : within (record { parent = Some 0; frame = 0 }) 1 ≡ inside scope.Global ds inner outermost =
    ap (λ (f : ℕ). around_at f) (let e = frames_global (unplaced inner ds) 0 0 0 in let z : 0 ≡ 0 + count_by takes_frame (slots_from scope.Global 0 0 0 (unplaced inner ds)) = omega (arith, e) in z) in
    let part : List NamedScope = scopes_stmts m (inside scope.Global ds inner outermost) in
    let part_known : scopes_stmts m (within (record { parent = Some 0; frame = 0 }) 1) ≡ part = ap (scopes_stmts m) inside_known in
    let none : closed_bindings 0 first ≡ [] = ap (closed_bindings 0) (placed_global inner ds 0 0 0) ∙ closed_global 0 ds in
    let left : named_left texts closed 0 ≡ closed_from 1 (scopes_stmts m (within (record { parent = Some 0; frame = 0 }) 1) ++ []) =
    told.names ∙ (ap (λ (cs : List NamedClosed). cs ++ closed_from 1 part) none ∙ (ap (closed_from 1) (sym part_known) ∙ ap (closed_from 1) (sym (append-nil (scopes_stmts m (within (record { parent = Some 0; frame = 0 }) 1)))))) in
    let done : Added texts closed (record { kind = scope.Global; parent = None; bindings = bindings; env_slots = 0 } ∷ []) scopes to (scopes_stmts m (within (record { parent = Some 0; frame = 0 }) 1)) [] =
    added.added.adds [] (subst ScopesFit (sym part_known) told.fit.1) (let e = ap length part_known in omega (arith, told.few, e)) left in
    done.scopes
    ∙ (ap (λ (bs : List LinkName). scope_of_bindings bs ∷ scopes_stmts m (within (record { parent = Some 0; frame = 0 }) 1)) bound_known
    ∙ ap (λ (ss : List NamedScope). scope_of_bindings first ∷ ss) part_known)

pub bound_global : (texts : List (List ℕ)) (names : List DeclaredName) → named_bindings texts (map (λ (n : DeclaredName). record { atom = n.atom; kind = n.kind; slot = slot.Global }) names) ≡ map global_name (declarations_of texts names)
bound_global texts [] = refl
bound_global texts (n ∷ ns) = ap (λ (bs : List LinkName). global_name (declaration_of texts n) ∷ bs) (bound_global texts ns)
