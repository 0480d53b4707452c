-- The slots of a scope fit where its names are few.
use Rattle.std.proofs.Common.{◌≡◌, ℕ, ◌+◌, ◌^◌, ◌≤◌, ◌<◌, Bool, true, false, cond, List, [], ◌∷◌, ◌++◌, length, count_by, refl, sym, subst, arith}
use Rattle.std.proofs.lemmas.List.{length-map}
use Rattle.std.proofs.lemmas.List.Sums.{sum_by-cons}
use Rattle.stencil_data.specs.declared.scopes.BindKind.{BindKind}
use Rattle.stencil_data.specs.declared.scopes.BindKind.TheVariants as bind
use Rattle.stencil_data.specs.declared.scopes.ScopeKind.{ScopeKind}
use Rattle.stencil_data.specs.declared.scopes.Slot.{Slot}
use Rattle.stencil_data.specs.declared.scopes.Slot.TheVariants as slot
use Rattle.stencil_data.specs.Fits.{SlotFits, NamesFit}
use Rattle.stencil_data.specs.Named.{NamedScope}
use Rattle.stencil_data.specs.Resolve.{is_global}
use Rattle.stencil_data.specs.Slots.{Unplaced, is_param, own_slot, takes_frame, slot_of, slots_from, frame_after}
use Rattle.scope_analysis.specs.DeclaredNames.{Text, has_text, Declaration, declarations}
use Rattle.scope_analysis.specs.Scopes.{unplaced, placed, Within, inside, scope_and, scope_around, scope_count}
use Rattle.scope_analysis.specs.Walked.{ScopesFit}

-- ---- parameters among declarations

abbrev pub param_count : List Declaration → ℕ
param_count [] = 0
param_count (d ∷ ds) = cond (is_param d.kind) 1 0 + param_count ds

pub param_both : (ds es : List Declaration) → param_count (ds ++ es) ≡ param_count ds + param_count es
param_both [] es = omega arith
param_both (d ∷ ds) es = let h = param_both ds es in omega (arith, h)

none_at : (b : Bool) → b ≡ false → cond b 1 0 ≤ 0
none_at b e = subst (λ x. cond x 1 0 ≤ 0) (sym e) (omega arith)

-- declarations of a kind that is no parameter's
pub no_params_in : (kind : BindKind) (texts : List Text) → is_param kind ≡ false → param_count (declarations kind texts) ≡ 0
no_params_in kind [] e = refl
no_params_in kind (t ∷ ts) e = let h = no_params_in kind ts e in let one = none_at (is_param kind) e in omega (arith, h, one)

pub all_params_in : (texts : List Text) → param_count (declarations bind.Param texts) ≡ length texts
all_params_in [] = refl
all_params_in (t ∷ ts) = let h = all_params_in ts in omega (arith, h)

-- ---- slots

one_at_most : (b : Bool) → cond b 1 0 ≤ 1
one_at_most true = omega arith
one_at_most false = omega arith

own_fits : (kind : BindKind) (arg frame : ℕ) → arg + cond (is_param kind) 1 0 ≤ 2 ^ 16 → frame < 2 ^ 24 → SlotFits (own_slot kind arg frame)
own_fits bind.Param arg frame a f = omega (arith, a)
own_fits bind.Var arg frame a f = f
own_fits bind.Let arg frame a f = f
own_fits bind.Const arg frame a f = f
own_fits bind.Function arg frame a f = f
own_fits bind.Catch arg frame a f = f
own_fits bind.Callee arg frame a f = tt
own_fits bind.Arguments arg frame a f = f
own_fits bind.This arg frame a f = f

either_fits : (b : Bool) (s t : Slot) → SlotFits s → SlotFits t → SlotFits (cond b s t)
either_fits true s t f g = f
either_fits false s t f g = g

slot_fits : (kind : ScopeKind) (env arg frame : ℕ) (b : Unplaced) → env < 2 ^ 24 → arg + cond (is_param b.kind) 1 0 ≤ 2 ^ 16 → frame < 2 ^ 24 → SlotFits (slot_of kind env arg frame b)
slot_fits kind env arg frame b e a f = either_fits (is_global kind) slot.Global (cond b.closed (slot.Env env) (own_slot b.kind arg frame)) tt (either_fits b.closed (slot.Env env) (own_slot b.kind arg frame) e (own_fits b.kind arg frame a f))

placed_fit : (kind : ScopeKind) (env arg frame : ℕ) (inner : List Text) (ds : List Declaration) → env + length ds ≤ 2 ^ 24 → arg + param_count ds ≤ 2 ^ 16 → frame + length ds ≤ 2 ^ 24
    → NamesFit (placed ds (slots_from kind env arg frame (unplaced inner ds)))
placed_fit kind env arg frame inner [] e a f = tt
placed_fit kind env arg frame inner (d ∷ ds) e a f =
    let b : Unplaced = record { kind = d.kind; closed = has_text inner d.text } in
    let closes = one_at_most b.closed in
    let takes = one_at_most (takes_frame (slot_of kind env arg frame b)) in (
      slot_fits kind env arg frame b (omega (arith, e)) (omega (arith, a)) (omega (arith, f)),
      placed_fit kind (env + cond b.closed 1 0) (arg + cond (is_param d.kind) 1 0) (frame + cond (takes_frame (slot_of kind env arg frame b)) 1 0) inner ds (omega (arith, e, closes)) (omega (arith, a)) (omega (arith, f, takes)),
    )

frames_few : (kind : ScopeKind) (env arg frame : ℕ) (bs : List Unplaced) → count_by takes_frame (slots_from kind env arg frame bs) ≤ length bs
frames_few kind env arg frame [] = omega arith
frames_few kind env arg frame (b ∷ bs) =
    let s = slot_of kind env arg frame b in
    let rest = slots_from kind (env + cond b.closed 1 0) (arg + cond (is_param b.kind) 1 0) (frame + cond (takes_frame s) 1 0) bs in
    let e = sum_by-cons (λ (x : Slot). cond (takes_frame x) 1 0) s rest in
    let one = one_at_most (takes_frame s) in
    let h = frames_few kind (env + cond b.closed 1 0) (arg + cond (is_param b.kind) 1 0) (frame + cond (takes_frame s) 1 0) bs in
    omega (arith, e, one, h)

-- a scope takes no more of the frame than it has names
frame_inside : (kind : ScopeKind) (frame : ℕ) (inner : List Text) (ds : List Declaration) → frame_after kind frame (unplaced inner ds) ≤ frame + length ds
frame_inside kind frame inner ds =
    let h = frames_few kind 0 0 frame (unplaced inner ds) in
    let e = length-map {B = Unplaced} ds (λ (d : Declaration). record { kind = d.kind; closed = has_text inner d.text }) in
    omega (arith, h, e)

-- ---- scopes around parts

pub fit_both : (ss ts : List NamedScope) → ScopesFit ss → ScopesFit ts → ScopesFit (ss ++ ts)
fit_both [] ts f g = g
fit_both (s ∷ ss) ts f g = (f.0, fit_both ss ts f.1 g)

-- at most n parameters, and room for these names and those of the content
pub and_fits : (kind : ScopeKind) (ds : List Declaration) (inner : List Text) (content : Within → List NamedScope) (w : Within) (n : ℕ) → param_count ds ≤ 2 ^ 16 → w.frame + (length ds + n) ≤ 2 ^ 24
    → ((v : Within) → v.frame + n ≤ 2 ^ 24 → ScopesFit (content v)) → ScopesFit (scope_and kind ds inner content w)
and_fits kind ds inner content w n few room fits =
    let after = frame_inside kind w.frame inner ds in
    (placed_fit kind 0 0 w.frame inner ds (omega (arith, room)) (omega (arith, few)) (omega (arith, room)), fits (inside kind ds inner w) (omega (arith, room, after)))

pub around_fits : (kind : ScopeKind) (ds : List Declaration) (inner : List Text) (content : Within → List NamedScope) (w : Within) (n : ℕ) → param_count ds ≤ 2 ^ 16 → w.frame + (length ds + n) ≤ 2 ^ 24
    → ((v : Within) → v.frame + n ≤ 2 ^ 24 → ScopesFit (content v)) → ScopesFit (scope_around kind ds inner content w)
around_fits kind [] inner content w n few room fits = fits w (omega (arith, room))
around_fits kind (d ∷ ds) inner content w n few room fits = and_fits kind (d ∷ ds) inner content w n few room fits

-- no more scopes than the declarations make, and the content has
pub around_few : (kind : ScopeKind) (ds : List Declaration) (inner : List Text) (content : Within → List NamedScope) (w : Within) (n : ℕ) → ((v : Within) → length (content v) ≤ n) → length (scope_around kind ds inner content w) ≤ scope_count ds + n
around_few kind [] inner content w n few = let h = few w in omega (arith, h)
around_few kind (d ∷ ds) inner content w n few = let h = few (inside kind (d ∷ ds) inner w) in omega (arith, h)

pub scope_count_few : (ds : List Declaration) → scope_count ds ≤ length ds
scope_count_few [] = omega arith
scope_count_few (d ∷ ds) = omega arith
