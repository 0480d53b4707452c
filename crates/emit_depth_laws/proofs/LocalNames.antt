-- Names that are bound in a function, which a write reaches with nothing below the value.
use Rattle.std.proofs.Common.{◌≡◌, ◌∙◌, ℕ, ◌+◌, Bool, true, false, ◌||◌, if◌then◌else◌, cond, bytes_eq, List, [], ◌∷◌, map, Option, Some, refl, sym, ap, subst}
use Rattle.stencil_data.specs.declared.chains.LinkName.{LinkName}
use Rattle.stencil_data.specs.declared.scopes.BindKind.{BindKind}
use Rattle.stencil_data.specs.declared.scopes.BindKind.TheVariants as bind
use Rattle.stencil_data.specs.declared.scopes.Place.{Place}
use Rattle.stencil_data.specs.declared.scopes.Place.TheVariants as place
use Rattle.stencil_data.specs.declared.scopes.ScopeKind.{ScopeKind}
use Rattle.stencil_data.specs.declared.scopes.Slot.{Slot}
use Rattle.stencil_data.specs.declared.scopes.Slot.TheVariants as slot
use Rattle.stencil_data.specs.LinkView.{LinkView}
use Rattle.stencil_data.specs.Named.{NamedScope}
use Rattle.stencil_data.specs.Resolve.{is_global, environments_of, first_named, place_of, place_or, resolve_beyond, resolve}
use Rattle.stencil_data.specs.StandsFor.{link_of}
use Rattle.stencil_data.specs.Slots.{Unplaced, slots_from, slot_of, own_slot}
use Rattle.scope_analysis.specs.DeclaredNames.{Text, has_text, Declaration, texts_of}
use Rattle.scope_analysis.specs.Scopes.{unplaced, placed, scope_of}
use Rattle.emit_exprs.specs.Names.{base}
use Rattle.emit_exprs.specs.Exprs.{Scene, base_size}
use Rattle.emit_stmts.specs.Frames.{chain_link, global_link}
use Rattle.emit_depth_laws.proofs.RunningPieces.{below_name}

-- ---- places with nothing below the value

abbrev pub below_place : Place → ℕ
below_place place.Global = 1
below_place (place.Arg index) = 0
below_place (place.Frame slot kind) = 0
below_place (place.Env hops slot kind) = 0
below_place place.Callee = 0

pub below_is : (name : List ℕ) (p : Place) → base_size (base name p) ≡ below_place p
below_is name place.Global = refl
below_is name (place.Arg index) = refl
below_is name (place.Frame slot kind) = refl
below_is name (place.Env hops slot kind) = refl
below_is name place.Callee = refl

abbrev pub is_global_slot : Slot → Bool
is_global_slot slot.Global = true
is_global_slot (slot.Arg index) = false
is_global_slot (slot.Frame index) = false
is_global_slot (slot.Env index) = false
is_global_slot slot.Callee = false

slot_below : (hops : ℕ) (kind : BindKind) (s : Slot) → is_global_slot s ≡ false → below_place (place_of hops kind s) ≡ 0
slot_below hops kind slot.Global h = absurd (cc)
slot_below hops kind (slot.Arg index) h = refl
slot_below hops kind (slot.Frame index) h = refl
slot_below hops kind (slot.Env index) h = refl
slot_below hops kind slot.Callee h = refl

abbrev pub NoneGlobal : List LinkName → Type 0
NoneGlobal [] = Unit {0}
NoneGlobal (b ∷ bs) = (is_global_slot b.slot ≡ false) × NoneGlobal bs

abbrev pub names_of : List LinkName → List Text
names_of names = map (λ (b : LinkName). b.text) names

found_by : (m later : Bool) (hops : ℕ) (b : LinkName) (o : Option LinkName) (further : Place) → is_global_slot b.slot ≡ false → (m || later) ≡ true → (later ≡ true → below_place (place_or hops o further) ≡ 0) → below_place (place_or hops (cond m (Some b) o) further) ≡ 0
found_by true later hops b o further none has rest = slot_below hops b.kind b.slot none
found_by false later hops b o further none has rest = rest has

-- a name that one of the bindings has
found_below : (names : List LinkName) (name : Text) (hops : ℕ) (further : Place) → NoneGlobal names → has_text (names_of names) name ≡ true → below_place (place_or hops (first_named name names) further) ≡ 0
found_below [] name hops further none has = absurd (cc)
found_below (b ∷ bs) name hops further none has = found_by (bytes_eq b.text name) (has_text (names_of bs) name) hops b (first_named name bs) further none.0 has (λ later. found_below bs name hops further none.1 later)

passed_by : (m : Bool) (hops : ℕ) (b : LinkName) (o : Option LinkName) (further : Place) → is_global_slot b.slot ≡ false → below_place (place_or hops o further) ≡ 0 → below_place (place_or hops (cond m (Some b) o) further) ≡ 0
passed_by true hops b o further none rest = slot_below hops b.kind b.slot none
passed_by false hops b o further none rest = rest

-- a name that is found here or further out
passed_below : (names : List LinkName) (name : Text) (hops : ℕ) (further : Place) → NoneGlobal names → below_place further ≡ 0 → below_place (place_or hops (first_named name names) further) ≡ 0
passed_below [] name hops further none h = h
passed_below (b ∷ bs) name hops further none h = passed_by (bytes_eq b.text name) hops b (first_named name bs) further none.0 (passed_below bs name hops further none.1 h)

-- ---- scopes

pub record IsScopeOf (kind : ScopeKind) (ds : List Declaration) (s : NamedScope) : Type 0 where
  pub parent : Option ℕ
  pub frame : ℕ
  pub inner : List Text
  pub is : s ≡ scope_of kind parent frame ds inner

own_none : (kind : BindKind) (arg frame : ℕ) → is_global_slot (own_slot kind arg frame) ≡ false
own_none bind.Param arg frame = refl
own_none bind.Var arg frame = refl
own_none bind.Let arg frame = refl
own_none bind.Const arg frame = refl
own_none bind.Function arg frame = refl
own_none bind.Catch arg frame = refl
own_none bind.Callee arg frame = refl
own_none bind.Arguments arg frame = refl
own_none bind.This arg frame = refl

closed_none : (closed : Bool) (kind : BindKind) (env arg frame : ℕ) → is_global_slot (if closed then slot.Env env else own_slot kind arg frame) ≡ false
closed_none true kind env arg frame = refl
closed_none false kind env arg frame = own_none kind arg frame

slot_none : (kind : ScopeKind) (env arg frame : ℕ) (u : Unplaced) → is_global kind ≡ false → is_global_slot (slot_of kind env arg frame u) ≡ false
slot_none kind env arg frame u local = ap (λ (g : Bool). is_global_slot (if g then slot.Global else (if u.closed then slot.Env env else own_slot u.kind arg frame))) local ∙ closed_none u.closed u.kind env arg frame

placed_none : (kind : ScopeKind) (ds : List Declaration) (us : List Unplaced) (env arg frame : ℕ) → is_global kind ≡ false → NoneGlobal (placed ds (slots_from kind env arg frame us))
placed_none kind [] us env arg frame local = tt
placed_none kind (d ∷ ds) [] env arg frame local = tt
placed_none kind (d ∷ ds) (u ∷ us) env arg frame local = (slot_none kind env arg frame u local, placed_none kind ds us _ _ _ local)

placed_names : (kind : ScopeKind) (ds : List Declaration) (inner : List Text) (env arg frame : ℕ) → names_of (placed ds (slots_from kind env arg frame (unplaced inner ds))) ≡ texts_of ds
placed_names kind [] inner env arg frame = refl
placed_names kind (d ∷ ds) inner env arg frame = ap (λ (l : List Text). d.text ∷ l) (placed_names kind ds inner _ _ _)

-- the link of a scope that is not the global one
link_below : (kind : ScopeKind) (s : NamedScope) (name : Text) (hops : ℕ) (outer : List LinkView) → s.kind ≡ kind → is_global kind ≡ false → below_place (place_or hops (first_named name s.bindings) (resolve_beyond (hops + environments_of (chain_link s)) outer name)) ≡ 0 → below_place (resolve_beyond hops (chain_link s ∷ outer) name) ≡ 0
link_below kind s name hops outer is local h =
    subst (λ (l : LinkView). below_place (resolve_beyond hops (l ∷ outer) name) ≡ 0) (sym as_link)
    (ap (λ (g : Bool). below_place (if g then place.Global else place_or hops (first_named name s.bindings) (resolve_beyond (hops + environments_of (link_of s)) outer name))) not_global
    ∙ subst (λ (l : LinkView). below_place (place_or hops (first_named name s.bindings) (resolve_beyond (hops + environments_of l) outer name)) ≡ 0) as_link h)
  where
    not_global : is_global s.kind ≡ false
    not_global = ap is_global is ∙ local

    as_link : chain_link s ≡ link_of s
    as_link = ap (λ (g : Bool). if g then global_link else link_of s) not_global

-- ---- the scope has the name

pub own_names : (kind : ScopeKind) (ds : List Declaration) (s : NamedScope) → IsScopeOf kind ds s → names_of s.bindings ≡ texts_of ds
own_names kind ds s i = ap (λ (x : NamedScope). names_of x.bindings) i.is ∙ placed_names kind ds i.inner 0 0 i.frame

own_none_global : (kind : ScopeKind) (ds : List Declaration) (s : NamedScope) → IsScopeOf kind ds s → is_global kind ≡ false → NoneGlobal s.bindings
own_none_global kind ds s i local = subst (λ (x : NamedScope). NoneGlobal x.bindings) (sym i.is) (placed_none kind ds (unplaced i.inner ds) 0 0 i.frame local)

pub here_below : (kind : ScopeKind) (ds : List Declaration) (s : NamedScope) (name : Text) (hops : ℕ) (outer : List LinkView) → IsScopeOf kind ds s → is_global kind ≡ false → has_text (texts_of ds) name ≡ true → below_place (resolve_beyond hops (chain_link s ∷ outer) name) ≡ 0
here_below kind ds s name hops outer i local has =
    link_below kind s name hops outer (ap (λ (x : NamedScope). x.kind) i.is) local
    (found_below s.bindings name hops (resolve_beyond (hops + environments_of (chain_link s)) outer name) (own_none_global kind ds s i local) (ap (λ (l : List Text). has_text l name) (own_names kind ds s i) ∙ has))

pub through_below : (kind : ScopeKind) (ds : List Declaration) (s : NamedScope) (name : Text) (hops : ℕ) (outer : List LinkView) → IsScopeOf kind ds s → is_global kind ≡ false → ((n : ℕ) → below_place (resolve_beyond n outer name) ≡ 0) → below_place (resolve_beyond hops (chain_link s ∷ outer) name) ≡ 0
through_below kind ds s name hops outer i local h =
    link_below kind s name hops outer (ap (λ (x : NamedScope). x.kind) i.is) local
    (passed_below s.bindings name hops (resolve_beyond (hops + environments_of (chain_link s)) outer name) (own_none_global kind ds s i local) (h (hops + environments_of (chain_link s))))

-- nothing stands below the value of a write to the name
pub name_below : (scene : Scene) (name : Text) → below_place (resolve scene.chain name) ≡ 0 → below_name scene name ≡ 0
name_below scene name h = below_is name (resolve scene.chain name) ∙ h
