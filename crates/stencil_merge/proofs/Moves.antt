-- Parts whose atoms are changed for others of equal texts stand for the same.
use Rattle.std.proofs.Common.{◌≡◌, ℕ, ◌<◌, List, [], ◌∷◌, length, map, Option, Some, None, option_map, refl, ◌∙◌, ap, ap₂}
use Rattle.stencil_data.specs.declared.chains.LinkName.{LinkName}
use Rattle.stencil_data.specs.declared.records.ClosedName.{ClosedName}
use Rattle.stencil_data.specs.declared.scopes.Binding.{Binding}
use Rattle.stencil_data.specs.declared.scopes.BindKind.{BindKind}
use Rattle.stencil_data.specs.declared.scopes.Slot.{Slot}
use Rattle.stencil_data.specs.Named.{NamedScope, NamedClosed, NamedRecord}
use Rattle.stencil_data.specs.StandsFor.{text_at, named_bindings, named_scope, named_closed, named_record, BindingsWithin, ScopesWithin, ClosedWithin, NameWithin, RecordWithin, RecordsWithin, ScopesStandFor, RecordsStandFor}
use Rattle.stencil_data.specs.Views.{ScopeView, RecordView}

-- each atom is changed for one of an equal text among others
pub record Moves (texts other : List (List ℕ)) (to : ℕ → ℕ) : Type 0 where
  pub within : (a : ℕ) → a < length texts → to a < length other
  pub same : (a : ℕ) → a < length texts → text_at other (to a) ≡ text_at texts a

-- ---- parts with other atoms

abbrev pub binding_with : (ℕ → ℕ) → Binding → Binding
binding_with to b = record { atom = to b.atom; kind = b.kind; slot = b.slot }

abbrev pub scope_with : (ℕ → ℕ) → ScopeView → ScopeView
scope_with to s = record { kind = s.kind; parent = s.parent; bindings = map (binding_with to) s.bindings; env_slots = s.env_slots }

abbrev pub closed_with : (ℕ → ℕ) → ClosedName → ClosedName
closed_with to n = record { scope = n.scope; atom = to n.atom }

abbrev pub record_with : (ℕ → ℕ) → RecordView → RecordView
record_with to l = record { extent = l.extent; kind = l.kind; name = option_map to l.name; inner = l.inner; closed = map (closed_with to) l.closed }

link_name : BindKind → Slot → List ℕ → LinkName
link_name kind slot text = record { text = text; kind = kind; slot = slot }

named_scope_of : ScopeView → List LinkName → NamedScope
named_scope_of s bindings = record { kind = s.kind; parent = s.parent; bindings = bindings; env_slots = s.env_slots }

named_closed_of : ClosedName → List ℕ → NamedClosed
named_closed_of n text = record { scope = n.scope; text = text }

named_record_of : RecordView → Option (List ℕ) → List NamedClosed → NamedRecord
named_record_of l name closed = record { extent = l.extent; kind = l.kind; name = name; inner = l.inner; closed = closed }

module _ (texts other : List (List ℕ)) (to : ℕ → ℕ) (m : Moves texts other to) where
  -- ---- names

  pub name_within : (name : Option ℕ) → NameWithin (length texts) name → NameWithin (length other) (option_map to name)
  name_within None h = tt
  name_within (Some a) h = m.within a h

  pub name_same : (name : Option ℕ) → NameWithin (length texts) name → option_map (text_at other) (option_map to name) ≡ option_map (text_at texts) name
  name_same None h = refl
  name_same (Some a) h = ap (λ (t : List ℕ). Some t) (m.same a h)

  -- ---- scopes

  bindings_within : (bs : List Binding) → BindingsWithin (length texts) bs → BindingsWithin (length other) (map (binding_with to) bs)
  bindings_within [] h = tt
  bindings_within (b ∷ bs) h = (m.within b.atom h.0, bindings_within bs h.1)

  bindings_same : (bs : List Binding) → BindingsWithin (length texts) bs → named_bindings other (map (binding_with to) bs) ≡ named_bindings texts bs
  unfolding link_name
  bindings_same [] h = refl
  bindings_same (b ∷ bs) h = ap₂ (λ (t : List ℕ) (ns : List LinkName). link_name b.kind b.slot t ∷ ns) (m.same b.atom h.0) (bindings_same bs h.1)

  scopes_within : (ss : List ScopeView) → ScopesWithin (length texts) ss → ScopesWithin (length other) (map (scope_with to) ss)
  scopes_within [] h = tt
  scopes_within (s ∷ ss) h = (bindings_within s.bindings h.0, scopes_within ss h.1)

  scopes_same : (ss : List ScopeView) → ScopesWithin (length texts) ss → map (named_scope other) (map (scope_with to) ss) ≡ map (named_scope texts) ss
  unfolding named_scope_of
  scopes_same [] h = refl
  scopes_same (s ∷ ss) h = ap₂ (λ (bs : List LinkName) (ns : List NamedScope). named_scope_of s bs ∷ ns) (bindings_same s.bindings h.0) (scopes_same ss h.1)

  pub scopes_move : (ss : List ScopeView) (named : List NamedScope) → ScopesStandFor texts ss named → ScopesStandFor other (map (scope_with to) ss) named
  scopes_move ss named h = record { within = scopes_within ss h.within; are = scopes_same ss h.within ∙ h.are }

  -- ---- records

  closed_within : (ns : List ClosedName) → ClosedWithin (length texts) ns → ClosedWithin (length other) (map (closed_with to) ns)
  closed_within [] h = tt
  closed_within (n ∷ ns) h = (m.within n.atom h.0, closed_within ns h.1)

  closed_same : (ns : List ClosedName) → ClosedWithin (length texts) ns → map (named_closed other) (map (closed_with to) ns) ≡ map (named_closed texts) ns
  unfolding named_closed_of
  closed_same [] h = refl
  closed_same (n ∷ ns) h = ap₂ (λ (t : List ℕ) (xs : List NamedClosed). named_closed_of n t ∷ xs) (m.same n.atom h.0) (closed_same ns h.1)

  records_within : (ls : List RecordView) → RecordsWithin (length texts) ls → RecordsWithin (length other) (map (record_with to) ls)
  records_within [] h = tt
  records_within (l ∷ ls) h = ((name_within l.name h.0.0, closed_within l.closed h.0.1), records_within ls h.1)

  record_same : (l : RecordView) → RecordWithin (length texts) l → named_record other (record_with to l) ≡ named_record texts l
  unfolding named_record_of
  record_same l h = ap₂ (named_record_of l) (name_same l.name h.0) (closed_same l.closed h.1)

  records_same : (ls : List RecordView) → RecordsWithin (length texts) ls → map (named_record other) (map (record_with to) ls) ≡ map (named_record texts) ls
  records_same [] h = refl
  records_same (l ∷ ls) h = ap₂ (λ (x : NamedRecord) (xs : List NamedRecord). x ∷ xs) (record_same l h.0) (records_same ls h.1)

  pub records_move : (ls : List RecordView) (named : List NamedRecord) → RecordsStandFor texts ls named → RecordsStandFor other (map (record_with to) ls) named
  records_move ls named h = record { within = records_within ls h.within; are = records_same ls h.within ∙ h.are }

-- ---- parts that keep their atoms

binding_of : Binding → ℕ → Binding
binding_of b atom = record { atom = atom; kind = b.kind; slot = b.slot }

bindings_kept : (bs : List Binding) → map (binding_with (λ a. a)) bs ≡ bs
bindings_kept [] = refl
bindings_kept (b ∷ bs) = ap (λ (xs : List Binding). b ∷ xs) (bindings_kept bs)

scope_of : ScopeView → List Binding → ScopeView
scope_of s bs = record { kind = s.kind; parent = s.parent; bindings = bs; env_slots = s.env_slots }

pub scopes_kept : (ss : List ScopeView) → map (scope_with (λ a. a)) ss ≡ ss
unfolding scope_of
scopes_kept [] = refl
scopes_kept (s ∷ ss) = ap₂ (λ (bs : List Binding) (xs : List ScopeView). scope_of s bs ∷ xs) (bindings_kept s.bindings) (scopes_kept ss)

pub name_kept : (name : Option ℕ) → option_map (λ (a : ℕ). a) name ≡ name
name_kept None = refl
name_kept (Some a) = refl

closed_kept : (ns : List ClosedName) → map (closed_with (λ a. a)) ns ≡ ns
closed_kept [] = refl
closed_kept (n ∷ ns) = ap (λ (xs : List ClosedName). n ∷ xs) (closed_kept ns)

record_at : RecordView → Option ℕ → List ClosedName → RecordView
record_at l name closed = record { extent = l.extent; kind = l.kind; name = name; inner = l.inner; closed = closed }

record_kept : (l : RecordView) → record_with (λ a. a) l ≡ l
unfolding record_at
record_kept l = ap₂ (record_at l) (name_kept l.name) (closed_kept l.closed)

pub records_kept : (ls : List RecordView) → map (record_with (λ a. a)) ls ≡ ls
records_kept [] = refl
records_kept (l ∷ ls) = ap₂ (λ (x : RecordView) (xs : List RecordView). x ∷ xs) (record_kept l) (records_kept ls)
