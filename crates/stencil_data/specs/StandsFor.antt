-- When numbered parts and the texts beside them stand for values with texts in place of atoms: each
-- name, binding and closed name is the index of its text, and all else agrees part by part. Nothing is
-- said of the order of the texts, or of texts that no part names. This project's own choice.
--
-- What a code stands for is a parameter, `shows texts bytes code`, since instructions are no matter of
-- this crate.
use Rattle.std.specs.Prelude.{◌≡◌, ℕ, ◌<◌, nat_lt, slice_index_or, List, [], ◌∷◌, map, length, IfSome, Option, Some, None, option_map}
use Rattle.stencil_data.specs.declared.chains.LinkName.{LinkName}
use Rattle.stencil_data.specs.declared.records.ClosedName.{ClosedName}
use Rattle.stencil_data.specs.declared.scopes.Binding.{Binding}
use Rattle.stencil_data.specs.declared.stencils.Entry.{Entry}
use Rattle.stencil_data.specs.declared.stencils.Entry.TheVariants as entry
use Rattle.stencil_data.specs.LinkView.{LinkView}
use Rattle.stencil_data.specs.MergedView.{MergedView}
use Rattle.stencil_data.specs.Named.{NamedScope, NamedFunction, NamedClosed, NamedRecord, NamedInitial, NamedMerged}
use Rattle.stencil_data.specs.Views.{ScopeView, RecordView, FunctionView, InitialView}

-- the text of an atom
abbrev pub text_at : List (List ℕ) → ℕ → List ℕ
text_at texts atom = slice_index_or texts atom []

abbrev pub named_binding : List (List ℕ) → Binding → LinkName
named_binding texts binding = record { text = text_at texts binding.atom; kind = binding.kind; slot = binding.slot }

abbrev pub named_bindings : List (List ℕ) → List Binding → List LinkName
named_bindings texts bindings = map (named_binding texts) bindings

abbrev pub named_scope : List (List ℕ) → ScopeView → NamedScope
named_scope texts scope = record {
  kind = scope.kind;
  parent = scope.parent;
  bindings = named_bindings texts scope.bindings;
  env_slots =
      scope.env_slots;
}

abbrev pub named_closed : List (List ℕ) → ClosedName → NamedClosed
named_closed texts name = record { scope = name.scope; text = text_at texts name.atom }

abbrev pub named_record : List (List ℕ) → RecordView → NamedRecord
named_record texts lazy = record {
  extent = lazy.extent;
  kind = lazy.kind;
  name = option_map
      (text_at texts) lazy.name;
  inner = lazy.inner;
  closed = map (named_closed texts) lazy.closed;
}

-- every atom of these bindings is the index of a text; and so on for scopes, closed names and records
abbrev pub BindingsWithin : ℕ → List Binding → Type 0
BindingsWithin count [] = Unit {0}
BindingsWithin count (binding ∷ bindings) = (binding.atom < count) × BindingsWithin count bindings

abbrev pub ScopesWithin : ℕ → List ScopeView → Type 0
ScopesWithin count [] = Unit {0}
ScopesWithin count (scope ∷ scopes) = BindingsWithin count scope.bindings × ScopesWithin count scopes

abbrev pub ClosedWithin : ℕ → List ClosedName → Type 0
ClosedWithin count [] = Unit {0}
ClosedWithin count (name ∷ names) = (name.atom < count) × ClosedWithin count names

abbrev pub NameWithin : ℕ → Option ℕ → Type 0
NameWithin count name = IfSome name (λ atom. atom < count)

abbrev pub RecordWithin : ℕ → RecordView → Type 0
RecordWithin count lazy = NameWithin count lazy.name × ClosedWithin count lazy.closed

abbrev pub RecordsWithin : ℕ → List RecordView → Type 0
RecordsWithin count [] = Unit {0}
RecordsWithin count (lazy ∷ records) = RecordWithin count lazy × RecordsWithin count records

-- the scopes stand for these
pub record ScopesStandFor (texts : List (List ℕ)) (scopes : List ScopeView) (named : List NamedScope) : Type 0 where
  pub within : ScopesWithin (length texts) scopes
  pub are : map (named_scope texts) scopes ≡ named

-- a record stands for this
pub record RecordStandsFor (texts : List (List ℕ)) (lazy : RecordView) (named : NamedRecord) : Type 0 where
  pub within : RecordWithin (length texts) lazy
  pub is : named_record texts lazy ≡ named

-- the records stand for these, each for its own
pub record RecordsStandFor (texts : List (List ℕ)) (records : List RecordView) (named : List NamedRecord) : Type 0 where
  pub within : RecordsWithin (length texts) records
  pub are : map (named_record texts) records ≡ named

-- a compiled function stands for this, its code by `shows`
pub record FunctionStandsFor {Code : Type 0} (shows : List (List ℕ) → List ℕ → Code → Type 0) (texts : List (List ℕ)) (part : FunctionView)
    (named : NamedFunction Code) : Type 0 where
  pub extent : part.extent ≡ named.extent
  pub kind : part.kind ≡ named.kind
  pub name_within : NameWithin (length texts) part.name
  pub name : option_map (text_at texts) part.name ≡ named.name
  pub params : part.params ≡ named.params
  pub scopes : ScopesStandFor texts part.scopes named.scopes
  pub code : shows texts part.code named.code
  pub notes : part.notes ≡ named.notes
  pub inner : part.inner ≡ named.inner

-- an entry stands for what its function was compiled to, or for nothing
abbrev pub EntryStandsFor : {Code : Type 0} → (List (List ℕ) → List ℕ → Code → Type 0) → List (List ℕ) → Entry → Option (NamedFunction Code) → Type 0
EntryStandsFor shows texts entry.Lazy None = Unit {0}
EntryStandsFor shows texts entry.Lazy (Some named) = ⊥
EntryStandsFor shows texts (entry.Compiled part) None = ⊥
EntryStandsFor shows texts (entry.Compiled part) (Some named) = FunctionStandsFor shows texts part named

-- the entries stand for these, each for its own
abbrev pub EntriesStandFor : {Code : Type 0} → (List (List ℕ) → List ℕ → Code → Type 0) → List (List ℕ) → List Entry
    → List (Option (NamedFunction Code)) → Type 0
EntriesStandFor shows texts [] [] = Unit {0}
EntriesStandFor shows texts [] (n ∷ named) = ⊥
EntriesStandFor shows texts (e ∷ entries) [] = ⊥
EntriesStandFor shows texts (e ∷ entries) (n ∷ named) = EntryStandsFor shows texts e n × EntriesStandFor shows texts entries named

-- initial parts stand for this
pub record InitialStandsFor {Code : Type 0} (shows : List (List ℕ) → List ℕ → Code → Type 0) (parts : InitialView)
    (named : NamedInitial Code) : Type 0 where
  pub top : FunctionStandsFor shows parts.texts parts.top named.top
  pub records : RecordsStandFor parts.texts parts.records named.records

-- a merged stencil stands for this
pub record MergedStandsFor {Code : Type 0} (shows : List (List ℕ) → List ℕ → Code → Type 0) (merged : MergedView)
    (named : NamedMerged Code) : Type 0 where
  pub top : FunctionStandsFor shows merged.texts merged.top named.top
  pub records : RecordsStandFor merged.texts merged.records named.records
  pub entries : EntriesStandFor shows merged.texts merged.entries named.entries

-- the link of a chain that a scope makes
abbrev pub link_of : NamedScope → LinkView
link_of scope = record { kind = scope.kind; env = nat_lt 0 scope.env_slots; names = scope.bindings }
