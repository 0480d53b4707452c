-- Parts whose atoms are changed for others: for each text of one list its number in another. This project's own choice.
use Rattle.std.specs.Prelude.{◌≡◌, ℕ, ◌⊎◌, ◌^◌, ◌-◌, List, [], ◌∷◌, ◌++◌, take, map, option_map, slice_get, slice_index_or, Some}
use Rattle.stencil_data.specs.declared.records.ClosedName.{ClosedName}
use Rattle.stencil_data.specs.declared.scopes.Binding.{Binding}
use Rattle.stencil_data.specs.Views.{ScopeView, RecordView}
use Rattle.parser_atoms.specs.Places.{AreWithoutEquals, StandsIn}

-- the greatest number of 32 bits, which is never that of a text
abbrev pub no_text : ℕ
no_text = 2 ^ 32 - 1

-- the other atom of the text that has this one; an atom that is no text's becomes one that is none's either
abbrev pub atom_by : List ℕ → ℕ → ℕ
atom_by atoms atom = slice_index_or atoms atom no_text

abbrev pub binding_by : List ℕ → Binding → Binding
binding_by atoms binding = record { atom = atom_by atoms binding.atom; kind = binding.kind; slot = binding.slot }

abbrev pub scope_by : List ℕ → ScopeView → ScopeView
scope_by atoms scope = record {
  kind = scope.kind;
  parent = scope.parent;
  bindings = map (binding_by atoms) scope.bindings;
  env_slots = scope.env_slots;
}

abbrev pub closed_by : List ℕ → ClosedName → ClosedName
closed_by atoms name = record { scope = name.scope; atom = atom_by atoms name.atom }

abbrev pub record_by : List ℕ → RecordView → RecordView
record_by atoms lazy = record {
  extent = lazy.extent;
  kind = lazy.kind;
  name = option_map (atom_by atoms) lazy.name;
  inner = lazy.inner;
  closed = map (closed_by atoms) lazy.closed;
}

-- each of these texts stands in the other list at the place that is its atom there
abbrev pub AreAtoms : List (List ℕ) → List (List ℕ) → List ℕ → Type 0
AreAtoms texts other atoms = map (slice_get other) atoms ≡ map (λ (text : List ℕ). Some text) texts

-- ---- the known words

-- How many texts every list begins with: the words that the compiler knows, as `arguments`.
abbrev pub known_count : ℕ
known_count = 7

-- their places, which are their atoms in every list
abbrev pub known_places : List ℕ
known_places = 0 ∷ 1 ∷ 2 ∷ 3 ∷ 4 ∷ 5 ∷ 6 ∷ []

-- the list that begins with the known words, as these texts do, and goes on with others
abbrev pub with_known : (texts behind : List (List ℕ)) → List (List ℕ)
with_known texts behind = take known_count texts ++ behind

-- ---- texts that are taken in

-- The texts are those from before, in their order, and more after them, each one of the texts that were added. They have no
-- equals.
pub record TakesIn (before added texts : List (List ℕ)) : Type 0 where
  pub more : List (List ℕ)
  pub is : texts ≡ before ++ more
  pub among : (text : List ℕ) → StandsIn texts text → StandsIn before text ⊎ StandsIn added text
  pub apart : AreWithoutEquals texts
