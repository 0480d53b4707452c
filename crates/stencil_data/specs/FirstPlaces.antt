-- The index of a link's names, which leads from each name to its first binding.
use Rattle.std.specs.Prelude.{◌≡◌, ℕ, List, Option, Some, None, slice_get}
use Rattle.std.specs.BTreeMap.{BTreeMap, get}
use Rattle.std.specs.Cmp.Lexicographic.{slice_cmp}
use Rattle.std.specs.Ordering.{nat_cmp}
use Rattle.stencil_data.specs.declared.chains.LinkName.{LinkName}
use Rattle.stencil_data.specs.Resolve.{first_named}

-- the tree from names, in their order, to their places in a list of bindings
abbrev pub Places : Type 0
Places = BTreeMap (List ℕ) ℕ

-- the binding at a place, if there is one
abbrev pub binding_at : List LinkName → Option ℕ → Option LinkName
binding_at names None = None
binding_at names (Some place) = slice_get names place

-- each name leads to its first binding, and a name without bindings to none
abbrev pub LeadsToFirst : List LinkName → Places → Type 0
LeadsToFirst names places = (name : List ℕ) → binding_at names (get (slice_cmp nat_cmp) places name) ≡ first_named name names
