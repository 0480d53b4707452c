-- The order of the notes does not matter.
use Rattle.std.proofs.Common.{◌≡◌, ℕ, inl, inr, List, get_or, Option, Some, None, Contains, sym, subst}
use Rattle.std.specs.List.Sorted.{IsPermutation}
use Rattle.std.proofs.lemmas.List.Elements.{All-contains, Contains-append_cases, Contains-append_left, Contains-append_right, Contains-get_or}
use Rattle.std.proofs.lemmas.List.Sorted.{Contains-permutation, IsPermutation-sym}
use Rattle.stencil_data.specs.declared.stencils.TryNote.{TryNote}
use Rattle.bytecode_buf.specs.Layout.{Numbered}
use Rattle.bytecode_buf.specs.Machine.{State, Reaches, start, further, IsDepthTable, IsLeastTable, instruction_at, steps, steps_by, flows, flow_of, caught}
use Rattle.code_check.specs.Survey.{HasNoTable}
use Rattle.code_check.proofs.Catches.{IsLandingOf, caught_from, caught_to}

-- each note of the one list is one of the other
abbrev AreAmong : List TryNote → List TryNote → Type 0
AreAmong some all = (note : TryNote) → Contains some note → Contains all note

caught_among : (some all : List TryNote) → AreAmong some all → (s t : State) → Contains (caught some s) t → Contains (caught all s) t
caught_among some all among s t c =
    let l : IsLandingOf some s t = caught_to some s t c in
    subst (Contains (caught all s)) (sym l.is) (caught_from all s l.note (among l.note l.within) l.holds)

steps_among_by : (o : Option Numbered) (some all : List TryNote) → AreAmong some all → (s t : State) → Contains (steps_by o some s) t → Contains (steps_by o all s) t
steps_among_by None some all among s t c = c
steps_among_by (Some i) some all among s t c = elim (Contains-append_cases (flows (flow_of i.op) i s) (caught some s) t c) [
  | inl flow ↦ Contains-append_left (flows (flow_of i.op) i s) (caught all s) t flow
  | inr throw ↦ Contains-append_right (flows (flow_of i.op) i s) (caught all s) t (caught_among some all among s t throw)
]

steps_among : (code : List ℕ) (some all : List TryNote) → AreAmong some all → (s t : State) → Contains (steps code some s) t → Contains (steps code all s) t
steps_among code some all among s t c = steps_among_by (instruction_at code s.at) some all among s t c

reaches_among : (code : List ℕ) (some all : List TryNote) → AreAmong some all → (s : State) → Reaches code some s → Reaches code all s
reaches_among code some all among s start = start
reaches_among code some all among t (further u v r step) = further u v (reaches_among code some all among u r) (steps_among code some all among u v step)

table_among : (code : List ℕ) (some all : List TryNote) (table : ℕ → Option ℕ) → AreAmong some all → IsDepthTable code all table → IsDepthTable code some table
table_among code some all table among w = record {
  first = w.first;
  free = w.free;
  closed = λ s has k d within.
      let t : State = get_or (steps code some s) k d in
      All-contains (λ (x : State). table x.at ≡ Some x.depth) (steps code all s) t (w.closed s has) (steps_among code some all among s t (Contains-get_or (steps code some s) k d within));
}

module _ (code : List ℕ) (notes sorted : List TryNote) (same : IsPermutation notes sorted) where
  there : AreAmong notes sorted
  there note c = Contains-permutation notes sorted note same c

  back : AreAmong sorted notes
  back note c = Contains-permutation sorted notes note (IsPermutation-sym notes sorted same) c

  pub least_sorted : (table : ℕ → Option ℕ) → IsLeastTable code sorted table → IsLeastTable code notes table
  least_sorted table w = record { is = table_among code notes sorted table there w.is; reached = λ s has. reaches_among code sorted notes back s (w.reached s has) }

  pub no_table_sorted : HasNoTable code sorted → HasNoTable code notes
  no_table_sorted none h = none (h.0, table_among code sorted notes h.0 back h.1)
