-- A stencil in range stands for what it is listed as.
use Rattle.std.proofs.Common.{◌≡◌, ℕ, List, [], ◌∷◌, length, map, refl}
use Rattle.stencil_data.specs.declared.stencils.Entry.{Entry}
use Rattle.stencil_data.specs.declared.stencils.Entry.TheVariants as entry
use Rattle.stencil_data.specs.MergedView.{MergedView}
use Rattle.stencil_data.specs.StandsFor.{FunctionStandsFor, EntriesStandFor, MergedStandsFor}
use Rattle.stencil_data.specs.Views.{FunctionView, RecordView}
use Rattle.bytecode_buf.specs.InRange.{FunctionInRange, EntriesInRange, InRange}
use Rattle.script_image.specs.Listed.{ShowsListed, listed_script, listed_entry, listed_stencil}

function_stands : (texts : List (List ℕ)) (functions : ℕ) (f : FunctionView) → FunctionInRange (length texts) functions f → FunctionStandsFor ShowsListed texts f (listed_script texts f)
function_stands texts functions f r = record {
  extent = refl;
  kind = refl;
  name_within = r.name;
  name = refl;
  params = refl;
  scopes = record { within = r.bindings; are = refl };
  code = refl;
  notes = refl;
  inner = refl;
}

entries_stand : (texts : List (List ℕ)) (functions : ℕ) (all records : List RecordView) (entries : List Entry) → EntriesInRange (length texts) functions all records entries → EntriesStandFor ShowsListed texts entries (map (listed_entry texts) entries)
entries_stand texts functions all [] [] r = tt
entries_stand texts functions all [] (e ∷ es) r = absurd r
entries_stand texts functions all (l ∷ ls) [] r = absurd r
entries_stand texts functions all (l ∷ ls) (entry.Lazy ∷ es) r = (tt, entries_stand texts functions all ls es r.1)
entries_stand texts functions all (l ∷ ls) (entry.Compiled f ∷ es) r = (function_stands texts functions f r.0.range, entries_stand texts functions all ls es r.1)

pub stands_as_listed : (m : MergedView) → InRange m → MergedStandsFor ShowsListed m (listed_stencil m)
stands_as_listed m r = record {
  top = function_stands m.texts (length m.records) m.top r.top.range;
  records = record { within = r.atoms; are = refl };
  entries = entries_stand m.texts (length m.records) m.records m.records m.entries r.entries;
}
