-- Each part of a stencil gives the pieces of what it is listed as.
use Rattle.std.proofs.Common.{ℕ, List, Option, Some, None, option_map, refl}
use Rattle.stencil_data.specs.declared.records.ClosedName.{ClosedName}
use Rattle.stencil_data.specs.declared.scopes.Binding.{Binding}
use Rattle.stencil_data.specs.declared.scopes.Slot.{Slot}
use Rattle.stencil_data.specs.declared.scopes.Slot.TheVariants as slot
use Rattle.stencil_data.specs.declared.stencils.Entry.{Entry}
use Rattle.stencil_data.specs.declared.stencils.Entry.TheVariants as entry
use Rattle.stencil_data.specs.declared.functions.Extent.{Extent}
use Rattle.stencil_data.specs.MergedView.{MergedView}
use Rattle.stencil_data.specs.StandsFor.{text_at, named_binding, named_scope, named_closed, named_record}
use Rattle.stencil_data.specs.Views.{ScopeView, RecordView, FunctionView}
use Rattle.bytecode_buf.specs.Bytes.{le_bytes}
use Rattle.bytecode_buf.specs.Layout.{IsWhole}
use Rattle.stencil_xdr_specs.specs.Image.{items, function_items, record_items, entry_items, scope_items, binding_items, slot_items, note_items, closed_items, function_kind, scope_kind, bind_kind, maybe, atom, whole, extent}
use Rattle.script_image.specs.Listed.{listed_script, listed_entry, listed_stencil}
use Rattle.stencil_xdr_read.specs.Reading.{Each}
use Rattle.stencil_xdr_read.proofs.Items.{WholeEntry}
use Rattle.stencil_xdr_laws.specs.Pieces.{plain, name_pieces, number_pieces, extent_pieces, note_pieces, link_pieces, scope_pieces, function_pieces, closed_pieces, record_pieces, entry_pieces, pieces}
use Rattle.stencil_xdr_laws.proofs.Pieces.{Shows, shows_bytes, shows_text, shows_both, shows_each, shows_list, shows_same}
use Rattle.stencil_xdr_laws.proofs.CodePieces.{code_shows}

module _ (texts : List (List ℕ)) where
  name_shows : (o : Option ℕ) → Shows texts (maybe atom o) (name_pieces (option_map (text_at texts) o))
  name_shows None = record { are = refl }
  name_shows (Some a) = record { are = refl }

  parent_shows : (o : Option ℕ) → Shows texts (maybe whole o) (plain (maybe whole o))
  parent_shows None = record { are = refl }
  parent_shows (Some a) = record { are = refl }

  slot_shows : (s : Slot) → Shows texts (slot_items s) (plain (slot_items s))
  slot_shows slot.Global = record { are = refl }
  slot_shows _ = record { are = refl }

  extent_shows : (e : Extent) → Shows texts (extent e) (extent_pieces e)
  extent_shows e = record { are = refl }

  whole_shows : (n : ℕ) → Shows texts (whole n) (number_pieces n)
  whole_shows n = record { are = refl }

  binding_shows : (b : Binding) → Shows texts (binding_items b) (link_pieces (named_binding texts b))
  binding_shows b = shows_text b.atom (shows_bytes (le_bytes 1 (bind_kind b.kind)) (slot_shows b.slot))

  scope_shows : (s : ScopeView) → Shows texts (scope_items s) (scope_pieces (named_scope texts s))
  scope_shows s =
      shows_both (shows_both (shows_bytes (le_bytes 1 (scope_kind s.kind)) (parent_shows s.parent)) (shows_list texts binding_items (named_binding texts) link_pieces binding_shows s.bindings)) (whole_shows s.env_slots)

  function_shows : (f : FunctionView) → IsWhole f.code → Shows texts (function_items f) (function_pieces (listed_script texts f))
  function_shows f is_whole =
      shows_both (shows_both (shows_both (shows_both (shows_both (shows_both (extent_shows f.extent) (shows_bytes (le_bytes 1 (function_kind f.kind)) (name_shows f.name))) (whole_shows f.params))
      (shows_list texts scope_items (named_scope texts) scope_pieces scope_shows f.scopes)) (code_shows texts f.code is_whole))
      (shows_same texts note_items note_pieces (λ n. record { are = refl }) f.notes)) (shows_same texts extent extent_pieces extent_shows f.inner)

  closed_shows : (c : ClosedName) → Shows texts (closed_items c) (closed_pieces (named_closed texts c))
  closed_shows c = record { are = refl }

  record_shows : (r : RecordView) → Shows texts (record_items r) (record_pieces (named_record texts r))
  record_shows r =
      shows_both (shows_both (shows_both (extent_shows r.extent) (shows_bytes (le_bytes 1 (function_kind r.kind)) (name_shows r.name))) (shows_same texts whole number_pieces whole_shows r.inner))
      (shows_list texts closed_items (named_closed texts) closed_pieces closed_shows r.closed)

  entry_shows : (e : Entry) → WholeEntry e → Shows texts (entry_items e) (entry_pieces (listed_entry texts e))
  entry_shows entry.Lazy h = record { are = refl }
  entry_shows (entry.Compiled f) h = shows_bytes (le_bytes 1 1) (function_shows f h)

pub stencil_shows : (m : MergedView) → IsWhole m.top.code → Each WholeEntry m.entries → Shows m.texts (items m) (pieces (listed_stencil m))
stencil_shows m top entries =
    shows_both (shows_both (function_shows m.texts m.top top) (shows_list m.texts record_items (named_record m.texts) record_pieces (record_shows m.texts) m.records))
    (shows_each m.texts entry_items (listed_entry m.texts) entry_pieces WholeEntry (entry_shows m.texts) m.entries entries)
