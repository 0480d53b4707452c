-- The parts of a stencil with new numbers of the same texts stand for the same values, and their numbers fit.
use Rattle.std.proofs.Common.{◌≡◌, ℕ, ◌^◌, ◌<◌, List, [], ◌∷◌, length, map, Option, Some, None, option_map, refl, ◌∙◌, ap, ap₂, arith}
use Rattle.stencil_data.specs.declared.chains.LinkName.{LinkName}
use Rattle.stencil_data.specs.declared.records.ClosedName.{ClosedName}
use Rattle.stencil_data.specs.declared.scopes.Binding.{Binding}
use Rattle.stencil_data.specs.declared.stencils.Entry.{Entry}
use Rattle.stencil_data.specs.declared.stencils.Entry.TheVariants as entry
use Rattle.stencil_data.specs.Named.{NamedScope, NamedFunction, NamedClosed, NamedRecord}
use Rattle.stencil_data.specs.StandsFor.{text_at, named_binding, named_scope, named_closed, named_record, BindingsWithin, ScopesWithin, ClosedWithin, NameWithin, RecordsWithin, FunctionStandsFor, RecordsStandFor, EntriesStandFor}
use Rattle.stencil_data.specs.Views.{ScopeView, RecordView, FunctionView}
use Rattle.bytecode_buf.specs.Command.{Command, ShowsCommands}
use Rattle.stencil_xdr_specs.specs.Widths.{SlotFits, ScopeFits, FunctionFits, RecordFits, EntryFits}
use Rattle.stencil_xdr_laws.specs.Texts.{EntriesStand}
use Rattle.stencil_xdr_read.specs.Reading.{Each}
use Rattle.stencil_xdr_read.proofs.Anew.{all_each}
use Rattle.stencil_xdr_read.proofs.Ranges.{each_all}
use Rattle.stencil_xdr_read.proofs.Renamed.{renamed_binding, renamed_scope, renamed_function, renamed_closed, renamed_record, renamed_entry}
use Rattle.stencil_xdr_laws.specs.Bytes.{IsOfBytes, EntryOfBytes}
use Rattle.stencil_xdr_laws.proofs.HeldCode.{are_bytes}
use Rattle.stencil_xdr_laws.proofs.NewTexts.{NamesSame}
use Rattle.stencil_xdr_laws.proofs.NewCode.{code_shows_same, code_stands, code_no_longer}

module _ {texts order : List (List ℕ)} {N : ℕ → ℕ} (new : NamesSame texts order N) where
  -- ---- the new numbers are of texts

  name_within : (o : Option ℕ) → NameWithin (length order) (option_map N o)
  name_within None = tt
  name_within (Some a) = new.below a

  bindings_within : (bs : List Binding) → BindingsWithin (length order) (map (renamed_binding N) bs)
  bindings_within [] = tt
  bindings_within (b ∷ bs) = (new.below b.atom, bindings_within bs)

  scopes_within : (ss : List ScopeView) → ScopesWithin (length order) (map (renamed_scope N) ss)
  scopes_within [] = tt
  scopes_within (s ∷ ss) = (bindings_within s.bindings, scopes_within ss)

  closed_within : (cs : List ClosedName) → ClosedWithin (length order) (map (renamed_closed N) cs)
  closed_within [] = tt
  closed_within (c ∷ cs) = (new.below c.atom, closed_within cs)

  records_within : (rs : List RecordView) → RecordsWithin (length order) (map (renamed_record N) rs)
  records_within [] = tt
  records_within (r ∷ rs) = ((name_within r.name, closed_within r.closed), records_within rs)

  -- ---- the texts are the same

  name_same : (o : Option ℕ) → option_map (text_at order) (option_map N o) ≡ option_map (text_at texts) o
  name_same None = refl
  name_same (Some a) = ap (λ (t : List ℕ). Some t) (new.same a)

  bindings_same : (bs : List Binding) → map (named_binding order) (map (renamed_binding N) bs) ≡ map (named_binding texts) bs
  bindings_same [] = refl
  bindings_same (b ∷ bs) = ap₂ (λ (t : List ℕ) (l : List LinkName). let n : LinkName = record { text = t; kind = b.kind; slot = b.slot } in n ∷ l) (new.same b.atom) (bindings_same bs)

  scopes_same : (ss : List ScopeView) → map (named_scope order) (map (renamed_scope N) ss) ≡ map (named_scope texts) ss
  scopes_same [] = refl
  scopes_same (s ∷ ss) =
      ap₂ (λ (bs : List LinkName) (l : List NamedScope). let n : NamedScope = record { kind = s.kind; parent = s.parent; bindings = bs; env_slots = s.env_slots } in n ∷ l) (bindings_same s.bindings) (scopes_same ss)

  closed_same : (cs : List ClosedName) → map (named_closed order) (map (renamed_closed N) cs) ≡ map (named_closed texts) cs
  closed_same [] = refl
  closed_same (c ∷ cs) = ap₂ (λ (t : List ℕ) (l : List NamedClosed). let n : NamedClosed = record { scope = c.scope; text = t } in n ∷ l) (new.same c.atom) (closed_same cs)

  records_same : (rs : List RecordView) → map (named_record order) (map (renamed_record N) rs) ≡ map (named_record texts) rs
  records_same [] = refl
  records_same (r ∷ rs) =
      ap₂ (λ (n : NamedRecord) (l : List NamedRecord). n ∷ l)
      (ap₂ (λ (o : Option (List ℕ)) (l : List NamedClosed). let n : NamedRecord = record { extent = r.extent; kind = r.kind; name = o; inner = r.inner; closed = l } in n) (name_same r.name) (closed_same r.closed))
      (records_same rs)

  -- ---- parts stand for the same values

  pub function_stands_same : (f : FunctionView) (n : NamedFunction (List Command)) → IsOfBytes f.code → FunctionStandsFor ShowsCommands texts f n → FunctionStandsFor ShowsCommands order (renamed_function N f) n
  function_stands_same f n bytes s = record {
    extent = s.extent;
    kind = s.kind;
    name_within = name_within f.name;
    name = name_same f.name ∙ s.name;
    params = s.params;
    scopes = record { within = scopes_within f.scopes; are = scopes_same f.scopes ∙ s.scopes.are };
    code = code_shows_same new f.code n.code (are_bytes f.code bytes) s.code;
    notes = s.notes;
    inner = s.inner;
  }

  pub records_stand_same : (rs : List RecordView) (ns : List NamedRecord) → RecordsStandFor texts rs ns → RecordsStandFor order (map (renamed_record N) rs) ns
  records_stand_same rs ns s = record { within = records_within rs; are = records_same rs ∙ s.are }

  pub entries_stand_same : (es : List Entry) (ns : List (Option (NamedFunction (List Command)))) → Each EntryOfBytes es → EntriesStandFor ShowsCommands texts es ns → EntriesStandFor ShowsCommands order (map (renamed_entry N) es) ns
  entries_stand_same [] [] bytes s = tt
  entries_stand_same [] (n ∷ ns) bytes s = absurd s
  entries_stand_same (e ∷ es) [] bytes s = absurd s
  entries_stand_same (entry.Lazy ∷ es) (None ∷ ns) bytes s = (tt, entries_stand_same es ns bytes.1 s.1)
  entries_stand_same (entry.Lazy ∷ es) (Some n ∷ ns) bytes s = absurd s.0
  entries_stand_same (entry.Compiled f ∷ es) (None ∷ ns) bytes s = absurd s.0
  entries_stand_same (entry.Compiled f ∷ es) (Some n ∷ ns) bytes s = (function_stands_same f n bytes.0 s.0, entries_stand_same es ns bytes.1 s.1)

  pub entries_stand : (es : List Entry) → Each EntryOfBytes es → EntriesStand (length order) (map (renamed_entry N) es)
  entries_stand [] bytes = tt
  entries_stand (entry.Lazy ∷ es) bytes = entries_stand es bytes.1
  entries_stand (entry.Compiled f ∷ es) bytes = (code_stands new f.code (are_bytes f.code bytes.0), entries_stand es bytes.1)

  -- ---- numbers fit

  bindings_fit : (bs : List Binding) → Each (λ (b : Binding). SlotFits b.slot) bs → Each (λ (b : Binding). SlotFits b.slot) (map (renamed_binding N) bs)
  bindings_fit [] h = tt
  bindings_fit (b ∷ bs) h = (h.0, bindings_fit bs h.1)

  scopes_fit : (ss : List ScopeView) → Each ScopeFits ss → Each ScopeFits (map (renamed_scope N) ss)
  scopes_fit [] h = tt
  scopes_fit (s ∷ ss) h =
      (each_all (λ (b : Binding). SlotFits b.slot) (map (renamed_binding N) s.bindings) (bindings_fit s.bindings (all_each (λ (b : Binding). SlotFits b.slot) s.bindings h.0)), scopes_fit ss h.1)

  pub function_fits : (f : FunctionView) → IsOfBytes f.code → FunctionFits f → FunctionFits (renamed_function N f)
  function_fits f bytes h = record {
    extent = h.extent;
    scopes = each_all ScopeFits (map (renamed_scope N) f.scopes) (scopes_fit f.scopes (all_each ScopeFits f.scopes h.scopes));
    code = omega (arith, code_no_longer new f.code (are_bytes f.code bytes), h.code);
    notes = h.notes;
    inner = h.inner;
  }

  closed_fit : (cs : List ClosedName) → Each (λ (c : ClosedName). c.scope < 2 ^ 32) cs → Each (λ (c : ClosedName). c.scope < 2 ^ 32) (map (renamed_closed N) cs)
  closed_fit [] h = tt
  closed_fit (c ∷ cs) h = (h.0, closed_fit cs h.1)

  pub records_fit : (rs : List RecordView) → Each RecordFits rs → Each RecordFits (map (renamed_record N) rs)
  records_fit [] h = tt
  records_fit (r ∷ rs) h = (
    record { extent = h.0.extent; closed = each_all (λ (c : ClosedName). c.scope < 2 ^ 32) (map (renamed_closed N) r.closed) (closed_fit r.closed (all_each (λ (c : ClosedName). c.scope < 2 ^ 32) r.closed h.0.closed)) },
    records_fit rs h.1,
  )

  pub entries_fit : (es : List Entry) → Each EntryOfBytes es → Each EntryFits es → Each EntryFits (map (renamed_entry N) es)
  entries_fit [] bytes h = tt
  entries_fit (entry.Lazy ∷ es) bytes h = (tt, entries_fit es bytes.1 h.1)
  entries_fit (entry.Compiled f ∷ es) bytes h = (function_fits f bytes.0 h.0, entries_fit es bytes.1 h.1)
