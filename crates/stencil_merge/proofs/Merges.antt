-- What parts stand for once their atoms are changed, texts are put after theirs, or a function is added.
use Rattle.std.proofs.Common.{◌≡◌, ℕ, zero, suc, ◌-◌, ◌^◌, ◌<◌, List, [], ◌∷◌, ◌++◌, length, map, get_or, Option, Some, None, option_map, refl, sym, ◌∙◌, ap, subst, append_assoc, arith}
use Rattle.std.proofs.Math.ListN.{set, replicate}
use Rattle.stencil_data.specs.declared.stencils.Entry.{Entry}
use Rattle.stencil_data.specs.declared.stencils.Entry.TheVariants as entry
use Rattle.stencil_data.specs.MergedView.{MergedView}
use Rattle.stencil_data.specs.Named.{NamedFunction, NamedRecord, NamedInitial, NamedMerged}
use Rattle.stencil_data.specs.StandsFor.{text_at, named_record, NameWithin, ScopesStandFor, RecordsStandFor, FunctionStandsFor, EntryStandsFor, EntriesStandFor, InitialStandsFor, MergedStandsFor}
use Rattle.stencil_data.specs.Views.{ScopeView, RecordView, FunctionView, InitialView}
use Rattle.bytecode_buf.specs.Command.{ShowsCommands, listed}
use Rattle.bytecode_buf.specs.Layout.{IsWhole}
use Rattle.stencil_merge.specs.Atoms.{atom_by, record_by, AreAtoms}
use Rattle.stencil_merge.specs.Functions.{inner_of, named_inner_of, numbers_in, outermost}
use Rattle.stencil_merge.specs.Instructions.{AreInstructionsBy, ShowsListed, numbered_list, numbered_commands}
use Rattle.stencil_merge.specs.Parts.{IsFunctionBy}
use Rattle.stencil_merge.specs.Merging.{with_code, all_lazy, filled_at, with_function, IsCompiled, IsSettled, AreSettled}
use Rattle.stencil_merge.proofs.Interning.{are_atoms_grow, equal_texts, moves_by, moves_more}
use Rattle.stencil_merge.proofs.Listing.{listed-by, placed_from-numbered}
use Rattle.stencil_merge.proofs.Moves.{name_within, name_same, scopes_move, records_move, scopes_kept, name_kept, records_kept}

-- ---- code whose meaning is settled

pub settled_by : (texts other : List (List ℕ)) (atoms numbers old new : List ℕ) → AreAtoms texts other atoms → length other < 2 ^ 32 → AreInstructionsBy atoms numbers old new → IsSettled other new
settled_by texts other atoms numbers old new are few by more room =
    listed-by texts (other ++ more) atoms numbers (equal_texts texts (other ++ more) atoms (are_atoms_grow texts other more atoms are) room) old new by
    ∙ sym (listed-by texts other atoms numbers (equal_texts texts other atoms are few) old new by)

pub settled_more : (texts more : List (List ℕ)) (code : List ℕ) → length (texts ++ more) < 2 ^ 32 → IsSettled texts code → IsSettled (texts ++ more) code
settled_more texts more code few s rest room =
    ap (λ (l : List (List ℕ)). listed l code) (append_assoc texts more rest)
    ∙ (s (more ++ rest) (subst (λ (l : List (List ℕ)). length l < 2 ^ 32) (append_assoc texts more rest) room) ∙ sym (s more few))

pub are_settled_more : (texts more : List (List ℕ)) (es : List Entry) → length (texts ++ more) < 2 ^ 32 → AreSettled texts es → AreSettled (texts ++ more) es
are_settled_more texts more [] few h = tt
are_settled_more texts more (entry.Lazy ∷ es) few h = are_settled_more texts more es few h
are_settled_more texts more (entry.Compiled part ∷ es) few h = (settled_more texts more part.code few h.0, are_settled_more texts more es few h.1)

pub are_settled_set : (texts : List (List ℕ)) (es : List Entry) (place : ℕ) (part : FunctionView) → AreSettled texts es → IsSettled texts part.code → AreSettled texts (set es place (entry.Compiled part))
are_settled_set texts [] place part h s = tt
are_settled_set texts (entry.Lazy ∷ es) zero part h s = (s, h)
are_settled_set texts (entry.Compiled was ∷ es) zero part h s = (s, h.1)
are_settled_set texts (entry.Lazy ∷ es) (suc place) part h s = are_settled_set texts es place part h s
are_settled_set texts (entry.Compiled was ∷ es) (suc place) part h s = (h.0, are_settled_set texts es place part h.1 s)

pub are_settled_lazy : (texts : List (List ℕ)) (n : ℕ) → AreSettled texts (replicate n entry.Lazy)
are_settled_lazy texts zero = tt
are_settled_lazy texts (suc n) = are_settled_lazy texts n

-- ---- readings of code

-- a reading of code rests on its instructions alone, and on whether it is whole, and goes with numbers of functions
pub record IsReading {Code : Type 0} (shows : List (List ℕ) → List ℕ → Code → Type 0) (numbered : List ℕ → Code → Code) : Type 0 where
  pub kept : (texts other : List (List ℕ)) (code : List ℕ) (c : Code) → listed other code ≡ listed texts code → shows texts code c → shows other code c
  pub changed : (texts other : List (List ℕ)) (old new numbers : List ℕ) (c : Code) → listed other new ≡ numbered_list numbers (listed texts old) → (IsWhole old → IsWhole new) → shows texts old c → shows other new (numbered numbers c)

pub by_list : IsReading ShowsListed numbered_list
by_list = record {
  kept = λ texts other code c same h. same ∙ h;
  changed = λ texts other old new numbers c is whole h. is ∙ ap (numbered_list numbers) h;
}

pub by_commands : IsReading ShowsCommands numbered_commands
by_commands = record {
  kept = λ texts other code c same h. record { is = same ∙ h.is; whole = h.whole };
  changed = λ texts other old new numbers c is whole h. record { is = is ∙ (ap (numbered_list numbers) h.is ∙ sym (placed_from-numbered numbers 0 c)); whole = whole h.whole };
}

-- ---- numbers of functions

inner_same : (texts : List (List ℕ)) (ls : List RecordView) → named_inner_of (map (named_record texts) ls) ≡ inner_of ls
inner_same texts [] = refl
inner_same texts (l ∷ ls) = ap (λ (ns : List (List ℕ)). l.inner ∷ ns) (inner_same texts ls)

inner_stand : (texts : List (List ℕ)) (ls : List RecordView) (named : List NamedRecord) → RecordsStandFor texts ls named → named_inner_of named ≡ inner_of ls
inner_stand texts ls named h = ap named_inner_of (sym h.are) ∙ inner_same texts ls

module _ {Code : Type 0} (shows : List (List ℕ) → List ℕ → Code → Type 0) (numbered : List ℕ → Code → Code) (reading : IsReading shows numbered) where
  -- ---- functions

  pub function_stands : (texts other : List (List ℕ)) (atoms numbers : List ℕ) (old new : FunctionView) (f : NamedFunction Code) → AreAtoms texts other atoms → length other < 2 ^ 32 → IsFunctionBy atoms numbers old new
      → FunctionStandsFor shows texts old f → FunctionStandsFor shows other new (with_code f (numbered numbers f.code))
  function_stands texts other atoms numbers old new f are few by s =
      let m = moves_by texts other atoms are few in
      record {
        extent = by.extent ∙ s.extent;
        kind = by.kind ∙ s.kind;
        name_within = subst (NameWithin (length other)) (sym by.name) (name_within texts other (atom_by atoms) m old.name s.name_within);
        name = ap (option_map (text_at other)) by.name ∙ (name_same texts other (atom_by atoms) m old.name s.name_within ∙ s.name);
        params = by.params ∙ s.params;
        scopes = subst (λ (ss : List ScopeView). ScopesStandFor other ss f.scopes) (sym by.scopes) (scopes_move texts other (atom_by atoms) m old.scopes f.scopes s.scopes);
        code = reading.changed texts other old.code new.code numbers f.code (listed-by texts other atoms numbers (equal_texts texts other atoms are few) old.code new.code by.code.are) by.code.whole s.code;
        notes = by.notes ∙ s.notes;
        inner = by.inner ∙ s.inner;
      }

  function_more : (texts more : List (List ℕ)) (part : FunctionView) (f : NamedFunction Code) → length (texts ++ more) < 2 ^ 32 → IsSettled texts part.code → FunctionStandsFor shows texts part f → FunctionStandsFor shows (texts ++ more) part f
  function_more texts more part f few settled s =
      let m = moves_more texts more in
      record {
        extent = s.extent;
        kind = s.kind;
        name_within = subst (NameWithin (length (texts ++ more))) (name_kept part.name) (name_within texts (texts ++ more) (λ a. a) m part.name s.name_within);
        name = ap (option_map (text_at (texts ++ more))) (sym (name_kept part.name)) ∙ (name_same texts (texts ++ more) (λ a. a) m part.name s.name_within ∙ s.name);
        params = s.params;
        scopes = subst (λ (ss : List ScopeView). ScopesStandFor (texts ++ more) ss f.scopes) (scopes_kept part.scopes) (scopes_move texts (texts ++ more) (λ a. a) m part.scopes f.scopes s.scopes);
        code = reading.kept texts (texts ++ more) part.code f.code (settled more few) s.code;
        notes = s.notes;
        inner = s.inner;
      }

  -- ---- texts that are put after

  entry_more : (texts more : List (List ℕ)) (e : Entry) (n : Option (NamedFunction Code)) → length (texts ++ more) < 2 ^ 32 → AreSettled texts (e ∷ []) → EntryStandsFor shows texts e n → EntryStandsFor shows (texts ++ more) e n
  entry_more texts more entry.Lazy None few settled s = tt
  entry_more texts more entry.Lazy (Some f) few settled s = absurd s
  entry_more texts more (entry.Compiled part) None few settled s = absurd s
  entry_more texts more (entry.Compiled part) (Some f) few settled s = function_more texts more part f few settled.0 s

  first_settled : (texts : List (List ℕ)) (e : Entry) (es : List Entry) → AreSettled texts (e ∷ es) → AreSettled texts (e ∷ []) × AreSettled texts es
  first_settled texts entry.Lazy es h = (tt, h)
  first_settled texts (entry.Compiled part) es h = ((h.0, tt), h.1)

  entries_more : (texts more : List (List ℕ)) (es : List Entry) (ns : List (Option (NamedFunction Code))) → length (texts ++ more) < 2 ^ 32 → AreSettled texts es → EntriesStandFor shows texts es ns → EntriesStandFor shows (texts ++ more) es ns
  entries_more texts more [] [] few settled s = tt
  entries_more texts more [] (n ∷ ns) few settled s = absurd s
  entries_more texts more (e ∷ es) [] few settled s = absurd s
  entries_more texts more (e ∷ es) (n ∷ ns) few settled s =
      let h = first_settled texts e es settled in
      (entry_more texts more e n few h.0 s.0, entries_more texts more es ns few h.1 s.1)

  records_more : (texts more : List (List ℕ)) (ls : List RecordView) (named : List NamedRecord) → RecordsStandFor texts ls named → RecordsStandFor (texts ++ more) ls named
  records_more texts more ls named s = subst (λ (xs : List RecordView). RecordsStandFor (texts ++ more) xs named) (records_kept ls) (records_move texts (texts ++ more) (λ a. a) (moves_more texts more) ls named s)

  pub merged_more : (texts more : List (List ℕ)) (top : FunctionView) (records : List RecordView) (entries : List Entry) (named : NamedMerged Code) → length (texts ++ more) < 2 ^ 32 → IsSettled texts top.code → AreSettled texts entries
      → MergedStandsFor shows (record { texts = texts; top = top; records = records; entries = entries }) named → MergedStandsFor shows (record { texts = texts ++ more; top = top; records = records; entries = entries }) named
  merged_more texts more top records entries named few top_settled settled s = record {
    top = function_more texts more top named.top few top_settled s.top;
    records = records_more texts more records named.records s.records;
    entries = entries_more texts more entries named.entries few settled s.entries;
  }

  -- ---- a function that is added

  entries_filled : (texts : List (List ℕ)) (es : List Entry) (ns : List (Option (NamedFunction Code))) (place : ℕ) (part : FunctionView) (f : NamedFunction Code) → (IsCompiled (get_or es place entry.Lazy) → ⊥) → FunctionStandsFor shows texts part f
      → EntriesStandFor shows texts es ns → EntriesStandFor shows texts (set es place (entry.Compiled part)) (filled_at place f ns)
  entries_filled texts [] [] place part f lazy new s = tt
  entries_filled texts [] (n ∷ ns) place part f lazy new s = absurd s
  entries_filled texts (e ∷ es) [] place part f lazy new s = absurd s
  entries_filled texts (entry.Lazy ∷ es) (None ∷ ns) zero part f lazy new s = (new, s.1)
  entries_filled texts (entry.Lazy ∷ es) (Some g ∷ ns) zero part f lazy new s = absurd s.0
  entries_filled texts (entry.Compiled was ∷ es) (n ∷ ns) zero part f lazy new s = absurd (lazy tt)
  entries_filled texts (e ∷ es) (n ∷ ns) (suc place) part f lazy new s = (s.0, entries_filled texts es ns place part f lazy new s.1)

  -- one that was added already
  filled_already : (texts : List (List ℕ)) (es : List Entry) (ns : List (Option (NamedFunction Code))) (place : ℕ) (f : NamedFunction Code) → IsCompiled (get_or es place entry.Lazy) → EntriesStandFor shows texts es ns → filled_at place f ns ≡ ns
  filled_already texts [] ns place f compiled s = absurd compiled
  filled_already texts (e ∷ es) [] place f compiled s = refl
  filled_already texts (entry.Lazy ∷ es) (n ∷ ns) zero f compiled s = absurd compiled
  filled_already texts (entry.Compiled was ∷ es) (None ∷ ns) zero f compiled s = absurd s.0
  filled_already texts (entry.Compiled was ∷ es) (Some g ∷ ns) zero f compiled s = refl
  filled_already texts (e ∷ es) (n ∷ ns) (suc place) f compiled s = ap (λ (xs : List (Option (NamedFunction Code))). n ∷ xs) (filled_already texts es ns place f compiled s.1)

  pub added_already : (merged : MergedView) (number : ℕ) (f : NamedFunction Code) (named : NamedMerged Code) → IsCompiled (get_or merged.entries (number - 1) entry.Lazy) → MergedStandsFor shows merged named → MergedStandsFor shows merged (with_function numbered number f named)
  added_already merged number f named compiled s = record {
    top = s.top;
    records = s.records;
    entries = subst (EntriesStandFor shows merged.texts merged.entries) (sym (filled_already merged.texts merged.entries named.entries (number - 1) (with_code f (numbered (numbers_in (named_inner_of named.records) number) f.code)) compiled s.entries)) s.entries;
  }

  pub added : (texts own : List (List ℕ)) (top : FunctionView) (records : List RecordView) (entries : List Entry) (named : NamedMerged Code) (number : ℕ) (atoms : List ℕ) (stencil part : FunctionView) (f : NamedFunction Code)
      → (IsCompiled (get_or entries (number - 1) entry.Lazy) → ⊥) → AreAtoms own texts atoms → length texts < 2 ^ 32 → IsFunctionBy atoms (numbers_in (inner_of records) number) stencil part → FunctionStandsFor shows own stencil f
      → MergedStandsFor shows (record { texts = texts; top = top; records = records; entries = entries }) named
      → MergedStandsFor shows (record { texts = texts; top = top; records = records; entries = set entries (number - 1) (entry.Compiled part) }) (with_function numbered number f named)
  added texts own top records entries named number atoms stencil part f lazy are few by stands s = record {
    top = s.top;
    records = s.records;
    entries = entries_filled texts entries named.entries (number - 1) part (with_code f (numbered (numbers_in (named_inner_of named.records) number) f.code)) lazy
        (subst (λ (ns : List (List ℕ)). FunctionStandsFor shows texts part (with_code f (numbered (numbers_in ns number) f.code))) (sym (inner_stand texts records named.records s.records))
        (function_stands own texts atoms (numbers_in (inner_of records) number) stencil part f are few by stands)) s.entries;
  }

  -- ---- where no function is compiled

  lazy_stand : (texts : List (List ℕ)) (ls : List RecordView) (named : List NamedRecord) → length ls ≡ length named → EntriesStandFor shows texts (replicate (length ls) entry.Lazy) (map (λ (l : NamedRecord). None) named)
  lazy_stand texts [] [] same = tt
  lazy_stand texts [] (n ∷ named) same = absurd (omega (arith, same))
  lazy_stand texts (l ∷ ls) [] same = absurd (omega (arith, same))
  lazy_stand texts (l ∷ ls) (n ∷ named) same = (tt, lazy_stand texts ls named (omega (arith, same)))

  pub begun : (parts : InitialView) (texts : List (List ℕ)) (top : FunctionView) (atoms : List ℕ) (named : NamedInitial Code) → AreAtoms parts.texts texts atoms → length texts < 2 ^ 32 → IsFunctionBy atoms (outermost (inner_of parts.records)) parts.top top
      → InitialStandsFor shows parts named
      → MergedStandsFor shows (record { texts = texts; top = top; records = map (record_by atoms) parts.records; entries = replicate (length parts.records) entry.Lazy }) (all_lazy numbered named)
  begun parts texts top atoms named are few by s = record {
    top = subst (λ (ns : List (List ℕ)). FunctionStandsFor shows texts top (with_code named.top (numbered (outermost ns) named.top.code))) (sym (inner_stand parts.texts parts.records named.records s.records))
        (function_stands parts.texts texts atoms (outermost (inner_of parts.records)) parts.top top named.top are few by s.top);
    records = records_move parts.texts texts (atom_by atoms) (moves_by parts.texts texts atoms are few) parts.records named.records s.records;
    entries = lazy_stand texts parts.records named.records (sym (length_map parts.records) ∙ ap length s.records.are);
  }
    where
      length_map : (ls : List RecordView) → length (map (named_record parts.texts) ls) ≡ length ls
      length_map [] = refl
      length_map (l ∷ ls) = ap suc (length_map ls)
