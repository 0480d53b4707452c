-- What a merger knows of its parts: as it begins, as texts are interned, as a function is added.
use Rattle.std.proofs.Common.{◌≡◌, ◌↔◌, IsTrue, Bool, false, true≢false, ℕ, ◌+◌, ◌-◌, ◌^◌, ◌<◌, ◌≤◌, List, [], ◌++◌, length, map, get_or, sym, ◌∙◌, ap, ap₂, subst, subst₂, arith}
use Rattle.std.proofs.Math.ListN.{set, replicate}
use Rattle.std.proofs.lemmas.List.{length-map, length-set, length-replicate, get_or-map, get_or_default}
use Rattle.stencil_data.specs.declared.stencils.Entry.{Entry}
use Rattle.stencil_data.specs.declared.stencils.Entry.TheVariants as entry
use Rattle.stencil_data.specs.MergedView.{MergedView}
use Rattle.stencil_data.specs.StandsFor.{MergedStandsFor}
use Rattle.stencil_data.specs.Views.{RecordView, FunctionView, InitialView}
use Rattle.bytecode_buf.specs.Command.{ShowsCommands}
use Rattle.parser_atoms.specs.Places.{AreWithoutEquals}
use Rattle.stencil_merge.specs.Atoms.{record_by, AreAtoms, TakesIn}
use Rattle.stencil_merge.specs.Functions.{inner_of, numbers_in, outermost}
use Rattle.stencil_merge.specs.Instructions.{ShowsListed, numbered_list, numbered_commands}
use Rattle.stencil_merge.specs.Parts.{IsFunctionBy}
use Rattle.stencil_merge.specs.Merging.{all_lazy, KeepsBy, AddsBy, Begins, Keeps, Adds, IsCompiled, HasFunction, IsSettled, AreSettled, IsMerging, SameParts}
use Rattle.stencil_merge.proofs.Merges.{settled_by, settled_more, are_settled_more, are_settled_set, are_settled_lazy, IsReading, by_list, by_commands, merged_more, added_already, added, begun}

abbrev pub view : List (List ℕ) → FunctionView → List RecordView → List Entry → MergedView
view texts top records entries = record { texts = texts; top = top; records = records; entries = entries }

-- ---- texts that are interned

module _ (texts new added_texts : List (List ℕ)) (top : FunctionView) (records : List RecordView) (entries : List Entry) (merging : IsMerging (view texts top records entries)) (taken : TakesIn texts added_texts new) (few : length new < 2 ^ 32) where
  room : length (texts ++ taken.more) < 2 ^ 32
  room = subst (λ (l : List (List ℕ)). length l < 2 ^ 32) taken.is few

  pub grown : IsMerging (view new top records entries)
  grown = record {
    few = few;
    apart = taken.apart;
    many = merging.many;
    top = subst (λ (l : List (List ℕ)). IsSettled l top.code) (sym taken.is) (settled_more texts taken.more top.code room merging.top);
    entries = subst (λ (l : List (List ℕ)). AreSettled l entries) (sym taken.is) (are_settled_more texts taken.more entries room merging.entries);
  }

  grown_by : {Code : Type 0} (shows : List (List ℕ) → List ℕ → Code → Type 0) (numbered : List ℕ → Code → Code) → IsReading shows numbered → KeepsBy shows (view texts top records entries) (view new top records entries)
  grown_by shows numbered reading named s =
      subst (λ (l : List (List ℕ)). MergedStandsFor shows (view l top records entries) named) (sym taken.is) (merged_more shows numbered reading texts taken.more top records entries named room merging.top merging.entries s)

  pub keeps : Keeps (view texts top records entries) (view new top records entries)
  keeps = record { listed = grown_by ShowsListed numbered_list by_list; commands = grown_by ShowsCommands numbered_commands by_commands }

-- ---- a function that is added

module _ (texts own : List (List ℕ)) (top : FunctionView) (records : List RecordView) (entries : List Entry) (merging : IsMerging (view texts top records entries)) (number : ℕ) (stencil part : FunctionView) (atoms : List ℕ) (are : AreAtoms own texts atoms)
    (by : IsFunctionBy atoms (numbers_in (inner_of records) number) stencil part) where
  pub merging_more : IsMerging (view texts top records (set entries (number - 1) (entry.Compiled part)))
  merging_more = record {
    few = merging.few;
    apart = merging.apart;
    many = length-set entries (number - 1) (entry.Compiled part) ∙ merging.many;
    top = merging.top;
    entries = are_settled_set texts entries (number - 1) part merging.entries (settled_by own texts atoms (numbers_in (inner_of records) number) stencil.code part.code are merging.few by.code.are);
  }

  adds_by : {Code : Type 0} (shows : List (List ℕ) → List ℕ → Code → Type 0) (numbered : List ℕ → Code → Code) → IsReading shows numbered → (IsCompiled (get_or entries (number - 1) entry.Lazy) → ⊥)
      → AddsBy shows numbered number stencil own (view texts top records entries) (view texts top records (set entries (number - 1) (entry.Compiled part)))
  adds_by shows numbered reading lazy named f s stands = added shows numbered reading texts own top records entries named number atoms stencil part f lazy are merging.few by stands s

  pub adds : (IsCompiled (get_or entries (number - 1) entry.Lazy) → ⊥) → Adds number stencil own (view texts top records entries) (view texts top records (set entries (number - 1) (entry.Compiled part)))
  adds lazy = record { listed = adds_by ShowsListed numbered_list by_list lazy; commands = adds_by ShowsCommands numbered_commands by_commands lazy }

-- one that is added once texts were interned
pub adds_after : (number : ℕ) (stencil : FunctionView) (texts : List (List ℕ)) (old between new : MergedView) → Keeps old between → Adds number stencil texts between new → Adds number stencil texts old new
adds_after number stencil texts old between new k a = record {
  listed = λ named f s stands. a.listed named f (k.listed named s) stands;
  commands = λ named f s stands. a.commands named f (k.commands named s) stands;
}

-- one that was added already
pub adds_already : (merged : MergedView) (number : ℕ) (stencil : FunctionView) (texts : List (List ℕ)) → IsCompiled (get_or merged.entries (number - 1) entry.Lazy) → Adds number stencil texts merged merged
adds_already merged number stencil texts compiled = record {
  listed = λ named f s stands. added_already ShowsListed numbered_list by_list merged number f named compiled s;
  commands = λ named f s stands. added_already ShowsCommands numbered_commands by_commands merged number f named compiled s;
}

-- ---- where no function is compiled

module _ (parts : InitialView) (new : List (List ℕ)) (top : FunctionView) (atoms : List ℕ) (records : List RecordView) (entries : List Entry) (apart : AreWithoutEquals new) (few : length new < 2 ^ 32) (are : AreAtoms parts.texts new atoms)
    (by : IsFunctionBy atoms (outermost (inner_of parts.records)) parts.top top) (records_are : records ≡ map (record_by atoms) parts.records) (entries_are : entries ≡ replicate (length records) entry.Lazy) where
  same_length : length records ≡ length parts.records
  same_length = ap length records_are ∙ length-map parts.records (record_by atoms)

  pub merging_begun : IsMerging (view new top records entries)
  merging_begun = record {
    few = few;
    apart = apart;
    many = ap length entries_are ∙ length-replicate (length records) entry.Lazy;
    top = settled_by parts.texts new atoms (outermost (inner_of parts.records)) parts.top.code top.code are few by.code.are;
    entries = subst (AreSettled new) (sym entries_are) (are_settled_lazy new (length records));
  }

  whole : view new top (map (record_by atoms) parts.records) (replicate (length parts.records) entry.Lazy) ≡ view new top records entries
  whole = ap₂ (view new top) (sym records_are) (ap (λ (n : ℕ). replicate n entry.Lazy) (sym same_length) ∙ sym entries_are)

  pub begins : Begins parts (view new top records entries)
  begins = record {
    listed = λ named s. subst (λ (m : MergedView). MergedStandsFor ShowsListed m (all_lazy numbered_list named)) whole (begun ShowsListed numbered_list by_list parts new top atoms named are few by s);
    commands = λ named s. subst (λ (m : MergedView). MergedStandsFor ShowsCommands m (all_lazy numbered_commands named)) whole (begun ShowsCommands numbered_commands by_commands parts new top atoms named are few by s);
  }

-- ---- what the code knows

-- there are few texts still
pub few_after : (merged : MergedView) (inside new added_texts : List (List ℕ)) → inside ≡ merged.texts → length merged.texts + length added_texts < 2 ^ 32 - 1 → length new ≤ length inside + length added_texts → length new < 2 ^ 32
few_after merged inside new added_texts is few more = omega (arith, few, more, ap length is)

-- the numbers that a record has
pub numbers_are : (records : List RecordView) (number : ℕ) (lazy : RecordView) (given : List ℕ) → number - 1 < length records → lazy ≡ get_or records (number - 1) lazy → given ≡ lazy.inner → given ≡ numbers_in (inner_of records) number
numbers_are records number lazy given lt is given_is =
    given_is ∙ (ap (λ (l : RecordView). l.inner) is ∙ sym (get_or-map (λ (l : RecordView). l.inner) records (number - 1) lazy [] lt))

here_is : (entries : List Entry) (place : ℕ) (e : Entry) → place < length entries → e ≡ get_or entries place e → e ≡ get_or entries place entry.Lazy
here_is entries place e lt is = is ∙ get_or_default entries place e entry.Lazy lt

-- whether the function of a number is compiled
pub tells_here : (merged inside : MergedView) (number : ℕ) (e : Entry) (b : Bool) → inside ≡ merged → number - 1 < length inside.entries → e ≡ get_or inside.entries (number - 1) e → (IsTrue b ↔ IsCompiled e) → IsTrue b ↔ HasFunction merged number
tells_here merged inside number e b is lt at tells =
    subst (λ (m : MergedView). IsTrue b ↔ HasFunction m number) is
    (subst (λ (x : Entry). IsTrue b ↔ IsCompiled x) (here_is inside.entries (number - 1) e lt at) tells)

pub lacks_still : (old new : MergedView) (number : ℕ) (b : Bool) → b ≡ false → (IsTrue b ↔ HasFunction old number) → SameParts old new → HasFunction new number → ⊥
lacks_still old new number b lacks tells same h = true≢false (sym (tells.1 (subst (λ (es : List Entry). IsCompiled (get_or es (number - 1) entry.Lazy)) same.entries h)) ∙ lacks)

pub number_still : (old new : MergedView) (number : ℕ) → SameParts old new → (1 ≤ number) × (number ≤ length old.records) → (1 ≤ number) × (number ≤ length new.records)
number_still old new number same h = (h.0, omega (arith, h.1, ap length same.records))

-- the place of a function's number
pub place_within : (merged : MergedView) (records : List RecordView) (number : ℕ) → records ≡ merged.records → (1 ≤ number) × (number ≤ length merged.records) → number - 1 < length records
place_within merged records number is h = omega (arith, ap length is, h.0, h.1)

-- the parts of a script, in which no function is compiled
pub both_begun : (parts : InitialView) (new : List (List ℕ)) (atoms numbers : List ℕ) (given_top top : FunctionView) (given_records more_records records : List RecordView) (entries : List Entry) (count : ℕ)
    → given_top ≡ parts.top → given_records ≡ parts.records → more_records ≡ parts.records → numbers ≡ outermost (inner_of given_records) → length new < 2 ^ 32 → AreWithoutEquals new → AreAtoms parts.texts new atoms
    → IsFunctionBy atoms numbers given_top top → records ≡ map (record_by atoms) more_records → entries ≡ replicate count entry.Lazy → count ≡ length records
    → IsMerging (view new top records entries) × Begins parts (view new top records entries)
both_begun parts new atoms numbers given_top top given_records more_records records entries count top_is records_is more_is numbers_is few apart are by made filled count_is = (
  merging_begun parts new top atoms records entries apart few are by' made' filled',
  begins parts new top atoms records entries apart few are by' made' filled',
)
  where
    by' : IsFunctionBy atoms (outermost (inner_of parts.records)) parts.top top
    by' = subst₂ (λ (ns : List ℕ) (t : FunctionView). IsFunctionBy atoms ns t top) (numbers_is ∙ ap (λ (ls : List RecordView). outermost (inner_of ls)) records_is) top_is by

    made' : records ≡ map (record_by atoms) parts.records
    made' = made ∙ ap (map (record_by atoms)) more_is

    filled' : entries ≡ replicate (length records) entry.Lazy
    filled' = filled ∙ ap (λ (n : ℕ). replicate n entry.Lazy) count_is
