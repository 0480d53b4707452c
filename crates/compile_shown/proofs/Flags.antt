-- Which functions of a script are shown, by their records.
use Rattle.std.proofs.Common.{◌≡◌, ◌∙◌, ℕ, zero, suc, ◌+◌, ◌-◌, ◌^◌, ◌<◌, ◌≤◌, Bool, false, List, [], ◌∷◌, length, map, Option, Some, option_map, refl, sym, ap, ap₂, subst, arith}
use Rattle.std.specs.Prelude.{slice_get, slice_index_or}
use Rattle.std.proofs.lemmas.List.{length-map}
use Rattle.std.proofs.lemmas.Option.{slice_get-get_or, slice_get-map, slice_get_within}
use Rattle.script_grammar.specs.Tree.{Function, function}
use Rattle.stencil_data.specs.declared.functions.Extent.{Extent}
use Rattle.stencil_data.specs.Named.{NamedFunction, NamedInitial, NamedRecord}
use Rattle.stencil_data.specs.StandsFor.{InitialStandsFor, named_record}
use Rattle.stencil_data.specs.Views.{RecordView}
use Rattle.bytecode_buf.specs.Command.{Command, ShowsCommands}
use Rattle.parse_track.specs.ClosedNames.{Bound}
use Rattle.parse_track.specs.Notes.{closed_names}
use Rattle.emit_limit_laws.specs.Limits.{ScriptStands}
use Rattle.emit_limit_laws.specs.Offsets.{OffsetsRise, site_starts}
use Rattle.emit_limit_laws.proofs.Files.{file_stands}
use Rattle.emit_limit_laws.proofs.RisingSites.{sites_numbered, sites_rise}
use Rattle.emit_stmts.specs.Functions.{extent_of, start_of, top_script}
use Rattle.compile_specs.specs.Eager.{Site, compiled_at}
use Rattle.compile_specs.specs.Shown.{Wanted, extents_of, initial, is_shown, record_of, starts_of}
use Rattle.compile_wanted.specs.Flags.{shown_flags, wanted_flags}
use Rattle.compile_wanted.proofs.ShownFlags.{shown_by_flags}
use Rattle.compile_initial.specs.declared.InitialStencil.{InitialStencil}
use Rattle.compile_initial.specs.Initial.{IsInitialOf}
use Rattle.compile_lazy_laws.proofs.Merging.{function_at}
use Rattle.compile_shown.specs.Counting.{extents_in, shown_count, trues}
use Rattle.compile_shown.specs.Shown.{AreFlags, flagged}
use Rattle.compile_shown.specs.UpTo.{IsFlagAt}
use Rattle.compile_shown.proofs.Counts.{trues_passing}

abbrev pub part_at : Site → NamedFunction (List Command)
part_at s = (compiled_at s).part

-- ---- records and the functions that they stand for

named_extents : (texts : List (List ℕ)) (records : List RecordView) → map (λ (n : NamedRecord). n.extent) (map (named_record texts) records) ≡ extents_in records
named_extents texts [] = refl
named_extents texts (r ∷ records) = ap (λ (es : List Extent). r.extent ∷ es) (named_extents texts records)

function_extents : (starts : List ℕ) (bound : List (Bound (List ℕ))) (fs : List (NamedFunction (List Command))) → map (λ (n : NamedRecord). n.extent) (map (record_of starts bound) fs) ≡ extents_of fs
function_extents starts bound [] = refl
function_extents starts bound (f ∷ fs) = ap (λ (es : List Extent). f.extent ∷ es) (function_extents starts bound fs)

pub some_same : {A : Type 0} (x y : A) (o : Option A) → o ≡ Some x → o ≡ Some y → x ≡ y
some_same {A = A} x y o e f = let g : ◌≡◌ {A = Option A} (Some x) (Some y) = sym e ∙ f in cc

pub at_mapped : {A B : Type 0} (f : A → B) (xs : List A) (k : ℕ) (x : A) → slice_get xs k ≡ Some x → slice_get (map f xs) k ≡ Some (f x)
at_mapped f xs k x e = slice_get-map f xs k ∙ ap (option_map f) e

-- ---- where functions start and end

own_start : (f : Function) → (extent_of f).start ≡ start_of f
own_start (function _ _ _ _ _ _ _ _) = refl

ends_in : (records : List RecordView) → map (λ (e : Extent). e.end) (extents_in records) ≡ map (λ (lazy : RecordView). lazy.extent.end) records
ends_in [] = refl
ends_in (r ∷ records) = ap (λ (ns : List ℕ). r.extent.end ∷ ns) (ends_in records)

pub one_at : {A : Type 0} (xs : List A) (k : ℕ) → k < length xs → (x : A) × (slice_get xs k ≡ Some x)
one_at [] k lt = absurd (omega (arith, lt))
one_at (x ∷ xs) zero lt = (x, refl)
one_at (x ∷ xs) (suc k) lt = one_at xs k (omega (arith, lt))

-- the flag at a place
pub flag_at : (want : Wanted) (records : List RecordView) (flags : List Bool) (place : ℕ) → AreFlags want records flags → place < length flags → IsFlagAt want records place (slice_index_or flags place false)
flag_at want records flags place are lt = subst (λ (fs : List Bool). slice_get fs place ≡ Some (slice_index_or flags place false)) are (slice_get-get_or flags place false lt)

pub flag_next : (flags : List Bool) (place : ℕ) → flagged flags (place + 1) ≡ slice_index_or flags place false
flag_next flags place = let same : place + 1 - 1 ≡ place = omega arith in ap (λ (n : ℕ). slice_index_or flags n false) same

pub flags_count : (want : Wanted) (records : List RecordView) (flags : List Bool) → AreFlags want records flags → trues flags ≡ shown_count want (extents_in records)
flags_count want records flags are = ap trues are ∙ trues_passing (is_shown want (extents_in records)) (extents_in records)

pub flags_length : (want : Wanted) (records : List RecordView) (flags : List Bool) → AreFlags want records flags → length flags ≡ length records
flags_length want records flags are =
    ap length are ∙ (length-map (extents_in records) (is_shown want (extents_in records)) ∙ length-map records (λ (lazy : RecordView). lazy.extent))

module _ (want : Wanted) (bytes : List ℕ) (made : InitialStencil) (is : IsInitialOf bytes made) where
  abbrev pub functions : List (NamedFunction (List Command))
  functions = map part_at is.all

  abbrev pub top : NamedFunction (List Command)
  top = (top_script is.items (length bytes)).part

  abbrev pub bound : List (Bound (List ℕ))
  bound = closed_names is.items

  abbrev pub shown_at : Extent → Bool
  shown_at = is_shown want (extents_in made.parts.records)

  named_records : map (named_record made.parts.texts) made.parts.records ≡ map (record_of (starts_of functions) bound) functions
  named_records = is.stands.records.are ∙ ap (λ (n : NamedInitial (List Command)). n.records) is.is

  pub same_extents : extents_in made.parts.records ≡ extents_of functions
  same_extents =
      sym (named_extents made.parts.texts made.parts.records)
      ∙ (ap (map (λ (n : NamedRecord). n.extent)) named_records ∙ function_extents (starts_of functions) bound functions)

  pub same_count : length made.parts.records ≡ length is.all
  same_count =
      sym (length-map made.parts.records (named_record made.parts.texts))
      ∙ (ap length named_records ∙ (length-map functions (record_of (starts_of functions) bound) ∙ length-map is.all part_at))

  pub initial_stands : InitialStandsFor ShowsCommands made.parts (initial bound top functions)
  initial_stands = subst (InitialStandsFor ShowsCommands made.parts) is.is is.stands

  -- ---- all functions

  stands_well : ScriptStands is.valid.read.inner is.valid.read.end is.items
  stands_well =
      file_stands bytes is.valid.read.inner is.valid.read.end is.items (let short = is.short in omega (arith, short))
      is.valid.read.utf8 is.valid.read.split is.valid.read.script is.valid.read.shallow is.valid.faultless

  pub few_records : length made.parts.records + 1 < 2 ^ 32
  few_records = let few = sites_numbered is.valid.read.inner is.valid.read.end is.items (length bytes) is.all stands_well is.functions in let count = same_count in omega (arith, few, count)

  starts_are : (all : List Site) → map (λ (e : Extent). e.start) (extents_of (map part_at all)) ≡ site_starts all
  starts_are [] = refl
  starts_are (s ∷ all) = ap₂ (λ (n : ℕ) (ns : List ℕ). n ∷ ns) (own_start s.inner.func) (starts_are all)

  starts_rise : OffsetsRise 0 (map (λ (e : Extent). e.start) (extents_in made.parts.records))
  starts_rise = subst (OffsetsRise 0) (sym (ap (map (λ (e : Extent). e.start)) same_extents ∙ starts_are is.all))
      (sites_rise is.valid.read.inner is.valid.read.end is.items (length bytes) is.all stands_well is.functions)

  -- which are shown
  pub flags_are : (ends : List ℕ) (flags : List Bool) → ends ≡ map (λ (lazy : RecordView). lazy.extent.end) made.parts.records → flags ≡ shown_flags (wanted_flags want (length ends)) ends
      → AreFlags want made.parts.records flags
  flags_are ends flags ends_are is_by =
      is_by
      ∙ (ap (λ (es : List ℕ). shown_flags (wanted_flags want (length es)) es) (ends_are ∙ sym (ends_in made.parts.records))
      ∙ (ap (λ (n : ℕ). shown_flags (wanted_flags want n) (map (λ (e : Extent). e.end) (extents_in made.parts.records))) (length-map (extents_in made.parts.records) (λ (e : Extent). e.end))
      ∙ sym (shown_by_flags want (extents_in made.parts.records) starts_rise)))

  pub flags_seen : (kept ends : List ℕ) (seen : List RecordView) (flags now : List Bool) → seen ≡ made.parts.records → kept ≡ map (λ (lazy : RecordView). lazy.extent.end) seen → ends ≡ kept → flags ≡ shown_flags (wanted_flags want (length ends)) ends → now ≡ flags
      → AreFlags want made.parts.records now
  flags_seen kept ends seen flags now seen_are kept_are ends_are is_by now_is =
      now_is ∙ flags_are ends flags (ends_are ∙ (kept_are ∙ ap (map (λ (lazy : RecordView). lazy.extent.end)) seen_are)) is_by

  -- ---- one function

  pub flag_is : (place : ℕ) (m : Site) (flag : Bool) → slice_get is.all place ≡ Some m → IsFlagAt want made.parts.records place flag → flag ≡ shown_at (extent_of m.inner.func)
  flag_is place m flag at f =
      let here : slice_get (map shown_at (extents_of functions)) place ≡ Some (shown_at (extent_of m.inner.func)) =
      at_mapped shown_at (extents_of functions) place (extent_of m.inner.func) (at_mapped (λ (g : NamedFunction (List Command)). g.extent) functions place (part_at m) (function_at is.all place m at)) in
      some_same flag (shown_at (extent_of m.inner.func)) (slice_get (map shown_at (extents_of functions)) place) (subst (λ (es : List Extent). slice_get (map shown_at es) place ≡ Some flag) same_extents f) here

  pub shown_by_functions : (extent : Extent) → shown_at extent ≡ is_shown want (extents_of functions) extent
  shown_by_functions extent = ap (λ (es : List Extent). is_shown want es extent) same_extents

  -- the site at a place
  pub site_at : (place : ℕ) → place < length made.parts.records → (m : Site) × (slice_get is.all place ≡ Some m)
  site_at place lt = let count = same_count in one_at is.all place (omega (arith, lt, count))

  -- the flag of a number
  pub flag_of : (flags : List Bool) (number : ℕ) (m : Site) → AreFlags want made.parts.records flags → 1 ≤ number → slice_get is.all (number - 1) ≡ Some m → flagged flags number ≡ shown_at (extent_of m.inner.func)
  flag_of flags number m are low at =
      let within = slice_get_within is.all (number - 1) m at in
      let count = same_count in
      let long = flags_length want made.parts.records flags are in
      flag_is (number - 1) m (flagged flags number) at (flag_at want made.parts.records flags (number - 1) are (omega (arith, within, count, long)))
