-- The extents of the records that a function's record names are those of the functions directly in it.
use Rattle.std.proofs.Common.{◌≡◌, ◌∙◌, ℕ, zero, suc, ◌+◌, ◌-◌, ◌<◌, ◌≤◌, List, [], ◌∷◌, ◌++◌, length, map, Option, Some, refl, sym, ap, ap₂, subst, arith}
use Rattle.std.specs.Prelude.{slice_get, slice_index_or}
use Rattle.std.specs.List.{All}
use Rattle.std.proofs.lemmas.Option.{none-some, same_Some}
use Rattle.script_grammar.specs.Tree.{Stmts, Function, function}
use Rattle.stencil_data.specs.declared.functions.Extent.{Extent}
use Rattle.stencil_data.specs.LinkView.{LinkView}
use Rattle.stencil_data.specs.Named.{NamedFunction, NamedInitial, NamedRecord}
use Rattle.stencil_data.specs.StandsFor.{named_record, InitialStandsFor, RecordsStandFor}
use Rattle.stencil_data.specs.Views.{InitialView, RecordView}
use Rattle.bytecode_buf.specs.Command.{Command, ShowsCommands}
use Rattle.parse_track.specs.ClosedNames.{Bound}
use Rattle.parse_track.specs.Notes.{closed_names}
use Rattle.scope_analysis.specs.Functions.{Inner, inner_function}
use Rattle.scope_analysis.specs.Scopes.{function_scopes}
use Rattle.grammar_start_laws.specs.Own.{AllOf}
use Rattle.emit_stmts.specs.Functions.{chain_at, start_of, extent_of, extents_of}
use Rattle.emit_limit_laws.specs.Offsets.{site_starts}
use Rattle.emit_limit_laws.proofs.RisingSites.{sites_rise}
use Rattle.compile_specs.specs.Eager.{Site, sites, sites_in, compiled_at, AllSites, no_sites, more_sites, AreFunctions}
use Rattle.compile_specs.specs.Shown.{number_of, numbers_of, starts_of, record_of, initial}
use Rattle.session_specs.specs.Sources.{IsValid}
use Rattle.compile_lazy_laws.specs.Inside.{IsNumberOf, extents_at, NamesInside}
use Rattle.compile_lazy_laws.proofs.Asking.{record_stands}
use Rattle.compile_lazy_laws.proofs.Numbers.{AreNumbered, numbered_rising}
use Rattle.compile_lazy_laws.proofs.Valid.{valid_stands}

-- ---- where functions are listed

-- a function is listed at some place
record IsListed (all : List Site) (s : Site) : Type 0 where
  place : ℕ
  is : slice_get all place ≡ Some s

-- whatever stands in front of the list
further : (front all : List Site) (s : Site) → IsListed all s → IsListed (front ++ all) s
further [] all s h = h
further (x ∷ front) all s h = let r = further front all s h in record { place = suc r.place; is = r.is }

-- and after it
longer : (all after : List Site) (s : Site) → IsListed all s → IsListed (all ++ after) s
longer all after s h = record { place = h.place; is = by all h.place h.is }
  where
    by : (xs : List Site) (k : ℕ) → slice_get xs k ≡ Some s → slice_get (xs ++ after) k ≡ Some s
    by [] k e = absurd (none-some s e)
    by (x ∷ xs) zero e = e
    by (x ∷ xs) (suc k) e = by xs k e

each : (P Q : Site → Type 0) (xs : List Site) → ((s : Site) → P s → Q s) → AllOf P xs → AllOf Q xs
each P Q [] f h = tt
each P Q (x ∷ xs) f h = (f x h.0, each P Q xs f h.1)

some_listed : (some all : List Site) → AllSites some all → AllOf (IsListed all) some
some_listed some all no_sites = tt
some_listed some all (more_sites s rest within after a b) = (
  record { place = 0; is = refl },
  each (IsListed after) (IsListed (s ∷ (within ++ after))) rest (λ x h. further (s ∷ within) after x h) (some_listed rest after b),
)

-- or in one of two lists
split_place : (front back : List Site) (k : ℕ) (m : Site) (Q : Type 0) → slice_get (front ++ back) k ≡ Some m → ((j : ℕ) → slice_get front j ≡ Some m → Q) → ((j : ℕ) → slice_get back j ≡ Some m → Q) → Q
split_place [] back k m Q e f g = g k e
split_place (x ∷ front) back zero m Q e f g = f zero e
split_place (x ∷ front) back (suc k) m Q e f g = split_place front back k m Q e (λ j h. f (suc j) h) g

-- the functions directly in one that is listed are listed
inside_listed : (some all : List Site) → AllSites some all → (place : ℕ) (m : Site) → slice_get all place ≡ Some m → AllOf (IsListed all) (sites_in m)
inside_listed some all no_sites place m e = absurd (none-some m e)
inside_listed some all (more_sites s rest within after a b) zero m e =
    subst (λ (x : Site). AllOf (IsListed (s ∷ (within ++ after))) (sites_in x)) (same_Some s m e)
    (each (IsListed within) (IsListed (s ∷ (within ++ after))) (sites_in s) (λ x h. further (s ∷ []) (within ++ after) x (longer within after x h)) (some_listed (sites_in s) within a))
inside_listed some all (more_sites s rest within after a b) (suc place) m e =
    split_place within after place m (AllOf (IsListed (s ∷ (within ++ after))) (sites_in m)) e
    (λ j h. each (IsListed within) (IsListed (s ∷ (within ++ after))) (sites_in m) (λ x k. further (s ∷ []) (within ++ after) x (longer within after x k)) (inside_listed (sites_in s) within a j m h))
    (λ j h. each (IsListed after) (IsListed (s ∷ (within ++ after))) (sites_in m) (λ x k. further (s ∷ within) after x k) (inside_listed rest after b j m h))

-- ---- their numbers and their records

same_start : (f : Function) → (extent_of f).start ≡ start_of f
same_start (function _ start end _ _ _ _ _) = refl

abbrev extent_at : Site → Extent
extent_at s = extent_of s.inner.func

-- of functions that get chains
extents_are : (chain : Inner → List LinkView) (is : List Inner) → map extent_at (sites is (map chain is)) ≡ extents_of is
extents_are chain [] = refl
extents_are chain (i ∷ is) = ap (λ (es : List Extent). extent_of i.func ∷ es) (extents_are chain is)

extents_inside : (s : Site) → map extent_at (sites_in s) ≡ (compiled_at s).part.inner
extents_inside s = extents_are (chain_at (function_scopes s.inner.kind s.inner.name s.inner.func) s.chain) (inner_function s.inner.kind s.inner.name s.inner.func)

starts_are : (all : List Site) → starts_of (map (λ (s : Site). (compiled_at s).part) all) ≡ site_starts all
starts_are [] = refl
starts_are (s ∷ all) = ap₂ (λ (n : ℕ) (ns : List ℕ). n ∷ ns) (same_start s.inner.func) (starts_are all)

number_at : (starts : List ℕ) (at : ℕ) (all : List Site) → AreNumbered starts at (site_starts all) → (k : ℕ) (s : Site) → slice_get all k ≡ Some s → number_of starts (start_of s.inner.func) ≡ at + k
number_at starts at [] h k s e = absurd (none-some s e)
number_at starts at (x ∷ all) h zero s e = ap (λ (y : Site). number_of starts (start_of y.inner.func)) (sym (same_Some x s e)) ∙ (h.0 ∙ omega arith)
number_at starts at (x ∷ all) h (suc k) s e = number_at starts (suc at) all h.1 k s e ∙ omega arith

-- the record at the place of a function has its extent
record_at : (texts : List (List ℕ)) (starts : List ℕ) (bound : List (Bound (List ℕ))) (records : List RecordView) (all : List Site) → map (named_record texts) records ≡ map (record_of starts bound) (map (λ (s : Site). (compiled_at s).part) all)
    → (k : ℕ) (s : Site) → slice_get all k ≡ Some s → slice_get (map (λ (lazy : RecordView). lazy.extent) records) k ≡ Some (extent_at s)
record_at texts starts bound records [] e k s f = absurd (none-some s f)
record_at texts starts bound [] (x ∷ all) e k s f = absurd (cc)
record_at texts starts bound (r ∷ records) (x ∷ all) e zero s f =
    let first : named_record texts r ≡ record_of starts bound (compiled_at x).part = cc in
    let same : x ≡ s = same_Some x s f in
    ap (λ (n : NamedRecord). Some n.extent) first ∙ ap (λ (y : Site). Some (extent_at y)) same
record_at texts starts bound (r ∷ records) (x ∷ all) e (suc k) s f =
    let behind : map (named_record texts) records ≡ map (record_of starts bound) (map (λ (y : Site). (compiled_at y).part) all) = cc in
    record_at texts starts bound records all behind k s f

module _ (records : List RecordView) (starts : List ℕ) (all : List Site) (numbered : AreNumbered starts 1 (site_starts all))
    (recorded : (k : ℕ) (s : Site) → slice_get all k ≡ Some s → slice_get (map (λ (lazy : RecordView). lazy.extent) records) k ≡ Some (extent_at s)) where
  one_extent : (s : Site) → IsListed all s → slice_get (map (λ (lazy : RecordView). lazy.extent) records) (number_of starts (extent_at s).start - 1) ≡ Some (extent_at s)
  one_extent s h =
      let number = ap (number_of starts) (same_start s.inner.func) ∙ number_at starts 1 all numbered h.place s h.is in
      let place : number_of starts (extent_at s).start - 1 ≡ h.place = omega (arith, number) in
      ap (slice_get (map (λ (lazy : RecordView). lazy.extent) records)) place ∙ recorded h.place s h.is

  each_extent : (some : List Site) → AllOf (IsListed all) some → extents_at records (numbers_of starts (map extent_at some)) ≡ map (λ (e : Extent). Some e) (map extent_at some)
  each_extent [] h = refl
  each_extent (s ∷ some) h = ap₂ (λ (o : Option Extent) (os : List (Option Extent)). o ∷ os) (one_extent s h.0) (each_extent some h.1)

  place_within : (xs : List RecordView) (k : ℕ) (e : Extent) → slice_get (map (λ (lazy : RecordView). lazy.extent) xs) k ≡ Some e → k < length xs
  place_within [] k e h = absurd (none-some e h)
  place_within (x ∷ xs) zero e h = omega arith
  place_within (x ∷ xs) (suc k) e h = let lt = place_within xs k e h in omega (arith, lt)

  each_within : (some : List Site) → AllOf (IsListed all) some → All (IsNumberOf records) (numbers_of starts (map extent_at some))
  each_within [] h = λ k d lt. absurd (omega (arith, lt))
  each_within (s ∷ some) h = λ k d lt. by k d lt (each_within some h.1)
    where
      by : (k d : ℕ) → k < length (numbers_of starts (map extent_at (s ∷ some))) → All (IsNumberOf records) (numbers_of starts (map extent_at some)) → IsNumberOf records (slice_index_or (numbers_of starts (map extent_at (s ∷ some))) k d)
      by zero d lt others =
          let number = ap (number_of starts) (same_start s.inner.func) ∙ number_at starts 1 all numbered h.0.place s h.0.is in
          let high = place_within records h.0.place (extent_at s) (recorded h.0.place s h.0.is) in
          (omega (arith, number), omega (arith, number, high))
      by (suc k) d lt others = others k d (omega (arith, lt))

-- ---- the laws

pub names_inside : (bytes : List ℕ) (items : Stmts) (count : ℕ) (all : List Site) (parts : InitialView) (named : NamedInitial (List Command)) (top : NamedFunction (List Command)) (place : ℕ) (m : Site) (lazy : RecordView)
    → IsValid bytes items count → length bytes ≤ 16777215 → AreFunctions items (length bytes) all → named ≡ initial (closed_names items) top (map (λ (s : Site). (compiled_at s).part) all)
    → InitialStandsFor ShowsCommands parts named → slice_get all place ≡ Some m → slice_get parts.records place ≡ Some lazy → NamesInside parts.records lazy m
names_inside bytes items count all parts named top place m lazy v short are is stands there recorded =
    let functions : List (NamedFunction (List Command)) = map (λ (s : Site). (compiled_at s).part) all in
    let kept : RecordsStandFor parts.texts parts.records (map (record_of (starts_of functions) (closed_names items)) functions) =
    subst (λ (n : NamedInitial (List Command)). RecordsStandFor parts.texts parts.records n.records) is stands.records in
    let same = starts_are all in
    let rise = sites_rise v.read.inner v.read.end items (length bytes) all (valid_stands bytes items count v short) are in
    let numbered : AreNumbered (starts_of functions) 1 (site_starts all) = subst (λ (ns : List ℕ). AreNumbered ns 1 (site_starts all)) (sym same) (numbered_rising (site_starts all) rise) in
    let at = record_at parts.texts (starts_of functions) (closed_names items) parts.records all kept.are in
    let listed = inside_listed _ all are place m there in
    let stood = record_stands parts.texts (starts_of functions) (closed_names items) parts.records all place m lazy kept.within kept.are there recorded in
    let inner : lazy.inner ≡ numbers_of (starts_of functions) (map extent_at (sites_in m)) = ap (λ (n : NamedRecord). n.inner) stood.is ∙ ap (numbers_of (starts_of functions)) (sym (extents_inside m)) in
    record {
      within = subst (All (IsNumberOf parts.records)) (sym inner) (each_within parts.records (starts_of functions) all numbered at (sites_in m) listed);
      extents = ap (extents_at parts.records) inner ∙ each_extent parts.records (starts_of functions) all numbered at (sites_in m) listed ∙ ap (map (λ (e : Extent). Some e)) (extents_inside m);
    }
