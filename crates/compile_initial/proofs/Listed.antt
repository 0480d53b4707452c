-- The records of functions that were found, each at its site.
use Rattle.std.proofs.Common.{◌≡◌, ◌∙◌, ℕ, List, [], ◌∷◌, map, Option, option_map, refl, sym, ap, ap₂, subst}
use Rattle.script_grammar.specs.Interpretation.{Interpretation}
use Rattle.script_grammar.specs.Shows.{ShowAll}
use Rattle.script_grammar.specs.Tree.{Function, function, Stmts}
use Rattle.stencil_data.specs.declared.functions.Extent.{Extent}
use Rattle.stencil_data.specs.declared.functions.FuncKind.{FuncKind}
use Rattle.stencil_data.specs.LinkView.{LinkView}
use Rattle.stencil_data.specs.Named.{NamedClosed, NamedRecord}
use Rattle.stencil_data.specs.StandsFor.{text_at, named_closed, RecordStandsFor, RecordsStandFor}
use Rattle.grammar_start_laws.specs.Own.{AllOf}
use Rattle.parse_track.specs.declared.region.ClosedAt.{ClosedAt}
use Rattle.parse_track.specs.Notes.{closed_names}
use Rattle.parse_track.specs.Scopes.{bounds_of}
use Rattle.track_renaming_laws.specs.Renaming.{renamed_bound}
use Rattle.track_renaming_laws.specs.Texts as track
use Rattle.scope_analysis.specs.Closed.{closed_over}
use Rattle.scope_analysis.specs.Functions.{Inner}
use Rattle.scope_analysis.specs.Scopes.{function_scopes}
use Rattle.scope_closed_laws.specs.Handed as handed
use Rattle.scope_closed_laws.specs.Sound.{IsSound}
use Rattle.scope_closed_laws.proofs.Handing.{sound_function}
use Rattle.emit_stmts.specs.Functions.{start_of}
use Rattle.emit_stmts.specs.Functions as emitted
use Rattle.emit_limit_laws.specs.FullNames.{FullNames, FullFunction}
use Rattle.emit_limit_laws.specs.Offsets.{site_starts}
use Rattle.compile_specs.specs.Eager.{Site, compiled_at}
use Rattle.compile_specs.specs.Shown.{numbers_of, record_of, starts_of}
use Rattle.compile_specs.specs.Shown as shown
use Rattle.compile_function.specs.Sites.{IsFunctionAt}
use Rattle.compile_function.proofs.Atoms.{name_within, closed_within}
use Rattle.compile_function.proofs.Shown.{same_closed}
use Rattle.compile_numbers.specs.Sorted.{NamesView, AreSorted, names_in}
use Rattle.compile_numbers.proofs.Sorting.{closed_inside}
use Rattle.parse_function_list.specs.declared.list.ListedFunction.{ListedFunction}
use Rattle.parse_function_list.specs.Placed.{Brief, brief_of, directly_in, placed_of}
use Rattle.parse_function_list.specs.Placed as placed
use Rattle.compile_site_laws.specs.Around.{IsPlacedAt}
use Rattle.compile_initial.specs.Records.{start_at, record_at}

-- ---- extents

extent_same : (f : Function) → placed.extent_of f ≡ emitted.extent_of f
extent_same (function _ _ _ _ _ _ _ _) = refl

extents_same : (fs : List Inner) → placed.extents_of fs ≡ emitted.extents_of fs
extents_same [] = refl
extents_same (f ∷ fs) = ap₂ (λ (e : Extent) (es : List Extent). e ∷ es) (extent_same f.func) (extents_same fs)

start_same : (f : Function) → (emitted.extent_of f).start ≡ start_of f
start_same (function _ _ _ _ _ _ _ _) = refl

function_start_same : (f : Function) → handed.function_start f ≡ start_of f
function_start_same (function _ _ _ _ _ _ _ _) = refl

pub part_starts : (all : List Site) → starts_of (map (λ (s : Site). (compiled_at s).part) all) ≡ site_starts all
part_starts [] = refl
part_starts (s ∷ all) = ap₂ (λ (n : ℕ) (ns : List ℕ). n ∷ ns) (start_same s.inner.func) (part_starts all)

-- ---- a function that was found is the one at the site

-- it is listed as this one is
abbrev pub IsListed : Interpretation → ListedFunction → Inner → Type 0
IsListed i f inner = (placed_of i f).brief ≡ brief_of inner

extent_listed : (i : Interpretation) (f : ListedFunction) (inner : Inner) → IsListed i f inner → f.extent ≡ emitted.extent_of inner.func
extent_listed i f inner is = ap (λ (b : Brief). b.extent) is ∙ extent_same inner.func

start_listed : (i : Interpretation) (f : ListedFunction) (inner : Inner) → IsListed i f inner → f.extent.start ≡ start_of inner.func
start_listed i f inner is = ap (λ (e : Extent). e.start) (extent_listed i f inner is) ∙ start_same inner.func

inner_listed : (i : Interpretation) (f : ListedFunction) (inner : Inner) → IsListed i f inner → f.inner.items ≡ emitted.extents_of (directly_in inner)
inner_listed i f inner is = ap (λ (b : Brief). b.inner) is ∙ extents_same (directly_in inner)

pub starts_listed : (top : List (List LinkView)) (all : List Site) (i : Interpretation) (found : List ListedFunction) (some : List Site) → ShowAll (IsPlacedAt top all) (map (placed_of i) found) some → map start_at found ≡ site_starts some
starts_listed top all i [] [] h = refl
starts_listed top all i [] (s ∷ some) h = absurd h
starts_listed top all i (f ∷ found) [] h = absurd h
starts_listed top all i (f ∷ found) (s ∷ some) h = ap₂ (λ (n : ℕ) (ns : List ℕ). n ∷ ns) (start_listed i f s.inner h.0.brief) (starts_listed top all i found some h.1)

-- ---- what is known of a script whose functions were found

pub record Knows (texts : List (List ℕ)) (i : Interpretation) (ats : List ClosedAt) (closed : NamesView) (items : Stmts) : Type 0 where
  pub texts_are : i.texts ≡ texts
  pub sound : IsSound items
  pub full : FullNames items
  pub sorted : AreSorted ats closed
  pub closed_are : map (renamed_bound (track.text_at texts)) (bounds_of ats) ≡ closed_names items

fields : (extent extent' : Extent) (kind kind' : FuncKind) (name name' : Option (List ℕ)) (inner inner' : List ℕ) (closed closed' : List NamedClosed)
    → extent ≡ extent' → kind ≡ kind' → name ≡ name' → inner ≡ inner' → closed ≡ closed'
    → ◌≡◌ {A = NamedRecord} (record { extent = extent; kind = kind; name = name; inner = inner; closed = closed }) (record { extent = extent'; kind = kind'; name = name'; inner = inner'; closed = closed' })
fields extent extent' kind kind' name name' inner inner' closed closed' a b c d e = cc

module _ (texts : List (List ℕ)) (i : Interpretation) (ats : List ClosedAt) (closed : NamesView) (items : Stmts) (k : Knows texts i ats closed items) (starts : List ℕ) where
  module _ (f : ListedFunction) (s : Site) (is : IsListed i f s.inner) (at : IsFunctionAt items s) where
    full : FullFunction s.inner
    full = k.full.inside s.inner at.of

    name_listed : option_map (text_at texts) f.name ≡ s.inner.name
    name_listed = subst (λ (ts : List (List ℕ)). option_map (text_at ts) f.name ≡ s.inner.name) k.texts_are (ap (λ (b : Brief). b.name) is)

    names_bound : map (named_closed texts) (names_in closed f.extent.start) ≡ shown.closed_of (closed_names items) f.extent.start
    names_bound = ap (map (named_closed texts)) (k.sorted.inside f.extent.start) ∙ closed_inside texts ats (closed_names items) f.extent.start k.closed_are

    names_over : map (named_closed texts) (names_in closed f.extent.start) ≡ closed_over (function_scopes s.inner.kind s.inner.name s.inner.func)
    names_over =
        names_bound
        ∙ ap (shown.closed_of (closed_names items)) (start_listed i f s.inner is)
        ∙ sym (same_closed (closed_names items) (start_of s.inner.func))
        ∙ ap (handed.closed_of (closed_names items)) (sym (function_start_same s.inner.func))
        ∙ sound_function items s.inner k.sound at.of

    record_stands : RecordStandsFor texts (record_at starts closed f) (record_of starts (closed_names items) (compiled_at s).part)
    record_stands = record {
      within = (name_within texts f.name s.inner.name name_listed full.name, closed_within texts (names_in closed f.extent.start) (function_scopes s.inner.kind s.inner.name s.inner.func) names_over full.scopes);
      is =
          fields f.extent (emitted.extent_of s.inner.func) f.kind s.inner.kind (option_map (text_at texts) f.name) s.inner.name (numbers_of starts f.inner.items) (numbers_of starts (emitted.extents_of (directly_in s.inner)))
          (map (named_closed texts) (names_in closed f.extent.start)) (shown.closed_of (closed_names items) (emitted.extent_of s.inner.func).start)
          (extent_listed i f s.inner is) (ap (λ (b : Brief). b.kind) is) name_listed (ap (numbers_of starts) (inner_listed i f s.inner is))
          (names_bound ∙ ap (shown.closed_of (closed_names items)) (ap (λ (e : Extent). e.start) (extent_listed i f s.inner is)));
    }

  pub records_stand : (top : List (List LinkView)) (all : List Site) (found : List ListedFunction) (some : List Site) → ShowAll (IsPlacedAt top all) (map (placed_of i) found) some → AllOf (IsFunctionAt items) some
      → RecordsStandFor texts (map (record_at starts closed) found) (map (record_of starts (closed_names items)) (map (λ (s : Site). (compiled_at s).part) some))
  records_stand top all [] [] h at = record { within = tt; are = refl }
  records_stand top all [] (s ∷ some) h at = absurd h
  records_stand top all (f ∷ found) [] h at = absurd h
  records_stand top all (f ∷ found) (s ∷ some) h at =
      let one = record_stands f s h.0.brief at.0 in
      let more = records_stand top all found some h.1 at.1 in
      record { within = (one.within, more.within); are = ap₂ (λ (r : NamedRecord) (rs : List NamedRecord). r ∷ rs) one.is more.are }
