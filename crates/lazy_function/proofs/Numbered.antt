-- A function of a script by its number.
use Rattle.std.proofs.Common.{◌≡◌, ◌∙◌, ℕ, zero, suc, ◌+◌, ◌-◌, ◌<◌, List, [], ◌∷◌, length, map, Option, Some, refl, sym, ap, ap₂, subst, arith}
use Rattle.std.specs.Prelude.{slice_get, slice_index_or}
use Rattle.std.specs.List.{All}
use Rattle.std.proofs.lemmas.List.{length-map}
use Rattle.std.proofs.lemmas.Option.{same_Some, slice_get-get_or}
use Rattle.script_grammar.specs.Tree.{Function, function, Stmts}
use Rattle.script_scanner.specs.Lexemes.{lexemes}
use Rattle.stencil_data.specs.declared.functions.Extent.{Extent}
use Rattle.stencil_data.specs.LinkView.{LinkView}
use Rattle.stencil_data.specs.Named.{NamedFunction, NamedInitial}
use Rattle.stencil_data.specs.StandsFor.{named_record}
use Rattle.stencil_data.specs.Views.{RecordView}
use Rattle.bytecode_buf.specs.Command.{Command}
use Rattle.scope_analysis.specs.Functions.{Inner, inner_function}
use Rattle.emit_stmts.specs.Functions.{extent_of, top_script}
use Rattle.emit_stmts.specs.Functions as functions_of
use Rattle.grammar_alone_laws.specs.Alone as alone
use Rattle.parse_bodies.specs.Whole.{IsText}
use Rattle.parse_function.specs.Extents as read
use Rattle.parse_script.proofs.TextLemmas.{one_text}
use Rattle.parse_track.specs.Notes.{closed_names}
use Rattle.compile_specs.specs.Eager.{Site, AreFunctions, compiled_at}
use Rattle.compile_specs.specs.Shown.{record_of, starts_of}
use Rattle.compile_specs.proofs.Sites.{one_functions}
use Rattle.session_specs.specs.Sources.{IsValid}
use Rattle.lazy_compile.specs.declared.Delazified.{Delazified}
use Rattle.lazy_compile.specs.Delazified.{CanBeDelazified, CompilesAlone, IsCompiledAlone}
use Rattle.compile_initial.specs.declared.Nesting.{Nesting}
use Rattle.compile_initial.specs.declared.InitialStencil.{InitialStencil}
use Rattle.compile_initial.specs.Initial.{AllAround, IsAround, IsInitialOf}
use Rattle.compile_site_laws.specs.Around.{HandsDown}
use Rattle.compile_lazy_laws.specs.Inside.{IsNumberOf, extents_at, NamesInside}
use Rattle.compile_lazy_laws.proofs.Asking.{can_delazify_part}
use Rattle.compile_lazy_laws.proofs.Inside.{names_inside}
use Rattle.lazy_function.specs.Numbered.{IsChainOf, IsCompiledFunction, IsNumberIn, around_in}

-- ---- lists

-- where a function stands, and the function, among all of a script
record Found (top : List (List LinkView)) (all : List Site) (number : ℕ) (around : List Nesting) (some : List Site) (k : ℕ) : Type 0 where
  s : Site
  at : slice_get some k ≡ Some s
  is : IsAround top all (number + k) (slice_index_or around k (record { number = 0; place = 0 })) s

all_long : (top : List (List LinkView)) (all : List Site) (number : ℕ) (around : List Nesting) (some : List Site) → AllAround top all number around some → length around ≡ length some
all_long top all number [] [] h = refl
all_long top all number [] (s ∷ some) h = absurd h
all_long top all number (a ∷ around) [] h = absurd h
all_long top all number (a ∷ around) (s ∷ some) h = ap suc (all_long top all (suc number) around some h.1)

found : (top : List (List LinkView)) (all : List Site) (number : ℕ) (around : List Nesting) (some : List Site) (k : ℕ) → AllAround top all number around some → k < length some → Found top all number around some k
found top all number [] [] k h lt = absurd (omega (arith, lt))
found top all number [] (s ∷ some) k h lt = absurd h
found top all number (a ∷ around) [] k h lt = absurd h
found top all number (a ∷ around) (s ∷ some) zero h lt = record { s = s; at = refl; is = subst (λ (n : ℕ). IsAround top all n a s) (omega arith) h.0 }
found top all number (a ∷ around) (s ∷ some) (suc k) h lt =
    let f = found top all (suc number) around some k h.1 (omega (arith, lt)) in
    record { s = f.s; at = f.at; is = subst (λ (n : ℕ). IsAround top all n (slice_index_or around k (record { number = 0; place = 0 })) f.s) (omega arith) f.is }

all_same : (xs ys : List Extent) → map (λ (e : Extent). Some e) xs ≡ map (λ (e : Extent). Some e) ys → xs ≡ ys
all_same [] [] e = refl
all_same [] (y ∷ ys) e = absurd (cc)
all_same (x ∷ xs) [] e = absurd (cc)
all_same (x ∷ xs) (y ∷ ys) e =
    let first : x ≡ y = cc in
    let behind : map (λ (z : Extent). Some z) xs ≡ map (λ (z : Extent). Some z) ys = cc in
    ap₂ (λ (z : Extent) (zs : List Extent). z ∷ zs) first (all_same xs ys behind)

-- two ways to say where functions stand
read_extent : (f : Function) → extent_of f ≡ record { start = alone.start_of f; end = alone.end_of f }
read_extent (function _ _ _ _ _ _ _ _) = refl

read_extents : (is : List Inner) → functions_of.extents_of is ≡ map (λ (j : Inner). record { start = alone.start_of j.func; end = alone.end_of j.func }) is
read_extents [] = refl
read_extents (i ∷ is) = ap₂ (λ (e : Extent) (es : List Extent). e ∷ es) (read_extent i.func) (read_extents is)

valid_text : (bytes : List ℕ) (items : Stmts) (count : ℕ) → IsValid bytes items count → IsText (lexemes bytes) items
valid_text bytes items count v = record { inner = v.read.inner; end = v.read.end; split = v.read.split; ends = v.read.ends; script = v.read.script; shallow = v.read.shallow }

some_same : {A : Type 0} (x y : A) (o : Option A) → o ≡ Some x → o ≡ Some y → x ≡ y
some_same {A = A} x y o e f = same_Some x y (sym e ∙ f)

module _ (bytes : List ℕ) (made : InitialStencil) (is : IsInitialOf bytes made) where
  abbrev functions : List (NamedFunction (List Command))
  functions = map (λ (s : Site). (compiled_at s).part) is.all

  abbrev top_chains : List (List LinkView)
  top_chains = (top_script is.items (length bytes)).chains

  named_records : map (named_record made.parts.texts) made.parts.records ≡ map (record_of (starts_of functions) (closed_names is.items)) functions
  named_records = is.stands.records.are ∙ ap (λ (n : NamedInitial (List Command)). n.records) is.is

  -- there is a record of each function, and it is known where each stands
  pub as_many : length made.parts.records ≡ length is.all
  as_many =
      sym (length-map made.parts.records (named_record made.parts.texts))
      ∙ (ap length named_records ∙ (length-map functions (record_of (starts_of functions) (closed_names is.items)) ∙ length-map is.all (λ (s : Site). (compiled_at s).part)))

  pub as_many_around : length made.around.items ≡ length made.parts.records
  as_many_around = all_long top_chains is.all 1 made.around.items is.all is.around ∙ sym as_many

  -- the function of a number, and what is around it
  pub record FoundAt (number : ℕ) : Type 0 where
    pub s : Site
    pub at : slice_get is.all (number - 1) ≡ Some s
    pub around : IsAround top_chains is.all number (around_in made number) s

  pub found_at : (number : ℕ) → IsNumberIn made number → FoundAt number
  found_at number n =
      let low = n.0 in
      let high = n.1 in
      let count = as_many in
      let f = found top_chains is.all 1 made.around.items is.all (number - 1) is.around (omega (arith, low, high, count)) in
      record { s = f.s; at = f.at; around = subst (λ (k : ℕ). IsAround top_chains is.all k (around_in made number) f.s) (omega (arith, low)) f.is }

  pub same_site : (number : ℕ) (n : IsNumberIn made number) (s : Site) → slice_get is.all (number - 1) ≡ Some s → (found_at number n).s ≡ s
  same_site number n s e = some_same (found_at number n).s s (slice_get is.all (number - 1)) (found_at number n).at e

  -- what it is compiled to, whatever the script is
  can : (place : ℕ) (m : Site) (lazy : RecordView) (chain : List LinkView) → slice_get is.all place ≡ Some m → slice_get made.parts.records place ≡ Some lazy → chain ≡ m.chain
      → CanBeDelazified bytes lazy made.parts.texts chain is.items m
  can place m lazy chain at record_at chain_is =
      can_delazify_part bytes is.items (length made.parts.records) is.all made.parts is.named (top_script is.items (length bytes)).part place m lazy chain is.valid is.short is.functions is.is is.stands is.few at record_at chain_is

  names : (place : ℕ) (m : Site) (lazy : RecordView) → slice_get is.all place ≡ Some m → slice_get made.parts.records place ≡ Some lazy → NamesInside made.parts.records lazy m
  names place m lazy at record_at =
      names_inside bytes is.items (length made.parts.records) is.all made.parts is.named (top_script is.items (length bytes)).part place m lazy is.valid is.short is.functions is.is is.stands at record_at

  pub numbers_inside : (number : ℕ) (lazy : RecordView) → IsNumberIn made number → slice_get made.parts.records (number - 1) ≡ Some lazy → All (IsNumberOf made.parts.records) lazy.inner
  numbers_inside number lazy n record_at = let f = found_at number n in (names (number - 1) f.s lazy f.at record_at).within

  pub asked : (number : ℕ) (lazy : RecordView) (chain : List LinkView) (texts : List (List ℕ)) (within : List Extent) → IsNumberIn made number → IsChainOf bytes made number chain → texts ≡ made.parts.texts
      → map (λ (e : Extent). Some e) within ≡ extents_at made.parts.records lazy.inner → slice_get made.parts.records (number - 1) ≡ Some lazy
      → (items : Stmts) × (m : Site) × CanBeDelazified bytes lazy texts chain items m × (within ≡ read.extents_in m.inner)
  asked number lazy chain texts within n of same extents record_at =
      let f = found_at number n in (
        is.items,
        f.s,
        subst (λ (ts : List (List ℕ)). CanBeDelazified bytes lazy ts chain is.items f.s) (sym same) (can (number - 1) f.s lazy chain f.at record_at (of is f.s f.at)),
        all_same within (functions_of.extents_of (inner_function f.s.inner.kind f.s.inner.name f.s.inner.func)) (extents ∙ (names (number - 1) f.s lazy f.at record_at).extents) ∙ read_extents (inner_function f.s.inner.kind f.s.inner.name f.s.inner.func),
      )

  pub compiled : (number : ℕ) (lazy : RecordView) (chain : List LinkView) (texts : List (List ℕ)) (alone : Delazified) → IsChainOf bytes made number chain → texts ≡ made.parts.texts
      → slice_get made.parts.records (number - 1) ≡ Some lazy → CompilesAlone bytes lazy texts chain alone → IsCompiledFunction bytes number alone
  compiled number lazy chain texts alone of same record_at compiles items count all m valid are at =
      let same_items : is.items ≡ items = one_text (lexemes bytes) is.items items (valid_text bytes is.items (length made.parts.records) is.valid) (valid_text bytes items count valid) in
      let same_all : is.all ≡ all = one_functions items (length bytes) is.all all (subst (λ (t : Stmts). AreFunctions t (length bytes) is.all) same_items is.functions) are in
      let there : slice_get is.all (number - 1) ≡ Some m = subst (λ (l : List Site). slice_get l (number - 1) ≡ Some m) (sym same_all) at in
      compiles is.items m (subst (λ (ts : List (List ℕ)). CanBeDelazified bytes lazy ts chain is.items m) (sym same) (can (number - 1) m lazy chain there record_at (of is m there)))

  -- ---- its chain

  pub place_in_script : (number : ℕ) (n : IsNumberIn made number) → (around_in made number).number ≡ 0 → slice_get made.chains.items (around_in made number).place ≡ Some (found_at number n).s.chain
  place_in_script number n none = by (around_in made number).number none (found_at number n).around.chain
    where
      by : (m : ℕ) → m ≡ 0 → HandsDown top_chains is.all m (around_in made number).place (found_at number n).s.chain → slice_get made.chains.items (around_in made number).place ≡ Some (found_at number n).s.chain
      by zero e h = subst (λ (cs : List (List LinkView)). slice_get cs (around_in made number).place ≡ Some (found_at number n).s.chain) (sym is.chains) h
      by (suc m) e h = absurd (omega (arith, e))

  pub place_inside : (number : ℕ) (n : IsNumberIn made number) (alone : Delazified) → 0 < (around_in made number).number → IsCompiledFunction bytes (around_in made number).number alone
      → slice_get alone.chains.items (around_in made number).place ≡ Some (found_at number n).s.chain
  place_inside number n alone some compiled = by (around_in made number).number some compiled (found_at number n).around.chain
    where
      by : (m : ℕ) → 0 < m → IsCompiledFunction bytes m alone → HandsDown top_chains is.all m (around_in made number).place (found_at number n).s.chain → slice_get alone.chains.items (around_in made number).place ≡ Some (found_at number n).s.chain
      by zero lt c h = absurd (omega (arith, lt))
      by (suc m) lt c h =
          let place : suc m - 1 ≡ m = omega arith in
          let done : IsCompiledAlone alone h.0 = c is.items (length made.parts.records) is.all h.0 is.valid is.functions (subst (λ (k : ℕ). slice_get is.all k ≡ Some h.0) (sym place) h.1) in
          subst (λ (cs : List (List LinkView)). slice_get cs (around_in made number).place ≡ Some (found_at number n).s.chain) (sym done.chains_are) h.2

-- what stands at a place, whatever is answered past the end
pub any_default : {A : Type 0} (xs : List A) (k : ℕ) (d e : A) → k < length xs → slice_index_or xs k d ≡ slice_index_or xs k e
any_default {A = A} xs k d e lt = same_Some (slice_index_or xs k d) (slice_index_or xs k e) (sym (slice_get-get_or xs k d lt) ∙ slice_get-get_or xs k e lt)

pub is_chain : (bytes : List ℕ) (made : InitialStencil) (number : ℕ) (n : IsNumberIn made number) (chain : List LinkView) → ((is : IsInitialOf bytes made) → chain ≡ (found_at bytes made is number n).s.chain) → IsChainOf bytes made number chain
is_chain bytes made number n chain h is s at = h is ∙ ap (λ (x : Site). x.chain) (same_site bytes made is number n s at)
