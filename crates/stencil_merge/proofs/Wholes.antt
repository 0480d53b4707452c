-- Functions that are added one after another.
use Rattle.std.proofs.Common.{◌≡◌, ℕ, zero, suc, ◌+◌, ◌-◌, ◌<◌, ◌≤◌, Bool, true, false, nat_eq, if◌then◌else◌, List, [], ◌∷◌, ◌++◌, length, map, take, get_or, Option, Some, None, option_map, refl, sym, ◌∙◌, ap, ap₂, subst, arith}
use Rattle.std.proofs.lemmas.Bool.{eq-eqb, ne_eqb}
use Rattle.std.proofs.lemmas.List.{map-append, take_more}
use Rattle.std.proofs.lemmas.List.Sums.{sum_by_more, sum_by-take-le}
use Rattle.stencil_data.specs.MergedView.{MergedView}
use Rattle.stencil_data.specs.Named.{NamedFunction, NamedRecord, NamedInitial, NamedMerged}
use Rattle.stencil_data.specs.StandsFor.{FunctionStandsFor, MergedStandsFor}
use Rattle.stencil_data.specs.Views.{InitialView}
use Rattle.bytecode_buf.specs.Command.{ShowsCommands}
use Rattle.stencil_merge.specs.Instructions.{ShowsListed, numbered_list, numbered_commands}
use Rattle.stencil_merge.specs.Functions.{named_inner_of, numbers_in}
use Rattle.stencil_merge.specs.Merging.{with_code, all_lazy, filled_at, BeginsBy, AddsBy, Begins, Adds}
use Rattle.stencil_merge.specs.Whole.{first_of, entries_from, merged_of, numbers_of, EachStands, MergesBy, Merges, HaveNumbers, text_count}
use Rattle.stencil_merge.specs.declared.whole.CompiledAlone.{CompiledAlone}

-- ---- the first function of a number

or_else : {F : Type 0} → Option F → Option F → Option F
or_else None other = other
or_else (Some f) other = Some f

or_else_if : {F : Type 0} (b : Bool) (g : F) (one other : Option F) → (if b then Some g else or_else one other) ≡ or_else (if b then Some g else one) other
unfolding or_else
or_else_if true g one other = refl
or_else_if false g one other = refl

first_of-push : {F : Type 0} (number : ℕ) (ns : List ℕ) (fs : List F) (n : ℕ) (f : F) → length ns ≡ length fs → first_of number (ns ++ n ∷ []) (fs ++ f ∷ []) ≡ or_else (first_of number ns fs) (if nat_eq n number then Some f else None)
unfolding or_else
first_of-push number [] [] n f same = refl
first_of-push number [] (g ∷ fs) n f same = absurd (omega (arith, same))
first_of-push number (m ∷ ns) [] n f same = absurd (omega (arith, same))
first_of-push {F} number (m ∷ ns) (g ∷ fs) n f same =
    ap (λ (o : Option F). if nat_eq m number then Some g else o) (first_of-push number ns fs n f (omega (arith, same)))
    ∙ or_else_if (nat_eq m number) g (first_of number ns fs) (if nat_eq n number then Some f else None)

or_else_none : {F : Type 0} (o : Option F) → or_else o None ≡ o
unfolding or_else
or_else_none None = refl
or_else_none (Some f) = refl

first_other : {F : Type 0} (number : ℕ) (ns : List ℕ) (fs : List F) (n : ℕ) (f : F) → length ns ≡ length fs → (n ≡ number → ⊥) → first_of number (ns ++ n ∷ []) (fs ++ f ∷ []) ≡ first_of number ns fs
first_other number ns fs n f same ne =
    first_of-push number ns fs n f same
    ∙ (ap (λ (b : Bool). or_else (first_of number ns fs) (if b then Some f else None)) (ne_eqb n number ne) ∙ or_else_none (first_of number ns fs))

first_here : {F : Type 0} (number : ℕ) (ns : List ℕ) (fs : List F) (n : ℕ) (f : F) → length ns ≡ length fs → n ≡ number → first_of number (ns ++ n ∷ []) (fs ++ f ∷ []) ≡ or_else (first_of number ns fs) (Some f)
first_here number ns fs n f same e = first_of-push number ns fs n f same ∙ ap (λ (b : Bool). or_else (first_of number ns fs) (if b then Some f else None)) (eq-eqb n number e)

-- ---- the entries of functions

module _ {Code : Type 0} (numbered : List ℕ → Code → Code) where
  filled_here : (inner : List ℕ) (f : NamedFunction Code) (o : Option (NamedFunction Code)) (rest : List (Option (NamedFunction Code)))
      → filled_at zero (with_code f (numbered inner f.code)) (option_map (λ (g : NamedFunction Code). with_code g (numbered inner g.code)) o ∷ rest) ≡ option_map (λ (g : NamedFunction Code). with_code g (numbered inner g.code)) (or_else o (Some f)) ∷ rest
  unfolding or_else
  filled_here inner f None rest = refl
  filled_here inner f (Some g) rest = refl

  module _ (ns : List ℕ) (fs : List (NamedFunction Code)) (n : ℕ) (f : NamedFunction Code) (same : length ns ≡ length fs) where
    behind_all : (from : ℕ) (inners : List (List ℕ)) → n < from → entries_from numbered ns fs from inners ≡ entries_from numbered (ns ++ n ∷ []) (fs ++ f ∷ []) from inners
    behind_all from [] lt = refl
    behind_all from (inner ∷ rest) lt =
        ap₂ (λ (o : Option (NamedFunction Code)) (es : List (Option (NamedFunction Code))). option_map (λ (g : NamedFunction Code). with_code g (numbered inner g.code)) o ∷ es)
        (sym (first_other from ns fs n f same (λ e. absurd (omega (arith, e, lt))))) (behind_all (from + 1) rest (omega (arith, lt)))

    pub filled : (from place : ℕ) (inners : List (List ℕ)) → n ≡ from + place
        → filled_at place (with_code f (numbered (get_or inners place []) f.code)) (entries_from numbered ns fs from inners) ≡ entries_from numbered (ns ++ n ∷ []) (fs ++ f ∷ []) from inners
    filled from place [] e = refl
    filled from zero (inner ∷ rest) e =
        filled_here inner f (first_of from ns fs) (entries_from numbered ns fs (from + 1) rest)
        ∙ ap₂ (λ (o : Option (NamedFunction Code)) (es : List (Option (NamedFunction Code))). option_map (λ (g : NamedFunction Code). with_code g (numbered inner g.code)) o ∷ es)
        (sym (first_here from ns fs n f same (omega (arith, e)))) (behind_all (from + 1) rest (omega (arith, e)))
    filled from (suc place) (inner ∷ rest) e =
        ap₂ (λ (o : Option (NamedFunction Code)) (es : List (Option (NamedFunction Code))). option_map (λ (g : NamedFunction Code). with_code g (numbered inner g.code)) o ∷ es)
        (sym (first_other from ns fs n f same (λ h. absurd (omega (arith, e, h))))) (filled (from + 1) place rest (omega (arith, e)))

  none_yet : (from : ℕ) (ls : List NamedRecord) → map (λ (l : NamedRecord). None) ls ≡ entries_from numbered [] [] from (named_inner_of ls)
  none_yet from [] = refl
  none_yet from (l ∷ ls) = ap (λ (es : List (Option (NamedFunction Code))). None ∷ es) (none_yet (from + 1) ls)

-- ---- each of them

-- a list with one function more, taken apart
record Splits {Code : Type 0} (shows : List (List ℕ) → List ℕ → Code → Type 0) (cs : List CompiledAlone) (c : CompiledAlone) (all : List (NamedFunction Code)) : Type 0 where
  pub fs : List (NamedFunction Code)
  pub f : NamedFunction Code
  pub is : all ≡ fs ++ f ∷ []
  pub each : EachStands shows cs fs
  pub last : FunctionStandsFor shows c.texts.items c.stencil f

module _ {Code : Type 0} (shows : List (List ℕ) → List ℕ → Code → Type 0) (numbered : List ℕ → Code → Code) where
  splits : (cs : List CompiledAlone) (c : CompiledAlone) (all : List (NamedFunction Code)) → EachStands shows (cs ++ c ∷ []) all → Splits shows cs c all
  splits [] c [] h = absurd h
  splits [] c (f ∷ []) h = record { fs = []; f = f; is = refl; each = tt; last = h.0 }
  splits [] c (f ∷ (g ∷ all)) h = absurd h.1
  splits (d ∷ cs) c [] h = absurd h
  splits (d ∷ cs) c (g ∷ all) h =
      let s = splits cs c all h.1 in
      record { fs = g ∷ s.fs; f = s.f; is = ap (λ (l : List (NamedFunction Code)). g ∷ l) s.is; each = (h.0, s.each); last = s.last }

  as_many : (cs : List CompiledAlone) (fs : List (NamedFunction Code)) → EachStands shows cs fs → length (numbers_of cs) ≡ length fs
  as_many [] [] h = refl
  as_many [] (f ∷ fs) h = absurd h
  as_many (c ∷ cs) [] h = absurd h
  as_many (c ∷ cs) (f ∷ fs) h = ap suc (as_many cs fs h.1)

  merged_with : NamedInitial Code → List (Option (NamedFunction Code)) → NamedMerged Code
  merged_with named entries = record { top = (all_lazy numbered named).top; records = named.records; entries = entries }

  no_more : (parts : InitialView) (merged : MergedView) → BeginsBy shows numbered parts merged → MergesBy shows numbered parts [] merged
  unfolding merged_with
  no_more parts merged b named [] stands each = subst (λ (es : List (Option (NamedFunction Code))). MergedStandsFor shows merged (merged_with named es)) (none_yet numbered 1 named.records) (b named stands)
  no_more parts merged b named (f ∷ fs) stands each = absurd each

  one_more : (parts : InitialView) (cs : List CompiledAlone) (c : CompiledAlone) (old new : MergedView) → 1 ≤ c.number → MergesBy shows numbered parts cs old → AddsBy shows numbered c.number c.stencil c.texts.items old new → MergesBy shows numbered parts (cs ++ c ∷ []) new
  unfolding merged_with
  one_more parts cs c old new low m a named all stands each = subst (λ (l : List (NamedFunction Code)). MergedStandsFor shows new (merged_of numbered named (numbers_of (cs ++ c ∷ [])) l)) (sym s.is)
      (subst (λ (es : List (Option (NamedFunction Code))). MergedStandsFor shows new (merged_with named es)) (here ∙ ap (λ (ns : List ℕ). entries_from numbered ns (s.fs ++ s.f ∷ []) 1 (named_inner_of named.records)) (sym (map-append (λ (d : CompiledAlone). d.number) cs (c ∷ []))))
      (a (merged_of numbered named (numbers_of cs) s.fs) s.f (m named s.fs stands s.each) s.last))
    where
      s : Splits shows cs c all
      s = splits cs c all each

      here : filled_at (c.number - 1) (with_code s.f (numbered (numbers_in (named_inner_of named.records) c.number) s.f.code)) (entries_from numbered (numbers_of cs) s.fs 1 (named_inner_of named.records))
          ≡ entries_from numbered (numbers_of cs ++ c.number ∷ []) (s.fs ++ s.f ∷ []) 1 (named_inner_of named.records)
      here = filled numbered (numbers_of cs) s.fs c.number s.f (as_many cs s.fs s.each) 1 (c.number - 1) (named_inner_of named.records) (omega (arith, low))

pub merges_none : (parts : InitialView) (merged : MergedView) → Begins parts merged → Merges parts [] merged
merges_none parts merged b = record { listed = no_more ShowsListed numbered_list parts merged b.listed; commands = no_more ShowsCommands numbered_commands parts merged b.commands }

pub merges_more : (parts : InitialView) (cs : List CompiledAlone) (c : CompiledAlone) (old new : MergedView) → 1 ≤ c.number → Merges parts cs old → Adds c.number c.stencil c.texts.items old new → Merges parts (cs ++ c ∷ []) new
merges_more parts cs c old new low m a = record { listed = one_more ShowsListed numbered_list parts cs c old new low m.listed a.listed; commands = one_more ShowsCommands numbered_commands parts cs c old new low m.commands a.commands }

-- ---- one turn of a loop

pub merges_step : (parts : InitialView) (all : List CompiledAlone) (i : ℕ) (c : CompiledAlone) (texts : List (List ℕ)) (old new : MergedView) → i < length all → c ≡ get_or all i c → texts ≡ c.texts.items → 1 ≤ c.number → Merges parts (take i all) old → Adds c.number c.stencil texts old new → Merges parts (take (i + 1) all) new
merges_step parts all i c texts old new lt item texts_are low m a =
    subst (λ (cs : List CompiledAlone). Merges parts cs new) (ap (λ (d : CompiledAlone). take i all ++ d ∷ []) item ∙ sym (take_more all i c lt))
    (merges_more parts (take i all) c old new low m (subst (λ (ts : List (List ℕ)). Adds c.number c.stencil ts old new) texts_are a))

-- the number of each of them is in range
pub number_at : (count records : ℕ) (all : List CompiledAlone) (i : ℕ) (c : CompiledAlone) → HaveNumbers count all → i < length all → c ≡ get_or all i c → records ≡ count → (1 ≤ c.number) × (c.number ≤ records)
number_at count records all i c have lt item same =
    let h : (1 ≤ c.number) × (c.number ≤ count) = subst (λ (d : CompiledAlone). (1 ≤ d.number) × (d.number ≤ count)) (sym item) (have i c lt) in
    (h.0, omega (arith, h.1, same))

-- the texts so far, and those of one more
pub texts_at : (all : List CompiledAlone) (i : ℕ) (c : CompiledAlone) (texts : List (List ℕ)) → i < length all → c ≡ get_or all i c → texts ≡ c.texts.items → text_count (take i all) + length texts ≡ text_count (take (i + 1) all)
texts_at all i c texts lt item texts_are =
    ap (λ (ts : List (List ℕ)). text_count (take i all) + length ts) (texts_are ∙ ap (λ (d : CompiledAlone). d.texts.items) item) ∙ sym (sum_by_more (λ (d : CompiledAlone). length d.texts.items) all i c lt)

pub texts_within : (all : List CompiledAlone) (i : ℕ) → text_count (take i all) ≤ text_count all
texts_within all i = sum_by-take-le (λ (d : CompiledAlone). length d.texts.items) all i
