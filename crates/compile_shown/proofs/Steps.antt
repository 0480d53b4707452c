-- Each step while the functions of a script are passed one after another.
use Rattle.std.proofs.Common.{◌≡◌, ◌∙◌, ℕ, zero, suc, ◌+◌, ◌-◌, ◌^◌, ◌<◌, ◌≤◌, inl, inr, true, false, List, [], ◌∷◌, ◌++◌, length, Option, Some, refl, sym, ap, subst, arith}
use Rattle.std.specs.Prelude.{slice_get}
use Rattle.std.proofs.lemmas.List.{length-map}
use Rattle.stencil_data.specs.MergedView.{MergedView}
use Rattle.stencil_data.specs.Named.{NamedFunction}
use Rattle.bytecode_buf.specs.Command.{Command}
use Rattle.bytecode_buf.specs.InRange.{Small, TextsSmall}
use Rattle.parse_track.specs.ClosedNames.{Bound}
use Rattle.parser_atoms.specs.Places.{StandsIn}
use Rattle.emit_stmts.specs.Functions.{extent_of}
use Rattle.compile_specs.specs.Eager.{Site}
use Rattle.compile_specs.specs.Shown.{Wanted, shown}
use Rattle.compile_wanted.specs.Shows.{Shows}
use Rattle.stencil_merge.specs.Atoms.{TakesIn, with_known}
use Rattle.track_atoms.specs.Known.{HasWords, known_atoms, word_texts}
use Rattle.track_atoms.proofs.Interning.{words_kept}
use Rattle.stencil_merge.specs.Merging.{Adds, Begins}
use Rattle.lazy_compile.specs.declared.Delazified.{Delazified}
use Rattle.lazy_compile.specs.Delazified.{IsCompiledAlone, all_texts}
use Rattle.lazy_compile.proofs.Behind.{words_taken}
use Rattle.lazy_compile.proofs.Crowded.{no_longer}
use Rattle.lazy_function.specs.Numbered.{IsCompiledFunction}
use Rattle.lazy_function.specs.Texts.{AreAmong}
use Rattle.compile_initial.specs.declared.InitialStencil.{InitialStencil}
use Rattle.compile_initial.specs.Initial.{IsInitialOf}
use Rattle.compile_lazy_laws.proofs.Merging.{adds_shown, begins_shown, ends_shown, function_at, passes_shown}
use Rattle.compile_lazy_laws.proofs.Outermost.{outermost_valid}
use Rattle.compile_shown.specs.UpTo.{IsFlagAt, IsUpTo}
use Rattle.compile_shown.proofs.Flags.{bound, flag_is, functions, initial_stands, part_at, same_count, shown_at, shown_by_functions, site_at, top}

-- ---- texts

no_text : (n : ℕ) (text : List ℕ) → ◌≡◌ {A = Option (List ℕ)} (slice_get [] n) (Some text) → ⊥
no_text n text e = absurd (cc)

nowhere : (text : List ℕ) → StandsIn [] text → ⊥
nowhere text s = no_text s.0 text s.1

small_at : (given : List (List ℕ)) (n : ℕ) (text : List ℕ) → TextsSmall given → slice_get given n ≡ Some text → Small (length text)
small_at [] n text h e = absurd (cc)
small_at (g ∷ given) zero text h e = let same : g ≡ text = cc in subst (λ (t : List ℕ). Small (length t)) same h.0
small_at (g ∷ given) (suc n) text h e = small_at given n text h.1 e

-- texts that stand among small ones are small
texts_small : (texts given : List (List ℕ)) → TextsSmall given → ((text : List ℕ) → StandsIn texts text → StandsIn given text) → TextsSmall texts
texts_small [] given h among = tt
texts_small (t ∷ texts) given h among =
    let at = among t (0, refl) in
    (small_at given at.0 t h at.1, texts_small texts given h (λ text s. among text (suc s.0, s.1)))

module _ (want : Wanted) (bytes : List ℕ) (made : InitialStencil) (is : IsInitialOf bytes made) where
  abbrev the_functions : List (NamedFunction (List Command))
  the_functions = functions want bytes made is

  abbrev the_top : NamedFunction (List Command)
  the_top = top want bytes made is

  abbrev the_bound : List (Bound (List ℕ))
  the_bound = bound want bytes made is

  -- ---- the steps

  pub begun_up_to : (merged : MergedView) → Begins made.parts merged → TakesIn [] made.parts.texts merged.texts → HasWords merged.texts known_atoms → length merged.records ≡ length made.parts.records → IsUpTo want bytes made is 0 merged
  begun_up_to merged begins takes known count = record {
    stands = begins_shown want the_bound the_top the_functions made.parts merged (outermost_valid bytes is.items (length made.parts.records) is.all the_bound is.valid is.short is.functions) (initial_stands want bytes made is) begins;
    among = λ text s. elim (takes.among text s) [ inl none ↦ absurd (nowhere text none) | inr there ↦ there ];
    apart = takes.apart;
    known = known;
    records = count;
  }

  -- a function that is not shown
  pub passed : (place count : ℕ) (merged : MergedView) → count ≡ place + 1 → place < length made.parts.records → IsFlagAt want made.parts.records place false → IsUpTo want bytes made is place merged → IsUpTo want bytes made is count merged
  passed place count merged one lt f u =
      let m = site_at want bytes made is place lt in
      let lacks : shown_at want bytes made is (extent_of m.0.inner.func) ≡ false = sym (flag_is want bytes made is place m.0 false m.1 f) in
      record {
        stands = passes_shown want the_bound the_top the_functions place count (part_at m.0) merged one (function_at is.all place m.0 m.1) (sym (shown_by_functions want bytes made is (extent_of m.0.inner.func)) ∙ lacks) u.stands;
        among = u.among;
        apart = u.apart;
        known = u.known;
        records = u.records;
      }

  -- ---- one that is taken in

  -- what it is compiled to
  pub alone_at : (place number : ℕ) (alone : Delazified) (m : Site) → number ≡ place + 1 → slice_get is.all place ≡ Some m → IsCompiledFunction bytes number alone → IsCompiledAlone alone m
  alone_at place number alone m one at compiled =
      let same : place ≡ number - 1 = omega (arith, one) in
      compiled is.items (length made.parts.records) is.all m is.valid is.functions (subst (λ (n : ℕ). slice_get is.all n ≡ Some m) same at)

  -- the merged texts begin with the known words, and so its list is the one of those and its texts behind them
  pub same_texts : (place : ℕ) (alone : Delazified) (merged : MergedView) (texts : List (List ℕ)) → texts ≡ alone.texts.items → IsUpTo want bytes made is place merged → with_known merged.texts texts ≡ all_texts alone
  same_texts place alone merged texts same u = ap (λ (ts : List (List ℕ)). ts ++ texts) (words_taken merged.texts u.known) ∙ ap (λ (ts : List (List ℕ)). word_texts ++ ts) same

  -- its texts are few
  pub few_next : (place number : ℕ) (alone : Delazified) (merged : MergedView) (texts : List (List ℕ)) → texts ≡ alone.texts.items → number ≡ place + 1 → place < length made.parts.records → IsCompiledFunction bytes number alone
      → AreAmong made.parts.texts (all_texts alone) → IsUpTo want bytes made is place merged → length merged.texts + length (with_known merged.texts texts) < 2 ^ 32 - 1
  few_next place number alone merged texts same one lt compiled among u =
      let m = site_at want bytes made is place lt in
      let c = alone_at place number alone m.0 one m.1 compiled in
      let a = no_longer merged.texts made.parts.texts u.apart u.among in
      let b = no_longer (all_texts alone) made.parts.texts c.apart among in
      let few = is.few in
      let long = ap length (same_texts place alone merged texts same u) in
      omega (arith, a, b, few, long)

  pub compiled_next : (place number : ℕ) (alone : Delazified) (old new : MergedView) → number ≡ place + 1 → place < length made.parts.records → IsCompiledFunction bytes number alone → AreAmong made.parts.texts (all_texts alone)
      → Adds number alone.stencil (all_texts alone) old new → TakesIn old.texts (all_texts alone) new.texts → new.records ≡ old.records → IsFlagAt want made.parts.records place true → IsUpTo want bytes made is place old
      → IsUpTo want bytes made is number new
  compiled_next place number alone old new one lt compiled among adds takes same f u =
      let m = site_at want bytes made is place lt in
      let c = alone_at place number alone m.0 one m.1 compiled in
      let counts : shown_at want bytes made is (extent_of m.0.inner.func) ≡ true = sym (flag_is want bytes made is place m.0 true m.1 f) in
      record {
        stands = adds_shown want the_bound the_top the_functions place number (part_at m.0) alone.stencil (all_texts alone) old new one (function_at is.all place m.0 m.1) (sym (shown_by_functions want bytes made is (extent_of m.0.inner.func)) ∙ counts) c.stands adds u.stands;
        among = λ text s. elim (takes.among text s) [ inl before ↦ u.among text before | inr own ↦ among text own ];
        apart = takes.apart;
        known = words_kept old.texts new.texts known_atoms (takes.more, takes.is) u.known;
        records = ap length same ∙ u.records;
      }

  pub number_next : (place : ℕ) (merged : MergedView) → place < length made.parts.records → IsUpTo want bytes made is place merged → (1 ≤ place + 1) × (place + 1 ≤ length merged.records)
  number_next place merged lt u = let same = u.records in (omega arith, omega (arith, same, lt))

  -- ---- the end

  pub few_at_end : (count : ℕ) (merged : MergedView) → IsUpTo want bytes made is count merged → length merged.texts < 2 ^ 31
  few_at_end count merged u = let most = no_longer merged.texts made.parts.texts u.apart u.among in let few = is.few in omega (arith, most, few)

  pub small_at_end : (count : ℕ) (merged : MergedView) → IsUpTo want bytes made is count merged → TextsSmall merged.texts
  small_at_end count merged u = texts_small merged.texts made.parts.texts is.small u.among

  pub shown_at_end : (count : ℕ) (merged : MergedView) → count ≡ length made.parts.records → IsUpTo want bytes made is count merged → Shows want is.items (length bytes) merged
  shown_at_end count merged end u = record {
    named = shown want the_bound the_top the_functions;
    shown = (the_top, the_functions, record { script = refl; all = is.all; are = is.functions; each = refl }, refl);
    stands = ends_shown want the_bound the_top the_functions count merged (end ∙ (same_count want bytes made is ∙ sym (length-map is.all part_at))) u.stands;
  }
