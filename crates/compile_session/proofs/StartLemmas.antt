-- Files after their first passes, and what is made of them so that their functions can be asked for.
use Rattle.std.proofs.Common.{Bool, Global, List, None, Option, Some, Vec, [], ap, ap₂, arith, inl, inr, length, length-append, refl, slice_index_or, subst, suc, sym, zero, ℕ, ◌++◌, ◌+◌, ◌<◌, ◌∙◌, ◌∷◌, ◌≡◌}
use Rattle.std.proofs.lemmas.Option.{get_or_from_slice_get, slice_get_within}
use Rattle.std.specs.Prelude.{slice_get, ◌⊎◌}
use Rattle.compile_first_pass.specs.declared.pass.SyntaxScript.{SyntaxScript}
use Rattle.compile_initial.specs.Initial.{IsInitialOf}
use Rattle.compile_initial.specs.declared.InitialStencil.{InitialStencil}
use Rattle.compile_session.proofs.SourceLemmas.{same_valid}
use Rattle.compile_session.specs.Answers.{IsScriptOf}
use Rattle.compile_session.specs.Showing.{AreAsked, IsAskedOf, picked_file, picked_files}
use Rattle.compile_session.specs.Starts.{AreStarts, IsScriptStart, IsStart, IsStartAt}
use Rattle.compile_session.specs.declared.start.FileStart.{FileStart}
use Rattle.compile_session.specs.declared.start.ScriptStart.{ScriptStart}
use Rattle.compile_shown.specs.Counting.{trues}
use Rattle.compile_shown.specs.Shown.{AreFlags}
use Rattle.helper_tasks.specs.Jobs.{GivesEach}
use Rattle.session_requests.specs.Views.{WorkView}
use Rattle.session_requests.specs.Works.{AreWorks, IsWork, IsWorkOf, work_at}
use Rattle.session_specs.specs.Answer.{to_show}
use Rattle.session_specs.specs.Sources.{missing}
use Rattle.session_words.specs.Asked.{Wanted}
use Rattle.stencil_board.specs.Files.{File, file_at}
use Rattle.stencil_board.specs.Passes.{IsMadeOf}
use Rattle.compile_specs.specs.Shown as wanting
use Rattle.compile_session.specs.declared.start.FileStart.TheVariants as start

-- ---- one script

pub script_started : (want : Wanted) (bytes : List ℕ) (script : SyntaxScript) (given : ScriptStart) (shown : wanting.Wanted) → IsScriptOf want bytes script → IsInitialOf bytes given.initial → shown ≡ to_show want
    → AreFlags shown given.initial.parts.records given.shown.items → IsScriptStart want bytes given
script_started want bytes script given shown s is same flags = record {
  is = is;
  present = subst (λ (n : ℕ). missing n want ≡ []) (same_valid bytes s.is.items is.items (length script.functions.items) (length given.initial.parts.records) s.is.valid is.valid).1 s.present;
  flags = subst (λ (w : wanting.Wanted). AreFlags w given.initial.parts.records given.shown.items) same flags;
}

-- so its functions can be asked for
pub work_made : (files : List File) (number : ℕ) (want : Wanted) (bytes : List ℕ) (script : ScriptStart) (work : WorkView) → file_at files number ≡ record { bytes = bytes; texts = script.initial.parts.texts } → IsScriptStart want bytes script
    → IsMadeOf number bytes script.initial work.board → work.shown ≡ script.shown.items → work.count ≡ trues script.shown.items → IsWork files work
work_made files number want bytes script work picked s m shown count = record {
  board = record {
    picked =
        ap (file_at files) m.file_is
        ∙ (picked ∙ ap₂ (λ (b : List ℕ) (i : InitialStencil). record { bytes = b; texts = i.parts.texts }) (sym m.bytes_are) (sym m.initial_is));
    initial = subst (λ (b : List ℕ). IsInitialOf b work.board.initial) (sym m.bytes_are) (subst (λ (i : InitialStencil). IsInitialOf bytes i) (sym m.initial_is) s.is);
    cells = m.cells ∙ sym (ap (λ (i : InitialStencil). length i.parts.records) m.initial_is);
  };
  want = to_show want;
  flags =
      subst (λ (i : InitialStencil). AreFlags (to_show want) i.parts.records work.shown) (sym m.initial_is)
      (subst (λ (fs : List Bool). AreFlags (to_show want) script.initial.parts.records fs) (sym shown) s.flags);
  count = count ∙ sym (ap trues shown);
}

-- ---- all files

pub are_started : (want : Wanted) (reads : List (Option (Vec ℕ Global))) (count : ℕ) (starts : List FileStart) → length starts ≡ count → GivesEach (λ (number : ℕ) (given : FileStart). IsStartAt want reads number given) starts → AreStarts want reads count starts
are_started want reads count starts long each = record {
  long = long;
  each = λ number given is.
      subst (λ (x : FileStart). IsStartAt want reads number x) (get_or_from_slice_get starts number given given is) (each number given (slice_get_within starts number given is));
}

pub picked_at : (reads : List (Option (Vec ℕ Global))) (starts : List FileStart) (k : ℕ) (d : Option (Vec ℕ Global)) (e : FileStart) → k < length reads → k < length starts
    → file_at (picked_files reads starts) k ≡ picked_file (slice_index_or reads k d) (slice_index_or starts k e)
picked_at reads [] k d e h l = absurd (omega (arith, l))
picked_at [] (s ∷ starts) k d e h l = absurd (omega (arith, h))
picked_at (r ∷ reads) (s ∷ starts) zero d e h l = refl
picked_at (r ∷ reads) (s ∷ starts) (suc k) d e h l = picked_at reads starts k d e (omega (arith, h)) (omega (arith, l))

-- one work more
pub works_push : (files : List File) (works : List (Option WorkView)) (work : Option WorkView) → AreWorks files works → IsWorkOf files work → AreWorks files (works ++ work ∷ [])
works_push files [] work h w = (w, tt)
works_push files (x ∷ works) work h w = (h.0, works_push files works work h.1 w)

at_before : (works : List (Option WorkView)) (work : Option WorkView) (k : ℕ) → k < length works → work_at (works ++ work ∷ []) k ≡ work_at works k
at_before [] work k lt = absurd (omega (arith, lt))
at_before (x ∷ works) work zero lt = refl
at_before (x ∷ works) work (suc k) lt = at_before works work k (omega (arith, lt))

at_last : (works : List (Option WorkView)) (work : Option WorkView) (k : ℕ) → k ≡ length works → work_at (works ++ work ∷ []) k ≡ work
at_last [] work zero e = refl
at_last [] work (suc k) e = absurd (omega (arith, e))
at_last (x ∷ works) work zero e = absurd (omega (arith, e))
at_last (x ∷ works) work (suc k) e = at_last works work k (omega (arith, e))

-- the first files can be asked for their functions
pub record AskedUpTo (reads : List (Option (Vec ℕ Global))) (starts : List FileStart) (count : ℕ) (works : List (Option WorkView)) : Type 0 where
  pub long : length works ≡ count
  pub each : (k : ℕ) (read : Option (Vec ℕ Global)) (given : FileStart) → k < count → slice_get reads k ≡ Some read → slice_get starts k ≡ Some given → IsAskedOf read given (work_at works k)

below_or_at : (k n : ℕ) → k < n + 1 → (k < n) ⊎ (k ≡ n)
below_or_at zero zero h = inr refl
below_or_at zero (suc n) h = inl (omega arith)
below_or_at (suc k) zero h = absurd (omega (arith, h))
below_or_at (suc k) (suc n) h = elim (below_or_at k n (omega (arith, h))) [ inl l ↦ inl (omega (arith, l)) | inr e ↦ inr (omega (arith, e)) ]

pub asked_push : (reads : List (Option (Vec ℕ Global))) (starts : List FileStart) (count : ℕ) (works new : List (Option WorkView)) (work : Option WorkView) (r : Option (Vec ℕ Global)) (g : FileStart) → new ≡ works ++ work ∷ []
    → r ≡ slice_index_or reads count r → g ≡ slice_index_or starts count g → IsAskedOf r g work → AskedUpTo reads starts count works → AskedUpTo reads starts (count + 1) new
asked_push reads starts count works new work r g more same_read same_start asked before =
    subst (AskedUpTo reads starts (count + 1)) (sym more) (record {
      long = let l = length-append works (work ∷ []) in let b = before.long in omega (arith, l, b);
      each = λ k read given lt is_read is_start.
          elim (below_or_at k count lt) [
            | inl l ↦ let b = before.long in subst (IsAskedOf read given) (sym (at_before works work k (omega (arith, l, b)))) (before.each k read given l is_read is_start)
            | inr e ↦
                let b = before.long in
                let one : r ≡ read = same_read ∙ (ap (λ (n : ℕ). slice_index_or reads n r) (sym e) ∙ get_or_from_slice_get reads k read r is_read) in
                let other : g ≡ given = same_start ∙ (ap (λ (n : ℕ). slice_index_or starts n g) (sym e) ∙ get_or_from_slice_get starts k given g is_start) in
                subst (IsAskedOf read given) (sym (at_last works work k (e ∙ sym b))) (subst (λ (x : FileStart). IsAskedOf read x work) other (subst (λ (x : Option (Vec ℕ Global)). IsAskedOf x g work) one asked))
          ];
    })

pub asked_none : (reads : List (Option (Vec ℕ Global))) (starts : List FileStart) → AskedUpTo reads starts 0 []
asked_none reads starts = record { long = refl; each = λ k read given lt is_read is_start. absurd (omega (arith, lt)) }

-- all of them
pub asked_all : (reads : List (Option (Vec ℕ Global))) (starts : List FileStart) (number count : ℕ) (works : List (Option WorkView)) → length starts ≡ count → number ≡ count → AskedUpTo reads starts number works → AreAsked reads starts works
asked_all reads starts number count works long past asked = record {
  long = let l = asked.long in omega (arith, l, long, past);
  each = λ k read given is_read is_start.
      let within = slice_get_within starts k given is_start in
      asked.each k read given (omega (arith, within, long, past)) is_read is_start;
}

-- ---- what stands at a place

pub get_here : {A : Type 0} (xs : List A) (k : ℕ) (d : A) → k < length xs → slice_get xs k ≡ Some (slice_index_or xs k d)
get_here [] k d lt = absurd (omega (arith, lt))
get_here (x ∷ xs) zero d lt = refl
get_here (x ∷ xs) (suc k) d lt = get_here xs k d (omega (arith, lt))

pub get_same : {A : Type 0} (xs : List A) (k : ℕ) (d e : A) → k < length xs → slice_index_or xs k d ≡ slice_index_or xs k e
get_same [] k d e lt = absurd (omega (arith, lt))
get_same (x ∷ xs) zero d e lt = refl
get_same (x ∷ xs) (suc k) d e lt = get_same xs k d e (omega (arith, lt))

-- a script can be asked for its functions
pub script_asked : (want : Wanted) (read : Option (Vec ℕ Global)) (script : ScriptStart) (work : Option WorkView) → IsStart want read (start.Script script) → IsAskedOf read (start.Script script) work → work ≡ None → ⊥
script_asked want None script work started asked none = absurd started
script_asked want (Some bytes) script None started asked none = absurd asked
script_asked want (Some bytes) script (Some work) started asked none = absurd (cc)
