-- What is asked of files, one file after another.
use Rattle.std.proofs.Common.{◌≡◌, ℕ, ◌+◌, ◌<◌, ◌≤◌, List, [], ◌++◌, length, drop, Option, refl, sym, ◌∙◌, ap, subst, append_assoc}
use Rattle.std.proofs.lemmas.List.{append-nil, drop_all, drop_more}
use Rattle.std.specs.Prelude.{slice_index_or}
use Rattle.compile_specs.specs.Shown.{Wanted}
use Rattle.session_words.specs.declared.options.Order.{Order}
use Rattle.session_requests.specs.Views.{WorkView}
use Rattle.session_requests.specs.Works.{work_at}
use Rattle.session_requests.specs.Requests.{AreAskedOf, GainsAsked, AreAllAsked}
use Rattle.session_requests.specs.declared.requests.Request.{Request}

module _ (order : Order) (want : Wanted) (works : List (Option WorkView)) (files : List ℕ) where
  -- with what is asked of the files from a place on, these requests are those of all
  abbrev pub AreBefore : ℕ → List Request → Type 0
  AreBefore k requests = (others : List Request) → AreAllAsked order want works (drop k files) others → AreAllAsked order want works files (requests ++ others)

  pub asked_more : (k : ℕ) (work : Option WorkView) (old new : List Request) → k < length files → work_at works (slice_index_or files k 0) ≡ work
      → AreBefore k old → GainsAsked order want (slice_index_or files k 0) work old new → AreBefore (k + 1) new
  asked_more k work old new there is before gains others rest =
      let own : List Request = gains.0 in
      let asked : AreAskedOf order want (slice_index_or files k 0) (work_at works (slice_index_or files k 0)) own = subst (λ (w : Option WorkView). AreAskedOf order want (slice_index_or files k 0) w own) (sym is) gains.1 in
      subst (AreAllAsked order want works files) (sym (append_assoc old own others) ∙ ap (λ (rs : List Request). rs ++ others) (sym gains.2))
      (before (own ++ others) (subst (λ (fs : List ℕ). AreAllAsked order want works fs (own ++ others)) (sym (drop_more files k 0 there)) (own, others, asked, rest, refl)))

  pub asked_all : (k : ℕ) (requests : List Request) → length files ≤ k → AreBefore k requests → AreAllAsked order want works files requests
  asked_all k requests past before =
      subst (AreAllAsked order want works files) (append-nil requests) (before [] (subst (λ (fs : List ℕ). AreAllAsked order want works fs []) (sym (drop_all k files past)) refl))
