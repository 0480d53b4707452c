-- What the tasks gave stands in the order of the tasks.
use Rattle.std.proofs.Common.{◌≡◌, ◌≢◌, ℕ, zero, suc, ◌+◌, ◌<◌, ◌≤◌, Bool, true, false, eqb, ltb, cond, List, [], ◌∷◌, ◌++◌, length, map, get_or, set, take, drop, Option, Some, None, IsSome, refl, ap, sym, ◌∙◌, subst, ⊎_elim, arith, length-set, append_assoc}
use Rattle.std.proofs.lemmas.List.{length-map}
use Rattle.std.proofs.Math.Seq.{take-append_seam}
use Rattle.std.proofs.lemmas.Bool.Decides.{nat_tests}
use mathlib.Core.Option.{some, some-injective, some-ne-none}
use lib.ListN.{get_elem?}
use Rattle.crossbeam_deque.proofs.Lists.{at_set, set_here, set_else}
use Rattle.helper_tasks.specs.declared.helper.Made.{Made}
use Rattle.helper_tasks.specs.declared.helper.WorkerDesk.{WorkerDesk}
use Rattle.helper_tasks.specs.Count.{times, once_below, Each, EachOnceBelow}
use Rattle.helper_tasks.specs.Jobs.{GivesEach}
use Rattle.helper_tasks.specs.Desks.{tasks_of}
use Rattle.helper_tasks.specs.Crew.{placed, empty_slots, all_made}
use Rattle.helper_tasks.proofs.Counts.{each-front, each-back}

pub slots_length : (O : Type 0) (n : ℕ) → length (empty_slots {O = O} n) ≡ n
slots_length O zero = refl
slots_length O (suc n) = let r = slots_length O n in omega arith

once_here : (k n : ℕ) → k < n → once_below k n ≡ 1
once_here k n lt = let e : ltb k n ≡ true = grind (arith, nat_tests) in ap (λ (b : Bool). cond b 1 0) e

module _ {O : Type 0} where
  pub slots_more : (n m : ℕ) → m ≡ n + 1 → empty_slots {O = O} n ++ None ∷ [] ≡ empty_slots {O = O} m
  slots_more zero m e = λ j. empty_slots {O = O} (sym e j)
  slots_more (suc n) m e =
      let f : suc (n + 1) ≡ m = omega arith in
      ap (λ (l : List (Option O)). None ∷ l) (slots_more n (n + 1) refl) ∙ (λ j. empty_slots {O = O} (f j))

  pub placed_length : (slots : List (Option O)) (ms : List (Made O)) → length (placed slots ms) ≡ length slots
  placed_length slots [] = refl
  placed_length slots (m ∷ ms) = placed_length (set slots m.task (Some m.out)) ms ∙ length-set slots m.task (Some m.out)

  pub placed_append : (slots : List (Option O)) (ms more : List (Made O)) → placed slots (ms ++ more) ≡ placed (placed slots ms) more
  placed_append slots [] more = refl
  placed_append slots (m ∷ ms) more = placed_append (set slots m.task (Some m.out)) ms more

  -- the slot is filled
  Filled : List (Option O) → ℕ → Type 0
  Filled slots k = (o : O) × (get_elem? slots k ≡ some (Some o))

  filled_set : (slots : List (Option O)) (k t : ℕ) (o : O) → t < length slots → Filled slots k → Filled (set slots t (Some o)) k
  unfolding Filled
  filled_set slots k t o lt f = elim (eqb k t) as (λ b. (eqb k t ≡ b) → Filled (set slots t (Some o)) k) [
    | true ↦ λ e. let same : k ≡ t = grind (arith, nat_tests) in (o, subst (λ (i : ℕ). get_elem? (set slots t (Some o)) i ≡ some (Some o)) (sym same) (set_here slots t (Some o) lt))
    | false ↦ λ e. let other : k ≢ t = grind (arith, nat_tests) in (f.0, set_else slots t k (Some o) other ∙ f.1)
  ] refl

  filled_here : (slots : List (Option O)) (k t : ℕ) (o : O) → t < length slots → k ≡ t → Filled (set slots t (Some o)) k
  unfolding Filled
  filled_here slots k t o lt same = (o, subst (λ (i : ℕ). get_elem? (set slots t (Some o)) i ≡ some (Some o)) (sym same) (set_here slots t (Some o) lt))

  placed_keeps : (slots : List (Option O)) (ms : List (Made O)) (k : ℕ) → Each (λ (m : Made O). m.task < length slots) ms → Filled slots k → Filled (placed slots ms) k
  placed_keeps slots [] k all f = f
  placed_keeps slots (m ∷ ms) k all f =
      let n = length-set slots m.task (Some m.out) in
      placed_keeps (set slots m.task (Some m.out)) ms k (subst (λ (i : ℕ). Each (λ (q : Made O). q.task < i) ms) (sym n) all.1) (filled_set slots k m.task m.out all.0 f)

  placed_fills : (slots : List (Option O)) (ms : List (Made O)) (k : ℕ) → Each (λ (m : Made O). m.task < length slots) ms → 0 < times k (tasks_of ms) → Filled (placed slots ms) k
  placed_fills slots [] k all some_time = absurd (omega arith)
  placed_fills slots (m ∷ ms) k all some_time =
      let n = length-set slots m.task (Some m.out) in
      let later : Each (λ (q : Made O). q.task < length (set slots m.task (Some m.out))) ms = subst (λ (i : ℕ). Each (λ (q : Made O). q.task < i) ms) (sym n) all.1 in
      elim (eqb k m.task) as (λ b. (eqb k m.task ≡ b) → 0 < cond b 1 0 + times k (tasks_of ms) → Filled (placed (set slots m.task (Some m.out)) ms) k) [
        | true ↦ λ e h. let same : k ≡ m.task = grind (arith, nat_tests) in placed_keeps (set slots m.task (Some m.out)) ms k later (filled_here slots k m.task m.out all.0 same)
        | false ↦ λ e h. placed_fills (set slots m.task (Some m.out)) ms k later (omega arith)
      ] refl some_time

  -- what stands in a slot is what its task gives
  Right : (ℕ → O → Type 0) → List (Option O) → Type 0
  Right gives slots = (k : ℕ) (o : O) → get_elem? slots k ≡ some (Some o) → gives k o

  right_empty : (gives : ℕ → O → Type 0) (n : ℕ) → Right gives (empty_slots n)
  unfolding Right
  right_empty gives zero k o e = absurd (some-ne-none (Some o) (sym e))
  right_empty gives (suc n) zero o e = absurd (let f = some-injective None (Some o) e in cc)
  right_empty gives (suc n) (suc k) o e = right_empty (λ i. gives (suc i)) n k o e

  right_set : (gives : ℕ → O → Type 0) (slots : List (Option O)) (t : ℕ) (out : O) → gives t out → Right gives slots → Right gives (set slots t (Some out))
  unfolding Right
  right_set gives slots t out g right k o e =
      ⊎_elim (λ (x : (k ≡ t) × (Some out ≡ Some o)). let p : out ≡ o = cc (x.1) in subst (λ (y : ℕ × O). gives y.0 y.1) (λ j. (sym x.0 j, p j)) g)
      (λ (x : (k ≢ t) × (get_elem? slots k ≡ some (Some o))). right k o x.1) (at_set slots t k (Some out) (Some o) e)

  right_placed : (gives : ℕ → O → Type 0) (slots : List (Option O)) (ms : List (Made O)) → Each (λ (m : Made O). gives m.task m.out) ms → Right gives slots → Right gives (placed slots ms)
  right_placed gives slots [] all right = right
  right_placed gives slots (m ∷ ms) all right = right_placed gives (set slots m.task (Some m.out)) ms all.1 (right_set gives slots m.task m.out all.0 right)

  all_filled : (slots : List (Option O)) → ((k : ℕ) → k < length slots → Filled slots k) → Each IsSome slots
  unfolding Filled
  all_filled [] f = tt
  all_filled (None ∷ slots) f = let h = f 0 (omega arith) in absurd (let e = some-injective None (Some h.0) h.1 in cc)
  all_filled (Some o ∷ slots) f = (refl, all_filled slots (λ k lt. f (suc k) (omega arith)))

  at_out : (outs : List O) (k : ℕ) (d : O) → k < length outs → get_elem? (map (λ (x : O). Some x) outs) k ≡ some (Some (get_or outs k d))
  at_out [] k d lt = absurd (omega arith)
  at_out (o ∷ outs) zero d lt = refl
  at_out (o ∷ outs) (suc k) d lt = at_out outs k d (omega arith)

  gives_each : (gives : ℕ → O → Type 0) (outs : List O) (slots : List (Option O)) → map (λ (x : O). Some x) outs ≡ slots → Right gives slots → GivesEach gives outs
  unfolding Right
  gives_each gives outs slots e right k d lt = right k (get_or outs k d) (subst (λ (l : List (Option O)). get_elem? l k ≡ some (Some (get_or outs k d))) e (at_out outs k d lt))

  below_of : (n : ℕ) (ms : List (Made O)) → ((x : ℕ) → times x (tasks_of ms) ≤ once_below x n) → Each (λ (m : Made O). m.task < n) ms
  below_of n [] h = tt
  below_of n (m ∷ ms) h =
      let a = h m.task in
      let e : eqb m.task m.task ≡ true = grind (arith, nat_tests) in (
        elim (ltb m.task n) as (λ b. (ltb m.task n ≡ b) → cond (eqb m.task m.task) 1 0 + times m.task (tasks_of ms) ≤ cond b 1 0 → m.task < n) [
          | true ↦ λ t q. grind (arith, nat_tests)
          | false ↦ λ t q. absurd (let p : 1 + times m.task (tasks_of ms) ≤ 0 = subst (λ (b : Bool). cond b 1 0 + times m.task (tasks_of ms) ≤ 0) e q in omega arith)
        ] refl a,
        below_of n ms (λ x. let b = h x in omega arith),
      )

  -- each task once: each slot is filled, and with what its task gives
  pub tasks_below : (n : ℕ) (ms : List (Made O)) → EachOnceBelow n (tasks_of ms) → Each (λ (m : Made O). m.task < n) ms
  tasks_below n ms once = below_of n ms (λ x. let e = once x in omega arith)

  pub slots_filled : (n : ℕ) (ms : List (Made O)) → EachOnceBelow n (tasks_of ms) → Each IsSome (placed (empty_slots n) ms)
  slots_filled n ms once =
      let size = slots_length O n in
      let below : Each (λ (m : Made O). m.task < length (empty_slots {O = O} n)) ms = subst (λ (i : ℕ). Each (λ (m : Made O). m.task < i) ms) (sym size) (tasks_below n ms once) in
      all_filled (placed (empty_slots n) ms)
      (λ k lt.
      let long = placed_length (empty_slots n) ms in
      let one = once_here k n (omega arith) in
      let e = once k in
      placed_fills (empty_slots n) ms k below (omega arith))

  pub outs_length : (n : ℕ) (ms : List (Made O)) (outs : List O) → map (λ (x : O). Some x) outs ≡ placed (empty_slots n) ms → length outs ≡ n
  outs_length n ms outs e =
      let a = length-map outs (λ (x : O). Some x) in
      let b = ap length e in
      let c = placed_length (empty_slots n) ms in
      let d = slots_length O n in omega arith

  pub outs_given : (gives : ℕ → O → Type 0) (n : ℕ) (ms : List (Made O)) (outs : List O) → map (λ (x : O). Some x) outs ≡ placed (empty_slots n) ms → Each (λ (m : Made O). gives m.task m.out) ms → GivesEach gives outs
  outs_given gives n ms outs e all = gives_each gives outs (placed (empty_slots n) ms) e (right_placed gives (empty_slots n) ms all (right_empty gives n))

module _ {S O : Type 0} where
  -- one more desk: its outs are placed, and the slots are as many
  pub collect_slots : (slots now : List (Option O)) (len count : ℕ) (d : WorkerDesk S O) (rest later : List (WorkerDesk S O)) (goal : List (Option O)) → rest ≡ d ∷ later → length slots ≡ len → length slots ≡ count
      → now ≡ placed slots d.made.items → placed slots (all_made rest) ≡ goal
      → (placed (take len (now ++ drop (length now) slots)) (all_made later) ≡ goal) × (length (take len (now ++ drop (length now) slots)) ≡ count)
  collect_slots slots now len count d rest later goal er el ec en inv =
      let size : length now ≡ len = ap length en ∙ (placed_length slots d.made.items ∙ el) in
      let whole : take len (now ++ drop (length now) slots) ≡ now = ap (λ (k : ℕ). take k (now ++ drop (length now) slots)) (sym size) ∙ take-append_seam now (drop (length now) slots) in (
        ap (λ (s : List (Option O)). placed s (all_made later)) (whole ∙ en)
            ∙ (sym (placed_append slots d.made.items (all_made later)) ∙ (ap (λ (r : List (WorkerDesk S O)). placed slots (all_made r)) (sym er) ∙ inv)),
        ap length whole ∙ (size ∙ (sym el ∙ ec)),
      )

  pub collect_tasks : (count : ℕ) (d : WorkerDesk S O) (rest later : List (WorkerDesk S O)) → rest ≡ d ∷ later → Each (λ (m : Made O). m.task < count) (all_made rest)
      → Each (λ (m : Made O). m.task < count) d.made.items × Each (λ (m : Made O). m.task < count) (all_made later)
  collect_tasks count d rest later er all =
      let P : Made O → Type 0 = λ m. m.task < count in
      let both : Each P (d.made.items ++ all_made later) = subst (λ (r : List (WorkerDesk S O)). Each P (all_made r)) er all in
      (each-front P d.made.items (all_made later) both, each-back P d.made.items (all_made later) both)

  pub collect_shares : (shares more : List S) (d : WorkerDesk S O) (rest later : List (WorkerDesk S O)) (goal : List S) → more ≡ shares ++ d.share ∷ [] → rest ≡ d ∷ later
      → shares ++ map (λ (e : WorkerDesk S O). e.share) rest ≡ goal → more ++ map (λ (e : WorkerDesk S O). e.share) later ≡ goal
  collect_shares shares more d rest later goal em er inv =
      ap (λ (l : List S). l ++ map (λ (e : WorkerDesk S O). e.share) later) em
      ∙ (append_assoc shares (d.share ∷ []) (map (λ (e : WorkerDesk S O). e.share) later) ∙ (ap (λ (r : List (WorkerDesk S O)). shares ++ map (λ (e : WorkerDesk S O). e.share) r) (sym er) ∙ inv))
