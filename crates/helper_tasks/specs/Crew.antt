-- What the workers of one call have, before they start and after they ended. It is this project's own choice.
use Rattle.std.specs.Prelude.{◌≡◌, ℕ, ◌+◌, ◌-◌, ◌<◌, ◌≤◌, List, [], ◌∷◌, ◌++◌, length, map, drop, replicate, slice_set, Option, Some, None}
use Rattle.std.specs.Prelude.{Result, IfOk}
use Rattle.std.specs.declared.alloc.AllocError.{AllocError}
use Rattle.helper_tasks.specs.declared.rule.Dealt.{Dealt}
use Rattle.helper_tasks.specs.declared.helper.Made.{Made}
use Rattle.helper_tasks.specs.declared.helper.WorkerDesk.{WorkerDesk}
use Rattle.helper_tasks.specs.declared.helper.Helper.{Helper}
use Rattle.helper_tasks.specs.Count.{times, Each}
use Rattle.helper_tasks.specs.Rule.{dealt}
use Rattle.helper_tasks.specs.Handles.{End, Place, Reach, end_at, reach_at, less, joined}
use Rattle.helper_tasks.specs.Hands.{IsLook, places, came, went}
use Rattle.helper_tasks.specs.Desks.{tasks_of, InOrder, Lists, Ready, Works}

-- the relation holds of each two elements at one place, and the lists are of one length
abbrev pub Paired : {A B : Type 0} → (A → B → Type 0) → List A → List B → Type 0
Paired R [] [] = Unit {0}
Paired R [] (b ∷ bs) = ⊥
Paired R (a ∷ as') [] = ⊥
Paired R (a ∷ as') (b ∷ bs) = R a b × Paired R as' bs

-- a look that took nothing yet
abbrev pub new_look : Place → End
new_look deque = end_at deque (dealt 1 [] [])

module _ {S O : Type 0} where
  -- how often the desk's share ran the task
  abbrev pub ran_at : ℕ → WorkerDesk S O → ℕ
  ran_at x d = times x (tasks_of d.made.items)

module _ {S O N : Type 0} where
  abbrev pub deque_of : Helper S O N → Place
  deque_of h = h.handles.own.deque

  abbrev pub desk_of : Helper S O N → WorkerDesk S O
  desk_of h = h.desk

  abbrev pub fetcher_of : Helper S O N → Reach
  fetcher_of h = h.handles.fetcher

  -- how often the worker fetched the task from the injector
  abbrev pub fetched : ℕ → Helper S O N → ℕ
  fetched x h = times x h.handles.fetcher.dealt.taken

  -- how often the worker took the task from its own deque
  abbrev pub popped : ℕ → Helper S O N → ℕ
  popped x h = times x h.handles.own.dealt.taken

  -- how often the task came to the worker by its handles
  abbrev pub came_to : ℕ → Helper S O N → ℕ
  came_to x h = came x h.handles

  -- how often the worker pushed the task or ran it
  abbrev pub left_by : ℕ → Helper S O N → ℕ
  left_by x h = went x h.handles + ran_at x h.desk

  -- how often the task is the worker's alone
  abbrev pub alone : List ℕ → ℕ → Helper S O N → ℕ
  alone order x h = times x (drop h.rest order)

  -- all of a worker but its looks and what it has of its own deque
  abbrev pub aspect : Helper S O N → ℕ × Place × Reach × WorkerDesk S O × ℕ
  aspect h = (h.handles.number, h.handles.own.deque, h.handles.fetcher, h.desk, h.rest)

  -- the worker gave a part of its deque away
  abbrev pub gave_part : Helper S O N → Helper S O N
  gave_part h = record h { handles = record h.handles { own = end_at h.handles.own.deque (less h.handles.own.dealt) } }

  -- the worker took in a look at its deque
  abbrev pub took_in : Helper S O N → End → Helper S O N
  took_in h l = record h { handles = record h.handles { own = end_at h.handles.own.deque (joined h.handles.own.dealt l.dealt) } }

  -- each worker took in the look at its place
  abbrev pub all_took_in : List (Helper S O N) → List End → List (Helper S O N)
  all_took_in [] ls = []
  all_took_in (h ∷ hs) [] = h ∷ hs
  all_took_in (h ∷ hs) (l ∷ ls) = took_in h l ∷ all_took_in hs ls

  -- The deques of all workers are at these places, each with n parts, and the worker's looks are at them
  pub record Looking (at : List Place) (parts : ℕ) (h : Helper S O N) : Type 0 where
    pub own_parts : h.handles.own.dealt.parts ≡ parts
    pub looks_at : places h.handles.looks.items ≡ at
    pub looks_on : Each IsLook h.handles.looks.items

module _ {S O : Type 0} where
  -- all that the tasks of these desks gave
  abbrev pub all_made : List (WorkerDesk S O) → List (Made O)
  all_made [] = []
  all_made (d ∷ ds) = d.made.items ++ all_made ds

module _ {O : Type 0} where
  -- the outs stand in the slots of their tasks
  abbrev pub placed : List (Option O) → List (Made O) → List (Option O)
  placed slots [] = slots
  placed slots (m ∷ ms) = placed (slice_set slots m.task (Some m.out)) ms

  -- n empty slots
  abbrev pub empty_slots : ℕ → List (Option O)
  empty_slots n = replicate n None

module _ {S O N : Type 0} (fits : S → Type 0) (gives : ℕ → O → Type 0) (queue : Place) (order : List ℕ) where
  -- a worker that can begin
  pub record StartsIn (h : Helper S O N) : Type 0 where
    pub ready : Ready fits gives queue h
    pub rest_in : h.rest ≤ length order

module _ {S O N : Type 0} (fits : S → Type 0) (gives : ℕ → O → Type 0) (ran : S → List ℕ) (queue : Place) (order : List ℕ) where
  -- what a worker did from its start to its end, where no task was refused
  abbrev pub Served : Helper S O N → Result (Helper S O N) AllocError → Type 0
  Served h r = IfOk r (λ (k : Helper S O N). Works fits gives ran queue h k (drop h.rest order) [])

-- tasks left a deque or the injector, and were run at the desk
module _ {S O : Type 0} (fits : S → Type 0) (gives : ℕ → O → Type 0) (ran : S → List ℕ) where
  pub record Drained (old new : WorkerDesk S O) (before after : Dealt) : Type 0 where
    pub in_order : InOrder fits gives new
    pub lists : (start : List ℕ) → Lists ran start old → Lists ran start new
    pub parts_are : after.parts ≡ before.parts
    pub pushed_is : after.pushed ≡ before.pushed
    pub moves : (x : ℕ) → ran_at x new + times x before.taken ≡ ran_at x old + times x after.taken

module _ {S O N : Type 0} (fits : S → Type 0) (gives : ℕ → O → Type 0) (queue : Place) where
  -- a worker that has all parts of its deque again, and no look
  pub record Dismissible (h : Helper S O N) : Type 0 where
    pub all_parts : h.handles.own.dealt.parts ≡ 64
    pub no_look : h.handles.looks.items ≡ []
    pub fetcher_at : h.handles.fetcher.injector ≡ queue
    pub fetches : (h.handles.fetcher.dealt.parts ≡ 1) × (h.handles.fetcher.dealt.pushed ≡ [])
    pub desk_in_order : InOrder fits gives h.desk

module _ {S O N : Type 0} (at : List Place) (queue : Place) (workers : ℕ) (order : List ℕ) where
  -- a worker that has a look at each of these deques, and has not begun
  pub record Fresh (h : Helper S O N) : Type 0 where
    pub number_in : h.handles.number < workers
    pub own_left : h.handles.own.dealt ≡ dealt (64 - workers) [] []
    pub new_looks : h.handles.looks.items ≡ map new_look at
    pub new_fetcher : h.handles.fetcher ≡ reach_at queue (dealt 1 [] [])
    pub nothing_made : h.desk.made.items ≡ []
    pub rest_at : h.rest ≤ length order

module _ {S O N : Type 0} (queue : Place) (workers : ℕ) (order : List ℕ) where
  -- a worker that was just hired
  pub record Hired (h : Helper S O N) : Type 0 where
    pub numbered : h.handles.number < workers
    pub own_new : h.handles.own.dealt ≡ dealt 64 [] []
    pub fetcher_new : h.handles.fetcher ≡ reach_at queue (dealt 1 [] [])
    pub none_made : h.desk.made.items ≡ []
    pub rest_in : h.rest ≤ length order
