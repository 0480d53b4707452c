-- What a worker's desk has, and what a worker has done. It is this project's own choice.
use Rattle.std.specs.Prelude.{◌≡◌, ℕ, ◌+◌, List, ◌++◌, map}
use Rattle.helper_tasks.specs.declared.helper.Made.{Made}
use Rattle.helper_tasks.specs.declared.helper.WorkerDesk.{WorkerDesk}
use Rattle.helper_tasks.specs.declared.helper.Helper.{Helper}
use Rattle.helper_tasks.specs.Count.{times, Each}
use Rattle.helper_tasks.specs.Handles.{Place}
use Rattle.helper_tasks.specs.Hands.{Equipped, Same, came, went}

module _ {O : Type 0} where
  -- the tasks that gave these outs
  abbrev pub tasks_of : List (Made O) → List ℕ
  tasks_of made = map (λ (m : Made O). m.task) made

module _ {S O : Type 0} (fits : S → Type 0) (gives : ℕ → O → Type 0) where
  -- the share fits, and each out is one that its task gives
  pub record InOrder (d : WorkerDesk S O) : Type 0 where
    pub share_fits : fits d.share
    pub outs_given : Each (λ (m : Made O). gives m.task m.out) d.made.items

module _ {S O : Type 0} (ran : S → List ℕ) where
  -- the share's list has grown by the tasks that gave the desk's outs
  abbrev pub Lists : List ℕ → WorkerDesk S O → Type 0
  Lists start d = ran d.share ≡ start ++ tasks_of d.made.items

module _ {S O N : Type 0} (fits : S → Type 0) (gives : ℕ → O → Type 0) (queue : Place) where
  -- the worker can get tasks, from this injector too, and run them
  pub record Ready (h : Helper S O N) : Type 0 where
    pub equipped : Equipped h.handles
    pub fetches_from : h.handles.fetcher.injector ≡ queue
    pub in_order : InOrder fits gives h.desk

module _ {S O N : Type 0} (fits : S → Type 0) (gives : ℕ → O → Type 0) (ran : S → List ℕ) (queue : Place) where
  -- With the tasks `before` in hand the worker was `old`, and with `after` in hand it is `new`: each task that it no longer has it ran or pushed
  pub record Works (old new : Helper S O N) (before after : List ℕ) : Type 0 where
    pub ready : Ready fits gives queue new
    pub same : Same old.handles new.handles
    pub rest_is : new.rest ≡ old.rest
    pub lists : (start : List ℕ) → Lists ran start old.desk → Lists ran start new.desk
    pub moves : (x : ℕ) → came x new.handles + (went x old.handles + times x (tasks_of old.desk.made.items)) + times x before
        ≡ came x old.handles + (went x new.handles + times x (tasks_of new.desk.made.items)) + times x after
