-- What a worker's handles are, and what they have moved. It is this project's own choice.
use Rattle.std.specs.Prelude.{◌≡◌, ℕ, ◌+◌, ◌<◌, List, [], length, map}
use Rattle.helper_tasks.specs.declared.handles.Handles.{Handles}
use Rattle.helper_tasks.specs.Count.{times, total, Each}
use Rattle.helper_tasks.specs.Handles.{End, Place}

-- a look has one part, and pushes nothing
abbrev pub IsLook : End → Type 0
IsLook l = (l.dealt.parts ≡ 1) × (l.dealt.pushed ≡ [])

-- how often a look took the task
abbrev pub stole : ℕ → End → ℕ
stole x l = times x l.dealt.taken

-- the deques at which the looks are
abbrev pub places : List End → List Place
places looks = map (λ (l : End). l.deque) looks

module _ {N : Type 0} where
  -- with these handles a worker can push, pop, fetch and steal
  pub record Equipped (h : Handles N) : Type 0 where
    pub seated : h.number < length h.looks.items
    pub owns : 0 < h.own.dealt.parts
    pub fetches : (h.fetcher.dealt.parts ≡ 1) × (h.fetcher.dealt.pushed ≡ [])
    pub looks_on : Each IsLook h.looks.items

  -- how often the task came to the worker: from the injector, from its own deque, and from each deque by a steal
  abbrev pub came : ℕ → Handles N → ℕ
  came x h = times x h.fetcher.dealt.taken + times x h.own.dealt.taken + total (stole x) h.looks.items

  -- how often the worker pushed the task
  abbrev pub went : ℕ → Handles N → ℕ
  went x h = times x h.own.dealt.pushed

  -- the handles are of the same worker and of the same objects, and have as many parts
  pub record Same (old new : Handles N) : Type 0 where
    pub number : new.number ≡ old.number
    pub deque : new.own.deque ≡ old.own.deque
    pub parts : new.own.dealt.parts ≡ old.own.dealt.parts
    pub injector : new.fetcher.injector ≡ old.fetcher.injector
    pub looks_at : places new.looks.items ≡ places old.looks.items

  -- With the tasks `before` in hand the worker had the handles `old`, and with `after` in hand it has `new`: no task was lost, and none doubled
  pub record Moved (old new : Handles N) (before after : List ℕ) : Type 0 where
    pub equipped : Equipped new
    pub same : Same old new
    pub moves : (x : ℕ) → came x new + went x old + times x before ≡ came x old + went x new + times x after
