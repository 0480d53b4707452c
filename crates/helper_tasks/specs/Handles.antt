-- What is known of a handle of a deque, and of a handle of an injector. It is this project's own choice.
use Rattle.std.specs.Prelude.{ℕ, ◌+◌, ◌-◌, [], ◌∷◌, ◌++◌}
use Rattle.std.specs.declared.alloc.Global.{Global}
use Rattle.helper_tasks.specs.declared.rule.Dealt.{Dealt}
use Rattle.helper_tasks.specs.Rule.{dealt}

-- which deque or injector it is: the names of its memory, and its allocator
abbrev pub Place : Type 0
Place = (ℕ × ℕ) × Global

-- which deque it is, and what the handle has
pub record End : Type 0 where
  pub deque : Place
  pub dealt : Dealt

-- which injector it is, and what the handle has
pub record Reach : Type 0 where
  pub injector : Place
  pub dealt : Dealt

-- after a push
abbrev pub pushed : Dealt → ℕ → Dealt
pushed v x = dealt v.parts (v.pushed ++ x ∷ []) v.taken

-- after a pop or a steal
abbrev pub took : Dealt → ℕ → Dealt
took v x = dealt v.parts v.pushed (v.taken ++ x ∷ [])

-- after a part was given away
abbrev pub less : Dealt → Dealt
less v = dealt (v.parts - 1) v.pushed v.taken

-- after the other was taken in
abbrev pub joined : Dealt → Dealt → Dealt
joined v w = dealt (v.parts + w.parts) (v.pushed ++ w.pushed) (v.taken ++ w.taken)

abbrev pub end_at : Place → Dealt → End
end_at deque v = record { deque = deque; dealt = v }

abbrev pub reach_at : Place → Dealt → Reach
reach_at injector v = record { injector = injector; dealt = v }
