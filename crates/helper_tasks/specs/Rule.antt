-- What holds of the injector and of each deque by itself, whatever its handles do and in whatever order. It is this project's own choice.
use Rattle.std.specs.Prelude.{◌≡◌, ℕ, ◌+◌, ◌<◌, List, []}
use Rattle.helper_tasks.specs.declared.rule.Dealt.{Dealt}
use Rattle.helper_tasks.specs.Count.{times, total, Each}

-- what a handle has: n parts of the right to know the whole, what it pushed, and what it took
abbrev pub dealt : ℕ → List ℕ → List ℕ → Dealt
dealt parts pushed taken = record { parts = parts; pushed = pushed; taken = taken }

-- a handle with no part has pushed nothing and taken nothing
abbrev pub IdleIsEmpty : Dealt → Type 0
IdleIsEmpty v = v.parts ≡ 0 → (v.pushed ≡ []) × (v.taken ≡ [])

-- The tasks that were pushed are those that stand in it and those that were taken, each as often. All are below the bound.
pub record Balanced (bound : ℕ) (items : List ℕ) (views : List Dealt) : Type 0 where
  pub parts : total (λ (v : Dealt). v.parts) views ≡ 64
  pub each : (x : ℕ) → total (λ (v : Dealt). times x v.pushed) views ≡ times x items + total (λ (v : Dealt). times x v.taken) views
  pub idle : Each IdleIsEmpty views
  pub below : Each (λ (x : ℕ). x < bound) items

-- who has all parts took all that was pushed
abbrev pub TookAll : Dealt → Type 0
TookAll v = v.parts ≡ 64 → (x : ℕ) → times x v.pushed ≡ times x v.taken
