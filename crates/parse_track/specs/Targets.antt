-- What a jump finds around it, as the code keeps it.
use Rattle.std.specs.Prelude.{ℕ, ◌≡◌, Bool, true, false, cond, Option, None, Some, List, [], ◌∷◌, ◌++◌, nat_eq}
use Rattle.parse_track.specs.declared.jumps.Targets.{Targets}
use Rattle.parse_track.specs.Log.{Item, Leaf, Inner}
use Rattle.parse_track.specs.Told.{Region, Loop, Label, Told}
use Rattle.parse_track.specs.EarlyErrors.{JumpContext, smallest, within, is_loop, wrong_jumps}

abbrev pub around_of : Targets → JumpContext ℕ
around_of targets = record { loop = targets.in_loop; leaves = targets.leaves; labels = targets.labels.items; loops = targets.loops.items }

-- what a visit of the code finds, with the targets as they were
abbrev pub AreWrongJumps : JumpContext ℕ → JumpContext ℕ → JumpContext ℕ → Told ℕ → Option ℕ → Type 0
AreWrongJumps inside before now t first = (first ≡ smallest (wrong_jumps nat_eq inside t)) × (now ≡ before)

-- what a visit inside a region of this kind finds
abbrev pub AreWrongIn : Region ℕ → JumpContext ℕ → JumpContext ℕ → Told ℕ → Option ℕ → Type 0
AreWrongIn k before now t first = AreWrongJumps (within k t before) before now t first

-- a label more is around, of a loop or of another statement
abbrev pub labelled : JumpContext ℕ → ℕ → (of_loop : Bool) → JumpContext ℕ
labelled around name of_loop = record around { labels = around.labels ++ name ∷ []; loops = around.loops ++ cond of_loop (name ∷ []) [] }

-- the region that stands first among items
abbrev pub first_inner : List Item → Option ℕ
first_inner [] = None
first_inner (Leaf _ ∷ _) = None
first_inner (Inner m ∷ _) = Some m

-- whether a region of this kind is a loop, also after labels
abbrev pub loop_kind : Region ℕ → Told ℕ → Bool
loop_kind Loop i = true
loop_kind (Label _) i = is_loop i
loop_kind _ i = false
