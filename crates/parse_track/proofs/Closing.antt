-- What a walk over a whole script marks are the names that inner functions close over.
use Rattle.std.proofs.Common.{◌≡◌, ℕ, Bool, false, nat_eq, None, List, [], ◌++◌, length, ap, ◌∙◌}
use Rattle.parse_track.specs.Told.{Told, KnownNames}
use Rattle.parse_track.specs.ClosedNames.{Bound, bindings, flags, kept, closed}
use Rattle.parse_track.specs.Walk.{no_tops, size, walk, marks}
use Rattle.parse_track.specs.Visited.{Stand, Visits}
use Rattle.parse_track.proofs.Binding.{walk_same}
use Rattle.parse_track.proofs.Marks.{all_marked}
use Rattle.parse_track.specs.Pruned.{pruned}
use Rattle.parse_track.proofs.Visiting.{length-bindings}
use Rattle.parse_track.proofs.PrunedClosed.{pruned_closed}

all_closed_in : (known : KnownNames ℕ) (t : Told ℕ) (start now : Stand) (marked : List Bool) (count : ℕ)
    → start.bound ≡ [] → start.hits ≡ [] → ((y : ℕ) → start.tops y ≡ None) → start.scope ≡ 0 → Visits known false None 0 start now t
    → count ≡ length now.bound → marked ≡ marks now.hits 0 count → kept marked now.bound ≡ closed nat_eq known t
all_closed_in known t start now marked count e f g s v n m =
    let b : now.bound ≡ bindings nat_eq known false None 0 t =
    v.binds ∙ (ap (λ (xs : List (Bound ℕ)). xs ++ bindings nat_eq known false None start.scope t) e ∙ ap (λ (k : ℕ). bindings nat_eq known false None k t) s) in
    let h : now.hits ≡ walk known false no_tops 0 0 t =
    v.hits ∙ (ap (λ (xs : List ℕ). xs ++ walk known false start.tops (length start.bound) 0 t) f
    ∙ (ap (λ (k : ℕ). walk known false start.tops k 0 t) (ap length e) ∙ walk_same known t false start.tops no_tops 0 0 g)) in
    let c : count ≡ size known t = n ∙ (ap length b ∙ length-bindings known t false None 0) in
    ap (λ (bs : List Bool). kept bs now.bound) (m ∙ (ap (λ (xs : List ℕ). marks xs 0 count) h ∙ (ap (marks (walk known false no_tops 0 0 t) 0) c ∙ all_marked known t)))
    ∙ ap (kept (flags nat_eq known t)) b

pub all_closed : (known : KnownNames ℕ) (t : Told ℕ) (start now : Stand) (marked : List Bool) (count : ℕ)
    → start.bound ≡ [] → start.hits ≡ [] → ((y : ℕ) → start.tops y ≡ None) → start.scope ≡ 0 → Visits known false None 0 start now (pruned known false t)
    → count ≡ length now.bound → marked ≡ marks now.hits 0 count → kept marked now.bound ≡ closed nat_eq known t
all_closed known t start now marked count e f g s v n m = all_closed_in known (pruned known false t) start now marked count e f g s v n m ∙ pruned_closed known t
