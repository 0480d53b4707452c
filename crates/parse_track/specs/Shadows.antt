-- What names are bound to where a scope binds them anew, and how they are bound to it again.
use Rattle.std.specs.Prelude.{ℕ, cond, nat_eq, List, [], ◌∷◌, map}
use Rattle.parse_track.specs.declared.region.ClosedAt.{ClosedAt}
use Rattle.parse_track.specs.declared.closed.Shadowed.{Shadowed}
use Rattle.parse_track.specs.Walk.{Tops}

-- the names of these bindings
abbrev pub atoms_bound : List ClosedAt → List ℕ
atoms_bound ats = map (λ at. at.atom) ats

-- what the name of a binding is bound to
abbrev pub shadow_of : Tops → ClosedAt → Shadowed
shadow_of tops at = record { atom = at.atom; outer = tops at.atom }

-- names are bound to what they were bound to, one after the other
abbrev pub bind_back : List Shadowed → Tops → Tops
bind_back [] tops = tops
bind_back (x ∷ xs) tops = bind_back xs (λ y. cond (nat_eq x.atom y) x.outer (tops y))
