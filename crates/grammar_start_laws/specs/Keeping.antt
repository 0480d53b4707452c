-- Functions that start at places of their own.
use Rattle.std.specs.Prelude.{ℕ, ◌≡◌, ◌⊎◌, List, [], ◌∷◌}
use Rattle.script_grammar.specs.Pieces.{Piece, At, Gap, Pass}
use Rattle.grammar_start_laws.specs.Started.{Started}

abbrev pub IsIn : ℕ → List ℕ → Type 0
IsIn n [] = ⊥
IsIn n (m ∷ ms) = (n ≡ m) ⊎ IsIn n ms

-- each of these functions starts at a place of its own, in this order
unfoldable pub Keeps : List Started → List Piece → Type 0
Keeps [] ps = Unit {0}
Keeps (f ∷ fs) [] = ⊥
Keeps (f ∷ fs) (At s ∷ ps) = (IsIn f.start s.starts × Keeps fs ps) ⊎ Keeps (f ∷ fs) ps
Keeps (f ∷ fs) (Gap e ∷ ps) = Keeps (f ∷ fs) ps
Keeps (f ∷ fs) (Pass ∷ ps) = Keeps (f ∷ fs) ps
