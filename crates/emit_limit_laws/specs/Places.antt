-- The tokens of a part by the places that its tree has for them.
use Rattle.std.specs.Prelude.{ℕ, ◌≤◌, List, [], ◌∷◌, length}
use Rattle.script_grammar.specs.Pieces.{Piece, At, Gap, Pass}

-- the depths of the tokens that are not passed over
abbrev pub depths_of : List Piece → List ℕ
depths_of [] = []
depths_of (At s ∷ ps) = s.depth ∷ depths_of ps
depths_of (Gap e ∷ ps) = depths_of ps
depths_of (Pass ∷ ps) = depths_of ps

-- none of these is above the limit
abbrev pub AllUpTo : ℕ → List ℕ → Type 0
AllUpTo limit [] = Unit {0}
AllUpTo limit (n ∷ ns) = (n ≤ limit) × AllUpTo limit ns

-- at least n tokens
pub record Has (n : ℕ) (ps : List Piece) : Type 0 where
  pub tokens : n ≤ length (depths_of ps)
