-- When a piece says what a tree tells.
use Rattle.std.specs.Prelude.{◌≡◌, true, List, [], ◌∷◌}
use Rattle.script_grammar.specs.Braced.{in_stmts}
use Rattle.script_grammar.specs.Interpretation.{Interpretation}
use Rattle.script_grammar.specs.Tree.{Stmts}
use Rattle.parse_track.specs.Told.{Told}
use Rattle.parse_track.specs.Tells.{Text, tells_stmts}
use Rattle.parse_track_pieces.specs.declared.piece.Piece.{Piece}
use Rattle.parse_track_pieces.specs.Pieces.{Body, Wanted, Read, Rest, piece_says}

-- Bodies that are wanted are these, in their order: of each that was passed over its statements, and then all inside them.
abbrev pub AreWanted : List Body → List Stmts → Type 0
AreWanted [] all = all ≡ []
AreWanted (Wanted items ∷ bodies) all = (others : List Stmts) × (all ≡ items ∷ in_stmts true items others) × AreWanted bodies others
AreWanted (Read ∷ bodies) all = (items : Stmts) × (others : List Stmts) × (all ≡ items ∷ others) × AreWanted bodies others

-- In front of whatever stands after: what is said is what is told, and the bodies that are wanted are the braced ones.
pub record Says (says : Rest → Rest) (tells : Told Text → Told Text) (braced : List Stmts → List Stmts) : Type 0 where
  pub holds : (rest : Rest) (others : List Stmts) → AreWanted rest.bodies others
      → ((says rest).told ≡ tells rest.told) × AreWanted (says rest).bodies (braced others)

-- a body, whose statements stand at its top
abbrev pub SaysBody : Interpretation → Piece → Stmts → Type 0
SaysBody i n ss = Says (piece_says i n) (tells_stmts true ss) (in_stmts true ss)
