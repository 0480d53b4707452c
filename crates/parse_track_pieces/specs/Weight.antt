-- How much there is to walk over in bodies: the measure by which a walk ends.
use Rattle.std.specs.Prelude.{ℕ, ◌+◌, ◌*◌, List, [], ◌∷◌}
use Rattle.parse_track_pieces.specs.declared.piece.Piece.{Piece, size-Piece}

abbrev pub weight : List Piece → ℕ
weight [] = 0
weight (piece ∷ pieces) = 6 * size-Piece piece + 6 + weight pieces
