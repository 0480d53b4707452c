-- What follows for a part of a tree from bounds on its print, where it has no notes.
use Rattle.std.specs.Prelude.{◌≡◌, ◌^◌, ◌<◌, List, [], length}
use Rattle.script_grammar.specs.Fault.{depth_limit}
use Rattle.script_grammar.specs.Pieces.{Piece}
use Rattle.parse_track.specs.declared.region.Early.{Early}
use Rattle.emit_limit_laws.specs.Places.{depths_of, AllUpTo}

-- a print of fewer than 2^32 tokens, none of which is too deep
pub record Within (ps : List Piece) : Type 0 where
  pub few : length (depths_of ps) < 2 ^ 32
  pub shallow : AllUpTo depth_limit (depths_of ps)

pub record Asked (P : Type 0) (ps : List Piece) (notes : List Early) : Type 0 where
  pub holds : Within ps → notes ≡ [] → P
