-- What the pieces that a part is kept as say: what they tell, in the words of parse_track, and which bodies they want.
use Rattle.std.specs.Prelude.{ℕ, true, codes, List, [], ◌∷◌, map}
use Rattle.script_grammar.specs.declared.tree.Ident.{Ident}
use Rattle.script_grammar.specs.Interpretation.{Interpretation, text_of, named, maybe_named}
use Rattle.script_grammar.specs.Tree.{Stmts}
use Rattle.parse_track.specs.declared.region.Declare.{Declare}
use Rattle.parse_track.specs.Log.{region_of}
use Rattle.parse_track.specs.Told as told
use Rattle.parse_track.specs.Told.{Told, nothing, inner}
use Rattle.parse_track.specs.Tells.{Text, tells_use, tells_name, tells_jump, tells_stmts}
use Rattle.track_log_laws.specs.Spelled.{region_text}
use Rattle.parse_track_pieces.specs.declared.piece.Piece.{Piece}
use Rattle.parse_track_pieces.specs.declared.piece.Piece.TheOpen.{Piece-F}
use Rattle.parse_track_pieces.specs.declared.piece.Piece.TheOpen as layer
use Rattle.parse_track_pieces.specs.declared.piece.Piece.TheFolds.{fold-Piece}

-- a braced body of a function: these statements, with all bodies inside them, or one that was read where it stands
pub data Body : Type 0 where
  Wanted : Stmts → Body
  Read : Body

-- what is told, and the bodies that are wanted, from some place on
pub record Rest : Type 0 where
  pub told : Told Text
  pub bodies : List Body

abbrev pub telling : Rest → Told Text → Rest
telling rest t = record { told = t; bodies = rest.bodies }

-- each in front of those after it
abbrev pub in_turn : {A : Type 0} → List (A → A) → A → A
in_turn [] a = a
in_turn (f ∷ fs) a = f (in_turn fs a)

abbrev pub says_name : Interpretation → Declare → Ident → Rest → Rest
says_name i how name rest = telling rest (tells_name how (named i name) rest.told)

abbrev pub says_region : told.Region Text → ℕ → (Rest → Rest) → Rest → Rest
says_region kind at inside rest = telling (inside (telling rest nothing)) (inner kind at (inside (telling rest nothing)).told rest.told)

-- a body that was passed over has the statements that the interpretation gives to its function
abbrev pub says_passed : Interpretation → (start : ℕ) → Rest → Rest
says_passed i start rest = record { told = tells_stmts true (i.bodies start) rest.told; bodies = Wanted (i.bodies start) ∷ rest.bodies }

abbrev pub says_read : (Rest → Rest) → Rest → Rest
says_read inside rest = record { told = (inside rest).told; bodies = Read ∷ (inside rest).bodies }

abbrev pub piece_step : Interpretation → Piece-F (Rest → Rest) → Rest → Rest
piece_step i (layer.Declared how name) rest = says_name i how name rest
piece_step i (layer.Used atom) rest = telling rest (tells_use (text_of i atom) rest.told)
piece_step i layer.This rest = telling rest (tells_use (codes ".this") rest.told)
piece_step i (layer.Jumped jump) rest = telling rest (tells_jump jump.value.word jump.value.at (maybe_named i jump.value.label) rest.told)
piece_step i (layer.Inside region) rest = says_region (region_text i (region_of region.value.0.kind)) region.value.0.at (in_turn region.value.1.items) rest
piece_step i layer.EmptyBlock rest = says_region told.Block 0 (λ inside. inside) rest
piece_step i (layer.Many pieces) rest = in_turn pieces.value.items rest
piece_step i (layer.Passed start) rest = says_passed i start rest
piece_step i (layer.Kept pieces) rest = says_read (in_turn pieces.value.items) rest

-- what a piece says, in front of what is said after it
abbrev pub piece_says : Interpretation → Piece → Rest → Rest
piece_says i = fold-Piece (Rest → Rest) (piece_step i)

abbrev pub pieces_say : Interpretation → List Piece → Rest → Rest
pieces_say i pieces = in_turn (map (piece_says i) pieces)
