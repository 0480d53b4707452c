-- What each variant of a piece says.
use Rattle.std.proofs.Common.{◌≡◌, ◌∙◌, ℕ, ap, sym}
use Rattle.std.specs.Prelude.{codes}
use Rattle.std.specs.declared.vec.Vec.{Vec}
use Rattle.std.specs.declared.boxed.Box.{Box}
use Rattle.std.specs.declared.alloc.Global.{Global}
use Rattle.script_grammar.specs.declared.tree.Ident.{Ident}
use Rattle.script_grammar.specs.Interpretation.{Interpretation, text_of, maybe_named}
use Rattle.parse_track.specs.declared.region.Declare.{Declare}
use Rattle.parse_track.specs.Log.{region_of}
use Rattle.parse_track.specs.Told as told
use Rattle.parse_track.specs.Tells.{tells_use, tells_jump}
use Rattle.track_log_laws.specs.Spelled.{region_text}
use Rattle.parse_track_pieces.specs.declared.piece.Piece.{Piece}
use Rattle.parse_track_pieces.specs.declared.piece.RegionHead.{RegionHead}
use Rattle.parse_track_pieces.specs.declared.piece.ToldJump.{ToldJump}
use Rattle.parse_track_pieces.specs.declared.piece.Piece.TheVariants as piece
use Rattle.parse_track_pieces.specs.declared.piece.Piece.TheOpen as layer
use Rattle.parse_track_pieces.specs.declared.piece.Piece.TheFolds.{fold-roll-Piece}
use Rattle.parse_track_pieces.specs.Pieces.{Rest, telling, says_name, says_region, says_passed, says_read, piece_step, piece_says, pieces_say}

module _ (i : Interpretation) where
  pub says-Declared : (how : Declare) (name : Ident) (rest : Rest) → piece_says i (piece.Declared how name) rest ≡ says_name i how name rest
  says-Declared how name rest = ap (λ (f : Rest → Rest). f rest) (ap (piece_says i) (sym (piece.rolls-Declared how name)) ∙ fold-roll-Piece (Rest → Rest) (piece_step i) (layer.Declared how name))

  pub says-Used : (atom : ℕ) (rest : Rest) → piece_says i (piece.Used atom) rest ≡ telling rest (tells_use (text_of i atom) rest.told)
  says-Used atom rest = ap (λ (f : Rest → Rest). f rest) (ap (piece_says i) (sym (piece.rolls-Used atom)) ∙ fold-roll-Piece (Rest → Rest) (piece_step i) (layer.Used atom))

  pub says-This : (rest : Rest) → piece_says i piece.This rest ≡ telling rest (tells_use (codes ".this") rest.told)
  says-This rest = ap (λ (f : Rest → Rest). f rest) (ap (piece_says i) (sym piece.rolls-This) ∙ fold-roll-Piece (Rest → Rest) (piece_step i) layer.This)

  pub says-Jumped : (jump : Box ToldJump Global) (rest : Rest) → piece_says i (piece.Jumped jump) rest ≡ telling rest (tells_jump jump.value.word jump.value.at (maybe_named i jump.value.label) rest.told)
  says-Jumped jump rest = ap (λ (f : Rest → Rest). f rest) (ap (piece_says i) (sym (piece.rolls-Jumped jump)) ∙ fold-roll-Piece (Rest → Rest) (piece_step i) (layer.Jumped jump))

  pub says-Inside : (region : Box (RegionHead × Vec Piece Global) Global) (rest : Rest)
      → piece_says i (piece.Inside region) rest ≡ says_region (region_text i (region_of region.value.0.kind)) region.value.0.at (pieces_say i region.value.1.items) rest
  says-Inside region rest = ap (λ (f : Rest → Rest). f rest) (ap (piece_says i) (sym (piece.rolls-Inside region)) ∙ fold-roll-Piece (Rest → Rest) (piece_step i) (layer.Inside region))

  pub says-EmptyBlock : (rest : Rest) → piece_says i piece.EmptyBlock rest ≡ says_region told.Block 0 (λ inside. inside) rest
  says-EmptyBlock rest = ap (λ (f : Rest → Rest). f rest) (ap (piece_says i) (sym piece.rolls-EmptyBlock) ∙ fold-roll-Piece (Rest → Rest) (piece_step i) layer.EmptyBlock)

  pub says-Many : (pieces : Box (Vec Piece Global) Global) (rest : Rest) → piece_says i (piece.Many pieces) rest ≡ pieces_say i pieces.value.items rest
  says-Many pieces rest = ap (λ (f : Rest → Rest). f rest) (ap (piece_says i) (sym (piece.rolls-Many pieces)) ∙ fold-roll-Piece (Rest → Rest) (piece_step i) (layer.Many pieces))

  pub says-Passed : (start : ℕ) (rest : Rest) → piece_says i (piece.Passed start) rest ≡ says_passed i start rest
  says-Passed start rest = ap (λ (f : Rest → Rest). f rest) (ap (piece_says i) (sym (piece.rolls-Passed start)) ∙ fold-roll-Piece (Rest → Rest) (piece_step i) (layer.Passed start))

  pub says-Kept : (pieces : Box (Vec Piece Global) Global) (rest : Rest) → piece_says i (piece.Kept pieces) rest ≡ says_read (pieces_say i pieces.value.items) rest
  says-Kept pieces rest = ap (λ (f : Rest → Rest). f rest) (ap (piece_says i) (sym (piece.rolls-Kept pieces)) ∙ fold-roll-Piece (Rest → Rest) (piece_step i) (layer.Kept pieces))
