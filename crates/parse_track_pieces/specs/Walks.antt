-- What a walk over a piece does to a track and to the bodies at hand.
use Rattle.std.specs.Prelude.{ℕ, ◌≡◌, ◌+◌, ◌^◌, ◌<◌, ◌≤◌, true, codes, Some, List, [], length, reverse}
use Rattle.script_grammar.specs.Braced.{in_stmts}
use Rattle.script_grammar.specs.Interpretation.{Interpretation, text_of}
use Rattle.script_grammar.specs.Shows.{ShowAll}
use Rattle.script_grammar.specs.Tree.{Stmts}
use Rattle.parse_track.specs.Counted.{region_count}
use Rattle.parse_track.specs.Log.{Log, around_at}
use Rattle.parse_track.specs.Tells.{tells_script}
use Rattle.track_log_laws.specs.Spelled.{log_text, logged}
use Rattle.parse_track_pieces.specs.declared.piece.Piece.{Piece}
use Rattle.parse_track_pieces.specs.Pieces.{Rest}
use Rattle.parse_track_pieces.specs.Says.{AreWanted, SaysBody}

-- The atom that stands for the uses of `this` has that text.
abbrev pub KnowsThis : Interpretation → Log → Type 0
KnowsThis i log = text_of i log.known.this ≡ codes ".this"

-- The known names stay, the error that was noted, and the regions around: the present one, and those around the regions that
-- are there.
pub record Stays (old new : Log) : Type 0 where
  pub known : new.known ≡ old.known
  pub noted : new.noted ≡ old.noted
  pub present : new.present ≡ old.present
  pub count : length old.parts ≤ length new.parts
  pub around : (n : ℕ) → n < length old.parts → around_at (Some n) new.parts ≡ around_at (Some n) old.parts

-- The bodies at hand, of which the next one stands last, say these.
abbrev pub AtHand : Interpretation → List Piece → List Stmts → Type 0
AtHand i bodies all = ShowAll (SaysBody i) (reverse bodies) all

-- Where the bodies at hand are those that a part wants, and then others that are wanted after it: the others are left, and
-- what the part says was told.
pub record Walks (i : Interpretation) (old new : Log) (before after : List Piece) (says : Rest → Rest) : Type 0 where
  pub told : KnowsThis i old → (rest : Rest) (all : List Stmts) → AreWanted (says rest).bodies all → AtHand i before all
      → (others : List Stmts) × AreWanted rest.bodies others × AtHand i after others
      × (logged (says rest).told (log_text i old) ≡ logged rest.told (log_text i new))

-- For some interpretation the bodies at hand are those that a part wants, and then others that are wanted after it, and the track
-- has numbers for the regions of the part and for those that are told after it.
pub record HasNumbers (old : Log) (before : List Piece) (says : Interpretation → Rest → Rest) : Type 0 where
  pub i : Interpretation
  pub rest : Rest
  pub all : List Stmts
  pub knows : KnowsThis i old
  pub wanted : AreWanted (says i rest).bodies all
  pub hand : AtHand i before all
  pub few : length old.parts + region_count (says i rest).told ≤ 2 ^ 31

-- For some interpretation the piece says a script, the bodies at hand are those of its functions, and the track has numbers for the
-- regions that the script tells.
pub record HasScriptNumbers (old : Log) (before : List Piece) (script : Piece) : Type 0 where
  pub i : Interpretation
  pub items : Stmts
  pub knows : KnowsThis i old
  pub says : SaysBody i script items
  pub hand : AtHand i before (in_stmts true items [])
  pub few : length old.parts + region_count (tells_script items) ≤ 2 ^ 31
