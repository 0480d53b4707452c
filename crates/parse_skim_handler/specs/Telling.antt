-- What is told and the functions that were found, as the handler keeps them.
use Rattle.std.specs.Prelude.{◌≡◌, ℕ, List, [], ◌∷◌, ◌++◌}
use Rattle.script_grammar.specs.Interpretation.{Interpretation, text_of}
use Rattle.parse_track.specs.Tells.{tells_use}
use Rattle.parse_handlers.specs.declared.found.FoundFunction.{FoundFunction}
use Rattle.parse_handlers.specs.FoundOf.{founds_before}
use Rattle.parse_handlers.specs.Inner.{Inner}
use Rattle.parse_track.specs.Log.{region_of}
use Rattle.track_log_laws.specs.Spelled.{region_text}
use Rattle.parse_track_pieces.specs.Pieces.{Rest, telling, piece_says, pieces_say, says_region}
use Rattle.parse_track_pieces.specs.declared.piece.Piece.TheVariants as piece
use Rattle.parse_skim_handler.specs.declared.told.FunctionTold.{FunctionTold}
use Rattle.parse_skim_handler.specs.declared.told.Parts.{Parts}
use Rattle.parse_skim_handler.specs.declared.told.Told.{Told}
use Rattle.parse_skim_handler.specs.declared.told.Told.TheVariants as told

-- what a name says that is used
abbrev pub use_says : Interpretation → (atom : ℕ) → Rest → Rest
use_says i atom rest = telling rest (tells_use (text_of i atom) rest.told)

-- what a function says
abbrev pub function_says : Interpretation → FunctionTold → Rest → Rest
function_says i function rest = says_region (region_text i (region_of function.head.kind)) function.head.at (pieces_say i function.pieces.items) rest

abbrev pub told_says : Interpretation → Told → Rest → Rest
told_says i told.Nothing rest = rest
told_says i (told.Used atom) rest = use_says i atom rest
told_says i (told.Two first second) rest = use_says i first (use_says i second rest)
told_says i (told.Three first second third) rest = use_says i first (use_says i second (use_says i third rest))
told_says i told.EmptyBlock rest = piece_says i piece.EmptyBlock rest
told_says i (told.Inside region) rest = piece_says i (piece.Inside region) rest
told_says i (told.Function function) rest = function_says i function.value rest
told_says i (told.Parts parts) rest = pieces_say i parts.value.pieces.items rest

abbrev pub told_found : Told → List FoundFunction
told_found told.Nothing = []
told_found (told.Used atom) = []
told_found (told.Two first second) = []
told_found (told.Three first second third) = []
told_found told.EmptyBlock = []
told_found (told.Inside region) = []
told_found (told.Function function) = function.value.found ∷ []
told_found (told.Parts parts) = parts.value.found.items

-- the functions that were found, and then these
abbrev pub told_puts : Interpretation → Told → Inner → Inner
told_puts i told inner = founds_before i (told_found told) inner

-- These are the pieces and the functions of what is told.
pub record ArePartsOf (told : Told) (parts : Parts) : Type 0 where
  pub says : (i : Interpretation) (rest : Rest) → pieces_say i parts.pieces.items rest ≡ told_says i told rest
  pub found : parts.found.items ≡ told_found told

-- What is told after `old` says this, and these functions were found after those of `old`.
pub record Tells (old new : Told) (more : Interpretation → Rest → Rest) (others : List FoundFunction) : Type 0 where
  pub says : (i : Interpretation) (rest : Rest) → told_says i new rest ≡ told_says i old (more i rest)
  pub found : told_found new ≡ told_found old ++ others

-- These parts say that a name is used, and then what the others say; they have the functions of the others.
pub record UsesBefore (atom : ℕ) (others parts : Parts) : Type 0 where
  pub says : (i : Interpretation) (rest : Rest) → pieces_say i parts.pieces.items rest ≡ use_says i atom (pieces_say i others.pieces.items rest)
  pub found : parts.found.items ≡ others.found.items

-- what some parts say and then what others say
abbrev pub both_say : Interpretation → (some others : Parts) → Rest → Rest
both_say i some others rest = pieces_say i some.pieces.items (pieces_say i others.pieces.items rest)

-- These parts say what some say and then what others say, and have the functions of the first and then those of the others.
pub record Joins (some others parts : Parts) : Type 0 where
  pub says : (i : Interpretation) (rest : Rest) → pieces_say i parts.pieces.items rest ≡ both_say i some others rest
  pub found : parts.found.items ≡ some.found.items ++ others.found.items
