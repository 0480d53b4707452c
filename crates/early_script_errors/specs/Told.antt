-- A script that was read without trees, of which a track is told.
use Rattle.std.specs.Prelude.{ℕ, ◌≡◌, ◌<◌, ◌^◌, List, [], codes, slice_get, Option, Some, None}
use Rattle.script_grammar.specs.Braced.{braced_all}
use Rattle.script_grammar.specs.Interpretation.{Interpretation}
use Rattle.script_grammar.specs.Lexeme.{Lexeme}
use Rattle.script_grammar.specs.NameTokens.{NamesAreFull}
use Rattle.script_grammar.specs.Script.{IsScript}
use Rattle.script_grammar.specs.Shows.{ShowAll}
use Rattle.script_grammar.specs.Tree.{Stmts}
use Rattle.grammar_start_laws.specs.Own.{TokensRise, stmts_at}
use Rattle.grammar_start_laws.specs.Started.{started_stmts}
use Rattle.parse_track.specs.declared.region.Early.{Early}
use Rattle.parse_track.specs.declared.region.WellKnownAtoms.{WellKnownAtoms}
use Rattle.parse_track.specs.Counted.{region_count}
use Rattle.parse_track.specs.Log.{Log}
use Rattle.parse_track.specs.Notes.{first_note, notes_stmts}
use Rattle.parse_track.specs.Tells.{tells_script}
use Rattle.track_renaming_laws.specs.Texts.{AreWithoutEquals}
use Rattle.track_log_laws.specs.Spelled.{TextLog, log_text, logged}
use Rattle.parse_track_pieces.specs.declared.piece.Piece.{Piece}
use Rattle.parse_track_pieces.specs.Says.{SaysBody}

-- the known words, by their atoms
pub record Knows (texts : List (List ℕ)) (known : WellKnownAtoms) : Type 0 where
  pub eval : slice_get texts known.eval ≡ Some (codes "eval")
  pub arguments : slice_get texts known.arguments ≡ Some (codes "arguments")
  pub this : slice_get texts known.this ≡ Some (codes ".this")
  pub proto : slice_get texts known.proto ≡ Some (codes "__proto__")
  pub strict : slice_get texts known.strict ≡ Some (codes "use strict")

-- This is the tree of a script, whose tokens start at rising offsets and have no empty names, and the texts that its atoms
-- index have no equals.
pub record IsOf (texts : List (List ℕ)) (known : WellKnownAtoms) (items : Stmts) : Type 0 where
  pub tokens : List Lexeme
  pub end : Lexeme
  pub script : IsScript tokens end items
  pub rise : TokensRise 0 tokens
  pub names : NamesAreFull tokens
  pub once : AreWithoutEquals texts
  pub knows : Knows texts known

-- the interpretation that gives each function of the script its own body
abbrev pub own : List (List ℕ) → Stmts → Interpretation
own texts items = record { texts = texts; bodies = λ n. stmts_at (started_stmts items) n }

-- With each function's own body, the piece `top` says the statements, the pieces `bodies` say the braced bodies of all functions,
-- in the order of the source, those inside a body after it, and `first` is the first error of a rule that looks at no region.
pub record IsTold (texts : List (List ℕ)) (top : Piece) (bodies : List Piece) (first : Option Early) (items : Stmts) : Type 0 where
  pub script : SaysBody (own texts items) top items
  pub braced : ShowAll (SaysBody (own texts items)) bodies (braced_all items)
  pub noted : first ≡ first_note (notes_stmts items)

-- the log of a track that was told nothing
abbrev pub untold : TextLog
untold = record { parts = []; present = None }

-- The track was told this script and nothing else, and the first error of a rule that looks at no region is noted in it.
pub record IsTrackOf (texts : List (List ℕ)) (track : Log) (items : Stmts) : Type 0 where
  pub of : IsOf texts track.known items
  pub told : logged (tells_script items) untold ≡ log_text (own texts items) track
  pub noted : track.noted ≡ first_note (notes_stmts items)

-- The pieces are told of some script, and it tells fewer than 2^31 regions.
pub record AreOfFew (known : WellKnownAtoms) (top : Piece) (bodies : List Piece) (first : Option Early) : Type 0 where
  pub texts : List (List ℕ)
  pub items : Stmts
  pub of : IsOf texts known items
  pub told : IsTold texts top bodies first items
  pub few : region_count (tells_script items) < 2 ^ 31

-- The track was told some script and nothing else, and it tells fewer than 2^31 regions.
pub record IsTrackOfFew (track : Log) : Type 0 where
  pub texts : List (List ℕ)
  pub items : Stmts
  pub told : IsTrackOf texts track items
  pub few : region_count (tells_script items) < 2 ^ 31
