-- What JSON says of a script beside its stencil: where its functions stand in the source text, and how deep their stacks get. Lines and columns are
-- those of holzikra_places, depths those of holzikra_depths.
use Rattle.std.specs.Prelude.{◌≡◌, ℕ, ◌<◌, ◌≤◌, zero, suc, List, length, min, slice_get, Option, Some, None, option_map}
use Rattle.stencil_data.specs.declared.functions.Extent.{Extent}
use Rattle.stencil_data.specs.declared.stencils.Entry.{Entry}
use Rattle.stencil_data.specs.declared.stencils.Entry.TheVariants as entry
use Rattle.stencil_data.specs.MergedView.{MergedView}
use Rattle.stencil_data.specs.Named.{NamedMerged}
use Rattle.stencil_data.specs.StandsFor.{MergedStandsFor}
use Rattle.stencil_data.specs.Views.{FunctionView, RecordView}
use Rattle.bytecode_buf.specs.Command.{Listed}
use Rattle.script_image.specs.Listed.{ShowsListed}
use Rattle.script_image.specs.declared.script_lines.Listing.{Listing}
use Rattle.holzikra_depths.specs.Depths.{IsDepth}
use Rattle.holzikra_names.specs.declared.source.Spot.{Spot}
use Rattle.holzikra_objects.specs.Objects.{IsLineOf, script_data, shown}
use Rattle.holzikra_objects.specs.declared.notes.ScriptNotes.{ScriptNotes}
use Rattle.holzikra_places.specs.Places.{IsPlace}
use Rattle.holzikra_scripts.specs.declared.source.KnownText.{KnownText}

-- the source text, where it is at hand
abbrev pub source_of : KnownText → Option (List ℕ)
source_of known = option_map (λ source. source.places.text.now) known.text

-- the line and the column of an offset of the source text; none of an offset behind its end, nor where no text is at hand
abbrev pub IsSpotIn : Option (List ℕ) → ℕ → Option Spot → Type 0
IsSpotIn None offset spot = spot ≡ None
IsSpotIn (Some source) offset None = length source < offset
IsSpotIn (Some source) offset (Some spot) = (offset ≤ length source) × IsPlace source offset spot.line spot.column

-- the note tells where this extent starts and ends
pub record TellsPlaces (source : Option (List ℕ)) (extent : Extent) (note : ScriptNotes) : Type 0 where
  pub start : IsSpotIn source extent.start note.start
  pub end : IsSpotIn source extent.end note.end

-- the note tells the bytes of this code, and how deep its stack gets
pub record TellsCode (part : FunctionView) (note : ScriptNotes) : Type 0 where
  pub bytes : note.bytes ≡ Some (length part.code)
  pub depth : IsDepth part note.depth

-- the same of what may be compiled, and else neither
abbrev pub TellsEntry : Entry → ScriptNotes → Type 0
TellsEntry entry.Lazy note = (note.bytes ≡ None) × (note.depth ≡ None)
TellsEntry (entry.Compiled part) note = TellsCode part note

pub record IsTopNote (source : Option (List ℕ)) (top : FunctionView) (note : ScriptNotes) : Type 0 where
  pub places : TellsPlaces source top.extent note
  pub code : TellsCode top note

pub record IsFunctionNote (source : Option (List ℕ)) (r : RecordView) (e : Entry) (note : ScriptNotes) : Type 0 where
  pub places : TellsPlaces source r.extent note
  pub code : TellsEntry e note

-- the note is that of the script itself, as number 0, or of the function of this number
abbrev pub IsNoteAt : Option (List ℕ) → MergedView → ℕ → ScriptNotes → Type 0
IsNoteAt source stencil zero note = IsTopNote source stencil.top note
IsNoteAt source stencil (suc k) note =
    (r : RecordView) (e : Entry) → slice_get stencil.records k ≡ Some r → slice_get stencil.entries k ≡ Some e → IsFunctionNote source r e note

-- a note for the script itself and one for each function
pub record AreNotes (source : Option (List ℕ)) (stencil : MergedView) (notes : List ScriptNotes) : Type 0 where
  pub count : length notes ≡ suc (min (length stencil.records) (length stencil.entries))
  pub each : (k : ℕ) (note : ScriptNotes) → slice_get notes k ≡ Some note → IsNoteAt source stencil k note

-- the line of a file of this name and so many bytes: the code or the scopes of this script by the texts of a stencil that stands for it, and what is
-- said beside that by the source text, where it is at hand. An instruction that makes a function has the line of the note on that function.
pub record IsScriptLine (listing : Listing) (name : List ℕ) (bytes : ℕ) (source : Option (List ℕ)) (merged : NamedMerged (List Listed)) (line : List ℕ) : Type 0 where
  pub stencil : MergedView
  pub stands : MergedStandsFor ShowsListed stencil merged
  pub notes : List ScriptNotes
  pub told : AreNotes source stencil notes
  pub is : IsLineOf (script_data (shown listing stencil.texts notes) name bytes merged) line
