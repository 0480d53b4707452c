-- How notes are taken off a listing. A note is what stands in a line from the blank that comes in front of another blank or of a
-- semicolon, outside of quotation marks and behind the blanks at the line's start; an added line begins with `#`. This
-- project's own choice.
use Rattle.std.specs.Prelude.{◌≡◌, ℕ, Bool, true, false, nat_eq, if◌then◌else◌, List, [], ◌∷◌, ◌++◌}
use Rattle.holzikra_listing.specs.declared.taking.Place.{Place}
use Rattle.holzikra_listing.specs.declared.taking.Place.TheVariants as place
use Rattle.holzikra_listing.specs.declared.taking.Letter.{Letter}
use Rattle.holzikra_listing.specs.declared.taking.Letter.TheVariants as letter
use Rattle.holzikra_listing.specs.declared.taking.Keep.{Keep}
use Rattle.holzikra_listing.specs.declared.taking.Keep.TheVariants as keep
use Rattle.holzikra_listing.specs.declared.taking.Step.{Step}

-- what a byte is
abbrev pub letter_of : ℕ → Letter
letter_of byte =
    if nat_eq byte 10 then letter.End else (if nat_eq byte 32 then letter.Blank else (if nat_eq byte 34 then letter.Quote else (if nat_eq byte 35 then letter.Hash else (if nat_eq byte 59 then letter.Semicolon else letter.Other))))

abbrev pub step_to : Keep → Place → Step
step_to keep next = record { keep = keep; next = next }

-- what stays of a byte at a place, and where the byte behind it stands
abbrev pub step_at : Place → Letter → Step
step_at place.Start letter.End = step_to keep.Byte place.Start
step_at place.Start letter.Blank = step_to keep.Byte place.Lead
step_at place.Start letter.Quote = step_to keep.Byte place.Text
step_at place.Start letter.Hash = step_to keep.Nothing place.Added
step_at place.Start _ = step_to keep.Byte place.Plain
step_at place.Lead letter.End = step_to keep.Byte place.Start
step_at place.Lead letter.Blank = step_to keep.Byte place.Lead
step_at place.Lead letter.Quote = step_to keep.Byte place.Text
step_at place.Lead _ = step_to keep.Byte place.Plain
step_at place.Plain letter.End = step_to keep.Byte place.Start
step_at place.Plain letter.Blank = step_to keep.Nothing place.Held
step_at place.Plain letter.Quote = step_to keep.Byte place.Text
step_at place.Plain _ = step_to keep.Byte place.Plain
step_at place.Held letter.End = step_to keep.BlankAndByte place.Start
step_at place.Held letter.Blank = step_to keep.Nothing place.Note
step_at place.Held letter.Semicolon = step_to keep.Nothing place.Note
step_at place.Held letter.Quote = step_to keep.BlankAndByte place.Text
step_at place.Held _ = step_to keep.BlankAndByte place.Plain
step_at place.Text letter.End = step_to keep.Byte place.Start
step_at place.Text letter.Quote = step_to keep.Byte place.Plain
step_at place.Text _ = step_to keep.Byte place.Text
step_at place.Note letter.End = step_to keep.Byte place.Start
step_at place.Note _ = step_to keep.Nothing place.Note
step_at place.Added letter.End = step_to keep.Nothing place.Start
step_at place.Added _ = step_to keep.Nothing place.Added

-- what stays, where a blank in front of the byte was held back
abbrev pub staying : Keep → ℕ → List ℕ
staying keep.Nothing byte = []
staying keep.Byte byte = byte ∷ []
staying keep.BlankAndByte byte = 32 ∷ byte ∷ []

-- what stays of a text from a place on
abbrev pub kept_from : Place → List ℕ → List ℕ
kept_from place [] = []
kept_from place (byte ∷ rest) = let step = step_at place (letter_of byte) in staying step.keep byte ++ kept_from step.next rest

-- a listing without its notes and without the lines that were added
abbrev pub without_notes : List ℕ → List ℕ
without_notes text = kept_from place.Start text

-- a text is that listing with notes, or itself
abbrev pub IsListing : Bool → List ℕ → List ℕ → Type 0
IsListing true text plain = without_notes text ≡ plain
IsListing false text plain = text ≡ plain
