-- Lines and columns of a text of bytes. ECMA-262, 12th edition, clause 12.3: LineTerminatorSequence is LF, CR that no LF follows,
-- CR LF, U+2028 or U+2029, of which the last two are E2 80 A8 and E2 80 A9 in UTF-8. That columns count 16-bit units is own choice.
use Rattle.std.specs.Prelude.{◌≡◌, ℕ, ◌+◌, ◌-◌, ◌*◌, ◌/◌, ◌<◌, ◌≤◌, ◌⊎◌, zero, suc, Bool, true, false, not, ◌==◌, ◌&&◌, ◌||◌, nat_le, List, [], ◌∷◌, ◌++◌, length, slice_index, if◌then◌else◌, Option, Some, None}
use Rattle.holzikra_places.specs.declared.lines.Place.{Place}

-- the byte at k is the last one of a line terminator sequence
unfoldable pub ends_line : List ℕ → ℕ → Bool
ends_line text k =
    (slice_index text k == 10)
    || ((slice_index text k == 13) && not (slice_index text (k + 1) == 10))
    || ((slice_index text k == 168 || slice_index text k == 169) && nat_le 2 k && (slice_index text (k - 1) == 128) && (slice_index text (k - 2) == 226))

-- how many lines end within the first n bytes
abbrev pub lines_ended : List ℕ → ℕ → ℕ
lines_ended text zero = 0
lines_ended text (suc n) = if ends_line text n then lines_ended text n + 1 else lines_ended text n

-- the line that the offset lies in starts here
pub record IsLineStart (text : List ℕ) (offset start : ℕ) : Type 0 where
  pub before : start ≤ offset
  pub starts : (start ≡ 0) ⊎ (ends_line text (start - 1) ≡ true)
  pub none_between : (k : ℕ) → start ≤ k → k < offset → ends_line text k ≡ false

-- how many 16-bit units a byte of UTF-8 brings: none where it goes on with a code point, two where it starts one above U+FFFF
unfoldable pub byte_units : ℕ → ℕ
byte_units byte = if (nat_le 128 byte && nat_le byte 191) then 0 else (if nat_le 240 byte then 2 else 1)

-- the units of the bytes from one offset up to another that is n further
abbrev pub units_from : List ℕ → ℕ → ℕ → ℕ
units_from text start zero = 0
units_from text start (suc n) = units_from text start n + byte_units (slice_index text (start + n))

-- line and column of an offset, both from 1
abbrev pub IsPlace : List ℕ → ℕ → ℕ → ℕ → Type 0
IsPlace text offset line column =
    (line ≡ lines_ended text offset + 1)
    × ((start : ℕ) × IsLineStart text offset start × (column ≡ units_from text start (offset - start) + 1))

-- the place of an offset that lies in the text or at its end; of another there is none
abbrev pub IsPlaceIn : List ℕ → ℕ → Option Place → Type 0
IsPlaceIn text offset None = length text < offset
IsPlaceIn text offset (Some place) = (offset ≤ length text) × IsPlace text offset place.line place.column

-- a code point of UTF-8 starts at the offset, or the text ends there
abbrev pub StartsPoint : List ℕ → ℕ → Type 0
StartsPoint text offset = offset < length text → 0 < byte_units (slice_index text offset)

-- the offsets at which lines start that begin within the first n bytes or right behind them
abbrev pub line_starts : List ℕ → ℕ → List ℕ
line_starts text zero = 0 ∷ []
line_starts text (suc n) = if ends_line text n then line_starts text n ++ (n + 1) ∷ [] else line_starts text n

-- the table is that of the lines of this text
abbrev pub IsTableOf : List ℕ → List ℕ → Type 0
IsTableOf text starts = starts ≡ line_starts text (length text)

-- the first line of such a table starts where the text does
abbrev pub StartsAtZero : List ℕ → Type 0
StartsAtZero starts = (0 < length starts) × (slice_index starts 0 ≡ 0)

-- the number, from 0, of the line in such a table that an offset lies in
abbrev pub IsIndexOf : List ℕ → ℕ → ℕ → Type 0
IsIndexOf starts offset index =
    (index < length starts) × (slice_index starts index ≤ offset)
    × (index + 1 < length starts → offset < slice_index starts (index + 1))

-- how many units stand in front of the first byte of each of the first n pieces of 1,024 bytes
abbrev pub marks_below : List ℕ → ℕ → List ℕ
marks_below text zero = []
marks_below text (suc n) = marks_below text n ++ units_from text 0 (n * 1024) ∷ []

-- the marks are those of all whole pieces of the text, and of what is left behind them
abbrev pub AreMarksOf : List ℕ → List ℕ → Type 0
AreMarksOf text marks = marks ≡ marks_below text (length text / 1024 + 1)
