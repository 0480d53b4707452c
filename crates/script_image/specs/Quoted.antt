-- Texts, offsets and lists as they are printed: this project's own choice.
use Rattle.std.specs.Prelude.{ℕ, ◌+◌, ◌-◌, ◌/◌, ◌%◌, Bool, not, ◌&&◌, nat_eq, nat_le, List, [], ◌∷◌, ◌++◌, length, replicate, flat_map}
use Rattle.std.specs.Prelude.{if◌then◌else◌, Option, Some, None, codes}
use Rattle.std.specs.Fmt.{decimal}
use Rattle.stencil_data.specs.declared.functions.Extent.{Extent}

-- a number in at least five digits
abbrev pub padded : ℕ → List ℕ
padded n = replicate (5 - length (decimal n)) 48 ++ decimal n

-- a hexadecimal digit in lower case
abbrev pub hex_digit : ℕ → ℕ
hex_digit n = if nat_le n 9 then 48 + n else 87 + n

abbrev pub escaped : ℕ → List ℕ
escaped unit = 92 ∷ 117 ∷ hex_digit (unit / 4096) ∷ hex_digit (unit / 256 % 16) ∷ hex_digit (unit / 16 % 16) ∷ hex_digit (unit % 16) ∷ []

-- a printable ASCII character other than `"` and `\` stands for itself
abbrev pub is_plain : ℕ → Bool
is_plain unit = (nat_le 32 unit && nat_le unit 126) && (not (nat_eq unit 34) && not (nat_eq unit 92))

abbrev pub quoted_unit : ℕ → List ℕ
quoted_unit unit = if is_plain unit then unit ∷ [] else escaped unit

-- a text between double quotes
abbrev pub quoted : List ℕ → List ℕ
quoted units = ((34 ∷ []) ++ flat_map quoted_unit units) ++ 34 ∷ []

-- a name, or `-` where there is none
abbrev pub name_text : Option (List ℕ) → List ℕ
name_text None = codes "-"
name_text (Some name) = quoted name

-- an extent `A..B`
abbrev pub range_text : ℕ → ℕ → List ℕ
range_text start end = decimal start ++ codes ".." ++ decimal end

abbrev pub extent_text : Extent → List ℕ
extent_text extent = range_text extent.start extent.end

-- each of the items after a comma
abbrev pub with_commas : List (List ℕ) → List ℕ
with_commas items = flat_map (λ (item : List ℕ). codes "," ++ item) items

-- items with a comma between two, or `-` where there is none
abbrev pub list_text : List (List ℕ) → List ℕ
list_text [] = codes "-"
list_text (item ∷ rest) = item ++ with_commas rest
