-- Which characters a terminal is not to be given as themselves, by their numbers. The classes are those of the Unicode Standard; that these
-- are hidden, and no others, is own choice.
use Rattle.std.specs.Prelude.{ℕ, Bool, false, ◌==◌, ◌&&◌, ◌||◌, nat_le, if◌then◌else◌, List, [], ◌∷◌, ◌++◌, codes, encode_utf8}
use Rattle.std.specs.Fmt.{digits}
use Rattle.std.specs.Str.{chars}

-- control characters: the general category Cc, U+0000 to U+001F and U+007F to U+009F
unfoldable pub is_control : ℕ → Bool
is_control code = nat_le code 31 || (nat_le 127 code && nat_le code 159)

-- the property Bidi_Control (Unicode Standard Annex 9): U+061C, U+200E, U+200F, U+202A to U+202E, U+2066 to U+2069
unfoldable pub turns_direction : ℕ → Bool
turns_direction code =
    code == 1564 || code == 8206 || code == 8207 || (nat_le 8234 code && nat_le code 8238) || (nat_le 8294 code && nat_le code 8297)

-- the general categories Zl and Zp: LINE SEPARATOR and PARAGRAPH SEPARATOR, U+2028 and U+2029
unfoldable pub ends_line : ℕ → Bool
ends_line code = code == 8232 || code == 8233

unfoldable pub is_hidden : ℕ → Bool
is_hidden code = is_control code || turns_direction code || ends_line code

-- the number of a character in hexadecimal digits
abbrev pub escape : ℕ → List ℕ
escape code = codes "\\u{" ++ digits 16 false code ++ codes "}"

-- what is shown of a character: a blank of a tab, an escape of one that is hidden, and else itself
unfoldable pub shown : ℕ → List ℕ
shown code = if code == 9 then codes " " else (if is_hidden code then escape code else encode_utf8 code)

abbrev pub shown_all : List ℕ → List ℕ
shown_all [] = []
shown_all (code ∷ codes) = shown code ++ shown_all codes

-- what is shown of a text in UTF-8
abbrev pub shown_text : List ℕ → List ℕ
shown_text text = shown_all (chars text)
