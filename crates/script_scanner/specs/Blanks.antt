-- What stands between tokens. ECMA-262, 12th edition, clauses 12.2 to 12.4.
use Rattle.std.specs.Prelude.{ℕ, ◌+◌, Bool, true, false, ◌||◌, ◌&&◌, not, ◌==◌, List, [], ◌∷◌, take, drop, if◌then◌else◌, Option, Some}
use Rattle.std.specs.Prelude.{None, option_map}
use Rattle.std.specs.Int.{is_in_range}
use Rattle.std.specs.List.{list_any, prefix_len}
use Rattle.script_scanner.specs.declared.blanks.Blank.{Blank}

-- Clause 12.2, table 34: TAB, VT, FF, SP, NBSP, ZWNBSP and the space separators.
abbrev pub is_white_space : ℕ → Bool
is_white_space c = (c == 0x9) || (c == 0xB) || (c == 0xC) || (c == 0x20) || (c == 0xA0) || (c == 0xFEFF) || (c == 0x1680)
    || is_in_range 0x2000 0x200A c || (c == 0x202F) || (c == 0x205F) || (c == 0x3000)

-- Clause 12.3, table 35: LF, CR, LS and PS.
abbrev pub is_line_end : ℕ → Bool
is_line_end c = (c == 0xA) || (c == 0xD) || (c == 0x2028) || (c == 0x2029)

-- How many code points stand before the first line end.
abbrev pub line_length : List ℕ → ℕ
line_length codes = prefix_len (λ c. not (is_line_end c)) codes

-- How many code points a line end at the front takes: CR LF is one line end of two.
abbrev pub line_end_length : List ℕ → ℕ
line_end_length [] = 0
line_end_length (c ∷ []) = 1
line_end_length (c ∷ d ∷ codes) = if (c == 0xD) && (d == 0xA) then 2 else 1

-- The text begins with these code points.
abbrev pub begins : List ℕ → List ℕ → Bool
begins [] codes = true
begins (m ∷ more) [] = false
begins (m ∷ more) (c ∷ codes) = (c == m) && begins more codes

-- The first code point is this one.
abbrev pub first_is : ℕ → List ℕ → Bool
first_is c [] = false
first_is c (d ∷ codes) = c == d

-- How many code points there are up to the first `*/` and with it, if there is one.
abbrev pub length_to_star_slash : List ℕ → Option ℕ
length_to_star_slash [] = None
length_to_star_slash (c ∷ codes) = if begins (0x2A ∷ 0x2F ∷ []) (c ∷ codes) then Some 2 else option_map (λ n. 1 + n) (length_to_star_slash codes)

-- Clause 12.4: a comment of many lines counts as a line end where it holds one. The text is what follows `/*`.
abbrev pub block_comment : Option ℕ → List ℕ → Option Blank
block_comment None codes = None
block_comment (Some n) codes = Some (record { length = 2 + n; breaks = list_any is_line_end (take n codes) })

-- The comment at the front of a text, if there is one.
abbrev pub comment_at : List ℕ → Option Blank
comment_at codes = if begins (0x2F ∷ 0x2F ∷ []) codes then Some (record { length = line_length codes; breaks = false })
    else (if begins (0x2F ∷ 0x2A ∷ []) codes then block_comment (length_to_star_slash (drop 2 codes)) (drop 2 codes) else None)

-- The white space, line end or comment at the front of a text, if there is one.
abbrev pub blank_at : List ℕ → Option Blank
blank_at [] = None
blank_at (c ∷ codes) = if is_white_space c then Some (record { length = 1; breaks = false })
    else (if is_line_end c then Some (record { length = 1; breaks = true }) else comment_at (c ∷ codes))

-- How many code points of the text's first line are passed over, where it begins with `#!`. The 12th edition has no such
-- line: this project's own choice.
abbrev pub first_line_length : List ℕ → ℕ
first_line_length codes = if begins (0x23 ∷ 0x21 ∷ []) codes then line_length codes else 0
