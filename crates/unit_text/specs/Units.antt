-- The 16-bit units of a code point. ECMA-262, 12th edition, clause 11.1.1: UTF16EncodeCodePoint.
use Rattle.std.specs.Prelude.{ℕ, ◌+◌, ◌-◌, ◌/◌, ◌%◌, List, [], ◌∷◌, ◌++◌, nat_le, if◌then◌else◌}

-- A code point up to FFFF is one unit, and one above it a surrogate pair.
abbrev pub code_units : ℕ → List ℕ
code_units c = if nat_le c 0xFFFF then c ∷ []
    else ((c - 0x1_0000) / 0x400 + 0xD800) ∷ ((c - 0x1_0000) % 0x400 + 0xDC00) ∷ []

-- The units of code points, one after the other. Clause 11.1.2: CodePointsToString.
abbrev pub text_units : List ℕ → List ℕ
text_units [] = []
text_units (c ∷ cs) = code_units c ++ text_units cs
