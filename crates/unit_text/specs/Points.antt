-- The code points that bytes spell in UTF-8, each with its place.
-- ECMA-262, 12th edition, clause 11.1: source text is a sequence of Unicode code points. That it comes
-- as UTF-8, and that places are offsets of bytes, is this project's own choice.
use Rattle.std.specs.Prelude.{◌≡◌, ℕ, ◌+◌, ◌≤◌, ◌<◌, true, List, [], ◌∷◌, ◌++◌, length, take}
use Rattle.std.specs.Char.{len_utf8}
use Rattle.std.specs.Str.{chars, all_scalars, encode_utf8_all}
use Rattle.std.specs.Str.Lossy.{utf8_valid_len}
use Rattle.unit_text.specs.declared.Point.{Point}

-- The code points whose spellings, put together, are the longest front of the bytes that is UTF-8.
abbrev pub codes_of : List ℕ → List ℕ
codes_of bytes = chars (take (utf8_valid_len bytes) bytes)

-- These code points, spelled one after the other from an offset on.
abbrev pub points_from : ℕ → List ℕ → List Point
points_from at [] = []
points_from at (c ∷ cs) = record { code = c; start = at; end = at + len_utf8 c } ∷ points_from (at + len_utf8 c) cs

-- The points of a text of bytes.
abbrev pub points : List ℕ → List Point
points bytes = points_from 0 (codes_of bytes)

-- The code of a point.
abbrev pub code_of : Point → ℕ
code_of point = point.code

-- The code points are scalar values, their spellings are a front of the bytes, and no code points
-- whose spellings are one reach further.
pub record SpellLongestFront (bytes codes : List ℕ) : Type 0 where
  pub scalar : all_scalars codes ≡ true
  pub front : (rest : List ℕ) × (bytes ≡ encode_utf8_all codes ++ rest)
  pub longest : (others rest : List ℕ) → all_scalars others ≡ true → bytes ≡ encode_utf8_all others ++ rest
      → length (encode_utf8_all others) ≤ length (encode_utf8_all codes)

-- The points lie end to end from an offset on, and none is empty.
abbrev pub LieEndToEnd : ℕ → List Point → Type 0
LieEndToEnd at [] = Unit {0}
LieEndToEnd at (p ∷ ps) = (p.start ≡ at) × (p.start < p.end) × LieEndToEnd p.end ps
