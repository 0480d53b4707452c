-- The points of a file of ASCII, and how many points a file has.
use Rattle.std.proofs.Common.{◌≡◌, ◌≤◌, ℕ, List, length, refl, sym, ap}
use Rattle.std.specs.Str.{IsAscii, IsUtf8, chars}
use Rattle.std.proofs.lemmas.Str.{IsUtf8-from_ascii}
use Rattle.unit_text.specs.Points.{points, points_from}
use Rattle.unit_text.proofs.Decoding.{codes_of-utf8, points_few}

pub ascii_utf8 : (bytes : List ℕ) → IsAscii bytes → IsUtf8 bytes
ascii_utf8 bytes ascii = IsUtf8-from_ascii bytes ascii

pub ascii_points : (bytes : List ℕ) → IsAscii bytes → points_from 0 (chars bytes) ≡ points bytes
ascii_points bytes ascii = ap (points_from 0) (sym (codes_of-utf8 bytes (ascii_utf8 bytes ascii)))

-- no more points than bytes
pub file_points_few : (bytes : List ℕ) → IsUtf8 bytes → length (points bytes) ≤ length bytes
file_points_few bytes utf8 = points_few bytes bytes (points bytes) refl utf8 (ap (points_from 0) (codes_of-utf8 bytes utf8))
