-- The code points of a file have no more 16-bit units than the file has bytes, so no text of a token of it has more.
use Rattle.std.proofs.Common.{◌≡◌, ℕ, zero, suc, ◌+◌, ◌≤◌, ◌<◌, List, [], ◌∷◌, map, length, take, filter, Bool, cond, Contains, ltb-true, refl, ap, arith, length-append, leb-false, IsUtf8, encode_utf8, encode_utf8_all}
use Rattle.std.specs.Prelude.{nat_le, nat_lt, ◌&&◌}
use Rattle.std.specs.Char.{len_utf8}
use Rattle.std.specs.Str.{is_utf8}
use Rattle.std.specs.Str.Lossy.{valid_len_up_to, utf8_valid_len}
use Rattle.std.proofs.lemmas.Bool.{cond_both}
use Rattle.std.proofs.lemmas.List.{length-take-le}
use Rattle.std.proofs.lemmas.Str.{len_utf8_bounds, length-encode, encodes-chars, utf8_valid_len_le, IsUtf8-from_is_utf8}
use Rattle.unit_text.specs.declared.Point.{Point}
use Rattle.unit_text.specs.Points.{points, points_from, codes_of, code_of}
use Rattle.unit_text.specs.Units.{code_units, text_units}
use Rattle.unit_text.proofs.Decoding.{codes_of-points_from}
use Rattle.script_scanner.specs.Tokens.{Text, Lexed, part, tokens}
use Rattle.scan_laws.specs.Widths.{widths}
use Rattle.scan_laws.proofs.Units.{either, units_add}
use Rattle.scan_laws.proofs.Tokens.{units_of, LexedShort, tokens_short, part_units, among_short, token_texts_within}

-- A code point has no more units than UTF-8 has bytes for it.

two_bytes : (c : ℕ) → 0xFFFF < c → 2 ≤ len_utf8 c
two_bytes c far = cond_both (nat_lt c 0x80) 1 (cond (nat_lt c 0x800) 2 (cond (nat_lt c 0x1_0000) 3 4)) (λ n. 2 ≤ n) (λ e. absurd (omega (arith, far, ltb-true c 0x80 e)))
    (λ e. either (λ n. 2 ≤ n) (nat_lt c 0x800) 2 (cond (nat_lt c 0x1_0000) 3 4) (omega arith) (either (λ n. 2 ≤ n) (nat_lt c 0x1_0000) 3 4 (omega arith) (omega arith)))

pub code_short : (c : ℕ) → length (code_units c) ≤ len_utf8 c
code_short c = cond_both (nat_le c 0xFFFF) (c ∷ []) _ (λ (us : List ℕ). length us ≤ len_utf8 c) (λ e. (len_utf8_bounds c).0) (λ e. two_bytes c (leb-false c 0xFFFF e))

spelled_short : (codes : List ℕ) → length (text_units codes) ≤ length (encode_utf8_all codes)
spelled_short [] = omega arith
spelled_short (c ∷ codes) =
    let units : length (text_units (c ∷ codes)) ≡ length (code_units c) + length (text_units codes) = units_add c codes in
    let bytes : length (encode_utf8_all (c ∷ codes)) ≡ length (encode_utf8 c) + length (encode_utf8_all codes) = length-append (encode_utf8 c) (encode_utf8_all codes) in
    let one : length (encode_utf8 c) ≡ len_utf8 c = length-encode c in
    let few : length (code_units c) ≤ len_utf8 c = code_short c in
    let rest : length (text_units codes) ≤ length (encode_utf8_all codes) = spelled_short codes in
    omega (arith, units, bytes, one, few, rest)

-- the longest front of bytes that is UTF-8 is so
front_valid : (bytes : List ℕ) (n : ℕ) → IsUtf8 (take (valid_len_up_to bytes n) bytes)
front_valid bytes zero = ([], (refl, refl))
front_valid bytes (suc n) = cond_both (is_utf8 (take (suc n) bytes)) (suc n) (valid_len_up_to bytes n) (λ m. IsUtf8 (take m bytes)) (λ e. IsUtf8-from_is_utf8 (take (suc n) bytes) e) (λ e. front_valid bytes n)

codes_spell : (bytes : List ℕ) → encode_utf8_all (codes_of bytes) ≡ take (utf8_valid_len bytes) bytes
unfolding utf8_valid_len
codes_spell bytes = encodes-chars (take (valid_len_up_to bytes (length bytes)) bytes) (front_valid bytes (length bytes))

-- the units of the code points of a file
pub codes_short : (file : List ℕ) → length (text_units (codes_of file)) ≤ length file
codes_short file =
    let spelled : length (encode_utf8_all (codes_of file)) ≡ length (take (utf8_valid_len file) file) = ap length (codes_spell file) in
    let front : length (take (utf8_valid_len file) file) ≡ utf8_valid_len file = length-take-le (utf8_valid_len file) file (utf8_valid_len_le file) in
    let within : utf8_valid_len file ≤ length file = utf8_valid_len_le file in
    let few : length (text_units (codes_of file)) ≤ length (encode_utf8_all (codes_of file)) = spelled_short (codes_of file) in
    omega (arith, spelled, front, within, few)

pub points_short : (file : List ℕ) → units_of (points file) ≤ length file
points_short file = let e : units_of (points file) ≡ length (text_units (codes_of file)) = ap (λ (cs : List ℕ). length (text_units cs)) (codes_of-points_from 0 (codes_of file)) in let le : length (text_units (codes_of file)) ≤ length file = codes_short file in omega (arith, e, le)

-- nor have those of a part of it more than the bytes of their own
passing_widths : (q : Point → Bool) (at : ℕ) (codes : List ℕ) → units_of (filter q (points_from at codes)) ≤ widths (filter q (points_from at codes))
passing_widths q at [] = omega arith
passing_widths q at (c ∷ codes) =
    let ps : List Point = filter q (points_from (at + len_utf8 c) codes) in
    let p : Point = record { code = c; start = at; end = at + len_utf8 c } in
    let rest : units_of ps ≤ widths ps = passing_widths q (at + len_utf8 c) codes in
    let taken : length (text_units (c ∷ map code_of ps)) ≡ length (code_units c) + length (text_units (map code_of ps)) = units_add c (map code_of ps) in
    let few : length (code_units c) ≤ len_utf8 c = code_short c in
    either (λ (qs : List Point). units_of qs ≤ widths qs) (q p) (p ∷ ps) ps (omega (arith, rest, taken, few)) rest

pub part_widths : (file : List ℕ) (from to : ℕ) → units_of (part from to (points file)) ≤ widths (part from to (points file))
part_widths file from to = passing_widths (λ p. nat_le from p.start && nat_lt p.start to) 0 (codes_of file)

-- The texts of tokens.

pub file_tokens_short : (file : List ℕ) (from to : ℕ) → LexedShort (length file) (tokens (points file) from to)
file_tokens_short file from to = tokens_short (length file) (points file) from to
    (let less : units_of (part from to (points file)) ≤ units_of (points file) = part_units from to (points file) in let le : units_of (points file) ≤ length file = points_short file in omega (arith, less, le))

-- no text of a token between any two offsets of a file is longer than the file
pub part_texts_short : (file : List ℕ) (from to : ℕ) (t : Lexed) (units : List ℕ) → Contains (tokens (points file) from to) t → t.value ≡ Text units → length units ≤ length file
part_texts_short file from to t units c is = among_short (length file) (tokens (points file) from to) t units (file_tokens_short file from to) c is

-- no text of a token of a file is longer than the file
pub token_texts_short : (file : List ℕ) (t : Lexed) (units : List ℕ) → Contains (tokens (points file) 0 (length file)) t → t.value ≡ Text units → length units ≤ length file
token_texts_short file t units c is = part_texts_short file 0 (length file) t units c is

-- nor has one more units than the points that were scanned have bytes
pub part_texts_within : (file : List ℕ) (from to : ℕ) (t : Lexed) (units : List ℕ) → Contains (tokens (points file) from to) t → t.value ≡ Text units → length units ≤ widths (part from to (points file))
part_texts_within file from to t units c is =
    let few : length units ≤ units_of (part from to (points file)) = token_texts_within (points file) from to t units c is in
    let less : units_of (part from to (points file)) ≤ widths (part from to (points file)) = part_widths file from to in
    omega (arith, few, less)
