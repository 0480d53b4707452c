-- The points of bytes each of which is one code point.
use Rattle.std.proofs.Common.{◌≡◌, ℕ, ◌+◌, ◌<◌, ◌≤◌, zero, suc, List, [], ◌∷◌, length, take, drop, Bool, false, cond, refl, sym, ◌∙◌, ap, arith}
use Rattle.std.specs.Prelude.{filter, nat_lt, ◌&&◌, slice_index}
use Rattle.std.specs.Char.{len_utf8}
use Rattle.std.specs.Str.{IsAscii, chars}
use Rattle.std.proofs.lemmas.Bool.{le-leb, lt-ltb}
use Rattle.std.proofs.lemmas.List.{drop_more}
use Rattle.std.proofs.lemmas.Str.{chars-IsAscii, len_utf8_ascii}
use Rattle.unit_text.specs.declared.Point.{Point}
use Rattle.unit_text.specs.Points.{points_from}
use Rattle.script_scanner.specs.Bytes.{byte_points}
use Rattle.script_scanner.specs.Tokens.{part, tokens, tokens_within, without_first_line}
use Rattle.script_scanner.proofs.OrderLemmas.{in_part}

-- a point, and the point of a byte
abbrev pub placed_point : ℕ → ℕ → ℕ → Point
placed_point c start end = record { code = c; start = start; end = end }

abbrev pub byte_point : ℕ → ℕ → Point
byte_point at b = placed_point b at (at + 1)

-- a point for each byte
pub count_is : (at : ℕ) (bytes : List ℕ) → length (byte_points at bytes) ≡ length bytes
count_is at [] = refl
count_is at (b ∷ bytes) = let e = count_is (at + 1) bytes in omega (arith, e)

-- those from a place on, and those before it
pub bytes_behind : (at : ℕ) (bytes : List ℕ) (n : ℕ) → drop n (byte_points at bytes) ≡ byte_points (at + n) (drop n bytes)
bytes_behind at bytes zero = ap (λ k. byte_points k bytes) (let e : at ≡ at + zero = omega arith in e)
bytes_behind at [] (suc n) = refl
bytes_behind at (b ∷ bytes) (suc n) = bytes_behind (at + 1) bytes n ∙ ap (λ k. byte_points k (drop n bytes)) (let e : (at + 1) + n ≡ at + suc n = omega arith in e)

pub bytes_front : (at : ℕ) (bytes : List ℕ) (n : ℕ) → take n (byte_points at bytes) ≡ byte_points at (take n bytes)
bytes_front at bytes zero = refl
bytes_front at [] (suc n) = refl
bytes_front at (b ∷ bytes) (suc n) = ap (λ ps. byte_point at b ∷ ps) (bytes_front (at + 1) bytes n)

-- the point at a place, with its places
pub read_byte : (at : ℕ) (bytes : List ℕ) (i c start end : ℕ) → i < length (byte_points at bytes) → c ≡ slice_index bytes i → start ≡ at + i → end ≡ start + 1
    → drop i (byte_points at bytes) ≡ placed_point c start end ∷ drop (i + 1) (byte_points at bytes)
read_byte at bytes i c start end lt read begins ends =
    bytes_behind at bytes i
    ∙ ap (byte_points (at + i)) (drop_more bytes i 0 (omega (arith, lt, count_is at bytes)) ∙ ap (λ b. b ∷ drop (i + 1) bytes) (sym read))
    ∙ ap (λ ps. byte_point (at + i) c ∷ ps)
    (ap (λ k. byte_points k (drop (i + 1) bytes)) (let e : (at + i) + 1 ≡ at + (i + 1) = omega arith in e) ∙ sym (bytes_behind at bytes (i + 1)))
    ∙ ap (λ (p : Point). p ∷ drop (i + 1) (byte_points at bytes)) same
  where
    same : byte_point (at + i) c ≡ placed_point c start end
    same = ap (λ k. placed_point c k (k + 1)) (sym begins) ∙ ap (λ k. placed_point c start k) (sym ends)

-- bytes of ASCII spell their own code points
one_byte_each : (at : ℕ) (bytes : List ℕ) → IsAscii bytes → byte_points at bytes ≡ points_from at bytes
one_byte_each at [] ascii = refl
one_byte_each at (b ∷ bytes) ascii =
    let width : at + len_utf8 b ≡ at + 1 = ap (λ n. at + n) (len_utf8_ascii b (ascii 0)) in
    ap (λ ps. byte_point at b ∷ ps) (one_byte_each (at + 1) bytes (λ i. ascii (suc i)))
    ∙ ap (λ k. placed_point b at k ∷ points_from k bytes) (sym width)

pub bytes_ascii : (at : ℕ) (bytes : List ℕ) → IsAscii bytes → byte_points at bytes ≡ points_from at (chars bytes)
bytes_ascii at bytes ascii = one_byte_each at bytes ascii ∙ ap (points_from at) (sym (chars-IsAscii bytes ascii))

-- all of them lie between the first offset and the last
all_within : (from to at : ℕ) (bytes : List ℕ) → from ≤ at → at + length bytes ≤ to → part from to (byte_points at bytes) ≡ byte_points at bytes
all_within from to at [] low high = refl
all_within from to at (b ∷ bytes) low high =
    let rest = filter (in_part from to) (byte_points (at + 1) bytes) in
    ap (λ (c : Bool). cond (c && nat_lt at to) (byte_point at b ∷ rest) rest) (le-leb from at low)
    ∙ ap (λ (c : Bool). cond c (byte_point at b ∷ rest) rest) (lt-ltb at to (omega (arith, high)))
    ∙ ap (λ ps. byte_point at b ∷ ps) (all_within from to (at + 1) bytes (omega (arith, low)) (omega (arith, high)))

-- the tokens of a text of ASCII at an offset, of which n points at the front are passed over
pub ascii_tokens : (start at n : ℕ) (bytes text : List ℕ) (rest : List Point) → IsAscii bytes → text ≡ bytes → at ≡ start
    → rest ≡ drop n (byte_points at text) → drop n (byte_points at text) ≡ without_first_line start (byte_points at text)
    → tokens_within (suc (length rest)) (start + length bytes) [] false rest ≡ tokens (points_from start (chars bytes)) start (start + length bytes)
ascii_tokens start at n bytes text rest ascii same begins behind passed =
    ap (λ (ps : List Point). tokens_within (suc (length ps)) (start + length bytes) [] false ps) (behind ∙ passed ∙ here ∙ ap (without_first_line start) (sym whole))
  where
    here : without_first_line start (byte_points at text) ≡ without_first_line start (byte_points start bytes)
    here = ap (λ bs. without_first_line start (byte_points at bs)) same ∙ ap (λ k. without_first_line start (byte_points k bytes)) begins

    whole : part start (start + length bytes) (points_from start (chars bytes)) ≡ byte_points start bytes
    whole = ap (part start (start + length bytes)) (sym (bytes_ascii start bytes ascii)) ∙ all_within start (start + length bytes) start bytes (omega arith) (omega arith)
