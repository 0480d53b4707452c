-- The points of bytes of ASCII, put after others one by one.
use Rattle.std.proofs.Common.{◌≡◌, ◌∙◌, ℕ, ◌+◌, ◌<◌, ◌≤◌, List, [], ◌∷◌, ◌++◌, length, drop, sym, ap, arith, append_assoc, append-nil}
use Rattle.std.proofs.Math.ListN.{drop_of_length-le}
use Rattle.std.proofs.lemmas.List.{drop_more}
use Rattle.std.specs.Prelude.{slice_index}
use Rattle.std.specs.Char.{len_utf8}
use Rattle.std.specs.Str.{IsAscii, chars}
use Rattle.std.proofs.lemmas.Str.{chars-IsAscii, len_utf8_ascii}
use Rattle.unit_text.specs.declared.Point.{Point}
use Rattle.unit_text.specs.Points.{points_from}

-- the point of a code point at an offset
abbrev point_at : ℕ → ℕ → Point
point_at at c = record { code = c; start = at; end = at + len_utf8 c }

point_is : (c at start end : ℕ) → start ≡ at → end ≡ start + len_utf8 c → point_at at c ≡ record { code = c; start = start; end = end }
point_is c at start end begins ends = cc

-- no byte of ASCII yet
pub ascii_none : (bs : List ℕ) (from : ℕ) (before : List Point) → IsAscii bs → before ++ points_from (from + 0) (drop 0 bs) ≡ before ++ points_from from (chars bs)
ascii_none bs from before ascii =
    let e : from + 0 ≡ from = omega arith in
    ap (λ n. before ++ points_from n bs) e ∙ ap (λ cs. before ++ points_from from cs) (sym (chars-IsAscii bs ascii))

-- one more byte of ASCII, pushed with its places
pub ascii_more : (bs : List ℕ) (from at c start end : ℕ) (made now all : List Point) → IsAscii bs → at < length bs → made ++ points_from (from + at) (drop at bs) ≡ all
    → c ≡ slice_index bs at → start ≡ from + at → end ≡ start + 1 → now ≡ made ++ record { code = c; start = start; end = end } ∷ []
    → now ++ points_from (from + (at + 1)) (drop (at + 1) bs) ≡ all
ascii_more bs from at c start end made now all ascii within before code begins ends pushed =
    ap (λ ps. ps ++ points_from (from + (at + 1)) (drop (at + 1) bs)) (pushed ∙ ap (λ (p : Point). made ++ p ∷ []) (sym here))
    ∙ append_assoc made (point_at (from + at) b ∷ []) (points_from (from + (at + 1)) (drop (at + 1) bs))
    ∙ ap (λ n. made ++ (point_at (from + at) b ∷ points_from n (drop (at + 1) bs))) (sym width)
    ∙ ap (λ xs. made ++ points_from (from + at) xs) (sym (drop_more bs at 0 within))
    ∙ before
  where
    b : ℕ
    b = slice_index bs at

    one : len_utf8 b ≡ 1
    one = len_utf8_ascii b (ascii at)

    width : (from + at) + len_utf8 b ≡ from + (at + 1)
    width = let e = one in omega (arith, e)

    next : end ≡ start + len_utf8 c
    next = let e : len_utf8 c ≡ 1 = ap len_utf8 code ∙ one in omega (arith, e, ends)

    here : point_at (from + at) b ≡ record { code = c; start = start; end = end }
    here = ap (λ n. point_at (from + at) n) (sym code) ∙ point_is c (from + at) start end begins next

-- all bytes of ASCII
pub ascii_all : (bs : List ℕ) (from at : ℕ) (made all : List Point) → length bs ≤ at → made ++ points_from (from + at) (drop at bs) ≡ all → made ≡ all
ascii_all bs from at made all ended before =
    sym (append-nil made) ∙ ap (λ xs. made ++ points_from (from + at) xs) (sym (drop_of_length-le bs ended)) ∙ before
