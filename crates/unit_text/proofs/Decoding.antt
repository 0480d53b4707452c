-- How far a text is decoded.
use Rattle.std.proofs.Common.{◌≡◌, ℕ, ◌+◌, ◌≤◌, ◌<◌, List, [], ◌∷◌, ◌++◌, length, take, drop, refl, sym, ◌∙◌, ap, subst, true, map, append_assoc, append-nil, arith, length-append, take-append-drop, inl, inr}
use Rattle.std.proofs.lemmas.Bool.{cases_order}
use Rattle.std.proofs.Math.Seq.{take-length, take-append_seam}
use Rattle.std.proofs.Math.ListN.{drop_of_length-le}
use Rattle.std.proofs.lemmas.List.{drop_more, length-map, length-take-le}
use Rattle.std.specs.Prelude.{slice_index}
use Rattle.std.specs.Char.{len_utf8}
use Rattle.std.specs.Str.{IsAscii, IsUtf8, IsValidUpTo, chars, all_scalars, encode_utf8_all}
use Rattle.std.specs.Str.Lossy.{utf8_valid_len}
use Rattle.std.specs.Char.{encode_utf8}
use Rattle.std.proofs.lemmas.Str.{length-le-encodes, chars_past_char, IsUtf8-past_char, length-encode, len_utf8_bounds, chars-nil, encodes-chars, chars-IsAscii, len_utf8_ascii, scalars-chars, utf8_valid_len-IsUtf8, utf8_valid_len-IsValidUpTo}
use Rattle.unit_text.specs.declared.Point.{Point}
use Rattle.unit_text.specs.Points.{points_from, codes_of, code_of, points, LieEndToEnd, SpellLongestFront}

-- the points made so far, and those of the rest of the text, are the points of the text
pub record IsDecoded (text rest : List ℕ) (at : ℕ) (made : List Point) : Type 0 where
  pub utf8 : IsUtf8 rest
  pub offset : at + length rest ≡ length text
  pub points : made ++ points_from at (chars rest) ≡ points_from 0 (chars text)

-- the point of a code point at an offset
abbrev pub point_at : ℕ → ℕ → Point
point_at at c = record { code = c; start = at; end = at + len_utf8 c }

point_is : (c at start end : ℕ) → start ≡ at → end ≡ start + len_utf8 c → point_at at c ≡ record { code = c; start = start; end = end }
point_is c at start end begins ends = cc

-- one more point
pub decoded_more : (text rest more : List ℕ) (at c next : ℕ) (made : List Point) → IsDecoded text rest at made
    → rest ≡ encode_utf8 c ++ more → next ≡ at + length (encode_utf8 c) → IsDecoded text more next (made ++ point_at at c ∷ [])
decoded_more text rest more at c next made before split moved = record {
  utf8 = IsUtf8-past_char rest more c before.utf8 split;
  offset = offset_more;
  points = append_assoc made (point_at at c ∷ []) (points_from next (chars more))
      ∙ ap (λ n. made ++ (point_at at c ∷ points_from n (chars more))) width
      ∙ ap (λ cs. made ++ points_from at cs) (sym (chars_past_char rest more c before.utf8 split))
      ∙ before.points;
}
  where
    width : next ≡ at + len_utf8 c
    width = moved ∙ ap (λ n. at + n) (length-encode c)

    offset_more : next + length more ≡ length text
    offset_more = let e : length rest ≡ length (encode_utf8 c) + length more = ap length split ∙ length-append (encode_utf8 c) more in omega (arith, moved, e, before.offset)

-- one more point, pushed with its places
pub decoded_pushed : (text rest more : List ℕ) (at c next start end : ℕ) (made now : List Point) → IsDecoded text rest at made
    → rest ≡ encode_utf8 c ++ more → next ≡ at + length (encode_utf8 c) → start ≡ at → end ≡ start + len_utf8 c
    → now ≡ made ++ record { code = c; start = start; end = end } ∷ [] → IsDecoded text more next now
decoded_pushed text rest more at c next start end made now before split moved begins ends pushed =
    subst (λ (ps : List Point). IsDecoded text more next ps) same (decoded_more text rest more at c next made before split moved)
  where
    same : made ++ point_at at c ∷ [] ≡ now
    same = ap (λ (p : Point). made ++ p ∷ []) (point_is c at start end begins ends) ∙ sym pushed

-- all points
pub decoded_all : (text rest : List ℕ) (at : ℕ) (made : List Point) → IsDecoded text rest at made → length rest ≡ 0 → made ≡ points_from 0 (chars text)
decoded_all text [] at made before none = sym (append-nil made) ∙ ap (λ cs. made ++ points_from at cs) (sym chars-nil) ∙ before.points
decoded_all text (b ∷ bs) at made before none = absurd (omega (arith, none))

-- one more byte of ASCII, pushed with its places
pub ascii_more : (bs : List ℕ) (at c start end : ℕ) (made now : List Point) → IsAscii bs → at < length bs → made ++ points_from at (drop at bs) ≡ points_from 0 bs
    → c ≡ slice_index bs at → start ≡ at → end ≡ at + 1 → now ≡ made ++ record { code = c; start = start; end = end } ∷ []
    → now ++ points_from (at + 1) (drop (at + 1) bs) ≡ points_from 0 bs
ascii_more bs at c start end made now ascii within before code begins ends pushed =
    ap (λ ps. ps ++ points_from (at + 1) (drop (at + 1) bs)) (pushed ∙ ap (λ (p : Point). made ++ p ∷ []) (sym here))
    ∙ append_assoc made (point_at at b ∷ []) (points_from (at + 1) (drop (at + 1) bs))
    ∙ ap (λ n. made ++ (point_at at b ∷ points_from n (drop (at + 1) bs))) (sym width)
    ∙ ap (λ xs. made ++ points_from at xs) (sym (drop_more bs at 0 within))
    ∙ before
  where
    b : ℕ
    b = slice_index bs at

    one : len_utf8 b ≡ 1
    one = len_utf8_ascii b (ascii at)

    width : at + len_utf8 b ≡ at + 1
    width = ap (λ n. at + n) one

    next : end ≡ start + len_utf8 c
    next = let e : len_utf8 c ≡ 1 = ap len_utf8 code ∙ one in omega (arith, e, begins, ends)

    here : point_at at b ≡ record { code = c; start = start; end = end }
    here = ap (λ n. point_at at n) (sym code) ∙ point_is c at start end begins next

-- all bytes of ASCII
pub ascii_all : (bs : List ℕ) (at : ℕ) (made : List Point) → IsAscii bs → length bs ≤ at → made ++ points_from at (drop at bs) ≡ points_from 0 bs → made ≡ points_from 0 (chars bs)
ascii_all bs at made ascii ended before =
    sym (append-nil made) ∙ ap (λ xs. made ++ points_from at xs) (sym (drop_of_length-le bs ended)) ∙ before ∙ ap (points_from 0) (sym (chars-IsAscii bs ascii))

-- the codes of points are the code points that they were made of
pub codes_of-points_from : (at : ℕ) (cs : List ℕ) → map code_of (points_from at cs) ≡ cs
codes_of-points_from at [] = refl
codes_of-points_from at (c ∷ cs) = ap (λ more. c ∷ more) (codes_of-points_from (at + len_utf8 c) cs)

-- the points lie end to end
pub points_from_end_to_end : (at : ℕ) (cs : List ℕ) → LieEndToEnd at (points_from at cs)
points_from_end_to_end at [] = tt
points_from_end_to_end at (c ∷ cs) =
    (refl, omega (arith, (len_utf8_bounds c).0), points_from_end_to_end (at + len_utf8 c) cs)

-- of bytes that are UTF-8 the longest front is all of them
pub codes_of-utf8 : (bs : List ℕ) → IsUtf8 bs → codes_of bs ≡ chars bs
codes_of-utf8 bs u = ap chars (ap (λ n. take n bs) (utf8_valid_len-IsUtf8 bs u) ∙ take-length bs)

-- a front of UTF-8 of which no longer one is UTF-8 is spelled by the longest code points
pub spell_longest : (bs : List ℕ) (n : ℕ) → n ≤ length bs → IsUtf8 (take n bs) → ((m : ℕ) → n < m → m ≤ length bs → ¬ (IsUtf8 (take m bs)))
    → utf8_valid_len bs ≡ n → SpellLongestFront bs (codes_of bs)
spell_longest bs n within front longest valid = subst P (ap (λ m. chars (take m bs)) (sym valid)) made
  where
    P : List ℕ → Type 0
    P cs = SpellLongestFront bs cs

    spells : encode_utf8_all (chars (take n bs)) ≡ take n bs
    spells = encodes-chars (take n bs) front

    reach : length (encode_utf8_all (chars (take n bs))) ≡ n
    reach = ap length spells ∙ length-take-le n bs within

    no_longer : (others rest : List ℕ) → all_scalars others ≡ true → bs ≡ encode_utf8_all others ++ rest
        → length (encode_utf8_all others) ≤ length (encode_utf8_all (chars (take n bs)))
    no_longer others rest scalar split =
        let m = length (encode_utf8_all others) in
        let whole : length bs ≡ m + length rest = ap length split ∙ length-append (encode_utf8_all others) rest in
        let taken : encode_utf8_all others ≡ take m bs = sym (ap (λ xs. take m xs) split ∙ take-append_seam (encode_utf8_all others) rest) in
        elim (cases_order m n) as (λ _. m ≤ length (encode_utf8_all (chars (take n bs)))) [
          | inl e ↦ omega (arith, e, reach)
          | inr (inl lt) ↦ omega (arith, lt, reach)
          | inr (inr lt) ↦ absurd (longest m lt (omega (arith, whole)) (others, (scalar, taken)))
        ]

    made : SpellLongestFront bs (chars (take n bs))
    made = record {
      scalar = scalars-chars (take n bs) front;
      front = (drop n bs, sym (ap (λ xs. xs ++ drop n bs) spells ∙ take-append-drop n bs));
      longest = no_longer;
    }

-- of bytes that are UTF-8
pub spell_longest_utf8 : (bs : List ℕ) → IsUtf8 bs → SpellLongestFront bs (codes_of bs)
spell_longest_utf8 bs u = spell_longest bs (length bs) (omega arith) (subst P (sym (take-length bs)) u) (λ m lt le. absurd (omega (arith, lt, le))) (utf8_valid_len-IsUtf8 bs u)
  where
    P : List ℕ → Type 0
    P xs = IsUtf8 xs

-- of bytes that are not
pub spell_longest_fault : (bs : List ℕ) (n : ℕ) → IsValidUpTo bs n → SpellLongestFront bs (codes_of bs)
spell_longest_fault bs n v = spell_longest bs n (omega (arith, v.short)) v.front (λ m lt _. v.longest m lt) (utf8_valid_len-IsValidUpTo bs n v)

-- the points of bytes that are the text that was read
pub points-utf8 : (bs text : List ℕ) (made : List Point) → text ≡ bs → IsUtf8 bs → made ≡ points_from 0 (chars text) → made ≡ points bs
points-utf8 bs text made same u is = is ∙ ap (λ xs. points_from 0 (chars xs)) same ∙ ap (λ cs. points_from 0 cs) (sym (codes_of-utf8 bs u))

-- they spell the bytes
pub points_spell : (bs text : List ℕ) (made : List Point) → text ≡ bs → IsUtf8 bs → made ≡ points_from 0 (chars text) → encode_utf8_all (map code_of made) ≡ bs
points_spell bs text made same u is =
    ap (λ ps. encode_utf8_all (map code_of ps)) is ∙ ap encode_utf8_all (codes_of-points_from 0 (chars text)) ∙ ap (λ xs. encode_utf8_all (chars xs)) same ∙ encodes-chars bs u

-- they lie end to end
pub points_lie : (cs : List ℕ) (made : List Point) → made ≡ points_from 0 cs → LieEndToEnd 0 made
points_lie cs made is = subst (λ (ps : List Point). LieEndToEnd 0 ps) (sym is) (points_from_end_to_end 0 cs)

-- there are no more of them than bytes
pub points_few : (bs text : List ℕ) (made : List Point) → text ≡ bs → IsUtf8 bs → made ≡ points_from 0 (chars text) → length made ≤ length bs
points_few bs text made same u is =
    let codes : map code_of made ≡ chars bs = ap (map code_of) is ∙ codes_of-points_from 0 (chars text) ∙ ap chars same in
    let count : length made ≡ length (chars bs) = sym (length-map made code_of) ∙ ap length codes in
    let spelled : length (encode_utf8_all (chars bs)) ≡ length bs = ap length (encodes-chars bs u) in
    omega (arith, count, spelled, length-le-encodes (chars bs))
