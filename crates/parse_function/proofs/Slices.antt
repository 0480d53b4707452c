-- The points of a part of a file that begins and ends between two code points.
use Rattle.std.proofs.Common.{◌≡◌, ◌∙◌, ℕ, ◌+◌, ◌-◌, ◌≤◌, List, [], ◌∷◌, ◌++◌, length, take, drop, Bool, true, false, cond, refl, sym, ap, arith, length-append}
use Rattle.std.specs.Prelude.{nat_lt, nat_le, ◌&&◌}
use Rattle.std.specs.Char.{len_utf8, encode_utf8}
use Rattle.std.specs.Str.{IsUtf8, chars, all_scalars, encode_utf8_all}
use Rattle.std.proofs.Math.Seq.{take-append_seam}
use Rattle.std.proofs.lemmas.Bool.{le-leb, lt-leb, le-ltb, lt-ltb}
use Rattle.std.proofs.lemmas.List.{append-nil}
use Rattle.std.proofs.lemmas.List.Elements.{filter-append}
use Rattle.std.proofs.lemmas.Str.{chars-encodes, encodes-append, encodes-chars, scalars-chars, length-encode, len_utf8_bounds}
use Rattle.unit_text.specs.declared.Point.{Point}
use Rattle.unit_text.specs.Points.{points_from}
use Rattle.script_scanner.specs.Tokens.{part}

-- how many bytes code points take
abbrev pub size : List ℕ → ℕ
size cs = length (encode_utf8_all cs)

pub size_more : (c : ℕ) (cs : List ℕ) → size (c ∷ cs) ≡ len_utf8 c + size cs
size_more c cs = length-append (encode_utf8 c) (encode_utf8_all cs) ∙ ap (λ n. n + size cs) (length-encode c)

pub size_append : (cs ds : List ℕ) → size (cs ++ ds) ≡ size cs + size ds
size_append cs ds = ap length (encodes-append cs ds) ∙ length-append (encode_utf8_all cs) (encode_utf8_all ds)

pub takes_some : (c : ℕ) → 1 ≤ len_utf8 c
takes_some c = let l = (len_utf8_bounds c).0 in omega (arith, l)

-- ---- points

pub points_append : (at : ℕ) (cs ds : List ℕ) → points_from at (cs ++ ds) ≡ points_from at cs ++ points_from (at + size cs) ds
points_append at [] ds = ap (λ n. points_from n ds) (omega arith)
points_append at (c ∷ cs) ds =
    let more = size_more c cs in
    let same : at + len_utf8 c + size cs ≡ at + size (c ∷ cs) = omega (arith, more) in
    ap (λ (ps : List Point). record { code = c; start = at; end = at + len_utf8 c } ∷ ps) (points_append (at + len_utf8 c) cs ds ∙ ap (λ n. points_from (at + len_utf8 c) cs ++ points_from n ds) same)

none_before : (from to at : ℕ) (cs : List ℕ) → at + size cs ≤ from → part from to (points_from at cs) ≡ []
none_before from to at [] le = refl
none_before from to at (c ∷ cs) le =
    let more = size_more c cs in
    let some = takes_some c in
    let p : Point = record { code = c; start = at; end = at + len_utf8 c } in
    let others = part from to (points_from (at + len_utf8 c) cs) in
    ap (λ x. cond (x && nat_lt at to) (p ∷ others) others) (lt-leb from at (omega (arith, le, more, some)))
    ∙ none_before from to (at + len_utf8 c) cs (omega (arith, le, more))

none_behind : (from to at : ℕ) (cs : List ℕ) → to ≤ at → part from to (points_from at cs) ≡ []
none_behind from to at [] le = refl
none_behind from to at (c ∷ cs) le = by (nat_le from at) (nat_lt at to) (le-ltb at to le) ∙ none_behind from to (at + len_utf8 c) cs (omega (arith, le))
  where
    by : (x y : Bool) → y ≡ false → cond (x && y) (record { code = c; start = at; end = at + len_utf8 c } ∷ part from to (points_from (at + len_utf8 c) cs)) (part from to (points_from (at + len_utf8 c) cs)) ≡ part from to (points_from (at + len_utf8 c) cs)
    by true true e = absurd (cc)
    by true false e = refl
    by false y e = refl

pub all_inside : (from to at : ℕ) (cs : List ℕ) → from ≤ at → at + size cs ≤ to → part from to (points_from at cs) ≡ points_from at cs
all_inside from to at [] low high = refl
all_inside from to at (c ∷ cs) low high =
    let more = size_more c cs in
    let some = takes_some c in
    let p : Point = record { code = c; start = at; end = at + len_utf8 c } in
    let others = part from to (points_from (at + len_utf8 c) cs) in
    ap (λ x. cond (x && nat_lt at to) (p ∷ others) others) (le-leb from at low)
    ∙ ap (λ x. cond x (p ∷ others) others) (lt-ltb at to (omega (arith, high, more, some)))
    ∙ ap (λ (ps : List Point). p ∷ ps) (all_inside from to (at + len_utf8 c) cs (omega (arith, low)) (omega (arith, high, more)))

-- ---- a part of the code points of a file

-- code points end at this offset
pub record IsBoundary (file : List ℕ) (n : ℕ) : Type 0 where
  pub before : List ℕ
  pub behind : List ℕ
  pub split : chars file ≡ before ++ behind
  pub is : n ≡ size before

-- these are the code points between two offsets
pub record IsSlice (file : List ℕ) (from to : ℕ) (codes : List ℕ) : Type 0 where
  pub before : List ℕ
  pub behind : List ℕ
  pub split : chars file ≡ before ++ (codes ++ behind)
  pub begins : from ≡ size before
  pub ends : to ≡ from + size codes

pub between : (b c d e : List ℕ) → b ++ c ≡ d ++ e → size b ≤ size d → (inner : List ℕ) × (d ≡ b ++ inner) × (c ≡ inner ++ e)
between [] c d e same le = (d, refl, same)
between (x ∷ b) c [] e same le = absurd (let more = size_more x b in let some = takes_some x in omega (arith, le, more, some))
between (x ∷ b) c (y ∷ d) e same le =
    let head : x ≡ y = first same in
    let here = size_more x b in
    let there = size_more y d in
    let wide : len_utf8 x ≡ len_utf8 y = ap len_utf8 head in
    let r = between b c d e (rest same) (omega (arith, le, here, there, wide)) in
    (r.0, ap (λ z. z ∷ d) (sym head) ∙ ap (λ (zs : List ℕ). x ∷ zs) r.1, r.2)
  where
    first : x ∷ (b ++ c) ≡ y ∷ (d ++ e) → x ≡ y
    first k = cc

    rest : x ∷ (b ++ c) ≡ y ∷ (d ++ e) → b ++ c ≡ d ++ e
    rest k = cc

pub slice_of : (file : List ℕ) (from to : ℕ) → IsBoundary file from → IsBoundary file to → from ≤ to → (codes : List ℕ) × IsSlice file from to codes
slice_of file from to h k le =
    let a = h.is in
    let b = k.is in
    let r = between h.before h.behind k.before k.behind (sym h.split ∙ k.split) (omega (arith, le, a, b)) in
    let whole = ap size r.1 ∙ size_append h.before r.0 in
    (r.0, record { before = h.before; behind = k.behind; split = h.split ∙ ap (λ (cs : List ℕ). h.before ++ cs) r.2; begins = h.is; ends = omega (arith, a, b, whole) })

-- all of some code points, and a part of them
pub scalars_behind : (cs ds : List ℕ) → all_scalars (cs ++ ds) ≡ true → all_scalars ds ≡ true
scalars_behind [] ds h = h
scalars_behind (c ∷ cs) ds h = scalars_behind cs ds (and_rest _ (all_scalars (cs ++ ds)) h)
  where
    and_rest : (a b : Bool) → (a && b) ≡ true → b ≡ true
    and_rest true b h = h
    and_rest false b h = absurd (cc)

scalars_before : (cs ds : List ℕ) → all_scalars (cs ++ ds) ≡ true → all_scalars cs ≡ true
scalars_before [] ds h = refl
scalars_before (c ∷ cs) ds h = both _ (all_scalars (cs ++ ds)) (all_scalars cs) h (scalars_before cs ds)
  where
    both : (a b e : Bool) → (a && b) ≡ true → (b ≡ true → e ≡ true) → (a && e) ≡ true
    both true b e h k = k h
    both false b e h k = absurd (cc)

module _ (file : List ℕ) (utf8 : IsUtf8 file) (from to : ℕ) (codes : List ℕ) (s : IsSlice file from to codes) where
  scalar : all_scalars codes ≡ true
  scalar = scalars_before codes s.behind (scalars_behind s.before (codes ++ s.behind) (ap all_scalars (sym s.split) ∙ scalars-chars file utf8))

  spelled : file ≡ encode_utf8_all s.before ++ (encode_utf8_all codes ++ encode_utf8_all s.behind)
  spelled =
      sym (encodes-chars file utf8) ∙ ap encode_utf8_all s.split ∙ encodes-append s.before (codes ++ s.behind)
      ∙ ap (λ (bs : List ℕ). encode_utf8_all s.before ++ bs) (encodes-append codes s.behind)

  pub order : from ≤ to
  order = let e = s.ends in omega (arith, e)

  pub within : to ≤ length file
  within =
      let a = s.begins in
      let b = s.ends in
      let c = ap length spelled ∙ length-append (encode_utf8_all s.before) (encode_utf8_all codes ++ encode_utf8_all s.behind) in
      let d = length-append (encode_utf8_all codes) (encode_utf8_all s.behind) in
      omega (arith, a, b, c, d)

  -- its bytes
  pub bytes_are : (bytes : List ℕ) → bytes ≡ take (to - from) (drop from file) → bytes ≡ encode_utf8_all codes
  bytes_are bytes is =
      let a = s.begins in
      let b = s.ends in
      is
      ∙ ap (λ n. take n (drop from file)) (omega (arith, b))
      ∙ ap (λ n. take (size codes) (drop n file)) a
      ∙ ap (λ (bs : List ℕ). take (size codes) (drop (size s.before) bs)) spelled
      ∙ ap (take (size codes)) (drop_seam (encode_utf8_all s.before) (encode_utf8_all codes ++ encode_utf8_all s.behind))
      ∙ take-append_seam (encode_utf8_all codes) (encode_utf8_all s.behind)
    where
      drop_seam : (xs ys : List ℕ) → drop (length xs) (xs ++ ys) ≡ ys
      drop_seam [] ys = refl
      drop_seam (x ∷ xs) ys = drop_seam xs ys

  pub bytes_utf8 : (bytes : List ℕ) → bytes ≡ take (to - from) (drop from file) → IsUtf8 bytes
  bytes_utf8 bytes is = (codes, (scalar, sym (bytes_are bytes is)))

  pub codes_are : (bytes : List ℕ) → bytes ≡ take (to - from) (drop from file) → chars bytes ≡ codes
  codes_are bytes is = ap chars (bytes_are bytes is) ∙ chars-encodes codes scalar

  -- and its points are those of the file between the two offsets
  pub points_are : part from to (points_from 0 (chars file)) ≡ points_from from codes
  points_are =
      let a = s.begins in
      let b = s.ends in
      ap (λ (cs : List ℕ). part from to (points_from 0 cs)) s.split
      ∙ ap (part from to) (points_append 0 s.before (codes ++ s.behind))
      ∙ ap (λ (n : ℕ). part from to (points_from 0 s.before ++ points_from n (codes ++ s.behind))) (omega (arith, a))
      ∙ ap (λ (ps : List Point). part from to (points_from 0 s.before ++ ps)) (points_append from codes s.behind)
      ∙ filter-append (λ p. nat_le from p.start && nat_lt p.start to) (points_from 0 s.before) (points_from from codes ++ points_from (from + size codes) s.behind)
      ∙ ap (λ (ps : List Point). ps ++ part from to (points_from from codes ++ points_from (from + size codes) s.behind)) (none_before from to 0 s.before (omega (arith, a)))
      ∙ filter-append (λ p. nat_le from p.start && nat_lt p.start to) (points_from from codes) (points_from (from + size codes) s.behind)
      ∙ ap (λ (ps : List Point). ps ++ part from to (points_from (from + size codes) s.behind)) (all_inside from to from codes (omega arith) (omega (arith, b)))
      ∙ ap (λ (ps : List Point). points_from from codes ++ ps) (none_behind from to (from + size codes) s.behind (omega (arith, b)))
      ∙ append-nil (points_from from codes)
