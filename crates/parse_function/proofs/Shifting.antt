-- Points that are set further after, one after the other.
use Rattle.std.proofs.Common.{◌≡◌, ◌∙◌, ℕ, zero, suc, ◌+◌, ◌<◌, ◌≤◌, List, [], ◌∷◌, ◌++◌, length, map, take, drop, slice_index_or, slice_set, refl, sym, ap, subst, arith, append-nil}
use Rattle.std.specs.Char.{len_utf8}
use Rattle.std.specs.Str.{IsUtf8, chars}
use Rattle.std.proofs.Math.ListN.{drop_of_length-le}
use Rattle.std.proofs.Math.Seq.{take-length}
use Rattle.std.proofs.lemmas.List.{length-map}
use Rattle.std.proofs.lemmas.Str.{encodes-chars}
use Rattle.unit_text.specs.declared.Point.{Point}
use Rattle.unit_text.specs.Points.{points, points_from}
use Rattle.unit_text.proofs.Decoding.{codes_of-utf8}
use Rattle.parse_function.specs.Shifted.{shifted, FitsShifted}
use Rattle.parse_function.proofs.Slices.{size, size_more}

module _ (f : Point → Point) (d : Point) where
  next_set : (k : ℕ) (ps : List Point) → k < length ps → slice_set (map f (take k ps) ++ drop k ps) k (f (slice_index_or (map f (take k ps) ++ drop k ps) k d)) ≡ map f (take (suc k) ps) ++ drop (suc k) ps
  next_set zero [] lt = absurd (omega (arith, lt))
  next_set zero (p ∷ ps) lt = refl
  next_set (suc k) [] lt = absurd (omega (arith, lt))
  next_set (suc k) (p ∷ ps) lt = ap (λ (qs : List Point). f p ∷ qs) (next_set k ps (omega (arith, lt)))

  pub one_more : (k : ℕ) (ps qs : List Point) → k < length ps → qs ≡ map f (take k ps) ++ drop k ps → slice_set qs k (f (slice_index_or qs k d)) ≡ map f (take (k + 1) ps) ++ drop (k + 1) ps
  one_more k ps qs lt e =
      ap (λ (rs : List Point). slice_set rs k (f (slice_index_or rs k d))) e
      ∙ next_set k ps lt
      ∙ ap (λ n. map f (take n ps) ++ drop n ps) next
    where
      next : suc k ≡ k + 1
      next = omega arith

-- ---- the points of a text

shifted_points : (by at : ℕ) (cs : List ℕ) → map (shifted by) (points_from at cs) ≡ points_from (at + by) cs
shifted_points by at [] = refl
shifted_points by at (c ∷ cs) =
    ap (λ (ps : List Point). shifted by (record { code = c; start = at; end = at + len_utf8 c }) ∷ ps) (shifted_points by (at + len_utf8 c) cs)
    ∙ ap (λ n. record { code = c; start = at + by; end = n } ∷ points_from n cs) moved
  where
    moved : at + len_utf8 c + by ≡ at + by + len_utf8 c
    moved = omega arith

starts_within : (at : ℕ) (cs : List ℕ) (k : ℕ) (d : Point) → k < length (points_from at cs) → (slice_index_or (points_from at cs) k d).start ≤ at + size cs
starts_within at [] k d lt = absurd (omega (arith, lt))
starts_within at (c ∷ cs) zero d lt = omega arith
starts_within at (c ∷ cs) (suc k) d lt = let more = size_more c cs in let rest = starts_within (at + len_utf8 c) cs k d (omega (arith, lt)) in omega (arith, more, rest)

ends_within : (at : ℕ) (cs : List ℕ) (k : ℕ) (d : Point) → k < length (points_from at cs) → (slice_index_or (points_from at cs) k d).end ≤ at + size cs
ends_within at [] k d lt = absurd (omega (arith, lt))
ends_within at (c ∷ cs) zero d lt = let more = size_more c cs in omega (arith, more)
ends_within at (c ∷ cs) (suc k) d lt = let more = size_more c cs in let rest = ends_within (at + len_utf8 c) cs k d (omega (arith, lt)) in omega (arith, more, rest)

module _ (bytes : List ℕ) (utf8 : IsUtf8 bytes) (by : ℕ) where
  points_same : points bytes ≡ points_from 0 (chars bytes)
  points_same = ap (points_from 0) (codes_of-utf8 bytes utf8)

  fits_codes : by + length bytes ≤ 16777215 → FitsShifted by (points_from 0 (chars bytes))
  fits_codes le =
      let all : size (chars bytes) ≡ length bytes = ap length (encodes-chars bytes utf8) in
      record {
        starts = λ k d lt. let w = starts_within 0 (chars bytes) k d lt in omega (arith, w, all, le);
        ends = λ k d lt. let w = ends_within 0 (chars bytes) k d lt in omega (arith, w, all, le);
      }

  pub fits : (ps seen : List Point) → by + length bytes ≤ 16777215 → ps ≡ points bytes → seen ≡ ps → FitsShifted by seen
  fits ps seen le is same = subst (FitsShifted by) (sym (same ∙ is ∙ points_same)) (fits_codes le)

  -- the list of the points after the call
  pub all_shifted : (ps seen new : List Point) (count : ℕ) → ps ≡ points bytes → seen ≡ ps → count ≡ length seen → new ≡ map (shifted by) seen → take count (new ++ drop (length new) ps) ≡ points_from by (chars bytes)
  all_shifted ps seen new count is same many made =
      let long : length new ≡ length seen = ap length made ∙ length-map seen (shifted by) in
      let whole : length ps ≡ length seen = ap length (sym same) in
      ap (λ (qs : List Point). take count (new ++ qs)) (drop_of_length-le ps {i = length new} (omega (arith, long, whole)))
      ∙ ap (take count) (append-nil new)
      ∙ ap (λ n. take n new) (many ∙ sym long)
      ∙ take-length new
      ∙ made
      ∙ ap (map (shifted by)) (same ∙ is ∙ points_same)
      ∙ shifted_points by 0 (chars bytes)
      ∙ ap (λ n. points_from n (chars bytes)) from
    where
      from : 0 + by ≡ by
      from = omega arith
