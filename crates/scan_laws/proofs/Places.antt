-- The part of a text between the place where some of its points begin and the place where they end: those points.
use Rattle.std.proofs.Common.{◌≡◌, ℕ, suc, ◌+◌, ◌≤◌, List, [], ◌∷◌, ◌++◌, Bool, true, false, cond, refl, ◌∙◌, ap, arith}
use Rattle.std.specs.Prelude.{nat_lt, nat_le, ◌&&◌}
use Rattle.std.specs.Char.{len_utf8}
use Rattle.std.proofs.lemmas.Bool.{ltb-true, ltb-false, le-leb, lt-leb, le-ltb, lt-ltb}
use Rattle.std.proofs.lemmas.List.{append-nil}
use Rattle.std.proofs.lemmas.List.Elements.{filter-append}
use Rattle.std.proofs.lemmas.Str.{len_utf8_bounds}
use Rattle.unit_text.specs.declared.Point.{Point}
use Rattle.unit_text.specs.Points.{points_from}
use Rattle.script_scanner.specs.Tokens.{place, part}

-- points whose starts rise, from this offset on, up to the end of the text
abbrev pub RiseTo : ℕ → ℕ → List Point → Type 0
RiseTo to from [] = from ≤ to
RiseTo to from (p ∷ ps) = (from ≤ p.start) × RiseTo to (suc p.start) ps

rise_lower : (to b c : ℕ) (ps : List Point) → b ≤ c → RiseTo to c ps → RiseTo to b ps
rise_lower to b c [] le h = omega (arith, le, h)
rise_lower to b c (p ∷ ps) le h = (omega (arith, le, h.0), h.1)

-- The points of a text.

abbrev PointsRise : ℕ → List Point → Type 0
PointsRise from [] = Unit {0}
PointsRise from (p ∷ ps) = (from ≤ p.start) × PointsRise (suc p.start) ps

points_lower : (b c : ℕ) (ps : List Point) → b ≤ c → PointsRise c ps → PointsRise b ps
points_lower b c [] le h = tt
points_lower b c (p ∷ ps) le h = (omega (arith, le, h.0), h.1)

pub points_rise : (at : ℕ) (codes : List ℕ) → PointsRise at (points_from at codes)
points_rise at [] = tt
points_rise at (c ∷ codes) = (omega arith, points_lower (suc at) (at + len_utf8 c) (points_from (at + len_utf8 c) codes) (let l = (len_utf8_bounds c).0 in omega (arith, l)) (points_rise (at + len_utf8 c) codes))

pub part_rises : (from to b : ℕ) (ps : List Point) → b ≤ to → PointsRise b ps → RiseTo to b (part from to ps)
part_rises from to b [] le h = le
part_rises from to b (p ∷ ps) le h = by (nat_le from p.start) (nat_lt p.start to) refl (λ f. part_rises from to (suc p.start) ps f h.1) (part_rises from to b ps le (points_lower b (suc p.start) ps (omega (arith, h.0)) h.1))
  where
    by : (x y : Bool) → nat_lt p.start to ≡ y → (suc p.start ≤ to → RiseTo to (suc p.start) (part from to ps)) → RiseTo to b (part from to ps) → RiseTo to b (cond (x && y) (p ∷ part from to ps) (part from to ps))
    by true true f taken left = (h.0, taken (ltb-true p.start to f))
    by true false f taken left = left
    by false y f taken left = left

-- a part within a part that begins at 0
pub part_within : (from to all : ℕ) (ps : List Point) → to ≤ all → part from to (part 0 all ps) ≡ part from to ps
part_within from to all [] le = refl
part_within from to all (p ∷ ps) le = ap (λ x. part from to (cond (x && nat_lt p.start all) (p ∷ part 0 all ps) (part 0 all ps))) (le-leb 0 p.start (omega arith)) ∙ by (nat_lt p.start all) refl (part_within from to all ps le)
  where
    outside : (x y : Bool) → y ≡ false → part from to ps ≡ cond (x && y) (p ∷ part from to ps) (part from to ps)
    outside true true e = absurd (cc)
    outside true false e = refl
    outside false y e = refl

    by : (b : Bool) → nat_lt p.start all ≡ b → part from to (part 0 all ps) ≡ part from to ps → part from to (cond b (p ∷ part 0 all ps) (part 0 all ps)) ≡ part from to (p ∷ ps)
    by true e k = ap (λ (qs : List Point). cond (nat_le from p.start && nat_lt p.start to) (p ∷ qs) qs) k
    by false e k = let far : all ≤ p.start = ltb-false p.start all e in k ∙ outside (nat_le from p.start) (nat_lt p.start to) (le-ltb p.start to (omega (arith, far, le)))

-- Some points in the middle.

lowest : (to b : ℕ) (before : List Point) (q : Point) (others : List Point) → RiseTo to b (before ++ q ∷ others) → b ≤ q.start
lowest to b [] q others h = h.0
lowest to b (p ∷ before) q others h = let up : suc p.start ≤ q.start = lowest to (suc p.start) before q others h.1 in omega (arith, up, h.0)

pub highest : (to b : ℕ) (front rest : List Point) → RiseTo to b (front ++ rest) → b ≤ place to rest
highest to b [] [] h = h
highest to b [] (p ∷ rest) h = h.0
highest to b (p ∷ front) rest h = let up : suc p.start ≤ place to rest = highest to (suc p.start) front rest h.1 in omega (arith, up, h.0)

pub rise_behind : (to b : ℕ) (before ps : List Point) → RiseTo to b (before ++ ps) → RiseTo to b ps
rise_behind to b [] ps h = h
rise_behind to b (p ∷ before) ps h = rise_lower to b (suc p.start) ps (omega (arith, h.0)) (rise_behind to (suc p.start) before ps h.1)

pub place_within : (to b : ℕ) (ps : List Point) → RiseTo to b ps → place to ps ≤ to
place_within to b [] h = omega arith
place_within to b (p ∷ ps) h = let up : suc p.start ≤ to = reach to (suc p.start) ps h.1 in omega (arith, up)
  where
    reach : (end c : ℕ) (qs : List Point) → RiseTo end c qs → c ≤ end
    reach end c [] g = g
    reach end c (q ∷ qs) g = let on : suc q.start ≤ end = reach end (suc q.start) qs g.1 in omega (arith, on, g.0)

none_before : (to b end : ℕ) (before : List Point) (q : Point) (others : List Point) → RiseTo to b (before ++ q ∷ others) → part q.start end before ≡ []
none_before to b end [] q others h = refl
none_before to b end (p ∷ before) q others h =
    let up : suc p.start ≤ q.start = lowest to (suc p.start) before q others h.1 in
    ap (λ x. cond (x && nat_lt p.start end) (p ∷ part q.start end before) (part q.start end before)) (lt-leb q.start p.start up) ∙ none_before to (suc p.start) end before q others h.1

all_inside : (to b from : ℕ) (front rest : List Point) → from ≤ b → RiseTo to b (front ++ rest) → part from (place to rest) front ≡ front
all_inside to b from [] rest le h = refl
all_inside to b from (p ∷ front) rest le h =
    let up : suc p.start ≤ place to rest = highest to (suc p.start) front rest h.1 in
    ap (λ x. cond (x && nat_lt p.start (place to rest)) (p ∷ part from (place to rest) front) (part from (place to rest) front)) (le-leb from p.start (omega (arith, le, h.0)))
    ∙ ap (λ x. cond x (p ∷ part from (place to rest) front) (part from (place to rest) front)) (lt-ltb p.start (place to rest) up)
    ∙ ap (λ (qs : List Point). p ∷ qs) (all_inside to (suc p.start) from front rest (omega (arith, le, h.0)) h.1)

none_behind : (to b from end : ℕ) (rest : List Point) → end ≤ b → RiseTo to b rest → part from end rest ≡ []
none_behind to b from end [] le h = refl
none_behind to b from end (p ∷ rest) le h = by (nat_le from p.start) (nat_lt p.start end) (le-ltb p.start end (omega (arith, le, h.0))) ∙ none_behind to (suc p.start) from end rest (omega (arith, le, h.0)) h.1
  where
    by : (x y : Bool) → y ≡ false → cond (x && y) (p ∷ part from end rest) (part from end rest) ≡ part from end rest
    by true true e = absurd (cc)
    by true false e = refl
    by false y e = refl

from_place : (to b : ℕ) (rest : List Point) → RiseTo to b rest → RiseTo to (place to rest) rest
from_place to b [] h = omega arith
from_place to b (p ∷ rest) h = (omega arith, h.1)

-- the part between the place where points begin and the place where they end is those points
pub part_is : (to b : ℕ) (before : List Point) (q : Point) (front rest : List Point) → RiseTo to b (before ++ (q ∷ front ++ rest)) → part q.start (place to rest) (before ++ (q ∷ front ++ rest)) ≡ q ∷ front
part_is to b before q front rest h =
    let inside : RiseTo to b (q ∷ (front ++ rest)) = rise_behind to b before (q ∷ (front ++ rest)) h in
    let behind : RiseTo to b rest = rise_behind to b (q ∷ front) rest inside in
    filter-append (λ p. nat_le q.start p.start && nat_lt p.start (place to rest)) before (q ∷ (front ++ rest))
    ∙ ap (λ (ps : List Point). ps ++ part q.start (place to rest) (q ∷ (front ++ rest))) (none_before to b (place to rest) before q (front ++ rest) h)
    ∙ filter-append (λ p. nat_le q.start p.start && nat_lt p.start (place to rest)) (q ∷ front) rest
    ∙ ap (λ (ps : List Point). ps ++ part q.start (place to rest) rest) (all_inside to q.start q.start (q ∷ front) rest (omega arith) (omega arith, inside.1))
    ∙ ap (λ (ps : List Point). (q ∷ front) ++ ps) (none_behind to (place to rest) q.start (place to rest) rest (omega arith) (from_place to b rest behind))
    ∙ append-nil (q ∷ front)
