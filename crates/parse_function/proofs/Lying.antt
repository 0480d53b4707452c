-- Points that lie end to end between two offsets.
use Rattle.std.proofs.Common.{◌≡◌, ◌∙◌, ℕ, ◌+◌, ◌-◌, ◌<◌, ◌≤◌, List, [], ◌∷◌, ◌++◌, length, take, drop, Bool, true, false, cond, refl, sym, ap, subst, arith, take-append-drop, length-drop, append_assoc}
use Rattle.std.specs.Prelude.{nat_lt, ◌&&◌}
use Rattle.std.specs.Char.{len_utf8}
use Rattle.std.specs.Str.{chars}
use Rattle.std.proofs.lemmas.Bool.{le-leb, lt-ltb, ltb-true, ltb-false}
use Rattle.std.proofs.lemmas.List.{length-take-le}
use Rattle.std.proofs.lemmas.Str.{encodes-chars}
use Rattle.unit_text.specs.declared.Point.{Point}
use Rattle.unit_text.specs.Points.{points_from, LieEndToEnd}
use Rattle.script_scanner.specs.Tokens.{place, part}
use Rattle.scan_skip_laws.specs.Spans.{Span, blank}
use Rattle.parse_function.specs.Without.{IsPart, AreParts, points_between, points_without}
use Rattle.parse_function.proofs.Slices.{size, size_more, takes_some}

-- they lie end to end from one offset to another, and none is empty
abbrev pub LieTo : ℕ → ℕ → List Point → Type 0
LieTo from to [] = from ≡ to
LieTo from to (p ∷ ps) = (p.start ≡ from) × (p.start < p.end) × LieTo p.end to ps

lie_append : (a b c : ℕ) (ps qs : List Point) → LieTo a b ps → LieTo b c qs → LieTo a c (ps ++ qs)
lie_append a b c [] qs h k = subst (λ n. LieTo n c qs) (sym h) k
lie_append a b c (p ∷ ps) qs h k = (h.0, h.1, lie_append p.end b c ps qs h.2 k)

pub lie_codes : (at : ℕ) (cs : List ℕ) → LieTo at (at + size cs) (points_from at cs)
lie_codes at [] = omega arith
lie_codes at (c ∷ cs) =
    let more = size_more c cs in
    let some = takes_some c in
    let same : at + len_utf8 c + size cs ≡ at + size (c ∷ cs) = omega (arith, more) in
    (refl, omega (arith, some), subst (λ n. LieTo (at + len_utf8 c) n (points_from (at + len_utf8 c) cs)) same (lie_codes (at + len_utf8 c) cs))

lie_blank : (from to : ℕ) → from ≤ to → LieTo from to (blank from to)
lie_blank from to le = by (nat_lt from to) refl
  where
    by : (b : Bool) → nat_lt from to ≡ b → LieTo from to (cond b (record { code = 0x20; start = from; end = to } ∷ []) [])
    by true e = (refl, ltb-true from to e, refl)
    by false e = let ge : to ≤ from = ltb-false from to e in omega (arith, ge, le)

lie_part : (file : List ℕ) (from to : ℕ) → IsPart file from to → LieTo from to (points_between file from to)
lie_part file from to h = subst (λ n. LieTo from n (points_between file from to)) same (lie_codes from (chars (take (to - from) (drop from file))))
  where
    same : from + size (chars (take (to - from) (drop from file))) ≡ to
    same =
        let all : size (chars (take (to - from) (drop from file))) ≡ length (take (to - from) (drop from file)) = ap length (encodes-chars (take (to - from) (drop from file)) h.utf8) in
        let behind : length (drop from file) ≡ length file - from = length-drop from file in
        let order = h.order in
        let within = h.within in
        let many : length (take (to - from) (drop from file)) ≡ to - from = length-take-le (to - from) (drop from file) (omega (arith, behind, order, within)) in
        omega (arith, all, many, order)

pub lie_without : (file : List ℕ) (from to : ℕ) (spans : List Span) → AreParts file from to spans → LieTo from to (points_without file from to spans)
lie_without file from to [] h = lie_part file from to h
lie_without file from to (s ∷ spans) h =
    lie_append from s.from to (points_between file from s.from) (blank s.from s.to ++ points_without file s.to to spans) (lie_part file from s.from h.0)
    (lie_append s.from s.to to (blank s.from s.to) (points_without file s.to to spans) (lie_blank s.from s.to h.1) (lie_without file s.to to spans h.2))

-- ---- such points

pub lie_end_to_end : (from to : ℕ) (ps : List Point) → LieTo from to ps → LieEndToEnd from ps
lie_end_to_end from to [] h = tt
lie_end_to_end from to (p ∷ ps) h = (h.0, h.1, lie_end_to_end p.end to ps h.2)

pub lie_few : (from to : ℕ) (ps : List Point) → LieTo from to ps → from + length ps ≤ to
lie_few from to [] h = omega (arith, h)
lie_few from to (p ∷ ps) h = let rest = lie_few p.end to ps h.2 in let here = h.0 in let some = h.1 in omega (arith, rest, here, some)

-- they are all of those that begin between the two offsets
pub lie_all : (low from to : ℕ) (ps : List Point) → low ≤ from → LieTo from to ps → part low to ps ≡ ps
lie_all low from to [] le h = refl
lie_all low from to (p ∷ ps) le h =
    let rest = lie_few p.end to ps h.2 in
    let here = h.0 in
    let some = h.1 in
    ap (λ x. cond (x && nat_lt p.start to) (p ∷ part low to ps) (part low to ps)) (le-leb low p.start (omega (arith, le, here)))
    ∙ ap (λ x. cond x (p ∷ part low to ps) (part low to ps)) (lt-ltb p.start to (omega (arith, rest, some)))
    ∙ ap (λ (qs : List Point). p ∷ qs) (lie_all low p.end to ps (omega (arith, le, here, some)) h.2)

-- each of them takes a place
lie_place : (from to : ℕ) (xs ys : List Point) → LieTo from to (xs ++ ys) → from + length xs ≤ place to ys
lie_place from to [] [] h = omega (arith, h)
lie_place from to [] (y ∷ ys) h = let here = h.0 in omega (arith, here)
lie_place from to (x ∷ xs) ys h = let rest = lie_place x.end to xs ys h.2 in let here = h.0 in let some = h.1 in omega (arith, rest, here, some)

-- so nothing is left out in front of others that begin where they all do
pub lie_whole : (from to n : ℕ) (ps front others : List Point) → LieTo from to ps → drop n ps ≡ front ++ others → place to others ≡ from → drop n ps ≡ ps
lie_whole from to n ps front others h e at = none (take n ps) refl
  where
    split : ps ≡ take n ps ++ (front ++ others)
    split = sym (take-append-drop n ps) ∙ ap (λ (xs : List Point). take n ps ++ xs) e

    none : (xs : List Point) → take n ps ≡ xs → drop n ps ≡ ps
    none [] k = ap (λ (xs : List Point). xs ++ drop n ps) (sym k) ∙ take-append-drop n ps
    none (x ∷ xs) k =
        let far = lie_place from to ((x ∷ xs) ++ front) others (subst (LieTo from to) (split ∙ ap (λ (ys : List Point). ys ++ (front ++ others)) k ∙ sym (append_assoc (x ∷ xs) front others)) h) in
        absurd (omega (arith, far, at))
