-- The points of a file with blanks in place of spans are those of its bytes without the spans, put together, but for where they stand.
use Rattle.std.proofs.Common.{◌≡◌, ◌∙◌, ℕ, suc, ◌+◌, ◌-◌, ◌<◌, ◌≤◌, List, [], ◌∷◌, ◌++◌, length, take, drop, Bool, true, false, cond, refl, sym, ap, subst, arith, append-nil, length-append, length-drop}
use Rattle.std.specs.Prelude.{nat_lt}
use Rattle.std.specs.Char.{len_utf8}
use Rattle.std.specs.Str.{IsAscii, chars}
use Rattle.std.proofs.lemmas.Bool.{le-leb, lt-leb, ltb-true}
use Rattle.std.proofs.lemmas.List.{length-take-le}
use Rattle.std.proofs.lemmas.Str.{chars-IsAscii, len_utf8_ascii}
use Rattle.std.proofs.lemmas.Str.Ascii.{IsAscii-nil, IsAscii-cons}
use Rattle.unit_text.specs.declared.Point.{Point}
use Rattle.unit_text.specs.Points.{points_from}
use Rattle.scan_skip_laws.specs.Spans.{Span, blank}
use Rattle.parse_function.specs.Glued.{bytes_without, blank_byte, behind_span, stands_at, AreApart}
use Rattle.parse_function.specs.Without.{AreParts, points_without}
use Rattle.parse_function.proofs.MovedTokens.{Alike}
use Rattle.parse_function.proofs.Without.{parts_within}

-- a space, or none
abbrev space_if : Bool → List ℕ
space_if b = cond b (0x20 ∷ []) []

ascii_left : (xs ys : List ℕ) → IsAscii (xs ++ ys) → IsAscii xs
ascii_left [] ys h = IsAscii-nil
ascii_left (x ∷ xs) ys h = IsAscii-cons x xs (h 0) (ascii_left xs ys (λ i. h (suc i)))

ascii_right : (xs ys : List ℕ) → IsAscii (xs ++ ys) → IsAscii ys
ascii_right [] ys h = h
ascii_right (x ∷ xs) ys h = ascii_right xs ys (λ i. h (suc i))

-- ---- how parts lie

parts_order : (file : List ℕ) (from to : ℕ) (spans : List Span) → AreParts file from to spans → from ≤ to
parts_order file from to [] h = h.order
parts_order file from to (s ∷ spans) h = let a = h.0.order in let b = h.1 in let c = parts_order file s.to to spans h.2 in omega (arith, a, b, c)

pub parts_apart : (file : List ℕ) (from to : ℕ) (spans : List Span) → length file ≤ 16777215 → AreParts file from to spans → AreApart from spans
parts_apart file from to [] size h = let a = h.order in let b = h.within in omega (arith, a, b, size)
parts_apart file from to (s ∷ spans) size h = (h.0.order, h.1, (let a = parts_order file s.to to spans h.2 in let b = parts_within file s.to to spans h.2 in omega (arith, a, b, size)), parts_apart file s.to to spans size h.2)

blank_length : (from to : ℕ) → from ≤ to → length (blank_byte from to) ≤ to - from
blank_length from to le = by (nat_lt from to) refl
  where
    by : (b : Bool) → nat_lt from to ≡ b → length (space_if b) ≤ to - from
    by true e = let lt : from < to = ltb-true from to e in omega (arith, lt)
    by false e = omega arith

-- there are no more bytes than in the file
pub bytes_few : (file : List ℕ) (from to : ℕ) (spans : List Span) → AreParts file from to spans → from + length (bytes_without file from to spans) ≤ to
bytes_few file from to [] h =
    let order = h.order in let within = h.within in let behind = length-drop from file in
    let long = length-take-le (to - from) (drop from file) (omega (arith, behind, order, within)) in
    omega (arith, order, long)
bytes_few file from to (s ∷ spans) h =
    let order = h.0.order in let within = h.0.within in let behind = length-drop from file in let order' = h.1 in
    let long = length-take-le (s.from - from) (drop from file) (omega (arith, behind, order, within)) in
    let short = blank_length s.from s.to h.1 in
    let rest = bytes_few file s.to to spans h.2 in
    let a = length-append (take (s.from - from) (drop from file)) (blank_byte s.from s.to ++ bytes_without file s.to to spans) in
    let b = length-append (blank_byte s.from s.to) (bytes_without file s.to to spans) in
    omega (arith, order, order', long, short, rest, a, b)

-- ---- the bytes of a file without spans, and its points with blanks

module _ (f : ℕ → ℕ) (from to end : ℕ) (low : from ≤ end) where
  -- in front of others, points of bytes of ASCII
  bytes_alike : (cs rest : List ℕ) (glued file : ℕ) (ps : List Point) → IsAscii cs → ((i : ℕ) → i < length cs → f (glued + i) ≡ file + i) → from ≤ glued → file + length cs ≤ to
      → Alike f from to end low ps (points_from (glued + length cs) rest) → Alike f from to end low (points_from file cs ++ ps) (points_from glued (cs ++ rest))
  bytes_alike [] rest glued file ps ascii places above within h = subst (λ n. Alike f from to end low ps (points_from n rest)) (let e : glued + 0 ≡ glued = omega arith in e) h
  bytes_alike (c ∷ cs) rest glued file ps ascii places above within h =
      let one : len_utf8 c ≡ 1 = len_utf8_ascii c (ascii 0) in
      let here : f glued ≡ file = (let e : glued + 0 ≡ glued = omega arith in ap f (sym e) ∙ places 0 (omega arith) ∙ (let e' : file + 0 ≡ file = omega arith in e')) in
      let next : (i : ℕ) → i < length cs → f (glued + len_utf8 c + i) ≡ file + len_utf8 c + i = (λ i lt.
      (let a : glued + len_utf8 c + i ≡ glued + suc i = omega (arith, one) in let b : file + suc i ≡ file + len_utf8 c + i = omega (arith, one) in ap f a ∙ places (suc i) (omega (arith, lt)) ∙ b)) in
      let far : glued + length (c ∷ cs) ≡ glued + len_utf8 c + length cs = omega (arith, one) in (
        refl,
        here,
        above,
        omega (arith, within),
        bytes_alike cs rest (glued + len_utf8 c) (file + len_utf8 c) ps (λ i. ascii (suc i)) next (omega (arith, above, one)) (omega (arith, within, one)) (subst (λ n. Alike f from to end low ps (points_from n rest)) far h),
      )

  -- in front of others, a blank
  blank_alike : (b : Bool) (start stop glued : ℕ) (rest : List ℕ) (ps : List Point) → (b ≡ true → f glued ≡ start) → from ≤ glued → start ≤ to
      → Alike f from to end low ps (points_from (glued + length (space_if b)) rest)
      → Alike f from to end low (cond b (record { code = 0x20; start = start; end = stop } ∷ []) [] ++ ps) (points_from glued (space_if b ++ rest))
  blank_alike true start stop glued rest ps place above within h = (refl, place refl, above, within, h)
  blank_alike false start stop glued rest ps place above within h = subst (λ n. Alike f from to end low ps (points_from n rest)) (let e : glued + 0 ≡ glued = omega arith in e) h

  module _ (bytes : List ℕ) (whole : to ≤ length bytes) where
    part_length : (a b : ℕ) → a ≤ b → b ≤ length bytes → length (take (b - a) (drop a bytes)) ≡ b - a
    part_length a b order within = let behind = length-drop a bytes in length-take-le (b - a) (drop a bytes) (omega (arith, behind, order, within))

    pub parts_alike : (spans : List Span) (glued file : ℕ) → AreParts bytes file to spans → IsAscii (bytes_without bytes file to spans) → from ≤ glued → glued ≤ file
        → glued + length (bytes_without bytes file to spans) ≡ end → ((at : ℕ) → glued ≤ at → f at ≡ stands_at glued file spans at)
        → Alike f from to end low (points_without bytes file to spans) (points_from glued (bytes_without bytes file to spans))
    parts_alike [] glued file h ascii above below ends place =
        let order = h.order in
        let long : length (take (to - file) (drop file bytes)) ≡ to - file = part_length file to h.order h.within in
        let last : f end ≡ to = (place end (omega (arith, ends)) ∙ (let e : file + (end - glued) ≡ to = omega (arith, ends, long, order) in e)) in
        let chars_are : chars (take (to - file) (drop file bytes)) ≡ take (to - file) (drop file bytes) = chars-IsAscii (take (to - file) (drop file bytes)) ascii in
        subst (λ (cs : List ℕ). Alike f from to end low (points_from file cs) (points_from glued (take (to - file) (drop file bytes)))) (sym chars_are)
        (subst (λ (ps : List Point). Alike f from to end low ps (points_from glued (take (to - file) (drop file bytes)))) (append-nil (points_from file (take (to - file) (drop file bytes))))
        (subst (λ (cs : List ℕ). Alike f from to end low (points_from file (take (to - file) (drop file bytes)) ++ []) (points_from glued cs)) (append-nil (take (to - file) (drop file bytes)))
        (bytes_alike (take (to - file) (drop file bytes)) [] glued file [] ascii (λ i lt. place (glued + i) (omega arith) ∙ (let e : file + (glued + i - glued) ≡ file + i = omega arith in e)) above (omega (arith, long, order)) last)))
    parts_alike (s ∷ spans) glued file h ascii above below ends place =
        subst (λ (cs : List ℕ). Alike f from to end low (points_from file cs ++ (blank s.from s.to ++ points_without bytes s.to to spans)) (points_from glued (piece ++ (blank_byte s.from s.to ++ others)))) (sym chars_are)
        (bytes_alike piece (blank_byte s.from s.to ++ others) glued file (blank s.from s.to ++ points_without bytes s.to to spans) ascii_piece in_piece above (omega (arith, long, order, order', high))
        (subst (λ n. Alike f from to end low (blank s.from s.to ++ points_without bytes s.to to spans) (points_from n (blank_byte s.from s.to ++ others))) (let e : glued + (s.from - file) ≡ glued + length piece = omega (arith, long) in e)
        (blank_alike (nat_lt s.from s.to) s.from s.to (glued + (s.from - file)) others (points_without bytes s.to to spans) at_blank (omega (arith, above)) (omega (arith, order', high))
        (parts_alike spans (behind_span glued file s) s.to h.2 ascii_others (omega (arith, above)) next_below next_ends next_place))))
      where
        piece : List ℕ
        piece = take (s.from - file) (drop file bytes)

        others : List ℕ
        others = bytes_without bytes s.to to spans

        order : file ≤ s.from
        order = h.0.order

        order' : s.from ≤ s.to
        order' = h.1

        high : s.to ≤ to
        high = parts_order bytes s.to to spans h.2

        long : length piece ≡ s.from - file
        long = part_length file s.from h.0.order h.0.within

        ascii_piece : IsAscii piece
        ascii_piece = ascii_left piece (blank_byte s.from s.to ++ others) ascii

        ascii_others : IsAscii others
        ascii_others = ascii_right (blank_byte s.from s.to) others (ascii_right piece (blank_byte s.from s.to ++ others) ascii)

        chars_are : chars piece ≡ piece
        chars_are = chars-IsAscii piece ascii_piece

        -- before the span's end
        front_place : (at : ℕ) → glued ≤ at → at < behind_span glued file s → f at ≡ file + (at - glued)
        front_place at ge lt = place at ge ∙ ap (λ b. cond b (stands_at (behind_span glued file s) s.to spans at) (file + (at - glued))) (lt-leb (behind_span glued file s) at lt)

        in_piece : (i : ℕ) → i < length piece → f (glued + i) ≡ file + i
        in_piece i lt = front_place (glued + i) (omega arith) (omega (arith, lt, long)) ∙ (let e : file + (glued + i - glued) ≡ file + i = omega arith in e)

        one_blank : (b : Bool) → b ≡ true → length (space_if b) ≡ 1
        one_blank true e = refl
        one_blank false e = absurd (cc)

        at_blank : nat_lt s.from s.to ≡ true → f (glued + (s.from - file)) ≡ s.from
        at_blank e =
            let one : length (blank_byte s.from s.to) ≡ 1 = one_blank (nat_lt s.from s.to) e in
            front_place (glued + (s.from - file)) (omega arith) (omega (arith, one)) ∙ (let e' : file + (glued + (s.from - file) - glued) ≡ s.from = omega (arith, order) in e')

        next_below : behind_span glued file s ≤ s.to
        next_below = let short = blank_length s.from s.to order' in omega (arith, short, below, order, order')

        next_ends : behind_span glued file s + length others ≡ end
        next_ends =
            let a = length-append piece (blank_byte s.from s.to ++ others) in
            let b = length-append (blank_byte s.from s.to) others in
            omega (arith, a, b, long, ends)

        next_place : (at : ℕ) → behind_span glued file s ≤ at → f at ≡ stands_at (behind_span glued file s) s.to spans at
        next_place at le = place at (omega (arith, le)) ∙ ap (λ b. cond b (stands_at (behind_span glued file s) s.to spans at) (file + (at - glued))) (le-leb (behind_span glued file s) at le)
