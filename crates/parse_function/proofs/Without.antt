-- The points of a part of a file with blanks in place of some bodies of its tokens, as they are made span by span.
use Rattle.std.proofs.Common.{◌≡◌, ◌≤◌, ◌∙◌, ℕ, ◌+◌, ◌-◌, List, [], ◌∷◌, ◌++◌, length, map, take, drop, refl, sym, ap, subst, arith, append_assoc}
use Rattle.std.specs.Char.{len_utf8}
use Rattle.std.specs.Str.{IsUtf8}
use Rattle.script_grammar.specs.Lexeme.{Lexeme}
use Rattle.unit_text.specs.declared.Point.{Point}
use Rattle.unit_text.specs.Points.{points_from}
use Rattle.script_scanner.specs.Tokens.{place}
use Rattle.scan_skip_laws.specs.Spans.{Span, blank, Blanked, whole, part}
use Rattle.grammar_skip_laws.specs.Holes.{Hole, all_of, hole_of, LeavesOut, nothing, keeps, skips}
use Rattle.parse_skip_laws.specs.SkippedText.{span_of}
use Rattle.parse_function.specs.Without.{IsPart, AreParts, points_between, points_without}
use Rattle.parse_function.proofs.Slices.{size, size_more, size_append, IsSlice, order, within, bytes_utf8, codes_are}
use Rattle.parse_function.proofs.Standing.{Stand, StandsAt, stands_at}

-- ---- the points of code points in two parts

record Cut (at : ℕ) (cs : List ℕ) (front behind : List Point) : Type 0 where
  codes : List ℕ
  others : List ℕ
  split : cs ≡ codes ++ others
  first : front ≡ points_from at codes
  second : behind ≡ points_from (at + size codes) others

cut : (at : ℕ) (cs : List ℕ) (front behind : List Point) → points_from at cs ≡ front ++ behind → Cut at cs front behind
cut at cs [] behind e = record { codes = []; others = cs; split = refl; first = refl; second = sym e ∙ ap (λ n. points_from n cs) (omega arith) }
cut at [] (f ∷ front) behind e = absurd (cc)
cut at (c ∷ cs) (f ∷ front) behind e =
    let head : record { code = c; start = at; end = at + len_utf8 c } ≡ f = cc in
    let tail : points_from (at + len_utf8 c) cs ≡ front ++ behind = cc in
    let r = cut (at + len_utf8 c) cs front behind tail in
    let more = size_more c r.codes in
    let wide : at + len_utf8 c + size r.codes ≡ at + size (c ∷ r.codes) = omega (arith, more) in
    record {
      codes = c ∷ r.codes;
      others = r.others;
      split = ap (λ (xs : List ℕ). c ∷ xs) r.split;
      first = ap (λ (p : Point). p ∷ front) (sym head) ∙ ap (λ (ps : List Point). record { code = c; start = at; end = at + len_utf8 c } ∷ ps) r.first;
      second = r.second ∙ ap (λ n. points_from n r.others) wide;
    }

place_codes : (to at : ℕ) (cs : List ℕ) → to ≡ at + size cs → place to (points_from at cs) ≡ at
place_codes to at [] e = omega (arith, e)
place_codes to at (c ∷ cs) e = refl

module _ (file : List ℕ) (utf8 : IsUtf8 file) (to : ℕ) where
  is_part : (at end : ℕ) (cs : List ℕ) → IsSlice file at end cs → IsPart file at end
  is_part at end cs s = record { order = order file utf8 at end cs s; within = within file utf8 at end cs s; utf8 = bytes_utf8 file utf8 at end cs s (take (end - at) (drop at file)) refl }

  between_is : (at end : ℕ) (cs : List ℕ) → IsSlice file at end cs → points_between file at end ≡ points_from at cs
  between_is at end cs s = ap (points_from at) (codes_are file utf8 at end cs s (take (end - at) (drop at file)) refl)

  -- the points of these code points, without those in the spans, can be made span by span
  pub record Made (spans : List Span) (at : ℕ) (cs : List ℕ) : Type 0 where
    pub parts : AreParts file at to spans
    pub blanked : Blanked to spans (points_from at cs) (points_without file at to spans)

  whole_made : (at : ℕ) (cs : List ℕ) → IsSlice file at to cs → Made [] at cs
  whole_made at cs s = record { parts = is_part at to cs s; blanked = subst (λ (ps : List Point). Blanked to [] (points_from at cs) ps) (sym (between_is at to cs s)) (whole (points_from at cs)) }

  span_made : (s : Span) (spans : List Span) (at : ℕ) (cs : List ℕ) → IsSlice file at to cs → (front inside rest : List Point) → points_from at cs ≡ front ++ (inside ++ rest) → place to (inside ++ rest) ≡ s.from → place to rest ≡ s.to
      → ((ds : List ℕ) → IsSlice file s.to to ds → points_from s.to ds ≡ rest → Made spans s.to ds) → Made (s ∷ spans) at cs
  span_made s spans at cs slice front inside rest e from_is to_is behind = record {
    parts = (is_part at s.from c.codes slice_front, omega (arith, from_at, to_at), made.parts);
    blanked = part s spans front inside rest (points_without file s.to to spans) (points_from at cs) (points_without file at to (s ∷ spans)) from_is to_is e left_is
        (subst (λ (ps : List Point). Blanked to spans ps (points_without file s.to to spans)) rest_is made.blanked);
  }
    where
      c : Cut at cs front (inside ++ rest)
      c = cut at cs front (inside ++ rest) e

      d : Cut (at + size c.codes) c.others inside rest
      d = cut (at + size c.codes) c.others inside rest (sym c.second)

      whole_size : size cs ≡ size c.codes + size c.others
      whole_size = ap size c.split ∙ size_append c.codes c.others

      other_size : size c.others ≡ size d.codes + size d.others
      other_size = ap size d.split ∙ size_append d.codes d.others

      from_at : s.from ≡ at + size c.codes
      from_at =
          let ends = slice.ends in
          sym from_is ∙ ap (place to) c.second ∙ place_codes to (at + size c.codes) c.others (omega (arith, ends, whole_size))

      to_at : s.to ≡ at + size c.codes + size d.codes
      to_at =
          let ends = slice.ends in
          sym to_is ∙ ap (place to) d.second ∙ place_codes to (at + size c.codes + size d.codes) d.others (omega (arith, ends, whole_size, other_size))

      slice_front : IsSlice file at s.from c.codes
      slice_front = record {
        before = slice.before;
        behind = c.others ++ slice.behind;
        split = slice.split ∙ ap (λ (xs : List ℕ). slice.before ++ (xs ++ slice.behind)) c.split ∙ ap (λ (xs : List ℕ). slice.before ++ xs) (append_assoc c.codes c.others slice.behind);
        begins = slice.begins;
        ends = from_at;
      }

      slice_rest : IsSlice file s.to to d.others
      slice_rest = record {
        before = slice.before ++ (c.codes ++ d.codes);
        behind = slice.behind;
        split = slice.split
            ∙ ap (λ (xs : List ℕ). slice.before ++ (xs ++ slice.behind)) (c.split ∙ ap (λ (xs : List ℕ). c.codes ++ xs) d.split ∙ sym (append_assoc c.codes d.codes d.others))
            ∙ ap (λ (xs : List ℕ). slice.before ++ xs) (append_assoc (c.codes ++ d.codes) d.others slice.behind)
            ∙ sym (append_assoc slice.before (c.codes ++ d.codes) (d.others ++ slice.behind));
        begins = let start = slice.begins in let a = size_append slice.before (c.codes ++ d.codes) in let b = size_append c.codes d.codes in omega (arith, start, a, b, to_at);
        ends = let ends = slice.ends in omega (arith, ends, whole_size, other_size, to_at);
      }

      rest_is : points_from s.to d.others ≡ rest
      rest_is = ap (λ n. points_from n d.others) to_at ∙ sym d.second

      made : Made spans s.to d.others
      made = behind d.others slice_rest rest_is

      left_is : points_without file at to (s ∷ spans) ≡ front ++ (blank s.from s.to ++ points_without file s.to to spans)
      left_is = ap (λ (ps : List Point). ps ++ (blank s.from s.to ++ points_without file s.to to spans)) (between_is at s.from c.codes slice_front ∙ sym c.first)

  -- So they can where the spans are bodies of tokens of which all others stand in the points.
  pub made_of : (holes : List Hole) (all left : List Lexeme) → LeavesOut holes all left → (more : List Lexeme) (at : ℕ) (cs : List ℕ) → IsSlice file at to cs → (front behind : List Point) → points_from at cs ≡ front ++ behind → Stand to behind (all ++ more)
      → Made (map span_of holes) at cs
  made_of holes all left nothing more at cs s front behind e h = whole_made at cs s
  made_of holes all left (keeps t hs ts us k) more at cs s front behind e h =
      made_of hs ts us k more at cs s (front ++ (h.0 ++ h.1)) h.2
      (e ∙ ap (λ (xs : List Point). front ++ xs) (h.3 ∙ sym (append_assoc h.0 h.1 h.2)) ∙ sym (append_assoc front (h.0 ++ h.1) h.2)) h.6
  made_of holes all left (skips b hs ts us all' left' f g k) more at cs s front behind e h =
      span_made (span_of (hole_of b)) (map span_of hs) at cs s (front ++ (o.front ++ o.here)) c.front (c.here ++ c.behind) split (ap (place to) (sym c.split) ∙ o.ends) c.begins
      (λ ds slice is. made_of hs ts us k more b.closer.start ds slice c.here c.behind is c.others)
    where
      are : all' ++ more ≡ (b.first ∷ b.more) ++ (b.opener ∷ (b.inside ++ (b.closer ∷ (ts ++ more))))
      are =
          ap (λ (xs : List Lexeme). xs ++ more) f
          ∙ append_assoc (all_of b) ts more
          ∙ append_assoc (b.first ∷ b.more) (b.opener ∷ (b.inside ++ b.closer ∷ [])) (ts ++ more)
          ∙ ap (λ (xs : List Lexeme). (b.first ∷ b.more) ++ (b.opener ∷ xs)) (append_assoc b.inside (b.closer ∷ []) (ts ++ more))

      o : StandsAt to behind b.opener (b.inside ++ (b.closer ∷ (ts ++ more)))
      o = stands_at to (b.first ∷ b.more) b.opener (b.inside ++ (b.closer ∷ (ts ++ more))) behind (subst (Stand to behind) are h)

      c : StandsAt to o.behind b.closer (ts ++ more)
      c = stands_at to b.inside b.closer (ts ++ more) o.behind o.others

      split : points_from at cs ≡ (front ++ (o.front ++ o.here)) ++ (c.front ++ (c.here ++ c.behind))
      split =
          e ∙ ap (λ (xs : List Point). front ++ xs) (o.split ∙ sym (append_assoc o.front o.here o.behind)) ∙ sym (append_assoc front (o.front ++ o.here) o.behind)
          ∙ ap (λ (xs : List Point). (front ++ (o.front ++ o.here)) ++ xs) c.split

-- ---- parts end in the file

pub parts_within : (file : List ℕ) (from to : ℕ) (spans : List Span) → AreParts file from to spans → to ≤ length file
parts_within file from to [] h = h.within
parts_within file from to (s ∷ spans) h = parts_within file s.to to spans h.2
