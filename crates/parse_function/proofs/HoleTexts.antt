-- The text of a function from its start on, up to an offset inside it.
use Rattle.std.proofs.Common.{◌≡◌, ◌∙◌, ℕ, suc, ◌+◌, ◌-◌, ◌<◌, ◌≤◌, List, [], ◌∷◌, ◌++◌, length, map, take, drop, Bool, true, false, cond, refl, sym, ap, subst, arith, append_assoc, take-append-drop, length-drop}
use Rattle.std.specs.Prelude.{◌==◌}
use Rattle.std.specs.Str.{IsUtf8, chars, all_scalars, encode_utf8_all}
use Rattle.std.proofs.lemmas.Bool.{ne_eqb}
use Rattle.std.proofs.lemmas.List.{length-take, length-map}
use Rattle.std.proofs.lemmas.Str.{chars-append, chars-encodes, encodes-append, encodes-chars, scalars-chars, length-le-encodes}
use Rattle.script_grammar.specs.declared.token.FuncForm.{FuncForm}
use Rattle.script_grammar.specs.Lexeme.{Lexeme}
use Rattle.script_grammar.specs.Tree.{Stmts}
use Rattle.stencil_data.specs.declared.functions.Extent.{Extent}
use Rattle.unit_text.specs.declared.Point.{Point}
use Rattle.unit_text.specs.Points.{points, points_from, codes_of, code_of, LieEndToEnd}
use Rattle.unit_text.proofs.Decoding.{codes_of-utf8, codes_of-points_from, points_from_end_to_end}
use Rattle.script_scanner.specs.Blanks.{first_line_length}
use Rattle.script_scanner.specs.Lexemes.{lexemes}
use Rattle.script_scanner.specs.Order.{AreInOrder}
use Rattle.script_scanner.specs.Tokens.{part, place, tokens, tokens_within, without_first_line}
use Rattle.grammar_parser_specs.specs.Exprs.{last_end}
use Rattle.scan_laws.specs.Inside.{end_from, end_of}
use Rattle.scan_laws.proofs.Places.{RiseTo, points_rise, part_rises}
use Rattle.scope_analysis.specs.Functions.{Inner}
use Rattle.grammar_alone_laws.specs.Alone.{StandsAlone}
use Rattle.grammar_alone_laws.proofs.Alone.{stands_alone}
use Rattle.parse_skip_laws.specs.Read.{text_of}
use Rattle.parse_function.specs.Extents.{IsExtentOf}
use Rattle.parse_function.proofs.ClosingBraces.{Reach, drop_reach}
use Rattle.parse_function.proofs.Places.{ArePlaced, part_placed}
use Rattle.parse_function.proofs.Slices.{size, size_append, points_append, between, scalars_behind, all_inside, IsBoundary, IsSlice, slice_of, order, within, points_are}

same_end : (at : ℕ) (ts : List Lexeme) → end_from at ts ≡ last_end at ts
same_end at [] = refl
same_end at (t ∷ ts) = same_end t.end ts

drop_seam : (xs ys : List ℕ) → drop (length xs) (xs ++ ys) ≡ ys
drop_seam [] ys = refl
drop_seam (x ∷ xs) ys = drop_seam xs ys

-- ---- a part of a file whose bytes are UTF-8

module _ (file : List ℕ) (utf8 : IsUtf8 file) (from to : ℕ) (h : IsBoundary file from) (le : from ≤ to) (high : to ≤ length file) (part_utf8 : IsUtf8 (take (to - from) (drop from file))) where
  abbrev bytes : List ℕ
  bytes = take (to - from) (drop from file)

  spelled : file ≡ encode_utf8_all h.before ++ encode_utf8_all h.behind
  spelled = sym (encodes-chars file utf8) ∙ ap encode_utf8_all h.split ∙ encodes-append h.before h.behind

  behind_is : drop from file ≡ encode_utf8_all h.behind
  behind_is = ap (λ n. drop n file) h.is ∙ ap (drop (size h.before)) spelled ∙ drop_seam (encode_utf8_all h.before) (encode_utf8_all h.behind)

  scalar : all_scalars h.behind ≡ true
  scalar = scalars_behind h.before h.behind (ap all_scalars (sym h.split) ∙ scalars-chars file utf8)

  more : List ℕ
  more = chars (drop (to - from) (drop from file))

  codes_behind : h.behind ≡ chars bytes ++ more
  unfolding more
  codes_behind =
      sym (chars-encodes h.behind scalar) ∙ ap chars (sym behind_is) ∙ ap chars (sym (take-append-drop (to - from) (drop from file)))
      ∙ chars-append bytes (drop (to - from) (drop from file)) part_utf8

  pub size_is : size (chars bytes) ≡ to - from
  size_is =
      let a = ap length (encodes-chars bytes part_utf8) in
      let b = length-take (to - from) (drop from file) in
      let c = length-drop from file in
      omega (arith, a, b, c, le, high)

  pub slice_at : IsSlice file from to (chars bytes)
  slice_at = record {
    before = h.before;
    behind = more;
    split = h.split ∙ ap (λ (cs : List ℕ). h.before ++ cs) codes_behind;
    begins = h.is;
    ends = let n = size_is in omega (arith, n, le);
  }

-- the offset where it ends is one between two code points
slice_end : (file : List ℕ) (from to : ℕ) (codes : List ℕ) → IsSlice file from to codes → IsBoundary file to
slice_end file from to codes s = record {
  before = s.before ++ codes;
  behind = s.behind;
  split = s.split ∙ sym (append_assoc s.before codes s.behind);
  is = let a = s.begins in let b = s.ends in let n = size_append s.before codes in omega (arith, a, b, n);
}

-- ---- its points and its tokens

module _ (file : List ℕ) (utf8 : IsUtf8 file) (from to : ℕ) (codes : List ℕ) (s : IsSlice file from to codes) where
  pub part_is : part from to (points file) ≡ points_from from codes
  part_is = ap (λ (cs : List ℕ). part from to (points_from 0 cs)) (codes_of-utf8 file utf8) ∙ points_are file utf8 from to codes s

  part_reach : Reach to (part from to (points file))
  part_reach = record { at = from; codes = codes; are = part_is; ends = let e = s.ends in omega (arith, e) }

  pub text_reach : Reach to (text_of file from to)
  text_reach = by (from == 0)
    where
      by : (b : Bool) → Reach to (cond b (drop (first_line_length (map code_of (part from to (points file)))) (part from to (points file))) (part from to (points file)))
      by true = drop_reach to (first_line_length (map code_of (part from to (points file)))) (part from to (points file)) part_reach
      by false = part_reach

  module _ (ps : List Point) (made : ps ≡ points_from from codes) where
    pub lie_in_order : AreInOrder ps
    lie_in_order = (from, subst (LieEndToEnd from) (sym made) (points_from_end_to_end from codes))

    pub few_points : length ps ≤ to - from
    few_points =
        let many : length (points_from from codes) ≡ length codes = sym (length-map (points_from from codes) code_of) ∙ ap length (codes_of-points_from from codes) in
        let same : length ps ≡ length (points_from from codes) = ap length made in
        let least : length codes ≤ size codes = length-le-encodes codes in
        let last = s.ends in
        omega (arith, many, same, least, last)

    pub same_tokens : tokens ps from to ≡ tokens (points file) from to
    same_tokens =
        let last = s.ends in
        ap (λ (qs : List Point). tokens_within (suc (length (without_first_line from qs))) to [] false (without_first_line from qs))
        (ap (part from to) made ∙ all_inside from to from codes (omega arith) (omega (arith, last)) ∙ sym part_is)

-- ---- a function's text

module _ (file : List ℕ) (extent : Extent) (f : FuncForm) (items : Stmts) (i : Inner) (x : IsExtentOf file extent f items i) where
  pub stands : StandsAlone x.text.inner x.text.end items x.text.script i.func
  stands = stands_alone x.text.inner x.text.end items x.text.script i x.inside

  split : lexemes file ≡ stands.before ++ ((stands.first ∷ stands.rest) ++ stands.next ∷ stands.behind)
  split = x.text.split ∙ stands.split

  pub begins : extent.start ≡ stands.first.start
  begins = sym x.starts ∙ sym stands.starts

  pub ends : extent.end ≡ end_of stands.first stands.rest
  ends = sym x.ends ∙ sym stands.ends ∙ sym (same_end stands.first.end stands.rest)

  placed : ArePlaced file extent.start extent.end
  placed =
      subst (λ n. ArePlaced file n extent.end) (sym begins)
      (subst (λ n. ArePlaced file stands.first.start n) (sym ends) (part_placed file x.utf8 stands.before stands.first stands.rest (stands.next ∷ stands.behind) split))

  codes : List ℕ
  codes = (slice_of file extent.start extent.end placed.begins placed.ends placed.order).0

  slice : IsSlice file extent.start extent.end codes
  unfolding codes
  slice = (slice_of file extent.start extent.end placed.begins placed.ends placed.order).1

  pub starts_before : extent.start ≤ extent.end
  starts_before = order file x.utf8 extent.start extent.end codes slice

  pub ends_within : extent.end ≤ length file
  ends_within = within file x.utf8 extent.start extent.end codes slice

  pub whole_reach : Reach extent.end (text_of file extent.start extent.end)
  whole_reach = text_reach file x.utf8 extent.start extent.end codes slice

  -- up to an offset inside it
  module _ (to : ℕ) (le : extent.start ≤ to) (high : to ≤ extent.end) (part_utf8 : IsUtf8 (take (to - extent.start) (drop extent.start file))) where
    within_file : to ≤ length file
    within_file = let last = ends_within in omega (arith, high, last)

    abbrev front_codes : List ℕ
    front_codes = chars (take (to - extent.start) (drop extent.start file))

    pub front_slice : IsSlice file extent.start to (chars (take (to - extent.start) (drop extent.start file)))
    front_slice = slice_at file x.utf8 extent.start to placed.begins le within_file part_utf8

    -- and after it
    record Behind : Type 0 where
      others : List ℕ
      is : IsSlice file extent.start extent.end (front_codes ++ others)

    behind : Behind
    behind =
        let s = front_slice in
        let h = slice_end file extent.start to front_codes s in
        let k = placed.ends in
        let a = s.begins in
        let b = s.ends in
        let c = size_append s.before front_codes in
        let d = k.is in
        let r = between (s.before ++ front_codes) s.behind k.before k.behind (append_assoc s.before front_codes s.behind ∙ sym s.split ∙ k.split) (omega (arith, a, b, c, d, high)) in
        let n = ap size r.1 ∙ size_append (s.before ++ front_codes) r.0 in
        let m = size_append front_codes r.0 in
        record {
          others = r.0;
          is = record {
            before = s.before;
            behind = k.behind;
            split = s.split ∙ ap (λ (cs : List ℕ). s.before ++ (front_codes ++ cs)) r.2 ∙ ap (λ (cs : List ℕ). s.before ++ cs) (sym (append_assoc front_codes r.0 k.behind));
            begins = a;
            ends = omega (arith, a, b, c, d, n, m);
          };
        }

    pub text_behind : List Point
    text_behind = points_from to behind.others

    front_reaches : extent.start + size front_codes ≡ to
    front_reaches = let e = front_slice.ends in omega (arith, e)

    plain_text : (n m : ℕ) → 0 < n → text_of file n m ≡ part n m (points file)
    plain_text n m lt = ap (λ (b : Bool). cond b (drop (first_line_length (map code_of (part n m (points file)))) (part n m (points file))) (part n m (points file))) (ne_eqb n 0 (λ e. omega (arith, e, lt)))

    pub text_splits : 0 < extent.start → text_of file extent.start extent.end ≡ text_of file extent.start to ++ text_behind
    unfolding text_behind
    text_splits lt =
        plain_text extent.start extent.end lt
        ∙ part_is file x.utf8 extent.start extent.end (front_codes ++ behind.others) behind.is
        ∙ points_append extent.start front_codes behind.others
        ∙ ap (λ n. points_from extent.start front_codes ++ points_from n behind.others) front_reaches
        ∙ ap (λ (ps : List Point). ps ++ points_from to behind.others) (sym (plain_text extent.start to lt ∙ part_is file x.utf8 extent.start to front_codes front_slice))

    place_at : (cs : List ℕ) → extent.end ≡ to + size cs → place extent.end (points_from to cs) ≡ to
    place_at [] e = omega (arith, e)
    place_at (c ∷ cs) e = refl

    pub behind_reaches : place extent.end text_behind ≡ to
    unfolding text_behind
    behind_reaches = place_at behind.others (let a = behind.is.ends in let b = front_reaches in let c = size_append front_codes behind.others in omega (arith, a, b, c))

    pub front_rises : 0 < extent.start → RiseTo to 0 (text_of file extent.start to)
    front_rises lt = subst (RiseTo to 0) (sym (plain_text extent.start to lt)) (part_rises extent.start to 0 (points file) (omega arith) (points_rise 0 (codes_of file)))
