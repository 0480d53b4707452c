-- A function's extent and the points of its text, and the tokens that are left without what stands in bodies inside it: they are
-- the function with these bodies empty.
use Rattle.std.proofs.Common.{◌≡◌, ◌∙◌, ℕ, suc, ◌+◌, ◌≤◌, List, [], ◌∷◌, ◌++◌, length, map, refl, sym, ap, subst, arith, append_assoc, length-append, None, false}
use Rattle.script_grammar.specs.declared.token.FuncForm.{FuncForm}
use Rattle.script_grammar.specs.declared.token.FuncForm.TheVariants as form
use Rattle.script_grammar.specs.Lexeme.{Lexeme}
use Rattle.script_grammar.specs.Pieces.{whole}
use Rattle.script_grammar.specs.Proper.{SuitsForm}
use Rattle.script_grammar.specs.Script.{IsFunction}
use Rattle.script_grammar.specs.Tree.{Function, function, Stmts}
use Rattle.stencil_data.specs.declared.functions.Extent.{Extent}
use Rattle.unit_text.specs.declared.Point.{Point}
use Rattle.unit_text.specs.Points.{points, points_from}
use Rattle.unit_text.proofs.Decoding.{codes_of-utf8}
use Rattle.script_scanner.specs.Order.{AreInOrder}
use Rattle.script_scanner.specs.Stands.{GainsOnly}
use Rattle.script_scanner.specs.Tokens.{part, tokens, tokens_within, without_first_line}
use Rattle.script_scanner.specs.Lexemes.{lexeme_of, lexemes}
use Rattle.grammar_parser_specs.specs.Exprs.{last_end}
use Rattle.grammar_deferred_laws.proofs.AloneLaws.{one_function}
use Rattle.scope_analysis.specs.Functions.{Inner}
use Rattle.scan_laws.specs.Inside.{end_from, end_of, end_token}
use Rattle.scan_laws.proofs.Balanced.{pieces_close}
use Rattle.scan_laws.proofs.ReadAlone.{read_alone}
use Rattle.scan_skip_laws.specs.Spans.{Blanked}
use Rattle.grammar_alone_laws.specs.Alone.{nameless, at_front, StandsAlone}
use Rattle.grammar_alone_laws.proofs.Alone.{stands_alone, alone_shallow}
use Rattle.grammar_skip_laws.specs.Holes as law
use Rattle.grammar_skip_laws.specs.Holes.{LeavesOut, nothing, keeps, skips}
use Rattle.grammar_skip_laws.specs.Hollow.{hollow_inside}
use Rattle.parse_skip_laws.specs.Read.{ReadSkipped, text_of}
use Rattle.parse_skip_laws.specs.SkippedText.{span_of}
use Rattle.parse_skip_laws.proofs.FunctionSkipped.{function_skipped}
use Rattle.parse_function.specs.declared.holes.Hole.{Hole}
use Rattle.parse_function.specs.Alone.{AreFunction}
use Rattle.parse_function.specs.Extents.{IsExtentOf}
use Rattle.parse_function.specs.Holes.{span_at, AreHolesOf}
use Rattle.parse_function.specs.Without.{AreParts, points_without}
use Rattle.parse_function.proofs.LeftValues.{values_left}
use Rattle.parse_function.proofs.Lying.{LieTo, lie_codes, lie_without, lie_end_to_end, lie_few, lie_all}
use Rattle.parse_function.proofs.Places.{ArePlaced, part_placed}
use Rattle.parse_function.proofs.Slices.{IsSlice, slice_of, order, within, points_are}
use Rattle.parse_function.proofs.Standing.{Stand, within_stand, none_passed, token_none_passed}
use Rattle.parse_function.proofs.Without.{Made, made_of}

same_end : (at : ℕ) (ts : List Lexeme) → end_from at ts ≡ last_end at ts
same_end at [] = refl
same_end at (t ∷ ts) = same_end t.end ts

no_script_alone : (x : Function) (g : FuncForm) (ts : List Lexeme) → AreFunction ts g x → g ≡ form.Script → ⊥
no_script_alone (function g start end name ps comma bare body) h ts t e = suits h (t.is.of.0 ∙ e) t.is.proper.1
  where
    suits : (h : FuncForm) → g ≡ form.Script → SuitsForm g ps comma → ⊥
    suits h k p = subst (λ (f : FuncForm). SuitsForm f ps comma → ⊥) (sym k) (λ q. q) p

-- tokens in front of a last one
record SameLast (xs ys : List Lexeme) (x y : Lexeme) : Type 0 where
  front : xs ≡ ys
  last : x ≡ y

none_behind : (xs : List Lexeme) (x : Lexeme) → xs ++ x ∷ [] ≡ [] → ⊥
none_behind [] x e = cc
none_behind (y ∷ xs) x e = cc

same_last : (xs ys : List Lexeme) (x y : Lexeme) → xs ++ x ∷ [] ≡ ys ++ y ∷ [] → SameLast xs ys x y
same_last [] [] x y e = record { front = refl; last = cc }
same_last [] (b ∷ ys) x y e = let none : ys ++ y ∷ [] ≡ [] = cc in absurd (none_behind ys y none)
same_last (a ∷ xs) [] x y e = let none : xs ++ x ∷ [] ≡ [] = cc in absurd (none_behind xs x none)
same_last (a ∷ xs) (b ∷ ys) x y e =
    let first : a ≡ b = cc in
    let others : xs ++ x ∷ [] ≡ ys ++ y ∷ [] = cc in
    let r = same_last xs ys x y others in
    record { front = ap (λ (t : Lexeme). t ∷ xs) first ∙ ap (λ (ts : List Lexeme). b ∷ ts) r.front; last = r.last }

-- tokens are one function
one_alone : (ts : List Lexeme) (f : FuncForm) (x y : Function) → AreFunction ts f x → AreFunction ts f y → x ≡ y
one_alone ts f x y s t =
    let same = same_last s.inner t.inner s.end t.end (sym s.split ∙ t.split) in
    one_function f 0 s.inner s.end t.end x y s.is (subst (λ (us : List Lexeme). IsFunction whole f None 0 us t.end y) (sym same.front) t.is)

-- of some tokens some are left
some_left : (holes : List law.Hole) (all us : List Lexeme) → LeavesOut holes all us → 1 ≤ length all → 1 ≤ length us
some_left holes all us nothing le = le
some_left holes all us (keeps t hs ts vs h) le = omega arith
some_left holes all us (skips b hs ts vs all' us' f g h) le = let many = ap length g in omega (arith, many)

module _ (file : List ℕ) (extent : Extent) (f : FuncForm) (items : Stmts) (i : Inner) (x : IsExtentOf file extent f items i) where
  stands : StandsAlone x.text.inner x.text.end items x.text.script i.func
  stands = stands_alone x.text.inner x.text.end items x.text.script i x.inside

  split : lexemes file ≡ stands.before ++ ((stands.first ∷ stands.rest) ++ stands.next ∷ stands.behind)
  split = x.text.split ∙ stands.split

  begins : stands.first.start ≡ extent.start
  begins = stands.starts ∙ x.starts

  ends : end_of stands.first stands.rest ≡ extent.end
  ends = same_end stands.first.end stands.rest ∙ stands.ends ∙ x.ends

  placed : ArePlaced file extent.start extent.end
  placed =
      subst (λ n. ArePlaced file n extent.end) begins
      (subst (λ n. ArePlaced file stands.first.start n) ends (part_placed file x.utf8 stands.before stands.first stands.rest (stands.next ∷ stands.behind) split))

  codes : List ℕ
  codes = (slice_of file extent.start extent.end placed.begins placed.ends placed.order).0

  slice : IsSlice file extent.start extent.end codes
  unfolding codes
  slice = (slice_of file extent.start extent.end placed.begins placed.ends placed.order).1

  -- ---- the extent in the file

  pub in_order : extent.start ≤ extent.end
  in_order = order file x.utf8 extent.start extent.end codes slice

  pub in_file : extent.end ≤ length file
  in_file = within file x.utf8 extent.start extent.end codes slice

  -- ---- its text

  text_part : part extent.start extent.end (points file) ≡ points_from extent.start codes
  text_part = ap (λ (cs : List ℕ). part extent.start extent.end (points_from 0 cs)) (codes_of-utf8 file x.utf8) ∙ points_are file x.utf8 extent.start extent.end codes slice

  tokens_are : map lexeme_of (tokens (points file) extent.start extent.end) ≡ (at_front stands.first ∷ stands.rest) ++ end_token extent.end ∷ []
  tokens_are =
      ap (λ n. map lexeme_of (tokens (points file) n extent.end)) (sym begins)
      ∙ ap (λ n. map lexeme_of (tokens (points file) stands.first.start n)) (sym ends)
      ∙ read_alone file stands.before stands.first stands.rest stands.next stands.behind
      (split ∙ sym (append_assoc stands.before (stands.first ∷ stands.rest) (stands.next ∷ stands.behind)))
      (pieces_close (stands.first ∷ stands.rest) stands.balanced)
      ∙ ap (λ n. (at_front stands.first ∷ stands.rest) ++ end_token n ∷ []) ends

  -- all of its tokens are the function
  all_function : AreFunction (map lexeme_of (tokens (points file) extent.start extent.end)) f (nameless i.func)
  all_function = subst (λ (g : FuncForm). AreFunction (map lexeme_of (tokens (points file) extent.start extent.end)) g (nameless i.func)) x.form_is (record {
    inner = at_front stands.first ∷ stands.rest;
    end = end_token extent.end;
    split = tokens_are;
    ends = refl;
    is = (stands.in_front (end_token extent.end) refl).is;
    shallow = alone_shallow x.text.inner x.text.end items x.text.script i.func stands x.text.shallow (end_token extent.end) refl;
  })

  pub no_script : f ≡ form.Script → ⊥
  no_script = no_script_alone (nameless i.func) f (map lexeme_of (tokens (points file) extent.start extent.end)) all_function

  text_stands : Stand extent.end (text_of file extent.start extent.end) (map lexeme_of (tokens (points file) extent.start extent.end))
  text_stands = within_stand (suc (length (text_of file extent.start extent.end))) extent.end [] false (text_of file extent.start extent.end)

  part_lies : LieTo extent.start extent.end (part extent.start extent.end (points file))
  part_lies =
      subst (LieTo extent.start extent.end) (sym text_part)
      (subst (λ n. LieTo extent.start n (points_from extent.start codes)) (sym slice.ends) (lie_codes extent.start codes))

  -- no first line is passed over in it
  text_is : text_of file extent.start extent.end ≡ points_from extent.start codes
  text_is =
      none_passed extent.start extent.end (part extent.start extent.end (points file)) (at_front stands.first) (stands.rest ++ end_token extent.end ∷ []) part_lies
      (subst (Stand extent.end (text_of file extent.start extent.end)) tokens_are text_stands) begins
      ∙ text_part

  -- ---- without what stands in some bodies

  module _ (holes : List Hole) (h : AreHolesOf file extent i holes) where
    r : ReadSkipped h.chosen i extent.end (text_of file extent.start extent.end)
    r = function_skipped file x.text.inner x.text.end items x.text.script x.text.split x.text.shallow i x.inside extent.start extent.end stands (sym begins) (sym ends) h.chosen

    same_all : SameLast r.all (at_front stands.first ∷ stands.rest) r.last (end_token extent.end)
    same_all = same_last r.all (at_front stands.first ∷ stands.rest) r.last (end_token extent.end) (sym r.alone ∙ tokens_are)

    all_stand : Stand extent.end (points_from extent.start codes) (r.all ++ r.last ∷ [])
    all_stand = subst (Stand extent.end (points_from extent.start codes)) r.alone (subst (λ (ps : List Point). Stand extent.end ps (map lexeme_of (tokens (points file) extent.start extent.end))) text_is text_stands)

    made : Made file x.utf8 extent.end (map span_of r.holes) extent.start codes
    made = made_of file x.utf8 extent.end r.holes r.all r.left r.leaves (r.last ∷ []) extent.start codes slice [] (points_from extent.start codes) refl all_stand

    -- the points can be made
    pub are_parts : AreParts file extent.start extent.end (map span_at holes)
    are_parts = subst (AreParts file extent.start extent.end) (h.are r) made.parts

    module _ (ps : List Point) (is : ps ≡ points_without file extent.start extent.end (map span_at holes)) where
      lies : LieTo extent.start extent.end ps
      lies = subst (LieTo extent.start extent.end) (sym is) (lie_without file extent.start extent.end (map span_at holes) are_parts)

      pub lie_in_order : AreInOrder ps
      lie_in_order = (extent.start, lie_end_to_end extent.start extent.end ps lies)

      pub few_points : extent.start + length ps ≤ extent.end
      few_points = lie_few extent.start extent.end ps lies

      blanked : Blanked extent.end (map span_of r.holes) (text_of file extent.start extent.end) ps
      blanked =
          subst (λ (qs : List Point). Blanked extent.end (map span_of r.holes) qs ps) (sym text_is)
          (subst (λ (qs : List Point). Blanked extent.end (map span_of r.holes) (points_from extent.start codes) qs) (ap (points_without file extent.start extent.end) (h.are r) ∙ sym is) made.blanked)

      within_left : map lexeme_of (tokens_within (suc (length ps)) extent.end [] false ps) ≡ r.left ++ r.last ∷ []
      within_left = r.scanned ps blanked

      two_left : 2 ≤ length (map lexeme_of (tokens_within (suc (length ps)) extent.end [] false ps))
      two_left =
          let all : length r.all ≡ length (at_front stands.first ∷ stands.rest) = ap length same_all.front in
          let some : 1 ≤ length r.left = some_left r.holes r.all r.left r.leaves (omega (arith, all)) in
          let size : length (map lexeme_of (tokens_within (suc (length ps)) extent.end [] false ps)) ≡ length r.left + 1 = ap length within_left ∙ length-append r.left (r.last ∷ []) in
          omega (arith, some, size)

      text_left : without_first_line extent.start (part extent.start extent.end ps) ≡ ps
      text_left = ap (without_first_line extent.start) (lie_all extent.start extent.start extent.end ps (omega arith) lies) ∙ token_none_passed (length ps) extent.start extent.end ps two_left

      -- the tokens that are left
      tokens_left : map lexeme_of (tokens ps extent.start extent.end) ≡ r.left ++ r.last ∷ []
      tokens_left = ap (λ (qs : List Point). map lexeme_of (tokens_within (suc (length qs)) extent.end [] false qs)) text_left ∙ within_left

      pub are_function : AreFunction (map lexeme_of (tokens ps extent.start extent.end)) f (hollow_inside h.chosen (nameless i.func))
      are_function = subst (λ (g : FuncForm). AreFunction (map lexeme_of (tokens ps extent.start extent.end)) g (hollow_inside h.chosen (nameless i.func))) x.form_is (record {
        inner = r.left;
        end = r.last;
        split = tokens_left;
        ends = ap (λ (t : Lexeme). t.kind) same_all.last;
        is = r.is;
        shallow = r.shallow;
      })

      -- and their values are values of all tokens
      pub gains_left : (before after : List (List ℕ)) → GainsOnly before after (tokens ps extent.start extent.end) → GainsOnly before after (tokens (points file) extent.start extent.end)
      gains_left before after g = values_left r.holes r.all r.left r.leaves r.last ps (points file) extent.start extent.end tokens_left r.alone before after g

-- one function at most has an extent
pub one_there : (file : List ℕ) (extent : Extent) (f : FuncForm) (items others : Stmts) (i j : Inner) → IsExtentOf file extent f items i → IsExtentOf file extent f others j → nameless i.func ≡ nameless j.func
one_there file extent f items others i j x y = one_alone (map lexeme_of (tokens (points file) extent.start extent.end)) f (nameless i.func) (nameless j.func) (all_function file extent f items i x) (all_function file extent f others j y)
