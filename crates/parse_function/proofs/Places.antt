-- The tokens of a file begin and end between code points, each after the one before.
use Rattle.std.proofs.Common.{◌≡◌, ◌∙◌, ℕ, zero, suc, ◌+◌, ◌≤◌, List, [], ◌∷◌, ◌++◌, map, length, drop, Bool, true, false, cond, refl, sym, ap, subst, arith, append_assoc, append-nil}
use Rattle.std.specs.Prelude.{◌||◌, ◌==◌}
use Rattle.std.specs.Char.{len_utf8}
use Rattle.std.specs.Str.{IsUtf8, chars}
use Rattle.std.proofs.lemmas.Str.{encodes-chars}
use Rattle.script_grammar.specs.Lexeme.{Lexeme}
use Rattle.unit_text.specs.declared.Point.{Point}
use Rattle.unit_text.specs.Points.{points, points_from, code_of}
use Rattle.unit_text.proofs.Decoding.{codes_of-utf8}
use Rattle.script_scanner.specs.declared.braces.Brace.{Brace}
use Rattle.script_scanner.specs.Blanks.{first_line_length}
use Rattle.script_scanner.specs.Tokens.{Lexed, Front, IsBlank, IsToken, IsNeither, front_at, place, last_token, then_tokens, tokens_within, part, without_first_line, braces_after}
use Rattle.script_scanner.specs.Lexemes.{lexeme_of, lexemes}
use Rattle.scan_laws.specs.Inside.{end_from, end_of}
use Rattle.parse_function.proofs.Slices.{size, size_more, size_append, all_inside, IsBoundary}

-- Tokens that begin and end between code points, the first not before an offset and each other not before the end of the one
-- before.
abbrev pub AllPlaced : List ℕ → ℕ → List Lexeme → Type 0
AllPlaced file b [] = Unit {0}
AllPlaced file b (t ∷ ts) = (b ≤ t.start) × (t.start ≤ t.end) × IsBoundary file t.start × IsBoundary file t.end × AllPlaced file t.end ts

module _ (file : List ℕ) (utf8 : IsUtf8 file) where
  all_bytes : size (chars file) ≡ length file
  all_bytes = ap length (encodes-chars file utf8)

  -- the points of the code points after some others, not before an offset
  record Tail (b : ℕ) (ps : List Point) : Type 0 where
    before : List ℕ
    behind : List ℕ
    split : chars file ≡ before ++ behind
    is : ps ≡ points_from (size before) behind
    above : b ≤ size before

  at_place : (b : ℕ) (ps : List Point) (t : Tail b ps) → place (length file) ps ≡ size t.before
  at_place b ps t = ap (place (length file)) t.is ∙ by t.behind t.split
    where
      by : (cs : List ℕ) → chars file ≡ t.before ++ cs → place (length file) (points_from (size t.before) cs) ≡ size t.before
      by [] e = sym all_bytes ∙ ap size (e ∙ append-nil t.before)
      by (c ∷ cs) e = refl

  is_boundary : (b : ℕ) (ps : List Point) → Tail b ps → IsBoundary file (place (length file) ps)
  is_boundary b ps t = record { before = t.before; behind = t.behind; split = t.split; is = at_place b ps t }

  -- without the first points
  drop_from : (n : ℕ) (before behind : List ℕ) → chars file ≡ before ++ behind → Tail (size before) (drop n (points_from (size before) behind))
  drop_from zero before behind e = record { before = before; behind = behind; split = e; is = refl; above = omega arith }
  drop_from (suc n) before [] e = record { before = before; behind = []; split = e; is = refl; above = omega arith }
  drop_from (suc n) before (c ∷ behind) e =
      let wide : size (before ++ c ∷ []) ≡ size before + len_utf8 c = (let a = size_append before (c ∷ []) in let b = size_more c [] in omega (arith, a, b)) in
      let r = drop_from n (before ++ c ∷ []) behind (e ∙ sym (append_assoc before (c ∷ []) behind)) in
      let t : Tail (size (before ++ c ∷ [])) (drop n (points_from (size before + len_utf8 c) behind)) = subst (λ m. Tail (size (before ++ c ∷ [])) (drop n (points_from m behind))) wide r in
      record { before = t.before; behind = t.behind; split = t.split; is = t.is; above = let up = t.above in omega (arith, wide, up) }

  drop_tail : (n b : ℕ) (ps : List Point) (t : Tail b ps) → Tail (place (length file) ps) (drop n ps)
  drop_tail n b ps t = subst (λ m. Tail m (drop n ps)) (sym (at_place b ps t)) (subst (λ (qs : List Point). Tail (size t.before) (drop n qs)) (sym t.is) (drop_from n t.before t.behind t.split))

  lower : (b c : ℕ) (ps : List Point) → b ≤ c → Tail c ps → Tail b ps
  lower b c ps le t = record { before = t.before; behind = t.behind; split = t.split; is = t.is; above = let up = t.above in omega (arith, le, up) }

  above_place : (b : ℕ) (ps : List Point) → Tail b ps → b ≤ place (length file) ps
  above_place b ps t = let here = at_place b ps t in let up = t.above in omega (arith, here, up)

  from_place : (b : ℕ) (ps : List Point) → Tail b ps → Tail (place (length file) ps) ps
  from_place b ps t = record { before = t.before; behind = t.behind; split = t.split; is = t.is; above = let here = at_place b ps t in omega (arith, here) }

  -- ---- the tokens of such points

  abbrev Placed : ℕ → List Lexed → Type 0
  Placed b ts = AllPlaced file b (map lexeme_of ts)

  last_placed : (b : ℕ) (after : Bool) (ps : List Point) → Tail b ps → Placed b (last_token (length file) after ps ∷ [])
  last_placed b after [] t = (above_place b [] t, omega arith, is_boundary b [] t, is_boundary b [] t, tt)
  last_placed b after (p ∷ ps) t = (above_place b (p ∷ ps) t, omega arith, is_boundary b (p ∷ ps) t, is_boundary b (p ∷ ps) t, tt)

  step_placed : (b : ℕ) (braces : List Brace) (after : Bool) (ps : List Point) (front : Front) (rest : List Brace → Bool → List Point → List Lexed) → Tail b ps
      → ((c : ℕ) (o : List Brace) (a : Bool) (qs : List Point) → Tail c qs → Placed c (rest o a qs)) → Placed b (then_tokens (length file) braces after ps front rest)
  step_placed b braces after ps (IsBlank blank) rest t k = k b braces (after || blank.breaks) (drop blank.length ps) (lower b (place (length file) ps) (drop blank.length ps) (above_place b ps t) (drop_tail blank.length b ps t))
  step_placed b braces after ps (IsToken piece) rest t k =
      let behind = drop_tail piece.length b ps t in (
        above_place b ps t,
        above_place (place (length file) ps) (drop piece.length ps) behind,
        is_boundary b ps t,
        is_boundary (place (length file) ps) (drop piece.length ps) behind,
        k (place (length file) (drop piece.length ps)) (braces_after braces piece.kind) false (drop piece.length ps) (from_place (place (length file) ps) (drop piece.length ps) behind),
      )
  step_placed b braces after ps IsNeither rest t k = last_placed b after ps t

  within_placed : (fuel b : ℕ) (braces : List Brace) (after : Bool) (ps : List Point) → Tail b ps → Placed b (tokens_within fuel (length file) braces after ps)
  within_placed zero b braces after ps t = tt
  within_placed (suc fuel) b braces after ps t =
      step_placed b braces after ps (front_at braces ps) (λ o a qs. tokens_within fuel (length file) o a qs) t (λ c o a qs u. within_placed fuel c o a qs u)

  all_points : part 0 (length file) (points file) ≡ points_from 0 (chars file)
  all_points =
      ap (λ (cs : List ℕ). part 0 (length file) (points_from 0 cs)) (codes_of-utf8 file utf8)
      ∙ all_inside 0 (length file) 0 (chars file) (omega arith) (let e = all_bytes in omega (arith, e))

  whole : Tail 0 (part 0 (length file) (points file))
  whole = record { before = []; behind = chars file; split = refl; is = all_points; above = omega arith }

  first_line : (b : Bool) → Tail 0 (cond b (drop (first_line_length (map code_of (part 0 (length file) (points file)))) (part 0 (length file) (points file))) (part 0 (length file) (points file)))
  first_line true =
      let n = first_line_length (map code_of (part 0 (length file) (points file))) in
      lower 0 (place (length file) (part 0 (length file) (points file))) (drop n (part 0 (length file) (points file))) (omega arith) (drop_tail n 0 (part 0 (length file) (points file)) whole)
  first_line false = whole

  pub lexemes_placed : AllPlaced file 0 (lexemes file)
  unfolding lexemes
  lexemes_placed = within_placed (suc (length (without_first_line 0 (part 0 (length file) (points file))))) 0 [] false (without_first_line 0 (part 0 (length file) (points file))) (first_line (0 == 0))

-- ---- some tokens in the middle

placed_behind : (file : List ℕ) (b : ℕ) (us ts : List Lexeme) → AllPlaced file b (us ++ ts) → (c : ℕ) × AllPlaced file c ts
placed_behind file b [] ts h = (b, h)
placed_behind file b (u ∷ us) ts h = placed_behind file u.end us ts h.4

end_placed : (file : List ℕ) (b at : ℕ) (ts vs : List Lexeme) → b ≤ at → IsBoundary file at → AllPlaced file at (ts ++ vs) → IsBoundary file (end_from at ts) × (b ≤ end_from at ts)
end_placed file b at [] vs le h k = (h, le)
end_placed file b at (t ∷ ts) vs le h k = end_placed file b t.end ts vs (let x = k.0 in let y = k.1 in omega (arith, le, x, y)) k.3 k.4

-- begin and end there too
pub record ArePlaced (file : List ℕ) (from to : ℕ) : Type 0 where
  pub begins : IsBoundary file from
  pub ends : IsBoundary file to
  pub order : from ≤ to

pub part_placed : (file : List ℕ) → IsUtf8 file → (before : List Lexeme) (first : Lexeme) (more behind : List Lexeme) → lexemes file ≡ before ++ (first ∷ more ++ behind) → ArePlaced file first.start (end_of first more)
part_placed file utf8 before first more behind e =
    let h = placed_behind file 0 before (first ∷ (more ++ behind)) (subst (AllPlaced file 0) e (lexemes_placed file utf8)) in
    let k = h.1 in
    let r = end_placed file first.start first.end more behind k.1 k.3 k.4 in
    record { begins = k.2; ends = r.0; order = r.1 }
