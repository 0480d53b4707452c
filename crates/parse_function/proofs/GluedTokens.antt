-- The tokens of a file's bytes without spans, put together, with the offsets that they have in the file.
use Rattle.std.proofs.Common.{◌≡◌, ◌∙◌, ℕ, ◌+◌, ◌≤◌, List, ◌++◌, length, map, take, drop, refl, sym, ap, subst, arith, append-nil}
use Rattle.std.specs.Str.{IsAscii, chars}
use Rattle.std.proofs.Math.ListN.{drop_of_length-le}
use Rattle.std.proofs.Math.Seq.{take-length}
use Rattle.std.proofs.lemmas.List.{length-map}
use Rattle.std.proofs.lemmas.Str.{chars-IsAscii, encodes-chars, IsUtf8-from_ascii}
use Rattle.script_grammar.specs.declared.token.Token.{Token}
use Rattle.script_scanner.specs.Stands.{StandFor, HasOneLast, GainsOnly}
use Rattle.script_scanner.specs.Tokens.{tokens}
use Rattle.unit_text.specs.Points.{points_from}
use Rattle.scan_skip_laws.specs.Spans.{Span}
use Rattle.parse_function.specs.Glued.{FitMoved, bytes_without, moved, stands_at}
use Rattle.parse_function.specs.Without.{AreParts, points_without}
use Rattle.parse_function.proofs.GluedPoints.{bytes_few, parts_alike}
use Rattle.parse_function.proofs.Lying.{LieTo, lie_all, lie_codes, lie_without}
use Rattle.parse_function.proofs.MovedTokens.{Alike, AreMoved, tokens_alike, stand_moved, fit_moved, gains_moved, last_moved}
use Rattle.parse_function.proofs.Slices.{size}
use Rattle.parse_function.proofs.Without.{parts_within}

-- the list of the tokens after the call that moves them
all_moved : (f : Token → Token) (ts seen new : List Token) (count : ℕ) → seen ≡ ts → count ≡ length seen → new ≡ map f seen → take count (new ++ drop (length new) ts) ≡ map f ts
all_moved f ts seen new count same many made =
    let long : length new ≡ length seen = ap length made ∙ length-map seen f in
    let whole : length ts ≡ length seen = ap length (sym same) in
    ap (λ (us : List Token). take count (new ++ us)) (drop_of_length-le ts {i = length new} (omega (arith, long, whole)))
    ∙ ap (take count) (append-nil new)
    ∙ ap (λ n. take n new) (many ∙ sym long)
    ∙ take-length new
    ∙ made
    ∙ ap (map f) same

module _ (file : List ℕ) (from to : ℕ) (spans : List Span) (parts : AreParts file from to spans) (short : length file ≤ 16777215) (bs : List ℕ) (is : bs ≡ bytes_without file from to spans) where
  pub few : from + length bs ≤ to
  few = let e = ap length is in let n = bytes_few file from to spans parts in omega (arith, e, n)

  pub fits : to ≤ 16777215
  fits = let w = parts_within file from to spans parts in omega (arith, w, short)

  module _ (ascii : IsAscii bs) where
    abbrev place : ℕ → ℕ
    place = stands_at from from spans

    low : from ≤ from + length bs
    low = omega arith

    alike : Alike place from to (from + length bs) low (points_without file from to spans) (points_from from (chars bs))
    alike =
        subst (λ (cs : List ℕ). Alike place from to (from + length bs) low (points_without file from to spans) (points_from from cs)) (sym is ∙ sym (chars-IsAscii bs ascii))
        (parts_alike place from to (from + length bs) low file (parts_within file from to spans parts) spans from from parts (subst IsAscii is ascii) (omega arith) (omega arith) (ap (λ (cs : List ℕ). from + length cs) (sym is)) (λ at le. refl))

    glued_lie : LieTo from (from + length bs) (points_from from (chars bs))
    glued_lie = subst (λ n. LieTo from n (points_from from (chars bs))) (ap (λ n. from + n) all) (lie_codes from (chars bs))
      where
        all : size (chars bs) ≡ length bs
        all = ap length (encodes-chars bs (IsUtf8-from_ascii bs ascii))

    scanned : AreMoved place from to (tokens (points_without file from to spans) from to) (tokens (points_from from (chars bs)) from (from + length bs))
    scanned =
        tokens_alike place from to (from + length bs) low (points_without file from to spans) (points_from from (chars bs)) alike
        (lie_all from from to (points_without file from to spans) (omega arith) (lie_without file from to spans parts))
        (lie_all from from (from + length bs) (points_from from (chars bs)) (omega arith) glued_lie)

    module _ (texts : List (List ℕ)) (ts : List Token) (stand : StandFor texts ts (tokens (points_from from (chars bs)) from (from + length bs))) where
      pub fit : (seen : List Token) → seen ≡ ts → FitMoved (stands_at from from spans) from seen
      fit seen same = subst (FitMoved place from) (sym same) (fit_moved place from to texts ts _ _ scanned stand (let f = fits in omega (arith, f)))

      pub stand_all : (seen new : List Token) (count : ℕ) → seen ≡ ts → count ≡ length seen → new ≡ map (moved (stands_at from from spans)) seen
          → StandFor texts (take count (new ++ drop (length new) ts)) (tokens (points_without file from to spans) from to)
      stand_all seen new count same many made =
          subst (λ (us : List Token). StandFor texts us (tokens (points_without file from to spans) from to)) (sym (all_moved (moved place) ts seen new count same many made))
          (stand_moved place from to texts ts _ _ scanned stand)

      pub one_last : HasOneLast ts → (seen new : List Token) (count : ℕ) → seen ≡ ts → count ≡ length seen → new ≡ map (moved (stands_at from from spans)) seen → HasOneLast (take count (new ++ drop (length new) ts))
      one_last h seen new count same many made = subst HasOneLast (sym (all_moved (moved place) ts seen new count same many made)) (last_moved place ts h)

    pub gains : (before after : List (List ℕ)) → GainsOnly before after (tokens (points_from from (chars bs)) from (from + length bs)) → GainsOnly before after (tokens (points_without file from to spans) from to)
    gains before after g = gains_moved place from to _ _ before after scanned g
