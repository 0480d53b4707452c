-- Pieces that are cut one after another.
use Rattle.std.proofs.Common.{◌≡◌, ℕ, ◌+◌, ◌-◌, ◌<◌, ◌≤◌, List, [], ◌∷◌, ◌++◌, length, Option, Some, None, refl, ap, sym, subst, ◌∙◌, arith}
use Rattle.stencil_data.specs.MergedView.{MergedView}
use Rattle.stencil_data.specs.Views.{FunctionView}
use Rattle.script_image.specs.declared.pieces.Piece.{Piece}
use Rattle.script_image.specs.declared.pieces.Place.{Place}
use Rattle.script_image.specs.declared.pieces.Place.TheVariants as place
use Rattle.script_image.specs.declared.script_lines.Listing.{Listing}
use Rattle.script_image.specs.declared.script_lines.Listing.TheVariants as of
use Rattle.script_image.specs.Cutting.{HasPart, IsCodeOf}
use Rattle.script_image.specs.Pieces.{HasCode, IsPiece, Lead, Walks, part_at, script_count, walked}

-- one more piece
pub lead_more : (l : Listing) (merged : MergedView) (from mid to : Place) (pieces : List Piece) → Lead l merged from pieces mid → IsPiece l merged mid to → Lead l merged from (pieces ++ record { from = mid; to = to } ∷ []) to
lead_more l merged from mid to [] lead piece = (lead, piece, refl)
lead_more l merged from mid to (p ∷ pieces) lead piece = (lead.0, lead.1, lead_more l merged p.to mid to pieces lead.2 piece)

-- the same by what the list is now
pub lead_push : (l : Listing) (merged : MergedView) (from mid to : Place) (pieces now : List Piece) → now ≡ pieces ++ record { from = mid; to = to } ∷ [] → Lead l merged from pieces mid → IsPiece l merged mid to → Lead l merged from now to
lead_push l merged from mid to pieces now is lead piece = subst (λ (ps : List Piece). Lead l merged from ps to) (sym is) (lead_more l merged from mid to pieces lead piece)

-- ---- pieces of a script whose code is this

part_has : (o : Option FunctionView) (code : List ℕ) (turn : ℕ) → IsCodeOf o code → turn ≤ length code → HasCode o turn
part_has None code turn is few = absurd is
part_has (Some part) code turn is few = subst (λ (c : List ℕ). turn ≤ length c) (sym is) few

part_walks : (o : Option FunctionView) (code : List ℕ) (at turn next end count : ℕ) → IsCodeOf o code → end ≡ turn + count → end ≤ length code → next ≡ walked code at count → Walks o at turn next end
part_walks None code at turn next end count is end_is few next_is = absurd is
part_walks (Some part) code at turn next end count is end_is few next_is =
    let same : count ≡ end - turn = omega (arith, end_is) in (
      omega (arith, end_is),
      subst (λ (c : List ℕ). end ≤ length c) (sym is) few,
      next_is ∙ ap (walked code at) same ∙ ap (λ (c : List ℕ). walked c at (end - turn)) (sym is),
    )

module _ (merged : MergedView) (number : ℕ) (code : List ℕ) (part : HasPart merged number code) where
  pub begins : number < script_count merged → IsPiece of.Code merged (place.Before number) (place.Within number 0 0)
  begins there = (refl, refl, refl, refl, there, part_has (part_at merged number) code 0 part (omega arith))

  pub goes_on : (at turn next end count : ℕ) → end ≡ turn + count → end ≤ length code → next ≡ walked code at count → IsPiece of.Code merged (place.Within number at turn) (place.Within number next end)
  goes_on at turn next end count end_is few next_is = (refl, refl, part_walks (part_at merged number) code at turn next end count part end_is few next_is)

  pub ends : (at turn after : ℕ) → turn ≤ length code → after ≡ number + 1 → IsPiece of.Code merged (place.Within number at turn) (place.Before after)
  ends at turn after few is = (refl, omega (arith, is), part_has (part_at merged number) code turn part few)
