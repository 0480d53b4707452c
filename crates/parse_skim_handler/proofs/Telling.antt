-- Pieces and functions that are put after others.
use Rattle.std.proofs.Common.{List, [], ap, refl, subst, sym, ℕ, ◌++◌, ◌∙◌, ◌∷◌, ◌≡◌}
use Rattle.std.specs.declared.alloc.Global.{Global}
use Rattle.std.specs.declared.boxed.Box.{Box}
use Rattle.std.specs.declared.vec.Vec.{Vec}
use Rattle.script_grammar.specs.Interpretation.{Interpretation}
use Rattle.parse_handlers.specs.FoundOf.{before, found_of, founds_before}
use Rattle.parse_handlers.specs.Inner.{Inner}
use Rattle.parse_handlers.specs.declared.found.FoundFunction.{FoundFunction}
use Rattle.parse_track_pieces.specs.Pieces.{Rest, piece_says, pieces_say, says_region}
use Rattle.parse_track_pieces.specs.declared.piece.Piece.{Piece}
use Rattle.parse_track_pieces.specs.declared.piece.Piece.TheVariants as piece
use Rattle.parse_track_pieces.specs.declared.piece.RegionHead.{RegionHead}
use Rattle.parse_track_pieces.proofs.Appending.{region-same}
use Rattle.parse_track_pieces.proofs.PieceEquations.{says-Inside}
use Rattle.parse_track.specs.Log.{region_of}
use Rattle.track_log_laws.specs.Spelled.{region_text}
use Rattle.parse_skim_handler.specs.Telling.{ArePartsOf, Joins, Tells, UsesBefore, use_says}
use Rattle.parse_skim_handler.specs.declared.told.Parts.{Parts}
use Rattle.parse_skim_handler.specs.declared.told.Told.TheVariants as told
use Rattle.parse_skim_handler.specs.declared.told.Told.{Told}

pub founds-then : (i : Interpretation) (xs ys : List FoundFunction) (r : Inner) → founds_before i (xs ++ ys) r ≡ founds_before i xs (founds_before i ys r)
founds-then i [] ys r = refl
founds-then i (x ∷ xs) ys r = ap (λ (rest : Inner). before (found_of i x ∷ []) rest) (founds-then i xs ys r)

pub pieces-then : (i : Interpretation) (xs ys : List Piece) (rest : Rest) → pieces_say i (xs ++ ys) rest ≡ pieces_say i xs (pieces_say i ys rest)
pieces-then i [] ys rest = refl
pieces-then i (x ∷ xs) ys rest = ap (piece_says i x) (pieces-then i xs ys rest)

-- parts that became those of `new`, where they were those of `old`
pub tells-more : (old new : Told) (opened closed : Parts) (says : Interpretation → Rest → Rest) (found : List FoundFunction)
    → ArePartsOf old opened → ArePartsOf new closed
    → ((i : Interpretation) (rest : Rest) → pieces_say i closed.pieces.items rest ≡ pieces_say i opened.pieces.items (says i rest))
    → closed.found.items ≡ opened.found.items ++ found → Tells old new says found
tells-more old new opened closed says found o n s f = record {
  says = λ i rest. sym (n.says i rest) ∙ s i rest ∙ o.says i (says i rest);
  found = sym n.found ∙ f ∙ ap (λ (l : List FoundFunction). l ++ found) o.found;
}

-- parts after a name that is used
pub used-tells : (old new : Told) (atom : ℕ) (others made : Parts) → old ≡ told.Used atom → ArePartsOf new made → UsesBefore atom others made
    → Tells old new (λ i. pieces_say i others.pieces.items) others.found.items
used-tells old new atom others made is n u =
    subst (λ (t : Told). Tells t new (λ i. pieces_say i others.pieces.items) others.found.items) (sym is) (record {
      says = λ i rest. sym (n.says i rest) ∙ u.says i rest;
      found = sym n.found ∙ u.found;
    })

-- parts after two names that are used
pub two-tell : (old new : Told) (first second : ℕ) (others rest made : Parts) → old ≡ told.Two first second → ArePartsOf new made → UsesBefore second others rest → UsesBefore first rest made
    → Tells old new (λ i. pieces_say i others.pieces.items) others.found.items
two-tell old new first second others rest made is n u v =
    subst (λ (t : Told). Tells t new (λ i. pieces_say i others.pieces.items) others.found.items) (sym is) (record {
      says = λ i r. sym (n.says i r) ∙ v.says i r ∙ ap (use_says i first) (u.says i r);
      found = sym n.found ∙ v.found ∙ u.found;
    })

-- parts after parts
pub joined-tell : (old new : Told) (some others made : Parts) → ArePartsOf old some → ArePartsOf new made → Joins some others made
    → Tells old new (λ i. pieces_say i others.pieces.items) others.found.items
joined-tell old new some others made o n j = record {
  says = λ i rest. sym (n.says i rest) ∙ j.says i rest ∙ o.says i (pieces_say i others.pieces.items rest);
  found = sym n.found ∙ j.found ∙ ap (λ (l : List FoundFunction). l ++ others.found.items) o.found;
}

-- a region, by what stands in it
pub inside-says : (i : Interpretation) (region : Box (RegionHead × Vec Piece Global) Global) (head : RegionHead) (pieces : Vec Piece Global) (inside : Rest → Rest)
    → region.value ≡ (head, pieces) → ((rest : Rest) → pieces_say i pieces.items rest ≡ inside rest)
    → (rest : Rest) → piece_says i (piece.Inside region) rest ≡ says_region (region_text i (region_of head.kind)) head.at inside rest
inside-says i region head pieces inside is h rest =
    says-Inside i region rest
    ∙ (ap (λ (v : RegionHead × Vec Piece Global). says_region (region_text i (region_of v.0.kind)) v.0.at (pieces_say i v.1.items) rest) is
    ∙ region-same (region_text i (region_of head.kind)) head.at (pieces_say i pieces.items) inside h rest)
