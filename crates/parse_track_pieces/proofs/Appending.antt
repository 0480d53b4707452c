-- Pieces that are appended, and what they say.
use Rattle.std.proofs.Common.{◌≡◌, ◌∙◌, ℕ, List, [], ◌∷◌, ◌++◌, map, refl, ap}
use Rattle.script_grammar.specs.Interpretation.{Interpretation}
use Rattle.parse_track.specs.Told as told
use Rattle.parse_track.specs.Told.{inner, nothing}
use Rattle.parse_track.specs.Tells.{Text}
use Rattle.parse_track_pieces.specs.declared.piece.Piece.{Piece}
use Rattle.parse_track_pieces.specs.Pieces.{Rest, telling, says_region, piece_says, pieces_say}
use Rattle.parse_track_pieces.specs.Parts.{Appends}

pub map-same : {A : Type 0} (xs : List A) → map (λ x. x) xs ≡ xs
map-same [] = refl
map-same (x ∷ xs) = ap (λ ys. x ∷ ys) (map-same xs)

at_end : (i : Interpretation) (old : List Piece) (p : Piece) (rest : Rest) → pieces_say i (old ++ (p ∷ [])) rest ≡ pieces_say i old (piece_says i p rest)
at_end i [] p rest = refl
at_end i (x ∷ xs) p rest = ap (piece_says i x) (at_end i xs p rest)

-- one piece more
pub appended : (i : Interpretation) (old : List Piece) (p : Piece) (new : List Piece) → new ≡ old ++ (p ∷ []) → Appends i old new (piece_says i p)
appended i old p new e rest = ap (λ l. pieces_say i l rest) e ∙ at_end i old p rest

-- one piece more, by what it says
pub appended_as : (i : Interpretation) (old : List Piece) (p : Piece) (new : List Piece) (f : Rest → Rest) → new ≡ old ++ (p ∷ []) → ((rest : Rest) → piece_says i p rest ≡ f rest) → Appends i old new f
appended_as i old p new f e h rest = appended i old p new e rest ∙ ap (pieces_say i old) (h rest)

-- a region of what says the same
pub region-same : (kind : told.Region Text) (at : ℕ) (f g : Rest → Rest) → ((rest : Rest) → f rest ≡ g rest) → (rest : Rest) → says_region kind at f rest ≡ says_region kind at g rest
region-same kind at f g h rest = ap (λ x. telling x (inner kind at x.told rest.told)) (h (telling rest nothing))
