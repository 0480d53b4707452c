-- What is said of parts: what is appended, and the parameters of a function.
use Rattle.std.specs.Prelude.{◌≡◌, Bool, true, false, Option, Some, None, List, [], ◌∷◌}
use Rattle.script_grammar.specs.declared.tree.Ident.{Ident}
use Rattle.script_grammar.specs.declared.node.NodeParam.{NodeParam}
use Rattle.script_grammar.specs.Interpretation.{Interpretation}
use Rattle.parse_track.specs.declared.region.Declare.{Declare}
use Rattle.parse_track_pieces.specs.declared.piece.Piece.{Piece}
use Rattle.parse_track_pieces.specs.Pieces.{Rest, says_name, pieces_say}

-- Pieces were appended that say this.
abbrev pub Appends : Interpretation → (old new : List Piece) → (Rest → Rest) → Type 0
Appends i old new says = (rest : Rest) → pieces_say i new rest ≡ pieces_say i old (says rest)

-- a name that a function declaration declares in this way
abbrev pub declares_as : Interpretation → Declare → Option Ident → Rest → Rest
declares_as i how None rest = rest
declares_as i how (Some name) rest = says_name i how name rest

abbrev pub is_some_or : {A : Type 0} → Option A → Bool → Bool
is_some_or None more = more
is_some_or (Some _) more = true

-- whether a parameter has an initializer
abbrev pub have_initializer : {E : Type 0} → List (NodeParam E) → Bool
have_initializer [] = false
have_initializer (n ∷ ns) = is_some_or n.value (have_initializer ns)
