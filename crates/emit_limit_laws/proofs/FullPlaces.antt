-- What follows for parts of a print that are put together, where no name at a place is empty.
use Rattle.std.proofs.Common.{◌≢◌, ℕ, List, [], ◌∷◌, ◌++◌}
use Rattle.script_grammar.specs.Tree.{Named}
use Rattle.script_grammar.specs.Lexeme.{Lexeme}
use Rattle.script_grammar.specs.Pieces.{Piece, from, glue, until, name_piece}
use Rattle.scope_analysis.specs.DeclaredNames.{Text}
use Rattle.script_grammar.specs.NameTokens.{OfEachNameToken}
use Rattle.scope_closed_laws.proofs.Places.{Hold, left, right, from_hold, glue_hold, until_hold}
use Rattle.script_grammar.specs.NameTokens.{NamesAreFull}

abbrev pub Full : Text → Type 0
Full text = text ≢ []

pub record Given (P : Type 0) (ps : List Piece) : Type 0 where
  pub holds : Hold Full ps → P

pub given : {P : Type 0} {ps : List Piece} → P → Given P ps
given p = record { holds = λ h. p }

pub so : {P Q : Type 0} {ps : List Piece} → Given P ps → (P → Q) → Given Q ps
so a f = record { holds = λ h. f (a.holds h) }

pub both : {P Q : Type 0} {ps qs : List Piece} → Given P ps → Given Q qs → Given (P × Q) (ps ++ qs)
both {ps = ps} {qs = qs} a b = record { holds = λ h. (a.holds (left Full ps qs h), b.holds (right Full ps qs h)) }

pub before : {P : Type 0} {ps : List Piece} (qs : List Piece) → Given P ps → Given P (qs ++ ps)
before {ps = ps} qs a = record { holds = λ h. a.holds (right Full qs ps h) }

pub past : {P : Type 0} {ps : List Piece} {p : Piece} → Given P ps → Given P (p ∷ ps)
past {p = p} a = before (p ∷ []) a

pub after : {P : Type 0} {ps : List Piece} (qs : List Piece) → Given P ps → Given P (ps ++ qs)
after {ps = ps} qs a = record { holds = λ h. a.holds (left Full ps qs h) }

pub named : {P : Type 0} {ps : List Piece} {n : Named} {d : ℕ} → Given P ps → Given (Full n.text × P) (name_piece n d ∷ ps)
named a = record { holds = λ h. (h.0, a.holds h.1) }

-- what else is asked of the first or the last piece takes no name away

pub given_from : {P : Type 0} {ps : List Piece} (n : ℕ) → Given P ps → Given P (from n ps)
given_from {ps = ps} n a = record { holds = λ h. a.holds (from_hold Full n ps h) }

pub given_glue : {P : Type 0} {ps : List Piece} → Given P ps → Given P (glue ps)
given_glue {ps = ps} a = record { holds = λ h. a.holds (glue_hold Full ps h) }

pub given_until : {P : Type 0} {ps : List Piece} (n : ℕ) → Given P ps → Given P (until n ps)
given_until {ps = ps} n a = record { holds = λ h. a.holds (until_hold Full n ps h) }

-- no token that is a name is empty
pub names_full : (ts : List Lexeme) → NamesAreFull ts → OfEachNameToken Full ts
names_full [] h = tt
names_full (t ∷ ts) h = (h.0, names_full ts h.1)
