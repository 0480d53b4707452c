-- Places for tokens whose names are not empty.
use Rattle.std.proofs.Common.{◌≡◌, ◌≢◌, ℕ, Bool, true, false, Option, None, Some, List, [], ◌∷◌, ◌++◌, sym, subst, ◌∙◌}
use Rattle.script_grammar.specs.declared.token.Kind.TheVariants as kind
use Rattle.script_grammar.specs.declared.token.FuncForm.{FuncForm}
use Rattle.script_grammar.specs.declared.token.FuncForm.TheVariants as form
use Rattle.script_grammar.specs.declared.token.mark.TheConstants as mark
use Rattle.script_grammar.specs.Lexeme.{Lexeme}
use Rattle.script_grammar.specs.Tree.{Named}
use Rattle.script_grammar.specs.Pieces as pieces
use Rattle.script_grammar.specs.Pieces.{Wanted, Exactly, Content, whole, Piece, At, Gap, Pass, IsWanted, Has, Fits, from, glue, until, comma_piece, mark_piece}
use Rattle.script_grammar.specs.Print.{func_word, parenthesized, print_name, print_label, print_catch_param}
use Rattle.script_grammar.specs.Proper.{IsExpressionForm}
use Rattle.script_grammar.specs.NameTokens.{NamesAreFull}

abbrev pub NameFull : Wanted → Content → Type 0
NameFull (Exactly kind.Name) (pieces.text w) = w ≢ []
NameFull _ _ = Unit {0}

abbrev pub Full : List Piece → Type 0
Full [] = Unit {0}
Full (At s ∷ ps) = NameFull s.kind s.content × Full ps
Full (Gap e ∷ ps) = Full ps
Full (Pass ∷ ps) = Full ps

-- a name that may be left out
abbrev pub MaybeFull : Option Named → Type 0
MaybeFull None = Unit {0}
MaybeFull (Some n) = n.text ≢ []

-- the names of tokens stand at the places of names
slot_full : (k : Wanted) (c : Content) (t : Lexeme) → IsWanted k t.kind → Has c t → (t.kind ≡ kind.Name → t.text ≢ []) → NameFull k c
slot_full (Exactly kind.Name) (pieces.text w) t k c h = λ e. h k (c ∙ e)
slot_full _ _ t k c h = tt

names_behind : (u v : List Lexeme) → NamesAreFull (u ++ v) → NamesAreFull v
names_behind [] v h = h
names_behind (t ∷ u) v h = names_behind u v h.1

pub fits_full : (ps : List Piece) (ts : List Lexeme) (next : Lexeme) → Fits ps ts next → NamesAreFull ts → Full ps
fits_full [] [] next f h = tt
fits_full [] (t ∷ ts) next f h = absurd f
fits_full (At s ∷ ps) [] next f h = absurd f
fits_full (At s ∷ ps) (t ∷ ts) next f h = (slot_full s.kind s.content t f.0.kind f.0.content h.0, fits_full ps ts next f.1 h.1)
fits_full (Gap e ∷ ps) [] next f h = fits_full ps [] next f.1 h
fits_full (Gap e ∷ ps) (t ∷ ts) next f h = fits_full ps (t ∷ ts) next f.1 h
fits_full (Pass ∷ ps) ts next f h = fits_full ps f.1 next f.4 (names_behind f.0 f.1 (subst NamesAreFull f.2 h))

-- parts of a list of places
pub left : (xs ys : List Piece) → Full (xs ++ ys) → Full xs
left [] ys h = tt
left (At s ∷ xs) ys h = (h.0, left xs ys h.1)
left (Gap e ∷ xs) ys h = left xs ys h
left (Pass ∷ xs) ys h = left xs ys h

pub right : (xs ys : List Piece) → Full (xs ++ ys) → Full ys
right [] ys h = h
right (At s ∷ xs) ys h = right xs ys h.1
right (Gap e ∷ xs) ys h = right xs ys h
right (Pass ∷ xs) ys h = right xs ys h

pub from_full : (n : ℕ) (ps : List Piece) → Full (from n ps) → Full ps
from_full n [] h = h
from_full n (At s ∷ ps) h = h
from_full n (Gap e ∷ ps) h = h
from_full n (Pass ∷ ps) h = h

pub glue_full : (ps : List Piece) → Full (glue ps) → Full ps
glue_full [] h = h
glue_full (At s ∷ ps) h = h
glue_full (Gap e ∷ ps) h = h
glue_full (Pass ∷ ps) h = h

pub until_full : (n : ℕ) (ps : List Piece) → Full (until n ps) → Full ps
until_full n [] h = h
until_full n (At s ∷ []) h = h
until_full n (Gap e ∷ []) h = h
until_full n (Pass ∷ []) h = h
until_full n (At s ∷ q ∷ ps) h = (h.0, until_full n (q ∷ ps) h.1)
until_full n (Gap e ∷ q ∷ ps) h = until_full n (q ∷ ps) h
until_full n (Pass ∷ q ∷ ps) h = until_full n (q ∷ ps) h

pub paren_full : (bare : Bool) (start d : ℕ) (params : List Piece) (comma : Bool) → Full (parenthesized bare start d params comma) → Full params
paren_full true start d params comma h = h
paren_full false start d params comma h = left params (comma_piece comma d ++ mark_piece mark.CLOSE_PAREN d ∷ []) h.1

pub name_full : (name : Option Named) (d : ℕ) → Full (print_name name d) → MaybeFull name
name_full None d h = tt
name_full (Some n) d h = h.0

pub label_full : (name : Option Named) (d : ℕ) → Full (print_label name d) → MaybeFull name
label_full None d h = tt
label_full (Some n) d h = h.0

pub catch_full : (name : Option Named) (d : ℕ) → Full (print_catch_param name d) → MaybeFull name
catch_full None d h = tt
catch_full (Some n) d h = h.1.0

-- the name of a function expression, and what is after it
pub func_name : (f : FuncForm) (at start : ℕ) (name : Option Named) (d : ℕ) → IsExpressionForm f at start name → Full (func_word f at name d) → MaybeFull name
func_name form.Function at start name d p h = name_full name d h.1
func_name form.Arrow at start name d p h = subst MaybeFull (sym p.1) tt
func_name _ at start name d p h = absurd p
