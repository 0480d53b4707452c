-- Places for tokens, where something holds of each name.
use Rattle.std.proofs.Common.{◌≡◌, ℕ, Bool, true, false, Option, None, Some, List, [], ◌∷◌, ◌++◌, sym, subst}
use Rattle.script_grammar.specs.declared.token.Kind.TheVariants as kind
use Rattle.script_grammar.specs.declared.token.FuncForm.{FuncForm}
use Rattle.script_grammar.specs.declared.token.FuncForm.TheVariants as form
use Rattle.script_grammar.specs.declared.token.mark.TheConstants as mark
use Rattle.script_grammar.specs.Lexeme.{Lexeme}
use Rattle.script_grammar.specs.Tree.{Named}
use Rattle.script_grammar.specs.Pieces as pieces
use Rattle.script_grammar.specs.Pieces.{Wanted, Exactly, Content, whole, Piece, At, Gap, Pass, IsWanted, Has, Fits, from, glue, until, comma_piece, mark_piece}
use Rattle.script_grammar.specs.Print.{func_word, parenthesized, print_name, print_catch_param}
use Rattle.script_grammar.specs.Proper.{IsExpressionForm}
use Rattle.scope_analysis.specs.DeclaredNames.{Text}
use Rattle.script_grammar.specs.NameTokens.{OfEachNameToken}

module _ (Holds : Text → Type 0) where
  abbrev pub NameHolds : Wanted → Content → Type 0
  NameHolds (Exactly kind.Name) (pieces.text w) = Holds w
  NameHolds _ _ = Unit {0}

  abbrev pub Hold : List Piece → Type 0
  Hold [] = Unit {0}
  Hold (At s ∷ ps) = NameHolds s.kind s.content × Hold ps
  Hold (Gap e ∷ ps) = Hold ps
  Hold (Pass ∷ ps) = Hold ps

  -- a name that may be left out
  abbrev pub MaybeHolds : Option Named → Type 0
  MaybeHolds None = Unit {0}
  MaybeHolds (Some n) = Holds n.text

  -- the names of tokens stand at the places of names
  slot_holds : (k : Wanted) (c : Content) (t : Lexeme) → IsWanted k t.kind → Has c t → (t.kind ≡ kind.Name → Holds t.text) → NameHolds k c
  slot_holds (Exactly kind.Name) (pieces.text w) t k c h = subst Holds c (h k)
  slot_holds _ _ t k c h = tt

  names_behind : (u v : List Lexeme) → OfEachNameToken Holds (u ++ v) → OfEachNameToken Holds v
  names_behind [] v h = h
  names_behind (t ∷ u) v h = names_behind u v h.1

  pub fits_hold : (ps : List Piece) (ts : List Lexeme) (next : Lexeme) → Fits ps ts next → OfEachNameToken Holds ts → Hold ps
  fits_hold [] [] next f h = tt
  fits_hold [] (t ∷ ts) next f h = absurd f
  fits_hold (At s ∷ ps) [] next f h = absurd f
  fits_hold (At s ∷ ps) (t ∷ ts) next f h = (slot_holds s.kind s.content t f.0.kind f.0.content h.0, fits_hold ps ts next f.1 h.1)
  fits_hold (Gap e ∷ ps) [] next f h = fits_hold ps [] next f.1 h
  fits_hold (Gap e ∷ ps) (t ∷ ts) next f h = fits_hold ps (t ∷ ts) next f.1 h
  fits_hold (Pass ∷ ps) ts next f h = fits_hold ps f.1 next f.4 (names_behind f.0 f.1 (subst (OfEachNameToken Holds) f.2 h))

  -- parts of a list of places
  pub left : (xs ys : List Piece) → Hold (xs ++ ys) → Hold xs
  left [] ys h = tt
  left (At s ∷ xs) ys h = (h.0, left xs ys h.1)
  left (Gap e ∷ xs) ys h = left xs ys h
  left (Pass ∷ xs) ys h = left xs ys h

  pub right : (xs ys : List Piece) → Hold (xs ++ ys) → Hold ys
  right [] ys h = h
  right (At s ∷ xs) ys h = right xs ys h.1
  right (Gap e ∷ xs) ys h = right xs ys h
  right (Pass ∷ xs) ys h = right xs ys h

  pub from_hold : (n : ℕ) (ps : List Piece) → Hold (from n ps) → Hold ps
  from_hold n [] h = h
  from_hold n (At s ∷ ps) h = h
  from_hold n (Gap e ∷ ps) h = h
  from_hold n (Pass ∷ ps) h = h

  pub glue_hold : (ps : List Piece) → Hold (glue ps) → Hold ps
  glue_hold [] h = h
  glue_hold (At s ∷ ps) h = h
  glue_hold (Gap e ∷ ps) h = h
  glue_hold (Pass ∷ ps) h = h

  pub until_hold : (n : ℕ) (ps : List Piece) → Hold (until n ps) → Hold ps
  until_hold n [] h = h
  until_hold n (At s ∷ []) h = h
  until_hold n (Gap e ∷ []) h = h
  until_hold n (Pass ∷ []) h = h
  until_hold n (At s ∷ q ∷ ps) h = (h.0, until_hold n (q ∷ ps) h.1)
  until_hold n (Gap e ∷ q ∷ ps) h = until_hold n (q ∷ ps) h
  until_hold n (Pass ∷ q ∷ ps) h = until_hold n (q ∷ ps) h

  pub paren_hold : (bare : Bool) (start d : ℕ) (params : List Piece) (comma : Bool) → Hold (parenthesized bare start d params comma) → Hold params
  paren_hold true start d params comma h = h
  paren_hold false start d params comma h = left params (comma_piece comma d ++ mark_piece mark.CLOSE_PAREN d ∷ []) h.1

  pub name_holds : (name : Option Named) (d : ℕ) → Hold (print_name name d) → MaybeHolds name
  name_holds None d h = tt
  name_holds (Some n) d h = h.0

  pub catch_holds : (name : Option Named) (d : ℕ) → Hold (print_catch_param name d) → MaybeHolds name
  catch_holds None d h = tt
  catch_holds (Some n) d h = h.1.0

  -- the name of a function expression, and what is after it
  pub func_name : (f : FuncForm) (at start : ℕ) (name : Option Named) (d : ℕ) → IsExpressionForm f at start name → Hold (func_word f at name d) → MaybeHolds name
  func_name form.Function at start name d p h = name_holds name d h.1
  func_name form.Arrow at start name d p h = subst MaybeHolds (sym p.1) tt
  func_name _ at start name d p h = absurd p
