-- Lexemes that stand at places before a lexeme that follows them, as a record, so that the places are known from it.
use Rattle.std.proofs.Common.{◌≡◌, List, [], ◌∷◌, ◌++◌, subst, false}
use Rattle.script_grammar.specs.Lexeme.{Lexeme}
use Rattle.script_grammar.specs.Pieces.{Piece, At, Slot, Fits, glue}
use Rattle.grammar_parser_laws.proofs.Friendly.{first_of, Friendly}
use Rattle.grammar_parser_laws.proofs.Fitting.{FitsAll, fits_append, fits_friendly, fits_glue}

pub record FitsNext (ps : List Piece) (w : List Lexeme) (n : Lexeme) : Type 0 where
  pub is : Fits ps w n

pub none_next : {n : Lexeme} → FitsNext [] [] n
none_next = record { is = tt }

pub all_next : {ps : List Piece} {w : List Lexeme} → FitsAll ps w → (n : Lexeme) → FitsNext ps w n
all_next h n = record { is = h.before n }

pub then_all : {a b : List Piece} {u v : List Lexeme} {n : Lexeme} → FitsAll a u → FitsNext b v n → FitsNext (a ++ b) (u ++ v) n
then_all {a = a} {b = b} {u = u} {v = v} {n = n} h k = record { is = fits_append a b u v n (h.before (first_of v n)) k.is }

pub then_next : {a b : List Piece} (u v : List Lexeme) {n : Lexeme} → FitsNext a u (first_of v n) → FitsNext b v n → FitsNext (a ++ b) (u ++ v) n
then_next {a = a} {b = b} u v {n = n} h k = record { is = fits_append a b u v n h.is k.is }

-- what does not hang on the lexeme after it
pub next_all : {ps : List Piece} {w : List Lexeme} → ((n : Lexeme) → FitsNext ps w n) → FitsAll ps w
next_all h = record { before = λ n. (h n).is }

-- after these stands one lexeme
pub close_all : {ps : List Piece} {s : Slot} (w v : List Lexeme) (n : Lexeme) → FitsNext ps w (first_of v n) → FitsAll (At s ∷ []) v → FitsAll (ps ++ At s ∷ []) (w ++ v)
close_all w [] n h k = absurd (k.before n)
close_all {ps = ps} {s = s} w (t ∷ []) n h k = record { before = λ x. fits_append ps (At s ∷ []) w (t ∷ []) x h.is (k.before x) }
close_all w (t ∷ u ∷ v) n h k = absurd ((k.before n).1)

pub friendly_next : {ps : List Piece} {w : List Lexeme} {x y : Lexeme} → FitsNext ps w x → Friendly y → FitsNext ps w y
friendly_next {ps = ps} {w = w} {x = x} {y = y} h f = record { is = fits_friendly ps w x y h.is f }

pub same_next : {ps : List Piece} {u v : List Lexeme} {n : Lexeme} → u ≡ v → FitsNext ps u n → FitsNext ps v n
same_next {ps = ps} {n = n} e h = subst (λ x. FitsNext ps x n) e h

pub same_pieces : {ps qs : List Piece} {u : List Lexeme} {n : Lexeme} → ps ≡ qs → FitsNext ps u n → FitsNext qs u n
same_pieces {u = u} {n = n} e h = subst (λ x. FitsNext x u n) e h

-- the first of these stands on the line of what is before it
pub glue_all : (ps : List Piece) (t : Lexeme) (w : List Lexeme) → t.after_line ≡ false → FitsAll ps (t ∷ w) → FitsAll (glue ps) (t ∷ w)
glue_all ps t w e h = record { before = λ n. fits_glue ps t w n e (h.before n) }
