-- Lexemes with their depths, at the places of a tree.
use Rattle.std.proofs.Common.{◌≡◌, ℕ, List, [], ◌∷◌, ◌++◌, length, replicate, refl, sym, ap, ◌∙◌, subst, append_assoc, true}
use Rattle.script_grammar.specs.Lexeme.{Lexeme}
use Rattle.script_grammar.specs.Pieces.{Piece, At, Gap, Pass, Is, Fits, IsBalanced, may_omit, depths}
use Rattle.grammar_parser_laws.proofs.Friendly.{first_of}

-- a lexeme, and how deep it is
pub record Marked : Type 0 where
  pub lexeme : Lexeme
  pub depth : ℕ

abbrev pub lexemes : List Marked → List Lexeme
lexemes [] = []
lexemes (x ∷ xs) = x.lexeme ∷ lexemes xs

abbrev pub marks : List Marked → List ℕ
marks [] = []
marks (x ∷ xs) = x.depth ∷ marks xs

-- what is passed over counts as not deep
abbrev pub AreShallow : List Marked → Type 0
AreShallow [] = Unit {0}
AreShallow (x ∷ xs) = (x.depth ≡ 0) × AreShallow xs

-- lexemes that stand at these places, each as deep as its place
abbrev pub Stands : List Piece → List Marked → Lexeme → Type 0
Stands [] [] n = Unit {0}
Stands [] (x ∷ w) n = ⊥
Stands (At s ∷ ps) [] n = ⊥
Stands (At s ∷ ps) (x ∷ w) n = Is s x.lexeme × (x.depth ≡ s.depth) × Stands ps w n
Stands (Gap e ∷ ps) w n = (may_omit e (first_of (lexemes w) n) ≡ true) × Stands ps w n
Stands (Pass ∷ ps) w n = (u : List Marked) × (v : List Marked) × (w ≡ u ++ v) × IsBalanced (lexemes u) × AreShallow u × Stands ps v n

pub lexemes_append : (u v : List Marked) → lexemes (u ++ v) ≡ lexemes u ++ lexemes v
lexemes_append [] v = refl
lexemes_append (x ∷ u) v = ap (λ y. x.lexeme ∷ y) (lexemes_append u v)

pub first_marked : (u v : List Marked) (n : Lexeme) → first_of (lexemes (u ++ v)) n ≡ first_of (lexemes u) (first_of (lexemes v) n)
first_marked [] v n = refl
first_marked (x ∷ u) v n = refl

-- those of two lists of places are those of the one and then those of the other
pub record Split (a b : List Piece) (w : List Marked) (n : Lexeme) : Type 0 where
  pub front : List Marked
  pub back : List Marked
  pub split : w ≡ front ++ back
  pub first : Stands a front (first_of (lexemes back) n)
  pub second : Stands b back n

pub stands_split : (a b : List Piece) (w : List Marked) (n : Lexeme) → Stands (a ++ b) w n → Split a b w n
stands_split [] b w n h = record { front = []; back = w; split = refl; first = tt; second = h }
stands_split (At s ∷ a) b [] n h = absurd h
stands_split (At s ∷ a) b (x ∷ w) n h =
    let p = stands_split a b w n h.2 in
    record { front = x ∷ p.front; back = p.back; split = ap (λ y. x ∷ y) p.split; first = (h.0, h.1, p.first); second = p.second }
stands_split (Gap e ∷ a) b w n h =
    let p = stands_split a b w n h.1 in
    record { front = p.front; back = p.back; split = p.split; first = (ap (λ y. may_omit e y) (sym (ap (λ x. first_of (lexemes x) n) p.split ∙ first_marked p.front p.back n)) ∙ h.0, p.first); second = p.second }
stands_split (Pass ∷ a) b w n h =
    let p = stands_split a b h.1 n h.5 in
    record { front = h.0 ++ p.front; back = p.back; split = h.2 ∙ ap (λ x. h.0 ++ x) p.split ∙ sym (append_assoc h.0 p.front p.back); first = (h.0, p.front, refl, h.3, h.4, p.first); second = p.second }

-- Lexemes that fit stand there, each with its depth.

abbrev pub shallow_marks : List Lexeme → List Marked
shallow_marks [] = []
shallow_marks (t ∷ ts) = record { lexeme = t; depth = 0 } ∷ shallow_marks ts

pub shallow_lexemes : (ts : List Lexeme) → lexemes (shallow_marks ts) ≡ ts
shallow_lexemes [] = refl
shallow_lexemes (t ∷ ts) = ap (λ x. t ∷ x) (shallow_lexemes ts)

shallow_depths : (ts : List Lexeme) → marks (shallow_marks ts) ≡ replicate (length ts) 0
shallow_depths [] = refl
shallow_depths (t ∷ ts) = ap (λ x. 0 ∷ x) (shallow_depths ts)

are_shallow : (ts : List Lexeme) → AreShallow (shallow_marks ts)
are_shallow [] = tt
are_shallow (t ∷ ts) = (refl, are_shallow ts)

marks_append : (u v : List Marked) → marks (u ++ v) ≡ marks u ++ marks v
marks_append [] v = refl
marks_append (x ∷ u) v = ap (λ y. x.depth ∷ y) (marks_append u v)

pub record Standing (ps : List Piece) (ts : List Lexeme) (n : Lexeme) (ds : List ℕ) : Type 0 where
  pub marked : List Marked
  pub lexemes_are : lexemes marked ≡ ts
  pub depths_are : marks marked ≡ ds
  pub stands : Stands ps marked n

pub fits_standing : (ps : List Piece) (ts : List Lexeme) (n : Lexeme) (h : Fits ps ts n) → Standing ps ts n (depths ps ts n h)
fits_standing [] [] n h = record { marked = []; lexemes_are = refl; depths_are = refl; stands = tt }
fits_standing [] (t ∷ ts) n h = absurd h
fits_standing (At s ∷ ps) [] n h = absurd h
fits_standing (At s ∷ ps) (t ∷ ts) n h =
    let r = fits_standing ps ts n h.1 in
    record { marked = record { lexeme = t; depth = s.depth } ∷ r.marked; lexemes_are = ap (λ x. t ∷ x) r.lexemes_are; depths_are = ap (λ x. s.depth ∷ x) r.depths_are; stands = (h.0, refl, r.stands) }
fits_standing (Gap e ∷ ps) [] n h =
    let r = fits_standing ps [] n h.1 in
    record { marked = r.marked; lexemes_are = r.lexemes_are; depths_are = r.depths_are; stands = (ap (λ x. may_omit e (first_of x n)) r.lexemes_are ∙ h.0, r.stands) }
fits_standing (Gap e ∷ ps) (t ∷ ts) n h =
    let r = fits_standing ps (t ∷ ts) n h.1 in
    record { marked = r.marked; lexemes_are = r.lexemes_are; depths_are = r.depths_are; stands = (ap (λ x. may_omit e (first_of x n)) r.lexemes_are ∙ h.0, r.stands) }
fits_standing (Pass ∷ ps) ts n h =
    let r = fits_standing ps h.1 n h.4 in
    record {
      marked = shallow_marks h.0 ++ r.marked;
      lexemes_are = lexemes_append (shallow_marks h.0) r.marked ∙ ap (λ x. x ++ lexemes r.marked) (shallow_lexemes h.0) ∙ ap (λ x. h.0 ++ x) r.lexemes_are ∙ sym h.2;
      depths_are = marks_append (shallow_marks h.0) r.marked ∙ ap (λ x. x ++ marks r.marked) (shallow_depths h.0) ∙ ap (λ x. replicate (length h.0) 0 ++ x) r.depths_are;
      stands = (shallow_marks h.0, r.marked, refl, subst IsBalanced (sym (shallow_lexemes h.0)) h.3, are_shallow h.0, r.stands);
    }

-- and those that stand there fit

pub stands_fit : (ps : List Piece) (w : List Marked) (n : Lexeme) → Stands ps w n → Fits ps (lexemes w) n
stands_fit [] [] n h = tt
stands_fit [] (x ∷ w) n h = absurd h
stands_fit (At s ∷ ps) [] n h = absurd h
stands_fit (At s ∷ ps) (x ∷ w) n h = (h.0, stands_fit ps w n h.2)
stands_fit (Gap e ∷ ps) [] n h = (h.0, stands_fit ps [] n h.1)
stands_fit (Gap e ∷ ps) (x ∷ w) n h = (h.0, stands_fit ps (x ∷ w) n h.1)
stands_fit (Pass ∷ ps) w n h = (lexemes h.0, lexemes h.1, ap lexemes h.2 ∙ lexemes_append h.0 h.1, h.3, stands_fit ps h.1 n h.5)
