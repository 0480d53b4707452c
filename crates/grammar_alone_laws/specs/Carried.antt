-- Tokens that stand at some places and are a contiguous part of those that stand at others.
use Rattle.std.specs.Prelude.{◌≡◌, ℕ, ◌+◌, ◌≤◌, List, [], ◌∷◌, ◌++◌, length, get_or}
use Rattle.script_grammar.specs.Lexeme.{Lexeme}
use Rattle.script_grammar.specs.Pieces.{Piece, At, Gap, Pass, Is, Fits, depths}

-- each of these is at most the one of the same number there; after the end of a list are zeros
abbrev pub NoDeeper : List ℕ → List ℕ → Type 0
NoDeeper ds es = (j : ℕ) → get_or ds j 0 ≤ get_or es j 0

-- Tokens that fit the first places fit the second ones, which ask no more of each token, and are no deeper.
abbrev pub Loosens : List Piece → List Piece → Type 0
Loosens [] [] = Unit {0}
Loosens (At s ∷ ps) (At r ∷ qs) = ((t : Lexeme) → Is s t → Is r t) × (r.depth ≤ s.depth) × Loosens ps qs
Loosens (Gap e ∷ ps) (Gap f ∷ qs) = (e ≡ f) × Loosens ps qs
Loosens (Pass ∷ ps) (Pass ∷ qs) = Loosens ps qs
Loosens _ _ = ⊥

pub record Looser (ps qs : List Piece) : Type 0 where
  pub places : Loosens ps qs

-- A part of these tokens that fits the second places; the token after it is the next one of the list, or the one after
-- the list. No token of it is deeper at its place there than at its place here.
pub record Part (ps : List Piece) (tokens : List Lexeme) (end : Lexeme) (fits : Fits ps tokens end) (qs : List Piece) : Type 0 where
  pub before : List Lexeme
  pub words : List Lexeme
  pub next : Lexeme
  pub behind : List Lexeme
  pub split : tokens ++ end ∷ [] ≡ before ++ (words ++ next ∷ behind)
  pub is : Fits qs words next
  pub shallow : (j : ℕ) → get_or (depths qs words next is) j 0 ≤ get_or (depths ps tokens end fits) (length before + j) 0

-- whatever fits the first places has such a part
pub record Carries (ps qs : List Piece) : Type 0 where
  pub at : (tokens : List Lexeme) (end : Lexeme) (fits : Fits ps tokens end) → Part ps tokens end fits qs
