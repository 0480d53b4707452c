-- The depths of tokens, told from the pieces alone.
use Rattle.std.proofs.Common.{◌≡◌, ℕ, zero, suc, ◌≤◌, List, [], ◌∷◌, get_or, Bool, true, false, refl, arith}
use Rattle.std.specs.Prelude.{◌&&◌, nat_le}
use Rattle.std.proofs.lemmas.Bool.{leb-true}
use Rattle.script_grammar.specs.Fault.{depth_limit}
use Rattle.script_grammar.specs.Lexeme.{Lexeme}
use Rattle.script_grammar.specs.Pieces.{Piece, At, Gap, Pass, Fits, depths}

-- no piece is deeper than the limit, and none is passed over
abbrev pub is_shallow : List Piece → Bool
is_shallow [] = true
is_shallow (At s ∷ ps) = nat_le s.depth depth_limit && is_shallow ps
is_shallow (Gap e ∷ ps) = is_shallow ps
is_shallow (Pass ∷ ps) = false

both : (a b : Bool) → a && b ≡ true → (a ≡ true) × (b ≡ true)
both true b e = (refl, e)
both false b e = absurd (cc)

pub shallow_depths : (ps : List Piece) (ts : List Lexeme) (n : Lexeme) (f : Fits ps ts n) → is_shallow ps ≡ true → (j : ℕ) → get_or (depths ps ts n f) j 0 ≤ depth_limit
shallow_depths [] [] n f e j = omega arith
shallow_depths [] (t ∷ ts) n f e j = omega arith
shallow_depths (At s ∷ ps) [] n f e j = absurd f
shallow_depths (At s ∷ ps) (t ∷ ts) n f e zero = leb-true s.depth depth_limit (both (nat_le s.depth depth_limit) (is_shallow ps) e).0
shallow_depths (At s ∷ ps) (t ∷ ts) n f e (suc j) = shallow_depths ps ts n f.1 (both (nat_le s.depth depth_limit) (is_shallow ps) e).1 j
shallow_depths (Gap g ∷ ps) [] n f e j = shallow_depths ps [] n f.1 e j
shallow_depths (Gap g ∷ ps) (t ∷ ts) n f e j = shallow_depths ps (t ∷ ts) n f.1 e j
shallow_depths (Pass ∷ ps) ts n f e j = absurd (cc)
