-- Tokens that stand at the places of two lists are those of the one and then those of the other, each as deep as before.
use Rattle.std.proofs.Common.{◌≡◌, ◌∙◌, ℕ, suc, ◌+◌, List, [], ◌∷◌, ◌++◌, length, replicate, refl, sym, ap, append_assoc, true}
use Rattle.std.proofs.lemmas.List.{length-append, length-replicate}
use Rattle.script_grammar.specs.Lexeme.{Lexeme}
use Rattle.script_grammar.specs.Pieces.{Piece, At, Gap, Pass, Ending, Fits, may_omit, depths}
use Rattle.grammar_parser_laws.proofs.Friendly.{first_of}

pub record Halves (a b : List Piece) (w : List Lexeme) (n : Lexeme) (all : List ℕ) : Type 0 where
  pub front : List Lexeme
  pub back : List Lexeme
  pub split : w ≡ front ++ back
  pub first : Fits a front (first_of back n)
  pub second : Fits b back n
  pub deep : all ≡ depths a front (first_of back n) first ++ depths b back n second

-- a semicolon that is not written, in front of tokens that are split

record Behind (e : Ending) (a : List Piece) (u : List Lexeme) (m : Lexeme) (ds : List ℕ) : Type 0 where
  is : Fits (Gap e ∷ a) u m
  deep : depths (Gap e ∷ a) u m is ≡ ds

behind_gap : (e : Ending) (a : List Piece) (u v w : List Lexeme) (n : Lexeme) → w ≡ u ++ v → may_omit e (first_of w n) ≡ true → (k : Fits a u (first_of v n)) → Behind e a u (first_of v n) (depths a u (first_of v n) k)
behind_gap e a [] v w n s h k = record { is = (ap (λ x. may_omit e (first_of x n)) (sym s) ∙ h, k); deep = refl }
behind_gap e a (t ∷ u) v w n s h k = record { is = (ap (λ x. may_omit e (first_of x n)) (sym s) ∙ h, k); deep = refl }

with_gap : (e : Ending) (a b : List Piece) (w : List Lexeme) (n : Lexeme) (all : List ℕ) → may_omit e (first_of w n) ≡ true → Halves a b w n all → Halves (Gap e ∷ a) b w n all
with_gap e a b w n all h p =
    let g = behind_gap e a p.front p.back w n p.split h p.first in
    record { front = p.front; back = p.back; split = p.split; first = g.is; second = p.second; deep = p.deep ∙ ap (λ ds. ds ++ depths b p.back n p.second) (sym g.deep) }

pub halves : (a b : List Piece) (w : List Lexeme) (n : Lexeme) (fits : Fits (a ++ b) w n) → Halves a b w n (depths (a ++ b) w n fits)
halves [] b w n h = record { front = []; back = w; split = refl; first = tt; second = h; deep = refl }
halves (At s ∷ a) b [] n h = absurd h
halves (At s ∷ a) b (t ∷ w) n h =
    let p = halves a b w n h.1 in
    record { front = t ∷ p.front; back = p.back; split = ap (λ x. t ∷ x) p.split; first = (h.0, p.first); second = p.second; deep = ap (λ ds. s.depth ∷ ds) p.deep }
halves (Gap e ∷ a) b [] n h = with_gap e a b [] n _ h.0 (halves a b [] n h.1)
halves (Gap e ∷ a) b (t ∷ w) n h = with_gap e a b (t ∷ w) n _ h.0 (halves a b (t ∷ w) n h.1)
halves (Pass ∷ a) b w n h =
    let p = halves a b h.1 n h.4 in
    record {
      front = h.0 ++ p.front;
      back = p.back;
      split = h.2 ∙ ap (λ x. h.0 ++ x) p.split ∙ sym (append_assoc h.0 p.front p.back);
      first = (h.0, p.front, refl, h.3, p.first);
      second = p.second;
      deep = ap (λ ds. replicate (length h.0) 0 ++ ds) p.deep ∙ sym (append_assoc (replicate (length h.0) 0) (depths a p.front (first_of p.back n) p.first) (depths b p.back n p.second));
    }

-- each token has a depth
pub length_depths : (ps : List Piece) (w : List Lexeme) (n : Lexeme) (h : Fits ps w n) → length (depths ps w n h) ≡ length w
length_depths [] [] n h = refl
length_depths [] (t ∷ w) n h = absurd h
length_depths (At s ∷ ps) [] n h = absurd h
length_depths (At s ∷ ps) (t ∷ w) n h = ap suc (length_depths ps w n h.1)
length_depths (Gap e ∷ ps) [] n h = length_depths ps [] n h.1
length_depths (Gap e ∷ ps) (t ∷ w) n h = length_depths ps (t ∷ w) n h.1
length_depths (Pass ∷ ps) w n h =
    length-append (replicate (length h.0) 0) (depths ps h.1 n h.4)
    ∙ ap (λ k. k + length (depths ps h.1 n h.4)) (length-replicate (length h.0) 0)
    ∙ ap (λ k. length h.0 + k) (length_depths ps h.1 n h.4)
    ∙ sym (length-append h.0 h.1)
    ∙ ap (λ (x : List Lexeme). length x) (sym h.2)
