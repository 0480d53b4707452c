-- Tokens that stand at places and are not too deep there.
use Rattle.std.proofs.Common.{◌≡◌, ◌∙◌, ℕ, zero, suc, ◌≤◌, List, [], ◌∷◌, ◌++◌, length, replicate, get_or, refl, sym, ap, subst, append_assoc, arith, true}
use Rattle.script_grammar.specs.Lexeme.{Lexeme}
use Rattle.script_grammar.specs.Pieces.{Piece, At, Gap, Pass, Is, IsBalanced, Fits, may_omit, depths}
use Rattle.grammar_parser_laws.proofs.Friendly.{first_of}

abbrev pub Below : ℕ → List ℕ → Type 0
Below limit [] = Unit {0}
Below limit (d ∷ ds) = (d ≤ limit) × Below limit ds

pub below_get : (limit : ℕ) (ds : List ℕ) → Below limit ds → (j : ℕ) → get_or ds j 0 ≤ limit
below_get limit [] h j = omega arith
below_get limit (d ∷ ds) h zero = h.0
below_get limit (d ∷ ds) h (suc j) = below_get limit ds h.1 j

pub get_below : (limit : ℕ) (ds : List ℕ) → ((j : ℕ) → get_or ds j 0 ≤ limit) → Below limit ds
get_below limit [] h = tt
get_below limit (d ∷ ds) h = (h 0, get_below limit ds (λ j. h (suc j)))

below_behind : (limit : ℕ) (xs ds : List ℕ) → Below limit (xs ++ ds) → Below limit ds
below_behind limit [] ds h = h
below_behind limit (x ∷ xs) ds h = below_behind limit xs ds h.1

below_zeros : (limit k : ℕ) (ds : List ℕ) → Below limit ds → Below limit (replicate k 0 ++ ds)
below_zeros limit zero ds h = h
below_zeros limit (suc k) ds h = (omega arith, below_zeros limit k ds h)

abbrev pub Stand : ℕ → List Piece → List Lexeme → Lexeme → Type 0
Stand limit [] [] n = Unit {0}
Stand limit [] (t ∷ ts) n = ⊥
Stand limit (At s ∷ ps) [] n = ⊥
Stand limit (At s ∷ ps) (t ∷ ts) n = Is s t × (s.depth ≤ limit) × Stand limit ps ts n
Stand limit (Gap e ∷ ps) ts n = (may_omit e (first_of ts n) ≡ true) × Stand limit ps ts n
Stand limit (Pass ∷ ps) ts n = (u : List Lexeme) × (v : List Lexeme) × (ts ≡ u ++ v) × IsBalanced u × Stand limit ps v n

-- ---- the same as tokens that fit

pub to_stand : (limit : ℕ) (ps : List Piece) (w : List Lexeme) (n : Lexeme) (h : Fits ps w n) → Below limit (depths ps w n h) → Stand limit ps w n
to_stand limit [] [] n h b = tt
to_stand limit [] (t ∷ w) n h b = absurd h
to_stand limit (At s ∷ ps) [] n h b = absurd h
to_stand limit (At s ∷ ps) (t ∷ w) n h b = (h.0, b.0, to_stand limit ps w n h.1 b.1)
to_stand limit (Gap e ∷ ps) [] n h b = (h.0, to_stand limit ps [] n h.1 b)
to_stand limit (Gap e ∷ ps) (t ∷ w) n h b = (h.0, to_stand limit ps (t ∷ w) n h.1 b)
to_stand limit (Pass ∷ ps) w n h b = (h.0, h.1, h.2, h.3, to_stand limit ps h.1 n h.4 (below_behind limit (replicate (length h.0) 0) (depths ps h.1 n h.4) b))

pub record Stood (limit : ℕ) (ps : List Piece) (w : List Lexeme) (n : Lexeme) : Type 0 where
  pub fits : Fits ps w n
  pub below : Below limit (depths ps w n fits)

pub stood : (limit : ℕ) (ps : List Piece) (w : List Lexeme) (n : Lexeme) → Stand limit ps w n → Stood limit ps w n
stood limit [] [] n h = record { fits = tt; below = tt }
stood limit [] (t ∷ w) n h = absurd h
stood limit (At s ∷ ps) [] n h = absurd h
stood limit (At s ∷ ps) (t ∷ w) n h = let r = stood limit ps w n h.2 in record { fits = (h.0, r.fits); below = (h.1, r.below) }
stood limit (Gap e ∷ ps) [] n h = let r = stood limit ps [] n h.1 in record { fits = (h.0, r.fits); below = r.below }
stood limit (Gap e ∷ ps) (t ∷ w) n h = let r = stood limit ps (t ∷ w) n h.1 in record { fits = (h.0, r.fits); below = r.below }
stood limit (Pass ∷ ps) w n h =
    let r = stood limit ps h.1 n h.4 in
    record { fits = (h.0, h.1, h.2, h.3, r.fits); below = below_zeros limit (length h.0) (depths ps h.1 n r.fits) r.below }

-- ---- places of two lists

pub first_append : (u v : List Lexeme) (n : Lexeme) → first_of (u ++ v) n ≡ first_of u (first_of v n)
first_append [] v n = refl
first_append (t ∷ u) v n = refl

pub record StandHalves (limit : ℕ) (a b : List Piece) (w : List Lexeme) (n : Lexeme) : Type 0 where
  pub front : List Lexeme
  pub back : List Lexeme
  pub split : w ≡ front ++ back
  pub first : Stand limit a front (first_of back n)
  pub second : Stand limit b back n

pub stand_halves : (limit : ℕ) (a b : List Piece) (w : List Lexeme) (n : Lexeme) → Stand limit (a ++ b) w n → StandHalves limit a b w n
stand_halves limit [] b w n h = record { front = []; back = w; split = refl; first = tt; second = h }
stand_halves limit (At s ∷ a) b [] n h = absurd h
stand_halves limit (At s ∷ a) b (t ∷ w) n h =
    let p = stand_halves limit a b w n h.2 in
    record { front = t ∷ p.front; back = p.back; split = ap (λ x. t ∷ x) p.split; first = (h.0, h.1, p.first); second = p.second }
stand_halves limit (Gap e ∷ a) b w n h =
    let p = stand_halves limit a b w n h.1 in
    record {
      front = p.front;
      back = p.back;
      split = p.split;
      first = (subst (λ x. may_omit e x ≡ true) (ap (λ x. first_of x n) p.split ∙ first_append p.front p.back n) h.0, p.first);
      second = p.second;
    }
stand_halves limit (Pass ∷ a) b w n h =
    let p = stand_halves limit a b h.1 n h.4 in
    record {
      front = h.0 ++ p.front;
      back = p.back;
      split = h.2 ∙ ap (λ x. h.0 ++ x) p.split ∙ sym (append_assoc h.0 p.front p.back);
      first = (h.0, p.front, refl, h.3, p.first);
      second = p.second;
    }

pub stand_both : (limit : ℕ) (a b : List Piece) (u v : List Lexeme) (n : Lexeme) → Stand limit a u (first_of v n) → Stand limit b v n → Stand limit (a ++ b) (u ++ v) n
stand_both limit [] b [] v n h k = k
stand_both limit [] b (t ∷ u) v n h k = absurd h
stand_both limit (At s ∷ a) b [] v n h k = absurd h
stand_both limit (At s ∷ a) b (t ∷ u) v n h k = (h.0, h.1, stand_both limit a b u v n h.2 k)
stand_both limit (Gap e ∷ a) b u v n h k = (subst (λ x. may_omit e x ≡ true) (sym (first_append u v n)) h.0, stand_both limit a b u v n h.1 k)
stand_both limit (Pass ∷ a) b u v n h k =
    (h.0, h.1 ++ v, ap (λ x. x ++ v) h.2 ∙ append_assoc h.0 h.1 v, h.3, stand_both limit a b h.1 v n h.4 k)
