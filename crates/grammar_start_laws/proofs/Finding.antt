-- Functions whose starts rise are found by where they start.
use Rattle.std.proofs.Common.{ℕ, suc, ◌≡◌, ◌∙◌, ◌≤◌, ◌<◌, inl, inr, List, [], ◌∷◌, ◌++◌, refl, sym, ap, subst, arith, true, false, nat_eq, cond}
use Rattle.std.proofs.lemmas.Bool.{eq-eqb}
use Rattle.std.proofs.lemmas.Bool.Decides.{eqb_tells}
use Rattle.script_grammar.specs.Lexeme.{Lexeme}
use Rattle.script_grammar.specs.Pieces.{Piece, At, Gap, Pass, Fits, AllAre}
use Rattle.grammar_start_laws.specs.Started.{Started}
use Rattle.grammar_start_laws.specs.Keeping.{IsIn, Keeps}
use Rattle.grammar_start_laws.specs.Own.{AllOf, TokensRise, StartsRise, stmts_in, stmts_at}

lower : (b c : ℕ) (ts : List Lexeme) → b ≤ c → TokensRise c ts → TokensRise b ts
lower b c [] le h = tt
lower b c (t ∷ ts) le h = (omega (arith, le, h.0), h.1)

rise_behind : (b : ℕ) (us vs : List Lexeme) → TokensRise b (us ++ vs) → TokensRise b vs
rise_behind b [] vs h = h
rise_behind b (u ∷ us) vs h = lower b (suc u.start) vs (omega (arith, h.0)) (rise_behind (suc u.start) us vs h.1)

starts_there : (m n : ℕ) (ns : List ℕ) → IsIn m ns → AllAre ns n → n ≡ m
starts_there m n [] i h = absurd i
starts_there m n (k ∷ ks) (inl e) h = h.0 ∙ sym e
starts_there m n (k ∷ ks) (inr i) h = starts_there m n ks i h.1

-- functions at places of their own start at tokens of their own
pub starts_rise : (fs : List Started) (ps : List Piece) (ts : List Lexeme) (n : Lexeme) (b : ℕ) → Keeps fs ps → Fits ps ts n → TokensRise b ts → StartsRise b fs
unfolding Keeps
starts_rise [] ps ts n b k f r = tt
starts_rise (x ∷ xs) [] ts n b k f r = absurd k
starts_rise (x ∷ xs) (At s ∷ ps) [] n b k f r = absurd f
starts_rise (x ∷ xs) (At s ∷ ps) (t ∷ ts) n b (inl k) f r =
    let e = starts_there x.start t.start s.starts k.0 f.0.starts in
    (omega (arith, e, r.0), starts_rise xs ps ts n (suc x.start) k.1 f.1 (subst (λ m. TokensRise (suc m) ts) e r.1))
starts_rise (x ∷ xs) (At s ∷ ps) (t ∷ ts) n b (inr k) f r = starts_rise (x ∷ xs) ps ts n b k f.1 (lower b (suc t.start) ts (omega (arith, r.0)) r.1)
starts_rise (x ∷ xs) (Gap e ∷ ps) [] n b k f r = starts_rise (x ∷ xs) ps [] n b k f.1 r
starts_rise (x ∷ xs) (Gap e ∷ ps) (t ∷ ts) n b k f r = starts_rise (x ∷ xs) ps (t ∷ ts) n b k f.1 r
starts_rise (x ∷ xs) (Pass ∷ ps) ts n b k f r = starts_rise (x ∷ xs) ps f.1 n b k f.4 (rise_behind b f.0 f.1 (subst (TokensRise b) f.2 r))

same_start : (n : ℕ) → nat_eq n n ≡ true
same_start n = eq-eqb n n refl

-- the function is found by where it starts
abbrev pub found : List Started → Started → Type 0
found fs f = stmts_at fs f.start ≡ stmts_in f.body

found_later : (f : Started) (fs gs : List Started) (c : ℕ) → f.start < c → StartsRise c gs → AllOf (found fs) gs → AllOf (found (f ∷ fs)) gs
found_later f fs [] c lt r h = tt
found_later f fs (g ∷ gs) c lt r h = ((rw (differs f.start g.start (omega (arith, lt, r.0))) (h.0)), found_later f fs gs (suc g.start) (omega (arith, lt, r.0)) r.1 h.1)
  where
    differs : (m n : ℕ) → m < n → nat_eq m n ≡ false
    differs m n lt = elim (eqb_tells m n) [ inl same ↦ absurd (omega (arith, lt, same.1)) | inr other ↦ other.0 ]

pub all_found : (fs : List Started) (b : ℕ) → StartsRise b fs → AllOf (found fs) fs
all_found [] b r = tt
all_found (f ∷ fs) b r = (ap (λ y. cond y (stmts_in f.body) (stmts_at fs f.start)) (same_start f.start), found_later f fs fs (suc f.start) (omega arith) r.1 (all_found fs (suc f.start) r.1))
