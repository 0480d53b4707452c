-- Pieces that are put together, and the depths of their tokens.
use Rattle.std.proofs.Common.{◌≡◌, ℕ, ◌+◌, List, [], ◌∷◌, ◌++◌, length, refl, sym, ap, true≢false, Bool, true, false}
use Rattle.std.proofs.lemmas.List.{length-append}
use Rattle.script_grammar.specs.Pieces.{Piece, At, Gap, Pass, from, glue, until, ending_at}
use Rattle.emit_limit_laws.specs.Places.{depths_of, AllUpTo}

pub depths_both : (ps qs : List Piece) → depths_of (ps ++ qs) ≡ depths_of ps ++ depths_of qs
depths_both [] qs = refl
depths_both (At s ∷ ps) qs = ap (λ ds. s.depth ∷ ds) (depths_both ps qs)
depths_both (Gap e ∷ ps) qs = depths_both ps qs
depths_both (Pass ∷ ps) qs = depths_both ps qs

-- what else is asked of the first or the last piece leaves the depths

pub depths_from : (n : ℕ) (ps : List Piece) → depths_of (from n ps) ≡ depths_of ps
depths_from n [] = refl
depths_from n (At s ∷ ps) = refl
depths_from n (Gap e ∷ ps) = refl
depths_from n (Pass ∷ ps) = refl

pub depths_glue : (ps : List Piece) → depths_of (glue ps) ≡ depths_of ps
depths_glue [] = refl
depths_glue (At s ∷ ps) = refl
depths_glue (Gap e ∷ ps) = refl
depths_glue (Pass ∷ ps) = refl

depths_ending : (n : ℕ) (p : Piece) → depths_of (ending_at n p ∷ []) ≡ depths_of (p ∷ [])
depths_ending n (At s) = refl
depths_ending n (Gap e) = refl
depths_ending n Pass = refl

pub depths_until : (n : ℕ) (ps : List Piece) → depths_of (until n ps) ≡ depths_of ps
depths_until n [] = refl
depths_until n (p ∷ []) = depths_ending n p
depths_until n (At s ∷ q ∷ ps) = ap (λ ds. s.depth ∷ ds) (depths_until n (q ∷ ps))
depths_until n (Gap e ∷ q ∷ ps) = depths_until n (q ∷ ps)
depths_until n (Pass ∷ q ∷ ps) = depths_until n (q ∷ ps)

-- ---- numbers of tokens, depths that are bounded

pub length_both : (ps qs : List Piece) → length (depths_of (ps ++ qs)) ≡ length (depths_of ps) + length (depths_of qs)
length_both ps qs = rw (depths_both ps qs) (length-append (depths_of ps) (depths_of qs))

pub up_to_front : (limit : ℕ) (xs ys : List ℕ) → AllUpTo limit (xs ++ ys) → AllUpTo limit xs
up_to_front limit [] ys h = tt
up_to_front limit (x ∷ xs) ys h = (h.0, up_to_front limit xs ys h.1)

pub up_to_back : (limit : ℕ) (xs ys : List ℕ) → AllUpTo limit (xs ++ ys) → AllUpTo limit ys
up_to_back limit [] ys h = h
up_to_back limit (x ∷ xs) ys h = up_to_back limit xs ys h.1

-- ---- lists that are empty

is_empty : {A : Type 0} → List A → Bool
is_empty [] = true
is_empty (x ∷ xs) = false

pub cons_none : {A : Type 0} (x : A) (xs : List A) → x ∷ xs ≡ [] → ⊥
unfolding is_empty
cons_none x xs e = true≢false (sym (ap is_empty e))

pub front_none : {A : Type 0} (xs ys : List A) → xs ++ ys ≡ [] → xs ≡ []
front_none [] ys e = refl
front_none (x ∷ xs) ys e = absurd (cons_none x (xs ++ ys) e)

pub back_none : {A : Type 0} (xs ys : List A) → xs ++ ys ≡ [] → ys ≡ []
back_none [] ys e = e
back_none (x ∷ xs) ys e = absurd (cons_none x (xs ++ ys) e)
