-- The smallest offset of lists that are put together.
use Rattle.std.proofs.Common.{◌≡◌, ℕ, Bool, true, false, cond, Option, None, Some, List, [], ◌∷◌, ◌++◌, refl, sym, ap, ◌∙◌, arith}
use Rattle.parse_track.specs.EarlyErrors.{smaller, smallest}

pub smaller_assoc : (x y z : Option ℕ) → smaller x (smaller y z) ≡ smaller (smaller x y) z
smaller_assoc None y z = refl
smaller_assoc (Some x) None z = refl
smaller_assoc (Some x) (Some y) None = refl
smaller_assoc (Some x) (Some y) (Some z) = ap Some (omega arith)

pub smaller_none : (x : Option ℕ) → smaller x None ≡ x
smaller_none None = refl
smaller_none (Some x) = refl

pub smaller_swap : (x y : Option ℕ) → smaller x y ≡ smaller y x
smaller_swap None None = refl
smaller_swap None (Some y) = refl
smaller_swap (Some x) None = refl
smaller_swap (Some x) (Some y) = ap Some (omega arith)

pub smallest-append : (xs ys : List ℕ) → smallest (xs ++ ys) ≡ smaller (smallest xs) (smallest ys)
smallest-append [] ys = refl
smallest-append (x ∷ xs) ys = ap (smaller (Some x)) (smallest-append xs ys) ∙ smaller_assoc (Some x) (smallest xs) (smallest ys)

-- an offset more, where a test holds, in a loop that says what is left
pub one_more : (before now : Option ℕ) (b : Bool) (at : ℕ) (rest : List ℕ) (all : Option ℕ) → now ≡ cond b (smaller before (Some at)) before
    → smaller before (smallest (cond b (at ∷ []) [] ++ rest)) ≡ all → smaller now (smallest rest) ≡ all
one_more before now true at rest all e h =
    ap (λ (o : Option ℕ). smaller o (smallest rest)) e ∙ (sym (smaller_assoc before (Some at) (smallest rest)) ∙ h)
one_more before now false at rest all e h = ap (λ (o : Option ℕ). smaller o (smallest rest)) e ∙ h
