-- What a walk along a chain has in front of it: the list of links after the first n.
use Rattle.std.proofs.Common.{◌≡◌, ℕ, ◌+◌, ◌<◌, zero, suc, List, [], ◌∷◌, length, drop, slice_get, Some, None, refl, ap, subst, arith, add-one, length-drop}
use Rattle.std.proofs.lemmas.Option.{slice_get_past}

-- what stands first after n links is the n-th
pub here_at : {A : Type 0} (n : ℕ) (links : List A) (link : A) (rest : List A) → link ∷ rest ≡ drop n links → slice_get links n ≡ Some link
here_at zero links link rest e = subst (λ l. slice_get l zero ≡ Some link) e refl
here_at (suc n) [] link rest e = cc
here_at (suc n) (x ∷ xs) link rest e = here_at n xs link rest e

further : {A : Type 0} (n : ℕ) (links : List A) (link : A) (rest : List A) → link ∷ rest ≡ drop n links → rest ≡ drop (suc n) links
further zero links link rest e = subst (λ l. rest ≡ drop (suc zero) l) e refl
further (suc n) [] link rest e = cc
further (suc n) (x ∷ xs) link rest e = further n xs link rest e

-- one step on
pub one_further : {A : Type 0} (n : ℕ) (links : List A) (link : A) (rest : List A) → link ∷ rest ≡ drop n links → rest ≡ drop (n + 1) links
one_further n links link rest e = rw add-one (further n links link rest e)

-- after the last link there is none
pub none_past : {A : Type 0} (n k : ℕ) (links : List A) (link : A) → link ∷ [] ≡ drop n links → n < k → slice_get links k ≡ None
none_past n k links link e h = slice_get_past links k (omega (arith, ap length e, length-drop n links))
