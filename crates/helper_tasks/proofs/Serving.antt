-- The workers whose threads are made, the last one first.
use Rattle.std.proofs.Common.{◌≡◌, List, [], ◌∷◌, ◌++◌, sym, subst}
use Rattle.helper_tasks.specs.Count.{Each}
use Rattle.helper_tasks.specs.Crew.{Paired}
use Rattle.helper_tasks.proofs.Counts.{each-front, each-back}

module _ {A : Type 0} where
  -- all but the last have what all have
  pub each_but_last : (P : A → Type 0) (all rest : List A) (a : A) → all ≡ rest ++ a ∷ [] → Each P all → Each P rest
  each_but_last P all rest a e each = each-front P rest (a ∷ []) (subst (Each P) e each)

  -- the last has what all have
  pub each_last : (P : A → Type 0) (all rest : List A) (a : A) → all ≡ rest ++ a ∷ [] → Each P all → P a
  each_last P all rest a e each = (each-back P rest (a ∷ []) (subst (Each P) e each)).0

paired_more : {A B : Type 0} (R : A → B → Type 0) (as' : List A) (bs : List B) (a : A) (b : B) → Paired R as' bs → R a b → Paired R (as' ++ a ∷ []) (bs ++ b ∷ [])
paired_more R [] [] a b p r = (r, tt)
paired_more R [] (c ∷ bs) a b p r = elim p [ ]
paired_more R (d ∷ as') [] a b p r = elim p [ ]
paired_more R (d ∷ as') (c ∷ bs) a b p r = (p.0, paired_more R as' bs a b p.1 r)

-- the last pair joins the others
pub paired_last : {A B : Type 0} (R : A → B → Type 0) (all rest : List A) (a : A) (every others : List B) (b : B) → all ≡ rest ++ a ∷ [] → every ≡ others ++ b ∷ [] → Paired R rest others → R a b → Paired R all every
paired_last R all rest a every others b ea eb p r =
    subst (λ as'. Paired R as' every) (sym ea) (subst (Paired R (rest ++ a ∷ [])) (sym eb) (paired_more R rest others a b p r))
