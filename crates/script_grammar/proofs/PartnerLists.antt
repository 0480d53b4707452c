-- Laws of the list that has each token's partner, or a number in place of it where there is none.
use Rattle.std.proofs.Common.{◌≡◌, ◌≢◌, ◌∙◌, ◌≤◌, ◌-◌, ℕ, zero, suc, List, [], ◌∷◌, ◌++◌, nat_eq, Option, Some, None, length, take, replicate, get_or, refl, ap, if◌then◌else◌}
use Rattle.std.proofs.lemmas.Bool.{eq-eqb, ne_eqb}
use Rattle.std.proofs.lemmas.List.{take_all}
use Rattle.script_grammar.specs.BracketWalk.{told_by, told_partners, partner_in, GainsPartner}

pub told_at : (ps : List ℕ) (t : ℕ) → get_or (told_partners ps) t None ≡ partner_in ps t
told_at [] t = refl
told_at (p ∷ ps) zero = refl
told_at (p ∷ ps) (suc t) = told_at ps t

pub none-in : (t : ℕ) → partner_in [] t ≡ None
none-in t = refl

pub gains-here : (ps qs : List ℕ) (t p : ℕ) → GainsPartner ps qs t p → partner_in qs t ≡ Some p
gains-here ps qs t p h = h t ∙ ap (λ b. if b then Some p else partner_in ps t) (eq-eqb t t refl)

pub gains-other : (ps qs : List ℕ) (t p : ℕ) → GainsPartner ps qs t p → (x : ℕ) → x ≢ t → partner_in qs x ≡ partner_in ps x
gains-other ps qs t p h x ne = h x ∙ ap (λ b. if b then Some p else partner_in ps x) (ne_eqb x t ne)

-- a list of the default tells the default
all-default : (n t d : ℕ) → get_or (replicate n d) t d ≡ d
all-default zero t d = refl
all-default (suc n) zero d = refl
all-default (suc n) (suc t) d = all-default n t d

-- filled up with the default a list tells what it told
filled-same : (ps : List ℕ) (n t d : ℕ) → get_or (ps ++ replicate n d) t d ≡ get_or ps t d
filled-same [] n t d = all-default n t d
filled-same (p ∷ ps) n zero d = refl
filled-same (p ∷ ps) n (suc t) d = filled-same ps n t d

-- so a list that is made longer has the partners that it had
pub reached_same : (ps : List ℕ) (n t : ℕ) → length ps ≤ n → partner_in (take n ps ++ replicate (n - length ps) 4294967295) t ≡ partner_in ps t
reached_same ps n t within =
    ap (λ qs. partner_in (qs ++ replicate (n - length ps) 4294967295) t) (take_all n ps within) ∙ ap told_by (filled-same ps (n - length ps) t 4294967295)
