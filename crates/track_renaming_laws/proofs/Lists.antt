-- Lists of names that are renamed.
use Rattle.std.proofs.Common.{◌≡◌, Bool, true, false, cond, ◌||◌, List, ◌++◌, map, refl, sym, ap, ◌∙◌}
use Rattle.std.proofs.lemmas.List.{map-append}

pub map_cond : {A B : Type 0} (g : A → B) (b : Bool) (xs ys : List A) → cond b (map g xs) (map g ys) ≡ map g (cond b xs ys)
map_cond g true xs ys = refl
map_cond g false xs ys = refl

pub append_both : {A B : Type 0} (g : A → B) (xs ys : List A) (us vs : List B) → us ≡ map g xs → vs ≡ map g ys → us ++ vs ≡ map g (xs ++ ys)
append_both g xs ys us vs e h = ap (λ ws. ws ++ vs) e ∙ (ap (λ ws. map g xs ++ ws) h ∙ sym (map-append g xs ys))

pub appended : {A : Type 0} (xs ys us vs : List A) → us ≡ xs → vs ≡ ys → us ++ vs ≡ xs ++ ys
appended xs ys us vs e h = ap (λ ws. ws ++ vs) e ∙ ap (λ ws. xs ++ ws) h

pub either : (a b c d : Bool) → c ≡ a → d ≡ b → (c || d) ≡ (a || b)
either a b c d e h = ap (λ x. x || d) e ∙ ap (λ x. a || x) h
