-- Lists of parts over nodes, and what they stand for.
use Rattle.std.proofs.Common.{◌≡◌, ◌∙◌, List, [], ◌∷◌, ◌++◌, map, refl, ap, sym, Result, Ok, Err, IfOk}
use Rattle.std.specs.declared.vec.Vec.{Vec}
use Rattle.std.specs.declared.alloc.Global.{Global}
use Rattle.std.specs.List.{flat_map}
use Rattle.std.proofs.lemmas.List.{append_assoc, append-nil}
use Rattle.script_grammar.specs.Shows.{ShowAll}

-- one more of each
pub show_all-more : {A B : Type 0} (R : A → B → Type 0) (xs : List A) (ys : List B) (x : A) (y : B) → ShowAll R xs ys → R x y → ShowAll R (xs ++ (x ∷ [])) (ys ++ (y ∷ []))
show_all-more R [] [] x y h r = (r, tt)
show_all-more R [] (b ∷ ys) x y h r = absurd h
show_all-more R (a ∷ xs) [] x y h r = absurd h
show_all-more R (a ∷ xs) (b ∷ ys) x y h r = (h.0, show_all-more R xs ys x y h.1 r)

-- where each stands in a relation that makes f of the one equal k of the other
pub map-related : {A B C : Type 0} (R : A → B → Type 0) (k : A → C) (f : B → C) → ((a : A) (b : B) → R a b → f b ≡ k a) → (xs : List A) (ys : List B) → ShowAll R xs ys → map f ys ≡ map k xs
map-related R k f each [] [] h = refl
map-related R k f each [] (b ∷ ys) h = absurd h
map-related R k f each (a ∷ xs) [] h = absurd h
map-related R k f each (a ∷ xs) (b ∷ ys) h = ap (λ c. c ∷ map f ys) (each a b h.0) ∙ ap (λ cs. k a ∷ cs) (map-related R k f each xs ys h.1)

-- where each stands for what k gives
pub map-shown : {A C : Type 0} (R : A → C → Type 0) (k : A → C) → ((a : A) (c : C) → R a c → k a ≡ c) → (xs : List A) (cs : List C) → ShowAll R xs cs → map k xs ≡ cs
map-shown R k each [] [] h = refl
map-shown R k each [] (c ∷ cs) h = absurd h
map-shown R k each (a ∷ xs) [] h = absurd h
map-shown R k each (a ∷ xs) (c ∷ cs) h = ap (λ d. d ∷ map k xs) (each a c h.0) ∙ ap (λ ds. c ∷ ds) (map-shown R k each xs cs h.1)

pub map-same : {A : Type 0} (xs : List A) → map (λ x. x) xs ≡ xs
map-same [] = refl
map-same (x ∷ xs) = ap (λ ys. x ∷ ys) (map-same xs)

-- what a loop over parts gives, from what it gives for each
pub converted-map : {N T C I E : Type 0} (R : N → T → Type 0) (k : I → N → C) (f : I → T → C) → ((n : N) (t : T) → R n t → (i : I) → f i t ≡ k i n) → (ns : List N) (r : Result (Vec T Global) E)
    → IfOk r (λ made. ShowAll R ns made.items) → IfOk r (λ made. (i : I) → map (f i) made.items ≡ map (k i) ns)
converted-map R k f each ns (Ok made) h = λ i. map-related R (k i) (f i) (λ n t r. each n t r i) ns made.items h
converted-map R k f each ns (Err e) h = tt

-- one more part of what is appended
pub flat_map-more : {A B : Type 0} (f : A → List B) (xs : List A) (x : A) (start old new : List B) → old ≡ start ++ flat_map f xs → new ≡ old ++ f x → new ≡ start ++ flat_map f (xs ++ (x ∷ []))
flat_map-more {A = A} f xs x start old new before after = after ∙ ap (λ l. l ++ f x) before ∙ append_assoc start (flat_map f xs) (f x) ∙ ap (λ l. start ++ l) (sym (at_end xs))
  where
    at_end : (ys : List A) → flat_map f (ys ++ (x ∷ [])) ≡ flat_map f ys ++ f x
    at_end [] = append-nil (f x)
    at_end (y ∷ ys) = ap (λ l. f y ++ l) (at_end ys) ∙ sym (append_assoc (f y) (flat_map f ys) (f x))
