-- The walk finds the first clash of a var name with a lexical name.
use Rattle.std.proofs.Common.{◌≡◌, ℕ, max, Bool, true, false, cond, not, ◌||◌, Option, None, Some, List, [], ◌∷◌, ◌++◌, refl, sym, ap, ◌∙◌, arith, nat_eq}
use Rattle.std.proofs.lemmas.Bool.{eqb-true, eq-eqb}
use Rattle.parse_track.specs.Told.{Name, Told, nothing, leaf, inner}
use Rattle.parse_track.specs.RegionNames.{is_lexical, is_var, is_head, stops_vars, declared_by, directly, vars}
use Rattle.parse_track.specs.EarlyErrors.{has_name, smaller, smallest, later, later_of, also_in, at_regions, lexical_and_var, head_and_var}
use Rattle.parse_track.specs.Clashes.{Firsts, no_firsts, put_first, open_all, clash_at, clash_all, opens, base, opened, clashes, pairs, clash_rule}
use Rattle.parse_track.proofs.Smallest.{smaller_assoc, smaller_none, smaller_swap, smallest-append}
use Rattle.parse_track.proofs.Walk.{false_is_true}

-- rearranging
pull : (a b c : Option ℕ) → smaller a (smaller b c) ≡ smaller b (smaller a c)
pull a b c = smaller_assoc a b c ∙ (ap (λ (o : Option ℕ). smaller o c) (smaller_swap a b) ∙ sym (smaller_assoc b a c))

middle : (p b c d : Option ℕ) → smaller (smaller p b) (smaller c d) ≡ smaller (smaller p c) (smaller b d)
middle p b c d = sym (smaller_assoc p b (smaller c d)) ∙ (ap (smaller p) (pull b c d) ∙ smaller_assoc p c (smaller b d))

rearranged : (a r b c d : Option ℕ) → smaller (smaller a (smaller r b)) (smaller c d) ≡ smaller (smaller r (smaller a c)) (smaller b d)
rearranged a r b c d =
    ap (λ (o : Option ℕ). smaller o (smaller c d)) (smaller_assoc a r b ∙ ap (λ (o : Option ℕ). smaller o b) (smaller_swap a r))
    ∙ (middle (smaller r a) b c d ∙ ap (λ (o : Option ℕ). smaller o (smaller b d)) (sym (smaller_assoc r a c)))

-- clashes of lists
clash_append : (heads : Bool) (f : Firsts) (xs ys : List (Name ℕ)) → clash_all heads f (xs ++ ys) ≡ smaller (clash_all heads f xs) (clash_all heads f ys)
clash_append heads f [] ys = refl
clash_append heads f (x ∷ xs) ys =
    ap (smaller (clash_at heads (f x.name) x.at)) (clash_append heads f xs ys) ∙ smaller_assoc (clash_at heads (f x.name) x.at) (clash_all heads f xs) (clash_all heads f ys)

clash_nothing : (heads : Bool) (vs : List (Name ℕ)) → clash_all heads no_firsts vs ≡ None
clash_nothing heads [] = refl
clash_nothing heads (v ∷ vs) = clash_nothing heads vs

-- one lexical name more, where the later of two counts
spread : (a at : ℕ) (o : Option ℕ) → clash_at false (smaller (Some a) o) at ≡ smaller (Some (max a at)) (clash_at false o at)
spread a at None = refl
spread a at (Some b) = ap Some (omega arith)

later_at : (x : Name ℕ) (f : Firsts) (v : Name ℕ) (b : Bool) → nat_eq x.name v.name ≡ b
    → clash_at false (cond b (smaller (Some x.at) (f v.name)) (f v.name)) v.at ≡ smaller (smallest (cond b (max x.at v.at ∷ []) [])) (clash_at false (f v.name) v.at)
later_at x f v true e = spread x.at v.at (f v.name)
later_at x f v false e = refl

later_one : (x : Name ℕ) (f : Firsts) (vs : List (Name ℕ)) → clash_all false (put_first f x) vs ≡ smaller (smallest (later_of nat_eq x vs)) (clash_all false f vs)
later_one x f [] = refl
later_one x f (v ∷ vs) =
    ap (λ (o : Option ℕ). smaller o (clash_all false (put_first f x) vs)) (later_at x f v (nat_eq x.name v.name) refl)
    ∙ (ap (smaller (smaller (smallest (cond (nat_eq x.name v.name) (max x.at v.at ∷ []) [])) (clash_at false (f v.name) v.at))) (later_one x f vs)
    ∙ (middle (smallest (cond (nat_eq x.name v.name) (max x.at v.at ∷ []) [])) (clash_at false (f v.name) v.at) (smallest (later_of nat_eq x vs)) (clash_all false f vs)
    ∙ ap (λ (o : Option ℕ). smaller o (smaller (clash_at false (f v.name) v.at) (clash_all false f vs))) (sym (smallest-append (cond (nat_eq x.name v.name) (max x.at v.at ∷ []) []) (later_of nat_eq x vs)))))

later_opened : (xs : List (Name ℕ)) (f : Firsts) (vs : List (Name ℕ)) → clash_all false (open_all xs f) vs ≡ smaller (smallest (later nat_eq xs vs)) (clash_all false f vs)
later_opened [] f vs = refl
later_opened (x ∷ xs) f vs =
    later_opened xs (put_first f x) vs
    ∙ (ap (smaller (smallest (later nat_eq xs vs))) (later_one x f vs)
    ∙ (pull (smallest (later nat_eq xs vs)) (smallest (later_of nat_eq x vs)) (clash_all false f vs)
    ∙ (smaller_assoc (smallest (later_of nat_eq x vs)) (smallest (later nat_eq xs vs)) (clash_all false f vs)
    ∙ ap (λ (o : Option ℕ). smaller o (clash_all false f vs)) (sym (smallest-append (later_of nat_eq x vs) (later nat_eq xs vs))))))

-- one lexical name more, where the var name counts
only_at : (a at : ℕ) (o : Option ℕ) → clash_at true (smaller (Some a) o) at ≡ Some at
only_at a at None = refl
only_at a at (Some b) = refl

is_at_or_none : (heads : Bool) (o : Option ℕ) (at : ℕ) → smaller (Some at) (clash_at true o at) ≡ Some at
is_at_or_none heads None at = refl
is_at_or_none heads (Some b) at = ap Some (omega arith)

head_at : (x : Name ℕ) (f : Firsts) (v : Name ℕ) (b : Bool) → nat_eq x.name v.name ≡ b
    → clash_at true (cond b (smaller (Some x.at) (f v.name)) (f v.name)) v.at ≡ smaller (smallest (cond b (v.at ∷ []) [])) (clash_at true (f v.name) v.at)
head_at x f v true e = only_at x.at v.at (f v.name) ∙ sym (is_at_or_none true (f v.name) v.at)
head_at x f v false e = refl

either : (at : ℕ) (b c : Bool) (o : Option ℕ) → smaller (smallest (cond c (at ∷ []) [])) (smaller (smallest (cond b (at ∷ []) [])) o) ≡ smaller (smallest (cond (b || c) (at ∷ []) [])) o
either at true true None = ap Some (omega arith)
either at true true (Some x) = ap Some (omega arith)
either at true false o = refl
either at false true o = refl
either at false false o = refl

same_way : (x y : ℕ) (b : Bool) → nat_eq x y ≡ b → nat_eq y x ≡ b
same_way x y true e = eq-eqb y x (sym (eqb-true x y e))
same_way x y false e = other (nat_eq y x) refl where
  other : (c : Bool) → nat_eq y x ≡ c → nat_eq y x ≡ false
  other true g = absurd (false_is_true (sym e ∙ eq-eqb x y (sym (eqb-true y x g))))
  other false g = g

head_name : (xs : List (Name ℕ)) (f : Firsts) (v : Name ℕ) → clash_at true (open_all xs f v.name) v.at ≡ smaller (smallest (cond (has_name nat_eq v.name xs) (v.at ∷ []) [])) (clash_at true (f v.name) v.at)
head_name [] f v = refl
head_name (x ∷ xs) f v =
    head_name xs (put_first f x) v
    ∙ (ap (smaller (smallest (cond (has_name nat_eq v.name xs) (v.at ∷ []) []))) (head_at x f v (nat_eq x.name v.name) refl)
    ∙ (either v.at (nat_eq x.name v.name) (has_name nat_eq v.name xs) (clash_at true (f v.name) v.at)
    ∙ ap (λ (b : Bool). smaller (smallest (cond (b || has_name nat_eq v.name xs) (v.at ∷ []) [])) (clash_at true (f v.name) v.at)) (sym (same_way x.name v.name (nat_eq x.name v.name) refl))))

head_opened : (xs : List (Name ℕ)) (f : Firsts) (vs : List (Name ℕ)) → clash_all true (open_all xs f) vs ≡ smaller (smallest (also_in nat_eq xs vs)) (clash_all true f vs)
head_opened xs f [] = refl
head_opened xs f (v ∷ vs) =
    ap (λ (o : Option ℕ). smaller o (clash_all true (open_all xs f) vs)) (head_name xs f v)
    ∙ (ap (smaller (smaller (smallest (cond (has_name nat_eq v.name xs) (v.at ∷ []) [])) (clash_at true (f v.name) v.at))) (head_opened xs f vs)
    ∙ (middle (smallest (cond (has_name nat_eq v.name xs) (v.at ∷ []) [])) (clash_at true (f v.name) v.at) (smallest (also_in nat_eq xs vs)) (clash_all true f vs)
    ∙ ap (λ (o : Option ℕ). smaller o (smaller (clash_at true (f v.name) v.at) (clash_all true f vs))) (sym (smallest-append (cond (has_name nat_eq v.name xs) (v.at ∷ []) []) (also_in nat_eq xs vs)))))

all_opened : (heads : Bool) (xs : List (Name ℕ)) (f : Firsts) (vs : List (Name ℕ)) → clash_all heads (open_all xs f) vs ≡ smaller (smallest (pairs heads xs vs)) (clash_all heads f vs)
all_opened true xs f vs = head_opened xs f vs
all_opened false xs f vs = later_opened xs f vs

region_opened : (heads b : Bool) (xs : List (Name ℕ)) (g : Firsts) (vs : List (Name ℕ))
    → clash_all heads (cond b (open_all xs g) g) vs ≡ smaller (smallest (cond b (pairs heads xs vs) [])) (clash_all heads g vs)
region_opened heads true xs g vs = all_opened heads xs g vs
region_opened heads false xs g vs = refl

based : (heads b : Bool) (f : Firsts) (vs : List (Name ℕ)) → clash_all heads (cond b no_firsts f) vs ≡ clash_all heads f (cond b [] vs)
based heads true f vs = clash_nothing heads vs
based heads false f vs = refl

pub first_clash : (heads : Bool) (t : Told ℕ) (f : Firsts) → clashes heads f t ≡ smaller (smallest (at_regions (clash_rule heads) t)) (clash_all heads f (vars t))
first_clash heads nothing f = refl
first_clash heads (leaf l t) f =
    ap (smaller (clash_all heads f (declared_by is_var l))) (first_clash heads t f)
    ∙ (pull (clash_all heads f (declared_by is_var l)) (smallest (at_regions (clash_rule heads) t)) (clash_all heads f (vars t))
    ∙ ap (smaller (smallest (at_regions (clash_rule heads) t))) (sym (clash_append heads f (declared_by is_var l) (vars t))))
first_clash heads (inner k at i t) f =
    ap (λ (o : Option ℕ). smaller o (clashes heads f t))
    (first_clash heads i (opened heads k i f)
    ∙ ap (smaller (smallest (at_regions (clash_rule heads) i)))
    (region_opened heads (opens heads k) (directly is_lexical i) (base k f) (vars i) ∙ ap (smaller (smallest (clash_rule heads k i))) (based heads (stops_vars k) f (vars i))))
    ∙ (ap (smaller (smaller (smallest (at_regions (clash_rule heads) i)) (smaller (smallest (clash_rule heads k i)) (clash_all heads f (cond (stops_vars k) [] (vars i)))))) (first_clash heads t f)
    ∙ (rearranged (smallest (at_regions (clash_rule heads) i)) (smallest (clash_rule heads k i)) (clash_all heads f (cond (stops_vars k) [] (vars i))) (smallest (at_regions (clash_rule heads) t)) (clash_all heads f (vars t))
    ∙ (ap (smaller (smaller (smallest (clash_rule heads k i)) (smaller (smallest (at_regions (clash_rule heads) i)) (smallest (at_regions (clash_rule heads) t))))) (sym (clash_append heads f (cond (stops_vars k) [] (vars i)) (vars t)))
    ∙ ap (λ (o : Option ℕ). smaller o (clash_all heads f (cond (stops_vars k) [] (vars i) ++ vars t)))
    (ap (smaller (smallest (clash_rule heads k i))) (sym (smallest-append (at_regions (clash_rule heads) i) (at_regions (clash_rule heads) t)))
    ∙ sym (smallest-append (clash_rule heads k i) (at_regions (clash_rule heads) i ++ at_regions (clash_rule heads) t))))))

-- the rules in their own words
not_cond : (b : Bool) (xs : List ℕ) → cond (not b) xs [] ≡ cond b [] xs
not_cond true xs = refl
not_cond false xs = refl

lexical_rule : (t : Told ℕ) → at_regions (clash_rule false) t ≡ at_regions (lexical_and_var nat_eq) t
lexical_rule nothing = refl
lexical_rule (leaf l t) = lexical_rule t
lexical_rule (inner k at i t) =
    ap (λ (xs : List ℕ). xs ++ (at_regions (clash_rule false) i ++ at_regions (clash_rule false) t)) (not_cond (is_head k) (later nat_eq (directly is_lexical i) (vars i)))
    ∙ (ap (λ (xs : List ℕ). lexical_and_var nat_eq k i ++ (xs ++ at_regions (clash_rule false) t)) (lexical_rule i)
    ∙ ap (λ (xs : List ℕ). lexical_and_var nat_eq k i ++ (at_regions (lexical_and_var nat_eq) i ++ xs)) (lexical_rule t))

head_rule : (t : Told ℕ) → at_regions (clash_rule true) t ≡ at_regions (head_and_var nat_eq) t
head_rule nothing = refl
head_rule (leaf l t) = head_rule t
head_rule (inner k at i t) =
    ap (λ (xs : List ℕ). head_and_var nat_eq k i ++ (xs ++ at_regions (clash_rule true) t)) (head_rule i)
    ∙ ap (λ (xs : List ℕ). head_and_var nat_eq k i ++ (at_regions (head_and_var nat_eq) i ++ xs)) (head_rule t)

pub first_lexical_and_var : (t : Told ℕ) → clashes false no_firsts t ≡ smallest (at_regions (lexical_and_var nat_eq) t)
first_lexical_and_var t = first_clash false t no_firsts ∙ (ap (smaller (smallest (at_regions (clash_rule false) t))) (clash_nothing false (vars t)) ∙ (smaller_none (smallest (at_regions (clash_rule false) t)) ∙ ap smallest (lexical_rule t)))

pub first_head_and_var : (t : Told ℕ) → clashes true no_firsts t ≡ smallest (at_regions (head_and_var nat_eq) t)
first_head_and_var t = first_clash true t no_firsts ∙ (ap (smaller (smallest (at_regions (clash_rule true) t))) (clash_nothing true (vars t)) ∙ (smaller_none (smallest (at_regions (clash_rule true) t)) ∙ ap smallest (head_rule t)))
