-- Texts in the order in which they are named first, and the numbers that name them so.
use Rattle.std.proofs.Common.{◌≡◌, ℕ, zero, suc, ◌+◌, ◌<◌, ◌≤◌, Bool, true, false, not, cond, List, [], ◌∷◌, ◌++◌, length, map, filter, take, drop, flat_map, Option, Some, None, refl, sym, ◌∙◌, ap, subst, slice_get, arith, inl, inr, ◌⊎◌, add-one, drop-cons}
use Rattle.std.specs.Prelude.{bytes_eq, nat_lt, ◌==◌, if◌then◌else◌}
use Rattle.std.proofs.lemmas.Bool.{false≢true}
use Rattle.std.proofs.lemmas.Bool.Decides.{Decides-ltb, Decides-eqb}
use Rattle.std.proofs.lemmas.List.{take_more, drop_all}
use Rattle.std.proofs.lemmas.Slice.Eq.{bytes_eq-Decides}
use Rattle.stencil_data.specs.StandsFor.{text_at}
use Rattle.parser_atoms.specs.Places.{AreWithoutEquals}
use Rattle.stencil_xdr_specs.specs.Image.{Item, Bytes, Atom, named, firsts, place_in}
use Rattle.stencil_xdr_read.specs.Reading.{Each}
use Rattle.stencil_xdr_read.specs.Atoms.{next_seen, seen_after}
use Rattle.stencil_xdr_read.proofs.Items.{atom_of}

abbrev Texts : Type 0
Texts = List (List ℕ)

-- ---- equal texts

same : (t u : List ℕ) → bytes_eq t u ≡ true → t ≡ u
same t u h = (bytes_eq-Decides t u).0 h

pub itself : (t : List ℕ) → bytes_eq t t ≡ true
itself t = (bytes_eq-Decides t t).1 refl

pub either : (b : Bool) → (b ≡ true) ⊎ (b ≡ false)
either true = inl refl
either false = inr refl

differs : (t u : List ℕ) → (t ≡ u → ⊥) → bytes_eq t u ≡ false
differs t u h = elim (either (bytes_eq t u)) [ inl e ↦ absurd (h (same t u e)) | inr e ↦ e ]

unequal : (t u : List ℕ) → bytes_eq t u ≡ false → t ≡ u → ⊥
unequal t u h e = false≢true (sym h ∙ (bytes_eq-Decides t u).1 e)

-- whether a text is among others
abbrev pub has : Texts → List ℕ → Bool
has [] t = false
has (u ∷ us) t = cond (bytes_eq u t) true (has us t)

has_head : (u : List ℕ) (us : Texts) (t : List ℕ) → bytes_eq u t ≡ true → has (u ∷ us) t ≡ true
has_head u us t h = ap (λ (b : Bool). cond b true (has us t)) h

has_tail : (u : List ℕ) (us : Texts) (t : List ℕ) → has us t ≡ true → has (u ∷ us) t ≡ true
has_tail u us t h = elim (either (bytes_eq u t)) [ inl e ↦ has_head u us t e | inr e ↦ ap (λ (b : Bool). cond b true (has us t)) e ∙ h ]

-- ---- the texts of atoms

pub named_atoms : (texts : Texts) (is : List Item) → named texts is ≡ map (text_at texts) (flat_map atom_of is)
named_atoms texts [] = refl
named_atoms texts (Bytes bs ∷ is) = named_atoms texts is
named_atoms texts (Atom a ∷ is) = ap (λ (l : Texts). text_at texts a ∷ l) (named_atoms texts is)

pub stands_at : (ts : Texts) (a : ℕ) → a < length ts → slice_get ts a ≡ Some (text_at ts a)
stands_at [] a h = absurd (omega arith)
stands_at (t ∷ ts) zero h = refl
stands_at (t ∷ ts) (suc a) h = stands_at ts a (omega arith)

pub apart_rest : (t : List ℕ) (ts : Texts) → AreWithoutEquals (t ∷ ts) → AreWithoutEquals ts
apart_rest t ts h text i j p q = let e : suc i ≡ suc j = h text (suc i) (suc j) p q in omega arith

same_place : (ts : Texts) (a b : ℕ) → AreWithoutEquals ts → a < length ts → b < length ts → text_at ts a ≡ text_at ts b → a ≡ b
same_place ts a b apart p q e = apart (text_at ts a) a b (stands_at ts a p) (stands_at ts b q ∙ ap (λ (t : List ℕ). Some t) (sym e))

-- a text of texts without equals stands at its place
pub place_itself : (ts : Texts) (a : ℕ) → AreWithoutEquals ts → a < length ts → place_in ts (text_at ts a) ≡ a
place_itself [] a apart h = absurd (omega arith)
place_itself (t ∷ ts) zero apart h = ap (λ (b : Bool). if b then 0 else (place_in ts t + 1)) (itself t)
place_itself (t ∷ ts) (suc a) apart h =
    let other : bytes_eq t (text_at ts a) ≡ false = differs t (text_at ts a) (λ e. let f : zero ≡ suc a = same_place (t ∷ ts) zero (suc a) apart (omega arith) h e in omega arith) in
    ap (λ (b : Bool). if b then 0 else (place_in ts (text_at ts a) + 1)) other ∙ (ap (λ (k : ℕ). k + 1) (place_itself ts a (apart_rest t ts apart) (omega arith)) ∙ add-one a)

-- where a text is found
pub record IsPlace (ts : Texts) (t : List ℕ) (place : ℕ) : Type 0 where
  pub inside : place < length ts
  pub is : text_at ts place ≡ t

place_by : (u : List ℕ) (us : Texts) (t : List ℕ) (b : Bool) → bytes_eq u t ≡ b → cond b true (has us t) ≡ true → (has us t ≡ true → IsPlace us t (place_in us t)) → IsPlace (u ∷ us) t (if b then 0 else (place_in us t + 1))
place_by u us t true e h further = record { inside = omega arith; is = same u t e }
place_by u us t false e h further =
    let p = further h in
    let one : place_in us t + 1 ≡ suc (place_in us t) = add-one (place_in us t) in
    subst (IsPlace (u ∷ us) t) (sym one) (record { inside = omega (arith, p.inside); is = p.is })

pub place_found : (ts : Texts) (t : List ℕ) → has ts t ≡ true → IsPlace ts t (place_in ts t)
place_found [] t h = absurd (false≢true h)
place_found (u ∷ us) t h = place_by u us t (bytes_eq u t) refl h (place_found us t)

-- ---- first texts

abbrev other_than : List ℕ → Texts → Texts
other_than t ts = filter (λ u. not (bytes_eq u t)) ts

has-other_by : (t u x : List ℕ) (ts : Texts) (b : Bool) → bytes_eq x t ≡ b → bytes_eq t u ≡ false → cond (bytes_eq x u) true (has ts u) ≡ true → (has ts u ≡ true → has (other_than t ts) u ≡ true) → has (cond (not b) (x ∷ other_than t ts) (other_than t ts)) u ≡ true
has-other_by t u x ts true e n h further = elim (either (bytes_eq x u)) [
  | inl f ↦ absurd (unequal t u n (sym (same x t e) ∙ same x u f))
  | inr f ↦ further (sym (ap (λ (b : Bool). cond b true (has ts u)) f) ∙ h)
]
has-other_by t u x ts false e n h further = elim (either (bytes_eq x u)) [
  | inl f ↦ has_head x (other_than t ts) u f
  | inr f ↦ has_tail x (other_than t ts) u (further (sym (ap (λ (b : Bool). cond b true (has ts u)) f) ∙ h))
]

has-other : (t u : List ℕ) (ts : Texts) → bytes_eq t u ≡ false → has ts u ≡ true → has (other_than t ts) u ≡ true
has-other t u [] n h = h
has-other t u (x ∷ ts) n h = has-other_by t u x ts (bytes_eq x t) refl n h (has-other t u ts n)

has_first : (u : List ℕ) (us : Texts) (t : List ℕ) → has (firsts us) t ≡ true → has (firsts (u ∷ us)) t ≡ true
has_first u us t h = elim (either (bytes_eq u t)) [ inl e ↦ has_head u (other_than u (firsts us)) t e | inr e ↦ has_tail u (other_than u (firsts us)) t (has-other u t (firsts us) e h) ]

each_first_of : (xs ys : Texts) → ((t : List ℕ) → has (firsts xs) t ≡ true → has (firsts ys) t ≡ true) → (zs : Texts) → Each (λ t. has (firsts xs) t ≡ true) zs → Each (λ t. has (firsts ys) t ≡ true) zs
each_first_of xs ys f [] h = tt
each_first_of xs ys f (z ∷ zs) h = (f z h.0, each_first_of xs ys f zs h.1)

-- each text is among the first ones
pub each_first : (ts : Texts) → Each (λ t. has (firsts ts) t ≡ true) ts
each_first [] = tt
each_first (t ∷ ts) = (has_head t (other_than t (firsts ts)) t (itself t), each_first_of ts (t ∷ ts) (has_first t ts) ts (each_first ts))

-- ---- first texts are without equals

abbrev NotIn : List ℕ → Texts → Type 0
NotIn t us = Each (λ u. bytes_eq u t ≡ false) us

abbrev Apart : Texts → Type 0
Apart [] = Unit {0}
Apart (t ∷ ts) = NotIn t ts × Apart ts

pub each_filter : (P : List ℕ → Type 0) (p : List ℕ → Bool) (ts : Texts) → Each P ts → Each P (filter p ts)
each_filter P p [] h = tt
each_filter P p (t ∷ ts) h = elim (p t) as (λ b. Each P (cond b (t ∷ filter p ts) (filter p ts))) [ true ↦ (h.0, each_filter P p ts h.1) | false ↦ each_filter P p ts h.1 ]

apart_filter : (p : List ℕ → Bool) (ts : Texts) → Apart ts → Apart (filter p ts)
apart_filter p [] h = tt
apart_filter p (t ∷ ts) h = elim (p t) as (λ b. Apart (cond b (t ∷ filter p ts) (filter p ts))) [ true ↦ (each_filter (λ u. bytes_eq u t ≡ false) p ts h.0, apart_filter p ts h.1) | false ↦ apart_filter p ts h.1 ]

not_in_other_by : (t u : List ℕ) (ts : Texts) (b : Bool) → bytes_eq u t ≡ b → NotIn t (other_than t ts) → NotIn t (cond (not b) (u ∷ other_than t ts) (other_than t ts))
not_in_other_by t u ts true e rest = rest
not_in_other_by t u ts false e rest = (e, rest)

not_in_other : (t : List ℕ) (ts : Texts) → NotIn t (other_than t ts)
not_in_other t [] = tt
not_in_other t (u ∷ ts) = not_in_other_by t u ts (bytes_eq u t) refl (not_in_other t ts)

firsts_apart : (ts : Texts) → Apart (firsts ts)
firsts_apart [] = tt
firsts_apart (t ∷ ts) = (not_in_other t (firsts ts), apart_filter (λ u. not (bytes_eq u t)) (firsts ts) (firsts_apart ts))

not_in_at : (t : List ℕ) (ts : Texts) (i : ℕ) → NotIn t ts → slice_get ts i ≡ Some t → ⊥
not_in_at t [] i h e = cc
not_in_at t (u ∷ ts) zero h e = let s : u ≡ t = cc in unequal u t h.0 s
not_in_at t (u ∷ ts) (suc i) h e = not_in_at t ts i h.1 e

apart_places : (ts : Texts) → Apart ts → AreWithoutEquals ts
apart_places [] h text i j p q = absurd (cc)
apart_places (t ∷ ts) h text zero zero p q = refl
apart_places (t ∷ ts) h text zero (suc j) p q = let s : t ≡ text = cc in absurd (not_in_at t ts j h.0 (q ∙ ap (λ (x : List ℕ). Some x) (sym s)))
apart_places (t ∷ ts) h text (suc i) zero p q = let s : t ≡ text = cc in absurd (not_in_at t ts i h.0 (p ∙ ap (λ (x : List ℕ). Some x) (sym s)))
apart_places (t ∷ ts) h text (suc i) (suc j) p q = ap suc (apart_places ts h.1 text i j p q)

pub firsts_without_equals : (ts : Texts) → AreWithoutEquals (firsts ts)
firsts_without_equals ts = apart_places (firsts ts) (firsts_apart ts)

-- ---- texts without equals among others are no more than those

record Without (ys : Texts) (x : List ℕ) : Type 0 where
  rest : Texts
  fewer : length ys ≡ suc (length rest)
  keeps : (t : List ℕ) → bytes_eq t x ≡ false → has ys t ≡ true → has rest t ≡ true

without_by : (y : List ℕ) (ys : Texts) (x : List ℕ) (b : Bool) → bytes_eq y x ≡ b → has (y ∷ ys) x ≡ true → (has ys x ≡ true → Without ys x) → Without (y ∷ ys) x
without_by y ys x true e h further = record {
  rest = ys;
  fewer = refl;
  keeps = λ t n k. elim (either (bytes_eq y t)) [ inl f ↦ absurd (unequal t x n (sym (same y t f) ∙ same y x e)) | inr f ↦ sym (ap (λ (b : Bool). cond b true (has ys t)) f) ∙ k ];
}
without_by y ys x false e h further =
    let w = further (sym (ap (λ (b : Bool). cond b true (has ys x)) e) ∙ h) in record {
      rest = y ∷ w.rest;
      fewer = ap suc w.fewer;
      keeps = λ t n k. elim (either (bytes_eq y t)) [ inl f ↦ has_head y w.rest t f | inr f ↦ has_tail y w.rest t (w.keeps t n (sym (ap (λ (b : Bool). cond b true (has ys t)) f) ∙ k)) ];
    }

without : (ys : Texts) (x : List ℕ) → has ys x ≡ true → Without ys x
without [] x h = absurd (false≢true h)
without (y ∷ ys) x h = without_by y ys x (bytes_eq y x) refl h (without ys x)

each_kept : (xs ys zs : Texts) (x : List ℕ) → NotIn x xs → ((t : List ℕ) → bytes_eq t x ≡ false → has ys t ≡ true → has zs t ≡ true) → Each (λ t. has ys t ≡ true) xs → Each (λ t. has zs t ≡ true) xs
each_kept [] ys zs x n f h = tt
each_kept (t ∷ xs) ys zs x n f h = (f t n.0 h.0, each_kept xs ys zs x n.1 f h.1)

no_more : (xs ys : Texts) → Apart xs → Each (λ t. has ys t ≡ true) xs → length xs ≤ length ys
no_more [] ys apart h = omega arith
no_more (x ∷ xs) ys apart h =
    let w = without ys x h.0 in
    let low : length xs ≤ length w.rest = no_more xs w.rest apart.1 (each_kept xs ys w.rest x apart.0 w.keeps h.1) in
    omega (arith, w.fewer)

pub pigeons : (ts ys : Texts) → Each (λ t. has ys t ≡ true) (firsts ts) → length (firsts ts) ≤ length ys
pigeons ts ys h = no_more (firsts ts) ys (firsts_apart ts) h

-- ---- texts that come after others

-- those that are not among the others, each once
abbrev news : Texts → Texts → Texts
news seen [] = []
news seen (t ∷ ts) = cond (has seen t) (news seen ts) (t ∷ news (seen ++ t ∷ []) ts)

abbrev unseen : Texts → List ℕ → Bool
unseen seen t = not (has seen t)

has-append : (xs ys : Texts) (t : List ℕ) → has (xs ++ ys) t ≡ cond (has xs t) true (has ys t)
has-append [] ys t = refl
has-append (x ∷ xs) ys t = ap (λ (b : Bool). cond (bytes_eq x t) true b) (has-append xs ys t) ∙ joined (bytes_eq x t) (has xs t) (has ys t)
  where
    joined : (a b c : Bool) → cond a true (cond b true c) ≡ cond (cond a true b) true c
    joined true b c = refl
    joined false b c = refl

-- a text that was seen is unseen nowhere
filter_seen_by : (seen : Texts) (t u : List ℕ) (ts : Texts) (b : Bool) → bytes_eq u t ≡ b → has seen t ≡ true → filter (unseen seen) (other_than t ts) ≡ filter (unseen seen) ts → filter (unseen seen) (cond (not b) (u ∷ other_than t ts) (other_than t ts)) ≡ filter (unseen seen) (u ∷ ts)
filter_seen_by seen t u ts true e s rest =
    let h : has seen u ≡ true = ap (has seen) (same u t e) ∙ s in
    rest ∙ sym (ap (λ (b : Bool). cond (not b) (u ∷ filter (unseen seen) ts) (filter (unseen seen) ts)) h)
filter_seen_by seen t u ts false e s rest = ap (λ (l : Texts). cond (unseen seen u) (u ∷ l) l) rest

filter_seen : (seen : Texts) (t : List ℕ) → has seen t ≡ true → (ts : Texts) → filter (unseen seen) (other_than t ts) ≡ filter (unseen seen) ts
filter_seen seen t s [] = refl
filter_seen seen t s (u ∷ ts) = filter_seen_by seen t u ts (bytes_eq u t) refl s (filter_seen seen t s ts)

turned : (t u : List ℕ) → bytes_eq t u ≡ bytes_eq u t
turned t u = elim (either (bytes_eq u t)) [ inl e ↦ (bytes_eq-Decides t u).1 (sym (same u t e)) ∙ sym e | inr e ↦ differs t u (λ f. unequal u t e (sym f)) ∙ sym e ]

-- the last text was seen too
more_seen : (seen : Texts) (t u : List ℕ) (l : Texts) (b : Bool) → bytes_eq u t ≡ b → cond (not (has (seen ++ t ∷ []) u)) (u ∷ l) l ≡ cond (not b) (cond (not (has seen u)) (u ∷ l) l) l
more_seen seen t u l b e =
    ap (λ (c : Bool). cond (not c) (u ∷ l) l) (has-append seen (t ∷ []) u ∙ ap (λ (c : Bool). cond (has seen u) true (cond c true false)) (turned t u ∙ e))
    ∙ finish (has seen u) b
  where
    finish : (a c : Bool) → cond (not (cond a true (cond c true false))) (u ∷ l) l ≡ cond (not c) (cond (not a) (u ∷ l) l) l
    finish true true = refl
    finish true false = refl
    finish false true = refl
    finish false false = refl

filter_more_by : (seen : Texts) (t u : List ℕ) (ts : Texts) (b : Bool) → bytes_eq u t ≡ b → filter (unseen seen) (other_than t ts) ≡ filter (unseen (seen ++ t ∷ [])) ts → filter (unseen seen) (cond (not b) (u ∷ other_than t ts) (other_than t ts)) ≡ filter (unseen (seen ++ t ∷ [])) (u ∷ ts)
filter_more_by seen t u ts true e rest = rest ∙ sym (more_seen seen t u (filter (unseen (seen ++ t ∷ [])) ts) true e)
filter_more_by seen t u ts false e rest = ap (λ (l : Texts). cond (unseen seen u) (u ∷ l) l) rest ∙ sym (more_seen seen t u (filter (unseen (seen ++ t ∷ [])) ts) false e)

filter_more : (seen : Texts) (t : List ℕ) (ts : Texts) → filter (unseen seen) (other_than t ts) ≡ filter (unseen (seen ++ t ∷ [])) ts
filter_more seen t [] = refl
filter_more seen t (u ∷ ts) = filter_more_by seen t u ts (bytes_eq u t) refl (filter_more seen t ts)

news_by : (seen : Texts) (t : List ℕ) (ts : Texts) (b : Bool) → has seen t ≡ b → news seen ts ≡ filter (unseen seen) (firsts ts) → news (seen ++ t ∷ []) ts ≡ filter (unseen (seen ++ t ∷ [])) (firsts ts)
    → cond b (news seen ts) (t ∷ news (seen ++ t ∷ []) ts) ≡ cond (not b) (t ∷ filter (unseen seen) (other_than t (firsts ts))) (filter (unseen seen) (other_than t (firsts ts)))
news_by seen t ts true e old new = old ∙ sym (filter_seen seen t e (firsts ts))
news_by seen t ts false e old new = ap (λ (l : Texts). t ∷ l) (new ∙ sym (filter_more seen t (firsts ts)))

news_firsts : (seen ts : Texts) → news seen ts ≡ filter (unseen seen) (firsts ts)
news_firsts seen [] = refl
news_firsts seen (t ∷ ts) = news_by seen t ts (has seen t) refl (news_firsts seen ts) (news_firsts (seen ++ t ∷ []) ts)

filter_all : (ts : Texts) → filter (unseen []) ts ≡ ts
filter_all [] = refl
filter_all (t ∷ ts) = ap (λ (l : Texts). t ∷ l) (filter_all ts)

firsts_news : (ts : Texts) → firsts ts ≡ news [] ts
firsts_news ts = sym (news_firsts [] ts ∙ filter_all (firsts ts))

-- ---- numbers that name texts in their order

below_not : (seen a : ℕ) → a ≤ seen → nat_lt seen a ≡ false
below_not seen a h = elim (either (nat_lt seen a)) [ inl e ↦ let lt : seen < a = (Decides-ltb seen a).0 e in absurd (omega arith) | inr e ↦ e ]

pub seen_lower : (seen a : ℕ) (more : List ℕ) → a < seen → seen_after seen (a ∷ more) ≡ seen_after seen more
seen_lower seen a more h =
    let other : (a == seen) ≡ false = elim (either (a == seen)) [ inl e ↦ let q : a ≡ seen = (Decides-eqb a seen).0 e in absurd (omega arith) | inr e ↦ e ] in
    ap (λ (b : Bool). if b then None else (seen_after (next_seen seen a) more)) (below_not seen a (omega arith))
    ∙ ap (λ (b : Bool). seen_after (if b then seen + 1 else seen) more) other

pub seen_next : (seen a : ℕ) (more : List ℕ) → a ≡ seen → seen_after seen (a ∷ more) ≡ seen_after (seen + 1) more
seen_next seen a more h =
    ap (λ (b : Bool). if b then None else (seen_after (next_seen seen a) more)) (below_not seen a (omega arith))
    ∙ ap (λ (b : Bool). seen_after (if b then seen + 1 else seen) more) ((Decides-eqb a seen).1 h)

seen_higher : (seen a : ℕ) (more : List ℕ) → seen < a → seen_after seen (a ∷ more) ≡ None
seen_higher seen a more h = ap (λ (b : Bool). if b then None else (seen_after (next_seen seen a) more)) ((Decides-ltb seen a).1 h)

-- an atom is lower than those that were seen, the next one, or higher
data Stands (seen a : ℕ) : Type 0 where
  Lower : a < seen → Stands seen a
  Next : a ≡ seen → Stands seen a
  Higher : seen < a → Stands seen a

stands : (seen a : ℕ) → Stands seen a
stands seen a = elim (either (nat_lt seen a)) [
  | inl e ↦ Higher ((Decides-ltb seen a).0 e)
  | inr e ↦ elim (either (a == seen)) [
    | inl f ↦ Next ((Decides-eqb a seen).0 f)
    | inr f ↦ Lower (lower e f)
  ]
]
  where
    lower : nat_lt seen a ≡ false → (a == seen) ≡ false → a < seen
    lower e f =
        let above : seen < a → ⊥ = λ h. false≢true (sym e ∙ (Decides-ltb seen a).1 h) in
        let other : a ≡ seen → ⊥ = λ h. false≢true (sym f ∙ (Decides-eqb a seen).1 h) in
        omega arith

pub seen_grows : (seen n : ℕ) (atoms : List ℕ) → seen_after seen atoms ≡ Some n → seen ≤ n
seen_grows seen n [] h = let e : seen ≡ n = cc in omega arith
seen_grows seen n (a ∷ atoms) h = elim (stands seen a) [
  | Lower l ↦ seen_grows seen n atoms (sym (seen_lower seen a atoms l) ∙ h)
  | Next e ↦ let g : seen + 1 ≤ n = seen_grows (seen + 1) n atoms (sym (seen_next seen a atoms e) ∙ h) in omega arith
  | Higher g ↦ let c : ◌≡◌ {A = Option ℕ} None (Some n) = sym (seen_higher seen a atoms g) ∙ h in absurd (cc)
]

-- all atoms are below the count
pub seen_below : (seen n : ℕ) (atoms : List ℕ) → seen_after seen atoms ≡ Some n → Each (λ a. a < n) atoms
seen_below seen n [] h = tt
seen_below seen n (a ∷ atoms) h = elim (stands seen a) [
  | Lower l ↦ let g : seen ≤ n = seen_grows seen n (a ∷ atoms) h in (omega arith, seen_below seen n atoms (sym (seen_lower seen a atoms l) ∙ h))
  | Next e ↦ let g : seen + 1 ≤ n = seen_grows (seen + 1) n atoms (sym (seen_next seen a atoms e) ∙ h) in (omega arith, seen_below (seen + 1) n atoms (sym (seen_next seen a atoms e) ∙ h))
  | Higher g ↦ let c : ◌≡◌ {A = Option ℕ} None (Some n) = sym (seen_higher seen a atoms g) ∙ h in absurd (cc)
]

-- ---- both are the same

take_at_more : (ts : Texts) (s : ℕ) → s < length ts → take (s + 1) ts ≡ take s ts ++ text_at ts s ∷ []
take_at_more ts s h = take_more ts s [] h

has_taken : (ts : Texts) (s a : ℕ) → a < s → s ≤ length ts → has (take s ts) (text_at ts a) ≡ true
has_taken [] s a h k = absurd (omega arith)
has_taken (t ∷ ts) zero a h k = absurd (omega arith)
has_taken (t ∷ ts) (suc s) zero h k = has_head t (take s ts) t (itself t)
has_taken (t ∷ ts) (suc s) (suc a) h k = has_tail t (take s ts) (text_at ts a) (has_taken ts s a (omega arith) (omega arith))

not_taken : (ts : Texts) (s a : ℕ) → AreWithoutEquals ts → s ≤ a → a < length ts → has (take s ts) (text_at ts a) ≡ false
not_taken [] s a apart h k = absurd (omega arith)
not_taken (t ∷ ts) zero a apart h k = refl
not_taken (t ∷ ts) (suc s) zero apart h k = absurd (omega arith)
not_taken (t ∷ ts) (suc s) (suc a) apart h k =
    ap (λ (b : Bool). cond b true (has (take s ts) (text_at ts a))) (differs t (text_at ts a) (λ e. let f : zero ≡ suc a = same_place (t ∷ ts) zero (suc a) apart (omega arith) k e in omega arith))
    ∙ not_taken ts s a (apart_rest t ts apart) (omega arith) (omega arith)

abbrev texts_of : Texts → List ℕ → Texts
texts_of ts atoms = map (text_at ts) atoms

news_lower : (ts : Texts) (s a : ℕ) (atoms : List ℕ) → a < s → s ≤ length ts → news (take s ts) (texts_of ts (a ∷ atoms)) ≡ news (take s ts) (texts_of ts atoms)
news_lower ts s a atoms h k = ap (λ (b : Bool). cond b (news (take s ts) (texts_of ts atoms)) (text_at ts a ∷ news (take s ts ++ text_at ts a ∷ []) (texts_of ts atoms))) (has_taken ts s a h k)

news_higher : (ts : Texts) (s a : ℕ) (atoms : List ℕ) → AreWithoutEquals ts → s ≤ a → a < length ts → news (take s ts) (texts_of ts (a ∷ atoms)) ≡ text_at ts a ∷ news (take s ts ++ text_at ts a ∷ []) (texts_of ts atoms)
news_higher ts s a atoms apart h k = ap (λ (b : Bool). cond b (news (take s ts) (texts_of ts atoms)) (text_at ts a ∷ news (take s ts ++ text_at ts a ∷ []) (texts_of ts atoms))) (not_taken ts s a apart h k)

news_next : (ts : Texts) (s a : ℕ) (atoms : List ℕ) → AreWithoutEquals ts → a ≡ s → s < length ts → news (take s ts) (texts_of ts (a ∷ atoms)) ≡ text_at ts s ∷ news (take (s + 1) ts) (texts_of ts atoms)
news_next ts s a atoms apart e k =
    news_higher ts s a atoms apart (omega arith) (omega arith)
    ∙ (ap (λ (b : ℕ). text_at ts b ∷ news (take s ts ++ text_at ts b ∷ []) (texts_of ts atoms)) e
    ∙ ap (λ (l : Texts). text_at ts s ∷ news l (texts_of ts atoms)) (sym (take_at_more ts s k)))

drop_at_more : (ts : Texts) (s : ℕ) → s < length ts → drop s ts ≡ text_at ts s ∷ drop (s + 1) ts
drop_at_more ts s h = drop-cons ts s [] h ∙ ap (λ (k : ℕ). text_at ts s ∷ drop k ts) (sym (add-one s))

numbered_news : (ts : Texts) (s : ℕ) (atoms : List ℕ) → AreWithoutEquals ts → seen_after s atoms ≡ Some (length ts) → news (take s ts) (texts_of ts atoms) ≡ drop s ts
numbered_news ts s [] apart h = let e : s ≡ length ts = cc in sym (drop_all s ts (omega arith))
numbered_news ts s (a ∷ atoms) apart h = elim (stands s a) [
  | Lower l ↦ let g : s ≤ length ts = seen_grows s (length ts) (a ∷ atoms) h in news_lower ts s a atoms l g ∙ numbered_news ts s atoms apart (sym (seen_lower s a atoms l) ∙ h)
  | Next e ↦
      let k : seen_after (s + 1) atoms ≡ Some (length ts) = sym (seen_next s a atoms e) ∙ h in
      let g : s + 1 ≤ length ts = seen_grows (s + 1) (length ts) atoms k in
      let less : s < length ts = omega arith in
      news_next ts s a atoms apart e less ∙ (ap (λ (l : Texts). text_at ts s ∷ l) (numbered_news ts (s + 1) atoms apart k) ∙ sym (drop_at_more ts s less))
  | Higher g ↦ let c : ◌≡◌ {A = Option ℕ} None (Some (length ts)) = sym (seen_higher s a atoms g) ∙ h in absurd (cc)
]

-- texts that are numbered in their order are the first ones
pub numbered_firsts : (ts : Texts) (atoms : List ℕ) → AreWithoutEquals ts → seen_after 0 atoms ≡ Some (length ts) → firsts (map (text_at ts) atoms) ≡ ts
numbered_firsts ts atoms apart h = firsts_news (texts_of ts atoms) ∙ numbered_news ts 0 atoms apart h

news_numbered : (ts : Texts) (s : ℕ) (atoms : List ℕ) → AreWithoutEquals ts → s ≤ length ts → Each (λ a. a < length ts) atoms → news (take s ts) (texts_of ts atoms) ≡ drop s ts → seen_after s atoms ≡ Some (length ts)
news_numbered ts s [] apart low all h = ap (λ (k : ℕ). Some k) (end s ts low (sym h))
  where
    end : (n : ℕ) (us : Texts) → n ≤ length us → drop n us ≡ [] → n ≡ length us
    end zero [] l e = refl
    end zero (u ∷ us) l e = absurd (cc)
    end (suc n) [] l e = absurd (omega arith)
    end (suc n) (u ∷ us) l e = ap suc (end n us (omega arith) e)
news_numbered ts s (a ∷ atoms) apart low all h = elim (stands s a) [
  | Lower l ↦ seen_lower s a atoms l ∙ news_numbered ts s atoms apart low all.1 (sym (news_lower ts s a atoms l low) ∙ h)
  | Next e ↦
      let inside : a < length ts = all.0 in
      let less : s < length ts = omega arith in
      let k : text_at ts s ∷ news (take (s + 1) ts) (texts_of ts atoms) ≡ text_at ts s ∷ drop (s + 1) ts = sym (news_next ts s a atoms apart e less) ∙ (h ∙ drop_at_more ts s less) in
      seen_next s a atoms e ∙ news_numbered ts (s + 1) atoms apart (omega arith) all.1 (cc)
  | Higher g ↦
      let inside : a < length ts = all.0 in
      let less : s < length ts = omega arith in
      let k : text_at ts a ∷ news (take s ts ++ text_at ts a ∷ []) (texts_of ts atoms) ≡ text_at ts s ∷ drop (s + 1) ts = sym (news_higher ts s a atoms apart (omega arith) inside) ∙ (h ∙ drop_at_more ts s less) in
      let t : text_at ts a ≡ text_at ts s = cc in
      let e : a ≡ s = same_place ts a s apart inside less t in
      absurd (omega arith)
]

pub firsts_numbered : (ts : Texts) (atoms : List ℕ) → AreWithoutEquals ts → Each (λ a. a < length ts) atoms → firsts (map (text_at ts) atoms) ≡ ts → seen_after 0 atoms ≡ Some (length ts)
firsts_numbered ts atoms apart all h = news_numbered ts 0 atoms apart (omega arith) all (sym (firsts_news (texts_of ts atoms)) ∙ h)
