-- Each step on the table keeps its rule, and tells what the caller has then seen.
use Rattle.std.proofs.Common.{◌≡◌, ℕ, zero, suc, ◌+◌, ◌-◌, ◌<◌, ◌≤◌, ◌≢◌, ◌⊎◌, List, [], ◌∷◌, ◌++◌, length, set, replicate, eqb, slice_index, slice_index_or, refl, sym, ◌∙◌, ap, subst, inl, inr, ⊎_elim, arith}
use Rattle.std.proofs.lemmas.Bool.{cases_order}
use Rattle.std.proofs.lemmas.List.{get_or-set_same, get_or-set_other, get_or_past, get_or-replicate, length-set, length-replicate}
use mathlib.Core.Option.{some, none, some-injective, some-ne-none}
use mathlib.Core.Logic.{dite}
use native.Mathlib.Decide.{ℕ_discrete}
use prog.Atomic.{either}
use lib.ListN.{get_elem?}
use Rattle.atomic_table.specs.Table.{State, Me, Step, step, Act, keeps, stepped, Allows, Splits, Joins, opening}
use Rattle.atomic_table.proofs.Lists.{exchanged, set_else}
use Rattle.atom_table.specs.ListView.{ListView}
use Rattle.atom_table.specs.declared.rule.Seen.{Seen}
use Rattle.atom_table.specs.Words.{named, home_of, places, Has, Stands, AllStand, Coherent, Passed, gained, settled}
use Rattle.atom_table.specs.Rule.{Each, Lawful, seen, holds, looked, claimed, together, spent}

-- ---- what holds of each view

each_at : {A : Type 0} (P : A → Type 0) (l : List A) (i : ℕ) (a : A) → Each P l → get_elem? l i ≡ some a → P a
each_at P [] i a h e = absurd (some-ne-none a (sym e))
each_at P (x ∷ xs) zero a h e = subst P (some-injective x a e) h.0
each_at P (x ∷ xs) (suc i) a h e = each_at P xs i a h.1 e

each_set : {A : Type 0} (P : A → Type 0) (l : List A) (i : ℕ) (a : A) → Each P l → P a → Each P (set l i a)
each_set P [] i a h p = h
each_set P (x ∷ xs) zero a h p = (p, h.1)
each_set P (x ∷ xs) (suc i) a h p = (h.0, each_set P xs i a h.1 p)

each_snoc : {A : Type 0} (P : A → Type 0) (l : List A) (a : A) → Each P l → P a → Each P (l ++ a ∷ [])
each_snoc P [] a h p = (p, tt)
each_snoc P (x ∷ xs) a h p = (h.0, each_snoc P xs a h.1 p)

each_turned : {A : Type 0} (P Q : A → Type 0) (l : List A) → ((a : A) → P a → Q a) → Each P l → Each Q l
each_turned P Q [] f h = h
each_turned P Q (x ∷ xs) f h = (f x h.0, each_turned P Q xs f h.1)

-- ---- what was seen

pub has_left : (l m : List (ℕ × ℕ)) (x : ℕ × ℕ) → Has l x → Has (l ++ m) x
has_left [] m x h = absurd h
has_left (y ∷ l) m x (inl e) = inl e
has_left (y ∷ l) m x (inr h) = inr (has_left l m x h)

pub has_right : (l m : List (ℕ × ℕ)) (x : ℕ × ℕ) → Has m x → Has (l ++ m) x
has_right [] m x h = h
has_right (y ∷ l) m x h = inr (has_right l m x h)

has_either : (l m : List (ℕ × ℕ)) (x : ℕ × ℕ) → Has (l ++ m) x → Has l x ⊎ Has m x
has_either [] m x h = inr h
has_either (y ∷ l) m x (inl e) = inl (inl e)
has_either (y ∷ l) m x (inr h) = ⊎_elim (λ a. inl (inr a)) (λ b. inr b) (has_either l m x h)

stand_more : (words : List ℕ) (place word : ℕ) (l : List (ℕ × ℕ)) → word ≢ 0 → slice_index words place ≡ word → AllStand words l → AllStand words ((place, word) ∷ l)
stand_more words place word l ne e h x (inl same) = subst (Stands words) same (ne, e)
stand_more words place word l ne e h x (inr old) = h x old

stand_gained : (words : List ℕ) (place word : ℕ) (l : List (ℕ × ℕ)) → slice_index words place ≡ word → AllStand words l → AllStand words (gained place word l)
stand_gained words place zero l e h = h
stand_gained words place (suc word) l e h = stand_more words place (suc word) l (λ z. omega arith) e h

stand_both : (words : List ℕ) (l m : List (ℕ × ℕ)) → AllStand words l → AllStand words m → AllStand words (l ++ m)
stand_both words l m h k x has = ⊎_elim (h x) (k x) (has_either l m x has)

-- a place that holds a word is in the table
held_within : (words : List ℕ) (p : ℕ) → slice_index words p ≢ 0 → p < length words
held_within [] p ne = absurd (ne refl)
held_within (w ∷ words) zero ne = omega arith
held_within (w ∷ words) (suc p) ne = let h = held_within words p ne in omega arith

-- what stands in a lawful table is coherent
pub coherent_of : (list : ListView) (words : List ℕ) (views : List Seen) → Lawful list words views → (l : List (ℕ × ℕ)) → AllStand words l → Coherent list l
coherent_of list words views law l stand = record {
  range = λ x h. let s = stand x h in let at : slice_index words x.0 ≡ x.1 = s.1 in let nz : x.1 ≢ 0 = s.0 in let r = law.range x.0 in let size = law.size in
      let within : x.0 < length words = held_within words x.0 (λ z. nz (sym at ∙ z)) in (omega arith, omega arith, omega arith);
  one_each = λ x y h k. let s = stand x h in let t = stand y k in (
    (λ e. ap (named list) (sym s.1 ∙ ap (slice_index words) e ∙ t.1)),
    (λ e. law.apart x.0 y.0 (λ z. s.0 (sym s.1 ∙ z)) (λ z. t.0 (sym t.1 ∙ z)) (ap (named list) s.1 ∙ e ∙ sym (ap (named list) t.1))),
  );
}

-- ---- a look

set_same : (l : List ℕ) (i : ℕ) → set l i (slice_index l i) ≡ l
set_same [] i = refl
set_same (x ∷ xs) zero = refl
set_same (x ∷ xs) (suc i) = ap (λ l. x ∷ l) (set_same xs i)

with_views : (list : ListView) (words : List ℕ) (views after : List Seen) → Lawful list words views → Each (λ (v : Seen). AllStand words v.words) after → Lawful list words after
with_views list words views after law h = record {
  size = law.size;
  range = law.range;
  apart = law.apart;
  after_home = law.after_home;
  path = law.path;
  views_stand = h;
}

module _ {S : Type 0} where
  pub look_allows : (list : ListView) (slots id : ℕ) (me : Me S Seen) (place : ℕ) → me.0.list ≡ list → Allows (holds {S = S} list) slots id me place (λ n. n) (looked (step slots place 0 0 none) me)
  look_allows list slots id me place same s law homes at small =
      let found : ℕ = slice_index s.words place in
      let stand : AllStand s.words me.0.words = each_at (λ (v : Seen). AllStand s.words v.words) s.views id me.0 law.views_stand at in
      let now : List (ℕ × ℕ) = gained place found me.0.words in
      let standing : AllStand s.words now = stand_gained s.words place found me.0.words refl stand in
      let view : Seen = seen me.0.list now in (
        view,
        keeps,
        tt,
        subst (λ words. Lawful list words (set s.views id view)) (sym (set_same s.words place)) (with_views list s.words s.views (set s.views id view) law (each_set (λ (v : Seen). AllStand s.words v.words) s.views id view law.views_stand standing)),
        (refl, refl, refl, subst (λ t. Coherent t now) (sym same) (coherent_of list s.words s.views law now standing), λ word h. (stand (place, word) h).1),
      )

-- ---- an exchange of 0

settled_some : (word new : ℕ) → word ≢ 0 → settled word new ≡ word
settled_some zero new ne = absurd (ne refl)
settled_some (suc word) new ne = refl

-- where no word stood, what stood stands on
stand_on : (words : List ℕ) (p new : ℕ) → slice_index words p ≡ 0 → (l : List (ℕ × ℕ)) → AllStand words l → AllStand (set words p new) l
stand_on words p new free l h x has =
    let s = h x has in
    let other : x.0 ≢ p = λ e. s.0 (sym s.1 ∙ ap (slice_index words) e ∙ free) in
    (s.0, get_or-set_other words p x.0 new 0 other ∙ s.1)

module _ (list : ListView) (words : List ℕ) (views : List Seen) (law : Lawful list words views) (p new : ℕ) (text : List ℕ) (free : slice_index words p ≡ 0) (new_some : new ≢ 0) (in_range : new ≤ length list.texts) (inside : p < length words) (is : named list new ≡ text) (home : home_of list text ≤ p) (l : List (ℕ × ℕ)) (stand : AllStand words l) (passed : Passed l list text p) where
  here : slice_index (set words p new) p ≡ new
  here = get_or-set_same words p new 0 inside

  there : (q : ℕ) → q ≢ p → slice_index (set words p new) q ≡ slice_index words q
  there q ne = get_or-set_other words p q new 0 ne

  -- no place holds a word of this text yet
  fresh : (q : ℕ) → slice_index words q ≢ 0 → named list (slice_index words q) ≡ text → ⊥
  fresh q held e =
      let from : home_of list text ≤ q = subst (λ t. home_of list t ≤ q) e (law.after_home q held) in
      elim (cases_order q p) [
        | inl same ↦ held (ap (slice_index words) same ∙ free)
        | inr apart ↦ elim apart [
          | inl before ↦ (let h = passed q from before in h.2 (ap (named list) (sym (stand (q, h.0) h.1).1) ∙ e))
          | inr behind ↦ law.path q p held (subst (λ t. home_of list t ≤ p) (sym e) home) behind free
        ]
      ]

  range_after : (q : ℕ) → slice_index (set words p new) q ≤ length list.texts
  range_after q = dite (ℕ_discrete q p) (λ e. subst (λ q. slice_index (set words p new) q ≤ length list.texts) (sym e) (subst (λ w. w ≤ length list.texts) (sym here) in_range)) (λ ne. subst (λ w. w ≤ length list.texts) (sym (there q ne)) (law.range q))

  old_some : (q : ℕ) → q ≢ p → slice_index (set words p new) q ≢ 0 → slice_index words q ≢ 0
  old_some q ne held z = held (there q ne ∙ z)

  apart_after : (q r : ℕ) → slice_index (set words p new) q ≢ 0 → slice_index (set words p new) r ≢ 0 → named list (slice_index (set words p new) q) ≡ named list (slice_index (set words p new) r) → q ≡ r
  apart_after q r held other e =
      dite (ℕ_discrete q p)
      (λ a. dite (ℕ_discrete r p) (λ b. a ∙ sym b) (λ nb. absurd (fresh r (old_some r nb other) (sym (ap (named list) (there r nb)) ∙ sym e ∙ ap (λ q. named list (slice_index (set words p new) q)) a ∙ ap (named list) here ∙ is))))
      (λ na. dite (ℕ_discrete r p)
      (λ b. absurd (fresh q (old_some q na held) (sym (ap (named list) (there q na)) ∙ e ∙ ap (λ r. named list (slice_index (set words p new) r)) b ∙ ap (named list) here ∙ is)))
      (λ nb. law.apart q r (old_some q na held) (old_some r nb other) (sym (ap (named list) (there q na)) ∙ e ∙ ap (named list) (there r nb))))

  after_home_after : (q : ℕ) → slice_index (set words p new) q ≢ 0 → home_of list (named list (slice_index (set words p new) q)) ≤ q
  after_home_after q held = dite (ℕ_discrete q p)
      (λ e. subst (λ q. home_of list (named list (slice_index (set words p new) q)) ≤ q) (sym e) (subst (λ t. home_of list t ≤ p) (sym (ap (named list) here ∙ is)) home))
      (λ ne. subst (λ w. home_of list (named list w) ≤ q) (sym (there q ne)) (law.after_home q (old_some q ne held)))

  -- a place is taken now if it was, or is this one
  taken : (r : ℕ) → (r ≢ p → slice_index words r ≢ 0) → slice_index (set words p new) r ≢ 0
  taken r h = dite (ℕ_discrete r p) (λ e z. new_some (sym here ∙ ap (slice_index (set words p new)) (sym e) ∙ z)) (λ ne z. h ne (sym (there r ne) ∙ z))

  path_after : (q r : ℕ) → slice_index (set words p new) q ≢ 0 → home_of list (named list (slice_index (set words p new) q)) ≤ r → r < q → slice_index (set words p new) r ≢ 0
  path_after q r held from before = taken r (λ nr. dite (ℕ_discrete q p)
      (λ e. let h = passed r (subst (λ t. home_of list t ≤ r) (ap (λ q. named list (slice_index (set words p new) q)) e ∙ ap (named list) here ∙ is) from) (subst (λ q. r < q) e before) in
      let s = stand (r, h.0) h.1 in λ z. s.0 (sym s.1 ∙ z))
      (λ ne. law.path q r (old_some q ne held) (subst (λ w. home_of list (named list w) ≤ r) (there q ne) from) before))

  pub claim_lawful : (id : ℕ) → Lawful list (set words p new) (set views id (seen list ((p, new) ∷ l)))
  claim_lawful id = record {
    size = length-set words p new ∙ law.size;
    range = range_after;
    apart = apart_after;
    after_home = after_home_after;
    path = path_after;
    views_stand = each_set (λ (v : Seen). AllStand (set words p new) v.words) views id (seen list ((p, new) ∷ l))
        (each_turned (λ (v : Seen). AllStand words v.words) (λ (v : Seen). AllStand (set words p new) v.words) views (λ v h. stand_on words p new free v.words h) law.views_stand)
        (stand_more (set words p new) p new l new_some here (stand_on words p new free l stand));
  }

module _ {S : Type 0} where
  pub claim_allows : (list : ListView) (slots id : ℕ) (me : Me S Seen) (place number : ℕ) → me.0.list ≡ list → number < length list.texts → place < places list → home_of list (slice_index_or list.texts number []) ≤ place → Passed me.0.words list (slice_index_or list.texts number []) place → Allows (holds {S = S} list) slots id me place (λ n. either (eqb n 0) (number + 1) n) (claimed (step slots place 0 (number + 1) none) me)
  claim_allows list slots id me place number same known inside home passed s law homes at small =
      let found : ℕ = slice_index s.words place in
      let new : ℕ = number + 1 in
      let stand : AllStand s.words me.0.words = each_at (λ (v : Seen). AllStand s.words v.words) s.views id me.0 law.views_stand at in
      let size = law.size in
      let within : place < length s.words = omega arith in
      let less : number + 1 - 1 ≡ number = omega arith in
      let is : named list new ≡ slice_index_or list.texts number [] = ap (λ n. slice_index_or list.texts n []) less in
      exchanged found 0 new
      (λ word. (w : Seen) × (a : Act S) × Rattle.atomic_table.specs.Table.Valid s.homes me.1 a × holds list (stepped s place word id me.1 w a) × claimed (step slots place 0 new none) me found (w, Rattle.atomic_table.specs.Table.carried_after me.1 a))
      (λ free.
      let law' = claim_lawful list s.words s.views law place new (slice_index_or list.texts number []) free (λ z. omega arith) (omega arith) within is home me.0.words stand passed id in
      let now : List (ℕ × ℕ) = (place, new) ∷ me.0.words in
      let standing : AllStand (set s.words place new) now = stand_more (set s.words place new) place new me.0.words (λ z. omega arith) (get_or-set_same s.words place new 0 within) (stand_on s.words place new free me.0.words stand) in
      (seen list now, keeps, tt, law', (refl, sym same, ap (λ w. (place, settled w new) ∷ me.0.words) (sym free), subst (λ t. Coherent t now) (sym same) (coherent_of list (set s.words place new) (set s.views id (seen list now)) law' now standing))))
      (λ held.
      let now : List (ℕ × ℕ) = (place, found) ∷ me.0.words in
      let standing : AllStand s.words now = stand_more s.words place found me.0.words held refl stand in
      let view : Seen = seen list now in (
        view,
        keeps,
        tt,
        subst (λ words. Lawful list words (set s.views id view)) (sym (set_same s.words place)) (with_views list s.words s.views (set s.views id view) law (each_set (λ (v : Seen). AllStand s.words v.words) s.views id view law.views_stand standing)),
        (refl, sym same, ap (λ w. (place, w) ∷ me.0.words) (sym (settled_some found new held)), subst (λ t. Coherent t now) (sym same) (coherent_of list s.words s.views law now standing)),
      ))

  -- a seat's view is cut into two that are as it was
  pub splits : (list : ListView) (id : ℕ) (v : Seen) → Splits (holds {S = S} list) id v v v
  splits list id v s law at =
      let P : Seen → Type 0 = λ v. AllStand s.words v.words in
      let stand : AllStand s.words v.words = each_at P s.views id v law.views_stand at in
      with_views list s.words s.views (set s.views id v ++ v ∷ []) law (each_snoc P (set s.views id v) v (each_set P s.views id v law.views_stand stand) stand)

  -- two seats' views become one, and the second has seen nothing
  pub joins : (list : ListView) (id : ℕ) (v : Seen) (other : ℕ) (w : Seen) → Joins (holds {S = S} list) id v other w (together v w) spent
  joins list id v other w s law at ne at_other =
      let P : Seen → Type 0 = λ v. AllStand s.words v.words in
      let stand : AllStand s.words v.words = each_at P s.views id v law.views_stand at in
      let both : Seen = together v w in
      let stand_w : AllStand s.words w.words = each_at P s.views other w law.views_stand (sym (set_else s.views id other both ne) ∙ at_other) in
      with_views list s.words s.views (set (set s.views id both) other spent) law
      (each_set P (set s.views id both) other spent (each_set P s.views id both law.views_stand (stand_both s.words v.words w.words stand stand_w)) (λ x h. absurd h))

-- ---- the beginning

none_past : (n p : ℕ) → n ≤ p → slice_index (replicate n 0) p ≡ 0
none_past n p h = get_or_past (replicate n 0) p 0 (subst (λ k. k ≤ p) (sym (length-replicate n 0)) h)

none_yet : (n p : ℕ) → slice_index (replicate n 0) p ≡ 0
none_yet n p = elim (cases_order p n) [
  | inl same ↦ none_past n p (omega arith)
  | inr apart ↦ elim apart [ inl before ↦ get_or-replicate n p 0 0 before | inr behind ↦ none_past n p (omega arith) ]
]

pub opens : (S : Type 0) (list : ListView) (words : List ℕ) → words ≡ replicate (places list) 0 → holds {S = S} list (opening words [] (seen list []))
opens S list words e = record {
  size = ap length e ∙ length-replicate (places list) 0;
  range = λ p. let z = none p in omega arith;
  apart = λ p q held other same. absurd (held (none p));
  after_home = λ p held. absurd (held (none p));
  path = λ p q held from before. absurd (held (none p));
  views_stand = ((λ x h. absurd h), tt);
}
  where
    none : (p : ℕ) → slice_index words p ≡ 0
    none p = ap (λ w. slice_index w p) e ∙ none_yet (places list) p
