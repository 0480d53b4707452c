-- A visit of items one by one finds the first clash.
use Rattle.std.proofs.Common.{◌≡◌, ℕ, ◌+◌, ◌-◌, Bool, true, false, cond, Option, None, Some, List, [], ◌∷◌, ◌++◌, length, map, drop, slice_get, refl, sym, ap, ◌∙◌, nat_eq}
use Rattle.std.proofs.lemmas.List.{length-map}
use Rattle.parse_track.specs.declared.track.Item as row
use Rattle.parse_track.specs.declared.track.RegionRow.{RegionRow}
use Rattle.parse_track.specs.Told.{Name, Region, Told, nothing, leaf, inner}
use Rattle.parse_track.specs.RegionNames.{is_lexical, is_var, stops_vars, declared_by, directly}
use Rattle.parse_track.specs.EarlyErrors.{smaller}
use Rattle.parse_track.specs.Log as log
use Rattle.parse_track.specs.Log.{Part, Item, kind_of, told_items, told_region}
use Rattle.parse_track.specs.Rows.{item_of, row_of, items_at}
use Rattle.parse_track.specs.Clashes.{Firsts, no_firsts, put_first, open_all, clash_at, clash_all, opens, base, opened, clashes}
use Rattle.parse_track.proofs.Items.{region_tells}
use Rattle.parse_track.proofs.Smallest.{smaller_assoc, smaller_none}

put_same : (f g : Firsts) (x : Name ℕ) → ((y : ℕ) → f y ≡ g y) → (y : ℕ) → put_first f x y ≡ put_first g x y
put_same f g x e y = ap (λ (o : Option ℕ). cond (nat_eq x.name y) (smaller (Some x.at) o) o) (e y)

pub open_same : (xs : List (Name ℕ)) (f g : Firsts) → ((y : ℕ) → f y ≡ g y) → (y : ℕ) → open_all xs f y ≡ open_all xs g y
open_same [] f g e y = e y
open_same (x ∷ xs) f g e y = open_same xs (put_first f x) (put_first g x) (put_same f g x e) y

-- the walk does not tell names apart that have the same first offsets
clash_all_same : (heads : Bool) (vs : List (Name ℕ)) (f g : Firsts) → ((y : ℕ) → f y ≡ g y) → clash_all heads f vs ≡ clash_all heads g vs
clash_all_same heads [] f g e = refl
clash_all_same heads (v ∷ vs) f g e =
    ap (λ (o : Option ℕ). smaller (clash_at heads o v.at) (clash_all heads f vs)) (e v.name) ∙ ap (smaller (clash_at heads (g v.name) v.at)) (clash_all_same heads vs f g e)

base_same : (b : Bool) (f g : Firsts) → ((y : ℕ) → f y ≡ g y) → (y : ℕ) → cond b no_firsts f y ≡ cond b no_firsts g y
base_same true f g e y = refl
base_same false f g e y = e y

opened_same : (b : Bool) (xs : List (Name ℕ)) (f g : Firsts) → ((y : ℕ) → f y ≡ g y) → (y : ℕ) → cond b (open_all xs f) f y ≡ cond b (open_all xs g) g y
opened_same true xs f g e y = open_same xs f g e y
opened_same false xs f g e y = e y

pub clashes_same : (heads : Bool) (t : Told ℕ) (f g : Firsts) → ((y : ℕ) → f y ≡ g y) → clashes heads f t ≡ clashes heads g t
clashes_same heads nothing f g e = refl
clashes_same heads (leaf l t) f g e =
    ap (λ (o : Option ℕ). smaller o (clashes heads f t)) (clash_all_same heads (declared_by is_var l) f g e)
    ∙ ap (smaller (clash_all heads g (declared_by is_var l))) (clashes_same heads t f g e)
clashes_same heads (inner k at i t) f g e =
    ap (λ (o : Option ℕ). smaller o (clashes heads f t))
    (clashes_same heads i (opened heads k i f) (opened heads k i g) (opened_same (opens heads k) (directly is_lexical i) (base k f) (base k g) (base_same (stops_vars k) f g e)))
    ∙ ap (smaller (clashes heads (opened heads k i g) i)) (clashes_same heads t f g e)

-- an item, and then the others
clashes_cons : (heads : Bool) (f : Firsts) (parts : List Part) (inside : ℕ → Told ℕ) (x : Item) (xs : List Item)
    → clashes heads f (told_items parts inside (x ∷ xs)) ≡ smaller (clashes heads f (told_items parts inside (x ∷ []))) (clashes heads f (told_items parts inside xs))
clashes_cons heads f parts inside (log.Leaf l) xs =
    ap (λ (o : Option ℕ). smaller o (clashes heads f (told_items parts inside xs))) (sym (smaller_none (clash_all heads f (declared_by is_var l))))
clashes_cons heads f parts inside (log.Inner m) xs =
    ap (λ (o : Option ℕ). smaller o (clashes heads f (told_items parts inside xs))) (sym (smaller_none (clashes heads (opened heads (kind_of (slice_get parts m)) (inside m) f) (inside m))))

-- what was found before an item, in it, and in the others
then_rest : (first here rest now all : Option ℕ) → now ≡ smaller first here → smaller first (smaller here rest) ≡ all → smaller now rest ≡ all
then_rest first here rest now all e h = ap (λ (o : Option ℕ). smaller o rest) e ∙ (sym (smaller_assoc first here rest) ∙ h)

pub clash_step : (heads : Bool) (parts : List Part) (inside : ℕ → Told ℕ) (items : List row.Item) (index : ℕ) (x : row.Item) (f g : Firsts) (first now all : Option ℕ)
    → drop index items ≡ x ∷ drop (index + 1) items → ((y : ℕ) → g y ≡ f y)
    → now ≡ smaller first (clashes heads g (told_items parts inside (item_of x ∷ [])))
    → smaller first (clashes heads f (told_items parts inside (map item_of (drop index items)))) ≡ all
    → smaller now (clashes heads f (told_items parts inside (map item_of (drop (index + 1) items)))) ≡ all
clash_step heads parts inside items index x f g first now all d s n h =
    let here : Told ℕ = told_items parts inside (item_of x ∷ []) in
    then_rest first (clashes heads f here) (clashes heads f (told_items parts inside (map item_of (drop (index + 1) items)))) now all
    (n ∙ ap (smaller first) (clashes_same heads here g f s))
    (ap (smaller first) (sym (clashes_cons heads f parts inside (item_of x) (map item_of (drop (index + 1) items)))
    ∙ ap (λ (ys : List row.Item). clashes heads f (told_items parts inside (map item_of ys))) (sym d))
    ∙ h)

pub clash_end : (heads : Bool) (parts : List Part) (room n : ℕ) (items left : List row.Item) (f : Firsts) (before now : Option ℕ) → left ≡ []
    → smaller now (clashes heads f (told_items parts (told_region (room - 1) parts) (map item_of left))) ≡ smaller before (clashes heads f (told_items parts (told_region (room - 1) parts) (map item_of items)))
    → map item_of items ≡ items_at room parts n → now ≡ smaller before (clashes heads f (told_region room parts n))
clash_end heads parts room n items left f before now e h m =
    sym (smaller_none now)
    ∙ (ap (λ (ys : List row.Item). smaller now (clashes heads f (told_items parts (told_region (room - 1) parts) (map item_of ys)))) (sym e)
    ∙ (h ∙ ap (smaller before) (ap (λ (is : List Item). clashes heads f (told_items parts (told_region (room - 1) parts) is)) m
    ∙ ap (clashes heads f) (sym (region_tells room parts n)))))

-- a region in which names are opened, in a function of its own or in that around it
pub clash_inner : (heads : Bool) (k code : Region ℕ) (i : Told ℕ) (f g : Firsts) (before now : Option ℕ) → code ≡ k → ((y : ℕ) → g y ≡ cond (stops_vars code) no_firsts f y)
    → now ≡ smaller before (clashes heads (cond (opens heads code) (open_all (directly is_lexical i) g) g) i)
    → now ≡ smaller before (smaller (clashes heads (opened heads k i f) i) None)
clash_inner heads k code i f g before now c s n =
    n ∙ ap (smaller before)
    (clashes_same heads i (cond (opens heads code) (open_all (directly is_lexical i) g) g) (opened heads code i f) (opened_same (opens heads code) (directly is_lexical i) g (base code f) s)
    ∙ (ap (λ (x : Region ℕ). clashes heads (opened heads x i f) i) c
    ∙ sym (smaller_none (clashes heads (opened heads k i f) i))))

outer_cons : (heads : Bool) (f : Firsts) (parts : List Part) (inside : ℕ → Told ℕ) (n : ℕ) (around : Option ℕ) (xs : List Item)
    → clashes heads f (told_items parts inside (log.outermost_if n around ++ xs)) ≡ smaller (clashes heads f (told_items parts inside (log.outermost_if n around))) (clashes heads f (told_items parts inside xs))
outer_cons heads f parts inside n None xs = clashes_cons heads f parts inside (log.Inner n) xs
outer_cons heads f parts inside n (Some _) xs = refl

pub outer_clash_step : (heads : Bool) (parts : List Part) (inside : ℕ → Told ℕ) (rows : List RegionRow) (index : ℕ) (x : RegionRow) (first now all : Option ℕ)
    → drop index rows ≡ x ∷ drop (index + 1) rows
    → now ≡ smaller first (clashes heads no_firsts (told_items parts inside (log.outermost_if index x.around)))
    → smaller first (clashes heads no_firsts (told_items parts inside (log.outermost index (map row_of (drop index rows))))) ≡ all
    → smaller now (clashes heads no_firsts (told_items parts inside (log.outermost (index + 1) (map row_of (drop (index + 1) rows))))) ≡ all
outer_clash_step heads parts inside rows index x first now all d n h =
    let rest : List Item = log.outermost (index + 1) (map row_of (drop (index + 1) rows)) in
    then_rest first (clashes heads no_firsts (told_items parts inside (log.outermost_if index x.around))) (clashes heads no_firsts (told_items parts inside rest)) now all n
    (ap (smaller first) (sym (outer_cons heads no_firsts parts inside index x.around rest)
    ∙ ap (λ (ys : List RegionRow). clashes heads no_firsts (told_items parts inside (log.outermost index (map row_of ys)))) (sym d))
    ∙ h)

-- no region is left
pub outer_clash_end : (heads : Bool) (rows left : List RegionRow) (index : ℕ) (now : Option ℕ) → left ≡ []
    → smaller now (clashes heads no_firsts (told_items (map row_of rows) (told_region (length rows) (map row_of rows)) (log.outermost index (map row_of left))))
    ≡ clashes heads no_firsts (told_items (map row_of rows) (told_region (length rows) (map row_of rows)) (log.outermost 0 (map row_of rows)))
    → now ≡ clashes heads no_firsts (log.told_of (map row_of rows))
outer_clash_end heads rows left index now e h =
    sym (smaller_none now)
    ∙ (ap (λ (ys : List RegionRow). smaller now (clashes heads no_firsts (told_items (map row_of rows) (told_region (length rows) (map row_of rows)) (log.outermost index (map row_of ys))))) (sym e)
    ∙ (h ∙ ap (λ (n : ℕ). clashes heads no_firsts (told_items (map row_of rows) (told_region n (map row_of rows)) (log.outermost 0 (map row_of rows)))) (sym (length-map rows row_of))))
