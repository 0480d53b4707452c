-- Functions in which no function begins: none of their names is closed over, and of their uses those count that are free.
use Rattle.std.proofs.Common.{◌≡◌, ℕ, ◌+◌, ◌-◌, Bool, true, false, cond, not, ◌||◌, ◌&&◌, nat_eq, List, [], ◌∷◌, ◌++◌, map, drop, slice_get, refl, sym, ap, ◌∙◌}
use Rattle.std.proofs.lemmas.Bool.{eqb-true}
use Rattle.parse_track.specs.Told.{Region, Script, Function, Arrow, Lambda, Block, Switch, ForHead, Catch, Loop, Label, VarBody, Leaf, Declared, Used, Jumped, Told, nothing, leaf, inner, KnownNames}
use Rattle.parse_track.specs.RegionNames.{is_lambda, is_function}
use Rattle.parse_track.specs.EarlyErrors.{has}
use Rattle.parse_track.specs.ClosedNames.{names, begins, reaches}
use Rattle.parse_track.specs.Walk.{Tops}
use Rattle.parse_track.specs.Pruned.{is_functional, is_hit, lone, quiet, free_uses, pruned, is_plain}
use Rattle.parse_track.specs.declared.track.Item as row
use Rattle.parse_track.specs.Log as log
use Rattle.parse_track.specs.Log.{Part, Item, kind_of, told_items, told_region}
use Rattle.parse_track.specs.Rows.{item_of, items_at}
use Rattle.parse_track.proofs.Items.{region_tells}
use Rattle.parse_track.proofs.Walk.{false_is_true, has-append}

pub and_left : (a b : Bool) → (a && b) ≡ true → a ≡ true
and_left true b e = refl
and_left false b e = absurd (false_is_true e)

pub and_right : (a b : Bool) → (a && b) ≡ true → b ≡ true
and_right true b e = e
and_right false b e = absurd (false_is_true e)

-- one of two, each of which gives the same
pub either_same : {A B : Type 0} (F : A → B) (b : Bool) (x y : A) (z : B) → F x ≡ z → F y ≡ z → F (cond b x y) ≡ z
either_same F true x y z e f = e
either_same F false x y z e f = f

pub either_by : {A B : Type 0} (F : A → B) (b : Bool) (x y : A) (z : B) → (b ≡ true → F x ≡ z) → (b ≡ false → F y ≡ z) → F (cond b x y) ≡ z
either_by F true x y z e f = e refl
either_by F false x y z e f = f refl

pub not_is : (a : Bool) → not a ≡ true → a ≡ false
not_is true e = absurd (false_is_true e)
not_is false e = refl

-- where no function is, none begins
pub none_begins : (named : Bool) (k : Region ℕ) → not (is_functional k) ≡ true → begins named k ≡ false
none_begins named Script e = refl
none_begins named Function e = absurd (false_is_true e)
none_begins named Arrow e = absurd (false_is_true e)
none_begins named (Lambda _) e = absurd (false_is_true e)
none_begins named Block e = refl
none_begins named Switch e = refl
none_begins named ForHead e = refl
none_begins named Catch e = refl
none_begins named Loop e = refl
none_begins named (Label _) e = refl
none_begins named VarBody e = refl

no_function : (k : Region ℕ) → not (is_functional k) ≡ true → is_function k ≡ false
no_function Script e = refl
no_function Function e = absurd (false_is_true e)
no_function Arrow e = absurd (false_is_true e)
no_function (Lambda _) e = refl
no_function Block e = refl
no_function Switch e = refl
no_function ForHead e = refl
no_function Catch e = refl
no_function Loop e = refl
no_function (Label _) e = refl
no_function VarBody e = refl

-- a plain function begins, and so does an arrow in its place
pub plain_begins : (named : Bool) (k : Region ℕ) → is_plain named k ≡ true → begins named k ≡ true
plain_begins named Function e = e
plain_begins named Arrow e = e
plain_begins named (Lambda _) e = refl
plain_begins named Script e = absurd (false_is_true e)
plain_begins named Block e = absurd (false_is_true e)
plain_begins named Switch e = absurd (false_is_true e)
plain_begins named ForHead e = absurd (false_is_true e)
plain_begins named Catch e = absurd (false_is_true e)
plain_begins named Loop e = absurd (false_is_true e)
plain_begins named (Label _) e = absurd (false_is_true e)
plain_begins named VarBody e = absurd (false_is_true e)

pub plain_function : (named : Bool) (k : Region ℕ) → is_plain named k ≡ true → is_function k ≡ true
plain_function named k e = and_left (is_function k) (not named) e

pub plain_apart : (named : Bool) (k : Region ℕ) → is_plain named k ≡ true → not named ≡ true
plain_apart named k e = and_right (is_function k) (not named) e

-- what is quiet has no function
pub quiet_lone : (tops : Tops) (depth : ℕ) (t : Told ℕ) → quiet tops depth t ≡ true → lone t ≡ true
quiet_lone tops depth nothing e = refl
quiet_lone tops depth (leaf (Used y) t) e = quiet_lone tops depth t (and_right (not (is_hit (tops y) depth)) (quiet tops depth t) e)
quiet_lone tops depth (leaf (Declared _ _) t) e = quiet_lone tops depth t e
quiet_lone tops depth (leaf (Jumped _ _ _) t) e = quiet_lone tops depth t e
quiet_lone tops depth (inner k at i t) e =
    let rest = and_right (not (is_functional k)) (quiet tops depth i && quiet tops depth t) e in
    ap (λ (b : Bool). b && (lone i && lone t)) (and_left (not (is_functional k)) (quiet tops depth i && quiet tops depth t) e)
    ∙ (ap (λ (b : Bool). b && lone t) (quiet_lone tops depth i (and_left (quiet tops depth i) (quiet tops depth t) rest))
    ∙ quiet_lone tops depth t (and_right (quiet tops depth i) (quiet tops depth t) rest))

-- what has no function stays as it is
unpruned : (known : KnownNames ℕ) (named a : Bool) (k : Region ℕ) (at : ℕ) (i t i' t' u : Told ℕ) → a ≡ false → i' ≡ i → t' ≡ t → cond a (inner Arrow at u t') (inner k at i' t') ≡ inner k at i t
unpruned known named true k at i t i' t' u e f g = absurd (false_is_true (sym e))
unpruned known named false k at i t i' t' u e f g = ap (λ (x : Told ℕ). inner k at x t') f ∙ ap (λ (x : Told ℕ). inner k at i x) g

plain_not : (named : Bool) (k : Region ℕ) (b : Bool) → is_function k ≡ false → (is_plain named k && b) ≡ false
plain_not named k b e = ap (λ (a : Bool). (a && not named) && b) e

pub pruned_lone : (known : KnownNames ℕ) (t : Told ℕ) (named : Bool) → lone t ≡ true → pruned known named t ≡ t
pruned_lone known nothing named e = refl
pruned_lone known (leaf l t) named e = ap (leaf l) (pruned_lone known t named e)
pruned_lone known (inner k at i t) named e =
    let here = and_left (not (is_functional k)) (lone i && lone t) e in
    let rest = and_right (not (is_functional k)) (lone i && lone t) e in
    unpruned known named (is_plain named k && lone i) k at i t (pruned known (is_lambda k) i) (pruned known named t) (free_uses known (names nat_eq known k i) i nothing)
    (plain_not named k (lone i) (no_function k here))
    (pruned_lone known i (is_lambda k) (and_left (lone i) (lone t) rest))
    (pruned_lone known t named (and_right (lone i) (lone t) rest))

-- no use in it reaches a name from a function inside
pub and_no : (a : Bool) → (a && false) ≡ false
and_no true = refl
and_no false = refl

pub none_reaches : (known : KnownNames ℕ) (t : Told ℕ) (named : Bool) (x : ℕ) → lone t ≡ true → reaches nat_eq known named false x t ≡ false
none_reaches known nothing named x e = refl
none_reaches known (leaf (Used y) t) named x e = none_reaches known t named x e
none_reaches known (leaf (Declared _ _) t) named x e = none_reaches known t named x e
none_reaches known (leaf (Jumped _ _ _) t) named x e = none_reaches known t named x e
none_reaches known (inner k at i t) named x e =
    let here = and_left (not (is_functional k)) (lone i && lone t) e in
    let rest = and_right (not (is_functional k)) (lone i && lone t) e in
    ap (λ (b : Bool). (not (has nat_eq x (names nat_eq known k i)) && reaches nat_eq known (is_lambda k) (false || b) x i) || reaches nat_eq known named false x t) (none_begins named k here)
    ∙ (ap (λ (b : Bool). (not (has nat_eq x (names nat_eq known k i)) && b) || reaches nat_eq known named false x t) (none_reaches known i (is_lambda k) x (and_left (lone i) (lone t) rest))
    ∙ (ap (λ (b : Bool). b || reaches nat_eq known named false x t) (and_no (not (has nat_eq x (names nat_eq known k i))))
    ∙ none_reaches known t named x (and_right (lone i) (lone t) rest)))

-- its free uses reach what it reaches
same_has : (x y : ℕ) (bound : List ℕ) (b : Bool) → nat_eq x y ≡ true → has nat_eq y bound ≡ b → has nat_eq x bound ≡ b
same_has x y bound b e f = ap (λ (z : ℕ). has nat_eq z bound) (eqb-true x y e) ∙ f

use_bound : (h s r u : Bool) → (s ≡ true → h ≡ true) → ((not h && r) || u) ≡ ((not h && (s || r)) || u)
use_bound true s r u f = refl
use_bound false true r u f = absurd (false_is_true (f refl))
use_bound false false r u f = refl

use_free : (h s r u : Bool) → (s ≡ true → h ≡ false) → (s || ((not h && r) || u)) ≡ ((not h && (s || r)) || u)
use_free true true r u f = absurd (false_is_true (sym (f refl)))
use_free true false r u f = refl
use_free false true r u f = refl
use_free false false r u f = refl

pick_use : (known : KnownNames ℕ) (named' : Bool) (x y : ℕ) (bound : List ℕ) (h r u : Bool) (t' : Told ℕ) → has nat_eq y bound ≡ h
    → reaches nat_eq known named' true x t' ≡ ((not (has nat_eq x bound) && r) || u)
    → reaches nat_eq known named' true x (cond h t' (leaf (Used y) t')) ≡ ((not (has nat_eq x bound) && (nat_eq x y || r)) || u)
pick_use known named' x y bound true r u t' e f = f ∙ use_bound (has nat_eq x bound) (nat_eq x y) r u (λ s. same_has x y bound true s e)
pick_use known named' x y bound false r u t' e f =
    ap (λ (b : Bool). nat_eq x y || b) f ∙ use_free (has nat_eq x bound) (nat_eq x y) r u (λ s. same_has x y bound false s e)

region_free : (hn hx ri rt u : Bool) → ((not (hn || hx) && ri) || ((not hx && rt) || u)) ≡ ((not hx && ((not hn && ri) || rt)) || u)
region_free true true ri rt u = refl
region_free true false ri rt u = refl
region_free false true ri rt u = refl
region_free false false true rt u = refl
region_free false false false rt u = refl

pub free_reaches : (known : KnownNames ℕ) (t : Told ℕ) (named named' : Bool) (bound : List ℕ) (x : ℕ) (rest : Told ℕ) → lone t ≡ true
    → reaches nat_eq known named' true x (free_uses known bound t rest)
    ≡ ((not (has nat_eq x bound) && reaches nat_eq known named true x t) || reaches nat_eq known named' true x rest)
free_reaches known nothing named named' bound x rest e = ap (λ (b : Bool). b || reaches nat_eq known named' true x rest) (sym (and_no (not (has nat_eq x bound))))
free_reaches known (leaf (Declared _ _) t) named named' bound x rest e = free_reaches known t named named' bound x rest e
free_reaches known (leaf (Jumped _ _ _) t) named named' bound x rest e = free_reaches known t named named' bound x rest e
free_reaches known (leaf (Used y) t) named named' bound x rest e =
    pick_use known named' x y bound (has nat_eq y bound) (reaches nat_eq known named true x t) (reaches nat_eq known named' true x rest) (free_uses known bound t rest) refl
    (free_reaches known t named named' bound x rest e)
free_reaches known (inner k at i t) named named' bound x rest e =
    let here = and_left (not (is_functional k)) (lone i && lone t) e in
    let more = and_right (not (is_functional k)) (lone i && lone t) e in
    free_reaches known i (is_lambda k) named' (names nat_eq known k i ++ bound) x (free_uses known bound t rest) (and_left (lone i) (lone t) more)
    ∙ (ap (λ (b : Bool). (not (has nat_eq x (names nat_eq known k i ++ bound)) && reaches nat_eq known (is_lambda k) true x i) || b)
    (free_reaches known t named named' bound x rest (and_right (lone i) (lone t) more))
    ∙ (ap (λ (b : Bool). (not b && reaches nat_eq known (is_lambda k) true x i) || ((not (has nat_eq x bound) && reaches nat_eq known named true x t) || reaches nat_eq known named' true x rest))
    (has-append x (names nat_eq known k i) bound)
    ∙ region_free (has nat_eq x (names nat_eq known k i)) (has nat_eq x bound) (reaches nat_eq known (is_lambda k) true x i) (reaches nat_eq known named true x t) (reaches nat_eq known named' true x rest)))

-- items one by one
and_three : (f i t : Bool) → (f && (i && t)) ≡ ((f && (i && true)) && t)
and_three true true t = refl
and_three true false t = refl
and_three false i t = refl

pub lone_cons : (parts : List Part) (inside : ℕ → Told ℕ) (x : Item) (xs : List Item)
    → lone (told_items parts inside (x ∷ xs)) ≡ (lone (told_items parts inside (x ∷ [])) && lone (told_items parts inside xs))
lone_cons parts inside (log.Leaf l) xs = refl
lone_cons parts inside (log.Inner m) xs = and_three (not (is_functional (kind_of (slice_get parts m)))) (lone (inside m)) (lone (told_items parts inside xs))

quiet_leaf : (tops : Tops) (depth : ℕ) (l : Leaf ℕ) (t : Told ℕ) → quiet tops depth (leaf l t) ≡ (quiet tops depth (leaf l nothing) && quiet tops depth t)
quiet_leaf tops depth (Declared _ _) t = refl
quiet_leaf tops depth (Jumped _ _ _) t = refl
quiet_leaf tops depth (Used y) t = ap (λ (b : Bool). b && quiet tops depth t) (sym (and_yes (not (is_hit (tops y) depth)))) where
  and_yes : (a : Bool) → (a && true) ≡ a
  and_yes true = refl
  and_yes false = refl

pub quiet_cons : (tops : Tops) (depth : ℕ) (parts : List Part) (inside : ℕ → Told ℕ) (x : Item) (xs : List Item)
    → quiet tops depth (told_items parts inside (x ∷ xs)) ≡ (quiet tops depth (told_items parts inside (x ∷ [])) && quiet tops depth (told_items parts inside xs))
quiet_cons tops depth parts inside (log.Leaf l) xs = quiet_leaf tops depth l (told_items parts inside xs)
quiet_cons tops depth parts inside (log.Inner m) xs = and_three (not (is_functional (kind_of (slice_get parts m)))) (quiet tops depth (inside m)) (quiet tops depth (told_items parts inside xs))

-- a loop over the items of a region that asks each
module _ (F : Told ℕ → Bool) (cons : (parts : List Part) (inside : ℕ → Told ℕ) (x : Item) (xs : List Item) → F (told_items parts inside (x ∷ xs)) ≡ (F (told_items parts inside (x ∷ [])) && F (told_items parts inside xs))) where
  pub ask_fails : (parts : List Part) (room n : ℕ) (items : List row.Item) (index : ℕ) (x : row.Item) (asked : Bool) → drop index items ≡ x ∷ drop (index + 1) items
      → asked ≡ F (told_items parts (told_region (room - 1) parts) (item_of x ∷ [])) → asked ≡ false
      → F (told_items parts (told_region (room - 1) parts) (map item_of (drop index items))) ≡ F (told_items parts (told_region (room - 1) parts) (map item_of items))
      → map item_of items ≡ items_at room parts n → false ≡ F (told_region room parts n)
  ask_fails parts room n items index x asked d e g inv f =
      ap (λ (b : Bool). b && F (told_items parts (told_region (room - 1) parts) (map item_of (drop (index + 1) items)))) (sym g ∙ e)
      ∙ (sym (cons parts (told_region (room - 1) parts) (item_of x) (map item_of (drop (index + 1) items)))
      ∙ (ap (λ (xs : List row.Item). F (told_items parts (told_region (room - 1) parts) (map item_of xs))) (sym d)
      ∙ (inv ∙ (ap (λ (is : List Item). F (told_items parts (told_region (room - 1) parts) is)) f ∙ ap F (sym (region_tells room parts n))))))

  pub ask_ends : (parts : List Part) (room n : ℕ) (items left : List row.Item) → left ≡ [] → F nothing ≡ true
      → F (told_items parts (told_region (room - 1) parts) (map item_of left)) ≡ F (told_items parts (told_region (room - 1) parts) (map item_of items))
      → map item_of items ≡ items_at room parts n → true ≡ F (told_region room parts n)
  ask_ends parts room n items left e z inv f =
      sym z
      ∙ (ap (λ (xs : List row.Item). F (told_items parts (told_region (room - 1) parts) (map item_of xs))) (sym e)
      ∙ (inv ∙ (ap (λ (is : List Item). F (told_items parts (told_region (room - 1) parts) is)) f ∙ ap F (sym (region_tells room parts n)))))
