-- The scopes of what is told are at most two for each region, and a walk over items or rows has those of the rest before it.
use Rattle.std.proofs.Common.{◌≡◌, ℕ, ◌+◌, ◌-◌, ◌*◌, ◌<◌, ◌≤◌, Bool, true, false, cond, nat_eq, Option, None, Some, List, [], ◌∷◌, ◌++◌, length, length-append, add-one, get_or, drop-cons, map, drop, sym, ap, ◌∙◌, arith}
use Rattle.std.proofs.lemmas.List.{length-map}
use Rattle.parse_track.specs.declared.track.Item as row
use Rattle.parse_track.specs.declared.track.RegionRow.{RegionRow}
use Rattle.parse_track.specs.Told.{Region, Script, Function, Arrow, Lambda, Block, Switch, ForHead, Catch, Loop, Label, VarBody, Told, nothing, leaf, inner, KnownNames}
use Rattle.parse_track.specs.RegionNames.{is_lambda, is_lexical, is_catch_param, directly, vars}
use Rattle.parse_track.specs.ClosedNames.{scopes, scope_count, scope_if_any, function_scopes, has_body, begins, distinct, names_of}
use Rattle.parse_track.specs.Counted.{region_count}
use Rattle.parse_track.specs.Log as log
use Rattle.parse_track.specs.Log.{Part, Item, told_items, told_region, told_of, outermost, outermost_if}
use Rattle.parse_track.specs.Rows.{item_of, row_of, items_at, told_at}
use Rattle.parse_track.proofs.Items.{region_tells}

pub one_scope : {A : Type 0} (xs : List A) → length (scope_if_any xs) ≤ 1
one_scope [] = omega arith
one_scope (x ∷ xs) = omega arith

function_scopes_few : (implicit : List ℕ) (body : Bool) (i : Told ℕ) → length (function_scopes nat_eq implicit body i) ≤ 2
function_scopes_few implicit true i = omega arith
function_scopes_few implicit false i = let e = one_scope (distinct nat_eq (names_of (directly is_lexical i))) in omega (arith, e)

pub scopes_few : (known : KnownNames ℕ) (k : Region ℕ) (i : Told ℕ) → length (scopes nat_eq known k i) ≤ 2
scopes_few known Script i = omega arith
scopes_few known Function i = function_scopes_few (known.arguments ∷ known.this ∷ []) (has_body i) i
scopes_few known Arrow i = function_scopes_few [] (has_body i) i
scopes_few known (Lambda name) i = omega arith
scopes_few known Block i = let e = one_scope (distinct nat_eq (names_of (directly is_lexical i))) in omega (arith, e)
scopes_few known Switch i = let e = one_scope (distinct nat_eq (names_of (directly is_lexical i))) in omega (arith, e)
scopes_few known ForHead i = let e = one_scope (distinct nat_eq (names_of (directly is_lexical i))) in omega (arith, e)
scopes_few known Catch i = let e = one_scope (distinct nat_eq (names_of (directly is_catch_param i))) in omega (arith, e)
scopes_few known VarBody i =
    let vs = scope_if_any (distinct nat_eq (names_of (vars i))) in
    let ls = scope_if_any (distinct nat_eq (names_of (directly is_lexical i))) in
    let e = length-append vs ls in
    let a = one_scope (distinct nat_eq (names_of (vars i))) in
    let b = one_scope (distinct nat_eq (names_of (directly is_lexical i))) in
    omega (arith, e, a, b)
scopes_few known Loop i = omega arith
scopes_few known (Label _) i = omega arith

none_or : (b : Bool) (n m : ℕ) → n ≤ m → cond b 0 n ≤ m
none_or true n m h = omega arith
none_or false n m h = h

pub scope_count_few : (known : KnownNames ℕ) (named : Bool) (t : Told ℕ) → scope_count nat_eq known named t ≤ 2 * region_count t
scope_count_few known named nothing = omega arith
scope_count_few known named (leaf l t) = scope_count_few known named t
scope_count_few known named (inner k at i t) =
    let a = scopes_few known k i in
    let b = scope_count_few known (is_lambda k) i in
    let c = scope_count_few known named t in
    let own : length (scopes nat_eq known k i) + scope_count nat_eq known (is_lambda k) i ≤ 2 + 2 * region_count i = omega (arith, a, b) in
    let e = none_or (begins named k) (length (scopes nat_eq known k i) + scope_count nat_eq known (is_lambda k) i) (2 + 2 * region_count i) own in
    omega (arith, e, c)

pub drop_at : {A : Type 0} (xs : List A) (i : ℕ) (d : A) → i < length xs → drop i xs ≡ get_or xs i d ∷ drop (i + 1) xs
drop_at xs i d lt = rw add-one (drop-cons xs i d lt)

module _ (parts : List Part) (inside : ℕ → Told ℕ) where
  regions_cons : (x : Item) (xs : List Item) → region_count (told_items parts inside (x ∷ xs)) ≡ region_count (told_items parts inside (x ∷ [])) + region_count (told_items parts inside xs)
  regions_cons (log.Leaf l) xs = omega arith
  regions_cons (log.Inner m) xs = omega arith

  regions_outermost : (n : ℕ) (around : Option ℕ) (xs : List Item)
      → region_count (told_items parts inside (outermost_if n around ++ xs)) ≡ region_count (told_items parts inside (outermost_if n around)) + region_count (told_items parts inside xs)
  regions_outermost n None xs = regions_cons (log.Inner n) xs
  regions_outermost n (Some _) xs = omega arith

  -- the scopes that the items from one on may have
  pub items_left : (items : List row.Item) (index : ℕ) (x : row.Item) (now limit : ℕ) → drop index items ≡ x ∷ drop (index + 1) items
      → now + 2 * region_count (told_items parts inside (map item_of (drop index items))) ≤ limit
      → now + 2 * region_count (told_items parts inside (item_of x ∷ [])) + 2 * region_count (told_items parts inside (map item_of (drop (index + 1) items))) ≤ limit
  items_left items index x now limit d h =
      let e = ap (λ (xs : List row.Item). region_count (told_items parts inside (map item_of xs))) d in
      let f = regions_cons (item_of x) (map item_of (drop (index + 1) items)) in
      omega (arith, e, f, h)

  -- the same of rows
  pub rows_left : (rows : List RegionRow) (index : ℕ) (x : RegionRow) (now limit : ℕ) → drop index rows ≡ x ∷ drop (index + 1) rows
      → now + 2 * region_count (told_items parts inside (outermost index (map row_of (drop index rows)))) ≤ limit
      → now + 2 * region_count (told_items parts inside (outermost_if index x.around)) + 2 * region_count (told_items parts inside (outermost (index + 1) (map row_of (drop (index + 1) rows)))) ≤ limit
  rows_left rows index x now limit d h =
      let e = ap (λ (xs : List RegionRow). region_count (told_items parts inside (outermost index (map row_of xs)))) d in
      let f = regions_outermost index x.around (outermost (index + 1) (map row_of (drop (index + 1) rows))) in
      omega (arith, e, f, h)

-- The number of the next scope, where what is told next is behind.
pub scopes_behind : (known : KnownNames ℕ) (named : Bool) (t : Told ℕ) (now next rest limit : ℕ) → next ≡ now + scope_count nat_eq known named t
    → now + 2 * region_count t + rest ≤ limit → next + rest ≤ limit
scopes_behind known named t now next rest limit e h = let f = scope_count_few known named t in omega (arith, e, f, h)

-- what a region tells is what its items tell
pub region_items : (rows : List RegionRow) (room n : ℕ) (items : List row.Item) → map item_of items ≡ items_at room (map row_of rows) n
    → region_count (told_items (map row_of rows) (told_region (room - 1) (map row_of rows)) (map item_of items)) ≡ region_count (told_at room rows n)
region_items rows room n items e =
    ap (λ (is : List Item). region_count (told_items (map row_of rows) (told_region (room - 1) (map row_of rows)) is)) e
    ∙ ap region_count (sym (region_tells room (map row_of rows) n))

-- what a script tells, by its rows
pub script_rows : (rows : List RegionRow) → region_count (told_items (map row_of rows) (told_region (length rows) (map row_of rows)) (outermost 0 (map row_of rows))) ≡ region_count (told_of (map row_of rows))
script_rows rows = ap (λ (n : ℕ). region_count (told_items (map row_of rows) (told_region n (map row_of rows)) (outermost 0 (map row_of rows)))) (sym (length-map rows row_of))
