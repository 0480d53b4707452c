-- What a step of the code does to the rows is what the log's definitions say.
use Rattle.std.proofs.Common.{◌≡◌, ℕ, ◌<◌, zero, suc, List, [], ◌∷◌, ◌++◌, length, map, get_or, refl, sym, ap, subst, ◌∙◌, arith}
use Rattle.std.proofs.Math.ListN.{set}
use Rattle.std.proofs.lemmas.List.{map-set, map-append, set-get_or}
use Rattle.parse_track.specs.declared.track.Item.{Item as Told}
use Rattle.parse_track.specs.declared.track.Items.{Items}
use Rattle.parse_track.specs.declared.track.RegionRow.{RegionRow}
use Rattle.parse_track.specs.Log.{Item, Part, add}
use Rattle.parse_track.specs.Rows.{item_of, listed, row_of}

pub set-add : (item : Item) (n : ℕ) (parts : List Part) (p : Part) → n < length parts → p ≡ get_or parts n p
    → set parts n (record p { items = p.items ++ item ∷ [] }) ≡ add item n parts
set-add item n [] p h e = absurd (omega arith)
set-add item zero (q ∷ qs) p h e = ap (λ (x : Part). record x { items = x.items ++ item ∷ [] } ∷ qs) e
set-add item (suc n) (q ∷ qs) p h e =
    let h' : n < length qs = omega arith in
    ap (λ xs. q ∷ xs) (set-add item n qs p h' e)

-- a row with an item more is the part with an item more
pub row_with : (r : RegionRow) (xs : Items) (item : Told) → listed xs ≡ listed r.items ++ item ∷ []
    → row_of (record r { items = xs }) ≡ record (row_of r) { items = (row_of r).items ++ item_of item ∷ [] }
row_with r xs item e =
    ap (λ (is : List Item). record (row_of r) { items = is }) (ap (map item_of) e ∙ map-append item_of (listed r.items) (item ∷ []))

pub row_as : (r : RegionRow) (xs : Items) → listed xs ≡ listed r.items → row_of (record r { items = xs }) ≡ row_of r
row_as r xs e = ap (λ (is : List Item). record (row_of r) { items = is }) (ap (map item_of) e)

get-map : (rows : List RegionRow) (n : ℕ) (r : RegionRow) → n < length rows → r ≡ get_or rows n r → row_of r ≡ get_or (map row_of rows) n (row_of r)
get-map [] n r h e = absurd (omega arith)
get-map (q ∷ qs) zero r h e = ap row_of e
get-map (q ∷ qs) (suc n) r h e = let h' : n < length qs = omega arith in get-map qs n r h' e

length-rows : (rows : List RegionRow) → length (map row_of rows) ≡ length rows
length-rows [] = refl
length-rows (r ∷ rs) = ap suc (length-rows rs)

pub told_more : (rows : List RegionRow) (n : ℕ) (r : RegionRow) (xs : Items) (item : Told) → n < length rows → r ≡ get_or rows n r → listed xs ≡ listed r.items ++ item ∷ []
    → map row_of (set rows n (record r { items = xs })) ≡ add (item_of item) n (map row_of rows)
told_more rows n r xs item h e f =
    let h' : n < length (map row_of rows) = subst (λ (k : ℕ). n < k) (sym (length-rows rows)) h in
    map-set row_of rows n (record r { items = xs }) ∙ (ap (set (map row_of rows) n) (row_with r xs item f)
    ∙ set-add (item_of item) n (map row_of rows) (row_of r) h' (get-map rows n r h e))

pub told_none : (rows : List RegionRow) (n : ℕ) (r : RegionRow) (xs : Items) → n < length rows → r ≡ get_or rows n r → listed xs ≡ listed r.items
    → map row_of (set rows n (record r { items = xs })) ≡ map row_of rows
told_none rows n r xs h e f =
    map-set row_of rows n (record r { items = xs }) ∙ (ap (set (map row_of rows) n) (row_as r xs f ∙ get-map rows n r h e)
    ∙ set-get_or (map row_of rows) n (row_of r))
