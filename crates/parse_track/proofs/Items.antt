-- What items tell, one by one.
use Rattle.std.proofs.Common.{◌≡◌, ℕ, ◌-◌, zero, suc, Bool, true, false, cond, ◌||◌, None, Some, List, [], ◌∷◌, ◌++◌, map, refl, sym, ap, ◌∙◌, arith, append_assoc, append-nil, slice_get}
use Rattle.parse_track.specs.Told.{Name, Told, nothing}
use Rattle.parse_track.specs.RegionNames.{is_var, stops_vars, is_body, declared_by, directly, vars}
use Rattle.std.specs.List.{filter_map, list_any, cons_option}
use Rattle.script_grammar.specs.declared.tree.Ident.{Ident}
use Rattle.parse_track.specs.declared.names.Asked.{Asked}
use Rattle.parse_track.specs.declared.track.Item.TheVariants as row
use Rattle.parse_track.specs.Asked.{asks, asked_in}
use Rattle.parse_track.specs.ClosedNames.{has_body, names_of}
use Rattle.parse_track.specs.Log as log
use Rattle.parse_track.specs.Log.{Part, Item, name_of, kind_of, items_of, told_items, told_region}
use Rattle.parse_track.specs.Rows.{item_of, items_at}
use Rattle.parse_track.specs.declared.track.Item as RegionRow

-- a region tells what its items tell, with a room less
pub region_tells : (room : ℕ) (parts : List Part) (n : ℕ) → told_region room parts n ≡ told_items parts (told_region (room - 1) parts) (items_at room parts n)
unfolding told_region
region_tells zero parts n = refl
region_tells (suc room) parts n = ap (λ (k : ℕ). told_items parts (told_region k parts) (items_of (slice_get parts n))) (let e : room ≡ suc room - 1 = omega arith in e)

pub vars_cons : (parts : List Part) (inside : ℕ → Told ℕ) (x : Item) (xs : List Item)
    → vars (told_items parts inside (x ∷ xs)) ≡ vars (told_items parts inside (x ∷ [])) ++ vars (told_items parts inside xs)
vars_cons parts inside (log.Leaf l) xs = sym (append_assoc (declared_by is_var l) [] (vars (told_items parts inside xs)))
vars_cons parts inside (log.Inner m) xs =
    sym (append_assoc (cond (stops_vars (kind_of (slice_get parts m))) [] (vars (inside m))) [] (vars (told_items parts inside xs)))

-- a loop over the items of a region has come to its end
pub vars_done : (parts : List Part) (room n : ℕ) (old now : List (Name ℕ)) (items left : List RegionRow.Item) → left ≡ []
    → now ++ vars (told_items parts (told_region (room - 1) parts) (map item_of left)) ≡ old ++ vars (told_items parts (told_region (room - 1) parts) (map item_of items))
    → map item_of items ≡ items_at room parts n → now ≡ old ++ vars (told_region room parts n)
vars_done parts room n old now items left e h f =
    sym (append-nil now)
    ∙ (ap (λ (is : List RegionRow.Item). now ++ vars (told_items parts (told_region (room - 1) parts) (map item_of is))) (sym e)
    ∙ (h ∙ (ap (λ (is : List Item). old ++ vars (told_items parts (told_region (room - 1) parts) is)) f
    ∙ ap (λ (t : Told ℕ). old ++ vars t) (sym (region_tells room parts n)))))

or_false : (b : Bool) → (b || false) ≡ b
or_false true = refl
or_false false = refl

declared_case : (b : Bool) (name : Ident) (told : List (Name ℕ)) (found : List Ident) → told ≡ map name_of found
    → cond b (name_of name ∷ []) [] ++ told ≡ map name_of (cons_option (cond b (Some name) None) found)
declared_case true name told found e = ap (λ (xs : List (Name ℕ)). name_of name ∷ xs) e
declared_case false name told found e = e

-- the names that a region declares itself
pub names_filtered : (parts : List Part) (inside : ℕ → Told ℕ) (a : Asked) (items : List RegionRow.Item)
    → directly (asks a) (told_items parts inside (map item_of items)) ≡ map name_of (filter_map (asked_in a) items)
names_filtered parts inside a [] = refl
names_filtered parts inside a (row.Declared how name ∷ items) =
    declared_case (asks a how) name (directly (asks a) (told_items parts inside (map item_of items))) (filter_map (asked_in a) items) (names_filtered parts inside a items)
names_filtered parts inside a (row.Used _ ∷ items) = names_filtered parts inside a items
names_filtered parts inside a (row.Jumped _ _ ∷ items) = names_filtered parts inside a items
names_filtered parts inside a (row.JumpedTo _ _ _ ∷ items) = names_filtered parts inside a items
names_filtered parts inside a (row.Inner _ ∷ items) = names_filtered parts inside a items

pub directly_filtered : (parts : List Part) (room n : ℕ) (a : Asked) (items : List RegionRow.Item) → map item_of items ≡ items_at room parts n
    → directly (asks a) (told_region room parts n) ≡ map name_of (filter_map (asked_in a) items)
directly_filtered parts room n a items e =
    ap (directly (asks a)) (region_tells room parts n ∙ ap (told_items parts (told_region (room - 1) parts)) (sym e))
    ∙ names_filtered parts (told_region (room - 1) parts) a items

-- whether a body of its own is among items
pub body_any : (parts : List Part) (inside : ℕ → Told ℕ) (items : List RegionRow.Item)
    → has_body (told_items parts inside (map item_of items)) ≡ list_any (λ item. has_body (told_items parts (λ _. nothing) (item_of item ∷ []))) items
body_any parts inside [] = refl
body_any parts inside (row.Declared _ _ ∷ items) = body_any parts inside items
body_any parts inside (row.Used _ ∷ items) = body_any parts inside items
body_any parts inside (row.Jumped _ _ ∷ items) = body_any parts inside items
body_any parts inside (row.JumpedTo _ _ _ ∷ items) = body_any parts inside items
body_any parts inside (row.Inner m ∷ items) =
    ap (λ (b : Bool). is_body (kind_of (slice_get parts m)) || b) (body_any parts inside items)
    ∙ ap (λ (b : Bool). b || list_any (λ item. has_body (told_items parts (λ _. nothing) (item_of item ∷ []))) items) (sym (or_false (is_body (kind_of (slice_get parts m)))))

pub body_found : (parts : List Part) (room n : ℕ) (items : List RegionRow.Item) → map item_of items ≡ items_at room parts n
    → has_body (told_region room parts n) ≡ list_any (λ item. has_body (told_items parts (λ _. nothing) (item_of item ∷ []))) items
body_found parts room n items e =
    ap has_body (region_tells room parts n ∙ ap (told_items parts (told_region (room - 1) parts)) (sym e)) ∙ body_any parts (told_region (room - 1) parts) items

pub names_atoms : (names : List Ident) → names_of (map name_of names) ≡ map (λ (name : Ident). name.atom) names
names_atoms [] = refl
names_atoms (name ∷ names) = ap (λ (xs : List ℕ). name.atom ∷ xs) (names_atoms names)

-- a loop over the items of a region has come to its end
pub list_done : (F : Told ℕ → List (Name ℕ)) (parts : List Part) (room n : ℕ) (old now : List (Name ℕ)) (items left : List RegionRow.Item) → left ≡ [] → F nothing ≡ []
    → now ++ F (told_items parts (told_region (room - 1) parts) (map item_of left)) ≡ old ++ F (told_items parts (told_region (room - 1) parts) (map item_of items))
    → map item_of items ≡ items_at room parts n → now ≡ old ++ F (told_region room parts n)
list_done F parts room n old now items left e z h f =
    sym (append-nil now)
    ∙ (ap (λ (xs : List (Name ℕ)). now ++ xs) (sym z)
    ∙ (ap (λ (is : List RegionRow.Item). now ++ F (told_items parts (told_region (room - 1) parts) (map item_of is))) (sym e)
    ∙ (h ∙ (ap (λ (is : List Item). old ++ F (told_items parts (told_region (room - 1) parts) is)) f
    ∙ ap (λ (t : Told ℕ). old ++ F t) (sym (region_tells room parts n))))))
