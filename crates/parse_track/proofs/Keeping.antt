-- What is kept of lexical names gives where each stands first, and names that a region does not declare are as they were.
use Rattle.std.proofs.Common.{◌≡◌, ℕ, ◌+◌, ◌<◌, ◌≤◌, Bool, true, false, cond, nat_eq, Option, None, Some, List, [], ◌∷◌, length, map, drop, get_or, refl, sym, ap, subst, ◌∙◌, arith, add-one, drop-cons, IfSome}
use Rattle.std.proofs.lemmas.Bool.{eqb-true, eq-eqb}
use Rattle.script_grammar.specs.declared.tree.Ident.{Ident}
use Rattle.parse_track.specs.declared.clashing.LexicalOffsets.{LexicalOffsets}
use Rattle.parse_track.specs.declared.clashing.LexicalName.{LexicalName}
use Rattle.parse_track.specs.Told.{Name}
use Rattle.parse_track.specs.EarlyErrors.{has, smaller}
use Rattle.parse_track.specs.ClosedNames.{names_of}
use Rattle.parse_track.specs.Log.{name_of}
use Rattle.parse_track.specs.AtomTables.{entry}
use Rattle.parse_track.specs.Walk.{deeper}
use Rattle.parse_track.specs.Clashes.{no_firsts, put_first, open_all, counts}
use Rattle.parse_track.specs.LexicalNames.{Kept, offset_for, no_offsets, lessened, first_in, firsts_of, keep, keep_all, AreKeptTo}
use Rattle.parse_track.proofs.Walk.{false_is_true, or_left, or_right, same_self, tell_less}
use Rattle.parse_track.proofs.ClashSteps.{open_same}

-- offsets by which they are for
pub nothing_for : (heads : Bool) → offset_for heads no_offsets ≡ None
nothing_for true = refl
nothing_for false = refl

pub lessened_for : (heads is_head : Bool) (at : ℕ) (o : LexicalOffsets)
    → offset_for heads (lessened is_head at o) ≡ cond (counts heads is_head) (smaller (Some at) (offset_for heads o)) (offset_for heads o)
lessened_for true true at o = refl
lessened_for true false at o = refl
lessened_for false true at o = refl
lessened_for false false at o = refl

-- names that are kept alike
keep_same : (depth : ℕ) (h : Bool) (f g : Kept) (x : Name ℕ) → ((y : ℕ) → f y ≡ g y) → (y : ℕ) → keep depth h f x y ≡ keep depth h g x y
keep_same depth h f g x e y =
    ap (λ (o : Option LexicalName). cond (nat_eq x.name y) (Some (record { depth = depth; first = lessened h x.at (first_in depth o) })) (f y)) (e x.name)
    ∙ ap (λ (o : Option LexicalName). cond (nat_eq x.name y) (Some (record { depth = depth; first = lessened h x.at (first_in depth (g x.name)) })) o) (e y)

keep_all_same : (depth : ℕ) (h : Bool) (xs : List (Name ℕ)) (f g : Kept) → ((y : ℕ) → f y ≡ g y) → (y : ℕ) → keep_all depth h xs f y ≡ keep_all depth h xs g y
keep_all_same depth h [] f g e y = e y
keep_all_same depth h (x ∷ xs) f g e y = keep_all_same depth h xs (keep depth h f x) (keep depth h g x) (keep_same depth h f g x e) y

-- one name more, in a loop that says what is left
pub keep_step : (depth : ℕ) (h : Bool) (names : List Ident) (i : ℕ) (d : Ident) (f now all : Kept) → i < length names
    → ((y : ℕ) → now y ≡ keep depth h f (name_of (get_or names i d)) y)
    → ((y : ℕ) → keep_all depth h (map name_of (drop i names)) f y ≡ all y)
    → (y : ℕ) → keep_all depth h (map name_of (drop (i + 1) names)) now y ≡ all y
keep_step depth h names i d f now all l e k y =
    let c : drop i names ≡ get_or names i d ∷ drop (i + 1) names = rw add-one (drop-cons names i d l) in
    keep_all_same depth h (map name_of (drop (i + 1) names)) now (keep depth h f (name_of (get_or names i d))) e y
    ∙ (ap (λ (xs : List Ident). keep_all depth h (map name_of xs) f y) (sym c) ∙ k y)

-- the first offsets of names that are kept are those of names that are opened
first_at : (depth : ℕ) (heads h c : Bool) (f : Kept) (x : Name ℕ) (y : ℕ) (b : Bool) → nat_eq x.name y ≡ b → counts heads h ≡ c
    → offset_for heads (first_in depth (cond b (Some (record { depth = depth; first = lessened h x.at (first_in depth (f x.name)) })) (f y)))
    ≡ cond c (cond b (smaller (Some x.at) (firsts_of heads depth f y)) (firsts_of heads depth f y)) (firsts_of heads depth f y)
first_at depth heads h c f x y true e k =
    ap (λ (b : Bool). offset_for heads (cond b (lessened h x.at (first_in depth (f x.name))) no_offsets)) (same_self depth)
    ∙ (lessened_for heads h x.at (first_in depth (f x.name))
    ∙ (ap (λ (b : Bool). cond b (smaller (Some x.at) (firsts_of heads depth f x.name)) (firsts_of heads depth f x.name)) k
    ∙ ap (λ (z : ℕ). cond c (smaller (Some x.at) (firsts_of heads depth f z)) (firsts_of heads depth f z)) (eqb-true x.name y e)))
first_at depth heads h true f x y false e k = refl
first_at depth heads h false f x y false e k = refl

keep_first : (depth : ℕ) (heads h c : Bool) (f : Kept) (x : Name ℕ) → counts heads h ≡ c → (y : ℕ)
    → firsts_of heads depth (keep depth h f x) y ≡ cond c (put_first (firsts_of heads depth f) x) (firsts_of heads depth f) y
keep_first depth heads h true f x k y = first_at depth heads h true f x y (nat_eq x.name y) refl k
keep_first depth heads h false f x k y = first_at depth heads h false f x y (nat_eq x.name y) refl k

kept_first : (depth : ℕ) (heads h c : Bool) (xs : List (Name ℕ)) (f : Kept) → counts heads h ≡ c → (y : ℕ)
    → firsts_of heads depth (keep_all depth h xs f) y ≡ cond c (open_all xs (firsts_of heads depth f)) (firsts_of heads depth f) y
kept_first depth heads h true [] f k y = refl
kept_first depth heads h false [] f k y = refl
kept_first depth heads h true (x ∷ xs) f k y =
    kept_first depth heads h true xs (keep depth h f x) k y
    ∙ open_same xs (firsts_of heads depth (keep depth h f x)) (put_first (firsts_of heads depth f) x) (keep_first depth heads h true f x k) y
kept_first depth heads h false (x ∷ xs) f k y = kept_first depth heads h false xs (keep depth h f x) k y ∙ keep_first depth heads h false f x k y

pub opened_first : (depth : ℕ) (heads h : Bool) (xs : List (Name ℕ)) (f : Kept) (y : ℕ)
    → firsts_of heads depth (keep_all depth h xs f) y ≡ cond (counts heads h) (open_all xs (firsts_of heads depth f)) (firsts_of heads depth f) y
opened_first depth heads h xs f y = kept_first depth heads h (counts heads h) xs f refl y

pub first_same : (heads : Bool) (depth : ℕ) (f g : Kept) → ((y : ℕ) → f y ≡ g y) → (y : ℕ) → firsts_of heads depth f y ≡ firsts_of heads depth g y
first_same heads depth f g e y = ap (λ (o : Option LexicalName). offset_for heads (first_in depth o)) (e y)

-- names that are not among those are as they were
other_at : (x : Name ℕ) (y : ℕ) (b : Bool) (some old : Option LexicalName) → nat_eq x.name y ≡ b → nat_eq y x.name ≡ false → cond b some old ≡ old
other_at x y true some old e g = absurd (false_is_true (sym g ∙ eq-eqb y x.name (sym (eqb-true x.name y e))))
other_at x y false some old e g = refl

pub keep_other : (depth : ℕ) (h : Bool) (xs : List (Name ℕ)) (y : ℕ) (f : Kept) → has nat_eq y (names_of xs) ≡ false → keep_all depth h xs f y ≡ f y
keep_other depth h [] y f e = refl
keep_other depth h (x ∷ xs) y f e =
    keep_other depth h xs y (keep depth h f x) (or_right (nat_eq y x.name) (has nat_eq y (names_of xs)) e)
    ∙ other_at x y (nat_eq x.name y) (Some (record { depth = depth; first = lessened h x.at (first_in depth (f x.name)) })) (f y) refl (or_left (nat_eq y x.name) (has nat_eq y (names_of xs)) e)

-- in how many functions names are kept
abbrev Within : ℕ → Option LexicalName → Type 0
Within depth o = IfSome o (λ name. name.depth ≤ depth)

within_more : (d e : ℕ) (o : Option LexicalName) → d ≤ e → Within d o → Within e o
within_more d e None l h = h
within_more d e (Some name) l h = let g : name.depth ≤ d = h in let r : name.depth ≤ e = omega arith in r

within_kept : (depth : ℕ) (first : LexicalOffsets) (old : Option LexicalName) (b : Bool) → Within depth old → Within depth (cond b (Some (record { depth = depth; first = first })) old)
within_kept depth first old true h = let r : depth ≤ depth = omega arith in r
within_kept depth first old false h = h

pub kept_within : (depth : ℕ) (h : Bool) (xs : List (Name ℕ)) (f : Kept) → AreKeptTo depth f → AreKeptTo depth (keep_all depth h xs f)
kept_within depth h [] f k = k
kept_within depth h (x ∷ xs) f k =
    kept_within depth h xs (keep depth h f x) (λ y. within_kept depth (lessened h x.at (first_in depth (f x.name))) (f y) (nat_eq x.name y) (k y))

pub same_within : (depth : ℕ) (f g : Kept) → ((y : ℕ) → g y ≡ f y) → AreKeptTo depth f → AreKeptTo depth g
same_within depth f g e k y = subst (Within depth) (sym (e y)) (k y)

pub deeper_within : (b : Bool) (depth : ℕ) (f : Kept) → AreKeptTo depth f → AreKeptTo (deeper b depth) f
deeper_within true depth f k y = within_more depth (depth + 1) (f y) (omega arith) (k y)
deeper_within false depth f k y = k y

-- in a table without entries no name is kept
pub nothing_within : (entries : List (Option LexicalName)) → entries ≡ [] → (depth : ℕ) → AreKeptTo depth (entry entries)
nothing_within entries e depth y = subst (λ (xs : List (Option LexicalName)). Within depth (entry xs y)) (sym e) tt

pub nothing_first : (heads : Bool) (depth : ℕ) (entries : List (Option LexicalName)) → entries ≡ [] → (y : ℕ) → firsts_of heads depth (entry entries) y ≡ no_firsts y
nothing_first heads depth entries e y =
    ap (λ (xs : List (Option LexicalName)). offset_for heads (first_in depth (entry xs y))) e ∙ nothing_for heads

-- where a function begins, no name is kept of it
none_deeper : (heads : Bool) (depth d : ℕ) (o : Option LexicalName) → depth < d → Within depth o → offset_for heads (first_in d o) ≡ None
none_deeper heads depth d None l h = nothing_for heads
none_deeper heads depth d (Some name) l h =
    let g : name.depth ≤ depth = h in
    ap (λ (b : Bool). offset_for heads (cond b name.first no_offsets)) (tell_less name.depth d (omega arith)) ∙ nothing_for heads

pub first_deeper : (heads b : Bool) (depth : ℕ) (f : Kept) → AreKeptTo depth f → (y : ℕ) → firsts_of heads (deeper b depth) f y ≡ cond b no_firsts (firsts_of heads depth f) y
first_deeper heads true depth f k y = none_deeper heads depth (depth + 1) (f y) (omega arith) (k y)
first_deeper heads false depth f k y = refl
