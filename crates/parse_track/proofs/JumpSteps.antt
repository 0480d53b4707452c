-- A visit of items one by one finds the first wrong jump.
use Rattle.std.proofs.Common.{◌≡◌, ℕ, ◌+◌, ◌-◌, Bool, false, Option, None, Some, List, [], ◌∷◌, ◌++◌, map, drop, slice_get, refl, sym, ap, ◌∙◌, nat_eq, append-nil, append_assoc}
use Rattle.parse_track.specs.declared.track.RegionRow.{RegionRow}
use Rattle.parse_track.specs.declared.track.Item as row
use Rattle.parse_track.specs.Told.{Region, Script, Function, Arrow, Lambda, Block, Switch, ForHead, Catch, Loop, Label, VarBody, Told, inner}
use Rattle.parse_track.specs.EarlyErrors.{JumpContext, nothing_around, within, is_loop, smaller, smallest, wrong_jump, wrong_label, wrong_jumps}
use Rattle.parse_track.specs.Log as log
use Rattle.parse_track.specs.Log.{Part, Item, kind_of, told_items, told_region}
use Rattle.parse_track.specs.Rows.{item_of, row_of, items_at}
use Rattle.parse_track.specs.Targets.{AreWrongJumps, first_inner, loop_kind}
use Rattle.parse_track.proofs.Items.{region_tells}
use Rattle.parse_track.proofs.Smallest.{smaller_assoc, smaller_none, smallest-append}

-- whether a region is a loop is told by the region that stands first in it
abbrev pub loop_first : List Part → (ℕ → Told ℕ) → Option ℕ → Bool
loop_first parts inside None = false
loop_first parts inside (Some m) = loop_kind (kind_of (slice_get parts m)) (inside m)

inner_loop : (k : Region ℕ) (at : ℕ) (i t : Told ℕ) → is_loop (inner k at i t) ≡ loop_kind k i
inner_loop Loop at i t = refl
inner_loop (Label _) at i t = refl
inner_loop Script at i t = refl
inner_loop Function at i t = refl
inner_loop Arrow at i t = refl
inner_loop (Lambda _) at i t = refl
inner_loop Block at i t = refl
inner_loop Switch at i t = refl
inner_loop ForHead at i t = refl
inner_loop Catch at i t = refl
inner_loop VarBody at i t = refl

items_loop : (parts : List Part) (inside : ℕ → Told ℕ) (items : List Item) → is_loop (told_items parts inside items) ≡ loop_first parts inside (first_inner items)
items_loop parts inside [] = refl
items_loop parts inside (log.Leaf _ ∷ _) = refl
items_loop parts inside (log.Inner m ∷ items) = inner_loop (kind_of (slice_get parts m)) (log.at_of (slice_get parts m)) (inside m) (told_items parts inside items)

pub region_loop : (parts : List Part) (room n : ℕ) (items : List row.Item) (first : Option ℕ) → map item_of items ≡ items_at room parts n → first ≡ first_inner (map item_of items)
    → loop_first parts (told_region (room - 1) parts) first ≡ is_loop (told_region room parts n)
region_loop parts room n items first e f =
    ap (loop_first parts (told_region (room - 1) parts)) (f ∙ ap first_inner e)
    ∙ (sym (items_loop parts (told_region (room - 1) parts) (items_at room parts n)) ∙ ap is_loop (sym (region_tells room parts n)))

jumps_cons : (around : JumpContext ℕ) (parts : List Part) (inside : ℕ → Told ℕ) (x : Item) (xs : List Item)
    → wrong_jumps nat_eq around (told_items parts inside (x ∷ xs)) ≡ wrong_jumps nat_eq around (told_items parts inside (x ∷ [])) ++ wrong_jumps nat_eq around (told_items parts inside xs)
jumps_cons around parts inside (log.Leaf l) xs = ap (λ (ys : List ℕ). ys ++ wrong_jumps nat_eq around (told_items parts inside xs)) (sym (append-nil (wrong_jump nat_eq around l)))
jumps_cons around parts inside (log.Inner m) xs =
    ap (λ (ys : List ℕ). own ++ (ys ++ wrong_jumps nat_eq around (told_items parts inside xs))) (sym (append-nil below))
    ∙ sym (append_assoc own (below ++ []) (wrong_jumps nat_eq around (told_items parts inside xs)))
  where
    own : List ℕ
    own = wrong_label nat_eq around (kind_of (slice_get parts m))

    below : List ℕ
    below = wrong_jumps nat_eq (within (kind_of (slice_get parts m)) (inside m) around) (inside m)

pub jump_step : (parts : List Part) (inside : ℕ → Told ℕ) (items : List row.Item) (index : ℕ) (x : row.Item) (start before now : JumpContext ℕ) (first here next all : Option ℕ)
    → drop index items ≡ x ∷ drop (index + 1) items
    → AreWrongJumps before before now (told_items parts inside (item_of x ∷ [])) here → next ≡ smaller first here
    → (before ≡ start) × (smaller first (smallest (wrong_jumps nat_eq start (told_items parts inside (map item_of (drop index items))))) ≡ all)
    → (now ≡ start) × (smaller next (smallest (wrong_jumps nat_eq start (told_items parts inside (map item_of (drop (index + 1) items))))) ≡ all)
jump_step parts inside items index x start before now first here next all d e n h =
    let rest : Told ℕ = told_items parts inside (map item_of (drop (index + 1) items)) in (
      e.1 ∙ h.0,
      ap (λ (o : Option ℕ). smaller o (smallest (wrong_jumps nat_eq start rest))) n
          ∙ (sym (smaller_assoc first here (smallest (wrong_jumps nat_eq start rest)))
          ∙ (ap (λ (o : Option ℕ). smaller first (smaller o (smallest (wrong_jumps nat_eq start rest)))) (e.0 ∙ ap (λ (a : JumpContext ℕ). smallest (wrong_jumps nat_eq a (told_items parts inside (item_of x ∷ [])))) h.0)
          ∙ (ap (smaller first) (sym (smallest-append (wrong_jumps nat_eq start (told_items parts inside (item_of x ∷ []))) (wrong_jumps nat_eq start rest))
          ∙ (ap smallest (sym (jumps_cons start parts inside (item_of x) (map item_of (drop (index + 1) items))))
          ∙ ap (λ (ys : List row.Item). smallest (wrong_jumps nat_eq start (told_items parts inside (map item_of ys)))) (sym d)))
          ∙ h.1))),
    )

pub jump_end : (parts : List Part) (room n : ℕ) (items left : List row.Item) (start now : JumpContext ℕ) (first : Option ℕ) → left ≡ []
    → (now ≡ start) × (smaller first (smallest (wrong_jumps nat_eq start (told_items parts (told_region (room - 1) parts) (map item_of left)))) ≡ smallest (wrong_jumps nat_eq start (told_items parts (told_region (room - 1) parts) (map item_of items))))
    → map item_of items ≡ items_at room parts n → AreWrongJumps start start now (told_region room parts n) first
jump_end parts room n items left start now first e h f = (
  sym (smaller_none first)
      ∙ (ap (λ (ys : List row.Item). smaller first (smallest (wrong_jumps nat_eq start (told_items parts (told_region (room - 1) parts) (map item_of ys))))) (sym e)
      ∙ (h.1 ∙ (ap (λ (is : List Item). smallest (wrong_jumps nat_eq start (told_items parts (told_region (room - 1) parts) is))) f
      ∙ ap (λ (t : Told ℕ). smallest (wrong_jumps nat_eq start t)) (sym (region_tells room parts n))))),
  h.0,
)

pub jump_inner : (k code : Region ℕ) (i : Told ℕ) (around now : JumpContext ℕ) (own inside first : Option ℕ) → code ≡ k → own ≡ smallest (wrong_label nat_eq around code) → AreWrongJumps (within code i around) around now i inside → first ≡ smaller own inside
    → (first ≡ smallest (wrong_label nat_eq around k ++ (wrong_jumps nat_eq (within k i around) i ++ []))) × (now ≡ around)
jump_inner k code i around now own inside first c e f n = (
  n ∙ (ap (λ (o : Option ℕ). smaller o inside) (e ∙ ap (λ (x : Region ℕ). smallest (wrong_label nat_eq around x)) c)
      ∙ (ap (smaller (smallest (wrong_label nat_eq around k))) (f.0 ∙ (ap (λ (x : Region ℕ). smallest (wrong_jumps nat_eq (within x i around) i)) c ∙ ap smallest (sym (append-nil (wrong_jumps nat_eq (within k i around) i)))))
      ∙ sym (smallest-append (wrong_label nat_eq around k) (wrong_jumps nat_eq (within k i around) i ++ [])))),
  f.1,
)

outer_cons : (around : JumpContext ℕ) (parts : List Part) (inside : ℕ → Told ℕ) (n : ℕ) (outer : Option ℕ) (xs : List Item)
    → wrong_jumps nat_eq around (told_items parts inside (log.outermost_if n outer ++ xs)) ≡ wrong_jumps nat_eq around (told_items parts inside (log.outermost_if n outer)) ++ wrong_jumps nat_eq around (told_items parts inside xs)
outer_cons around parts inside n None xs = jumps_cons around parts inside (log.Inner n) xs
outer_cons around parts inside n (Some _) xs = refl

pub outer_jump_step : (parts : List Part) (inside : ℕ → Told ℕ) (rows : List RegionRow) (index : ℕ) (x : RegionRow) (first here now all : Option ℕ)
    → drop index rows ≡ x ∷ drop (index + 1) rows
    → here ≡ smallest (wrong_jumps nat_eq nothing_around (told_items parts inside (log.outermost_if index x.around))) → now ≡ smaller first here
    → smaller first (smallest (wrong_jumps nat_eq nothing_around (told_items parts inside (log.outermost index (map row_of (drop index rows)))))) ≡ all
    → smaller now (smallest (wrong_jumps nat_eq nothing_around (told_items parts inside (log.outermost (index + 1) (map row_of (drop (index + 1) rows)))))) ≡ all
outer_jump_step parts inside rows index x first here now all d e n h =
    let rest : List Item = log.outermost (index + 1) (map row_of (drop (index + 1) rows)) in
    ap (λ (o : Option ℕ). smaller o (smallest (wrong_jumps nat_eq nothing_around (told_items parts inside rest)))) n
    ∙ (sym (smaller_assoc first here (smallest (wrong_jumps nat_eq nothing_around (told_items parts inside rest))))
    ∙ (ap (λ (o : Option ℕ). smaller first (smaller o (smallest (wrong_jumps nat_eq nothing_around (told_items parts inside rest))))) e
    ∙ (ap (smaller first) (sym (smallest-append (wrong_jumps nat_eq nothing_around (told_items parts inside (log.outermost_if index x.around))) (wrong_jumps nat_eq nothing_around (told_items parts inside rest)))
    ∙ (ap smallest (sym (outer_cons nothing_around parts inside index x.around rest))
    ∙ ap (λ (ys : List RegionRow). smallest (wrong_jumps nat_eq nothing_around (told_items parts inside (log.outermost index (map row_of ys))))) (sym d)))
    ∙ h)))
