-- The smallest offset of a rule over all regions, found item by item.
use Rattle.std.proofs.Common.{◌≡◌, ℕ, ◌+◌, ◌-◌, Option, None, Some, List, [], ◌∷◌, ◌++◌, map, drop, slice_get, refl, sym, ap, ◌∙◌, length, append-nil, append_assoc}
use Rattle.std.proofs.lemmas.List.{length-map}
use Rattle.parse_track.specs.declared.track.RegionRow.{RegionRow}
use Rattle.parse_track.specs.declared.track.Item as row
use Rattle.parse_track.specs.Told.{Region, Told}
use Rattle.parse_track.specs.EarlyErrors.{smaller, smallest, at_regions}
use Rattle.parse_track.specs.Log as log
use Rattle.parse_track.specs.Log.{Part, Item, kind_of, told_items, told_region}
use Rattle.parse_track.specs.Rows.{item_of, row_of, items_at}
use Rattle.parse_track.specs.declared.rules.RuleOffsets.{RuleOffsets}
use Rattle.parse_track.specs.Rules.{offset_of, RegionRule, TwiceLexical, CatchAndLexical, ParamAndLexical, TwiceParam, BindsReserved}
use Rattle.parse_track.proofs.Items.{region_tells}
use Rattle.parse_track.proofs.Smallest.{smaller_assoc, smaller_none, smallest-append}

abbrev pub Rule : Type 0
Rule = Region ℕ → Told ℕ → List ℕ

regions_cons : (rule : Rule) (parts : List Part) (inside : ℕ → Told ℕ) (x : Item) (xs : List Item)
    → at_regions rule (told_items parts inside (x ∷ xs)) ≡ at_regions rule (told_items parts inside (x ∷ [])) ++ at_regions rule (told_items parts inside xs)
regions_cons rule parts inside (log.Leaf l) xs = refl
regions_cons rule parts inside (log.Inner m) xs =
    ap (λ (ys : List ℕ). rule (kind_of (slice_get parts m)) (inside m) ++ (ys ++ at_regions rule (told_items parts inside xs))) (sym (append-nil (at_regions rule (inside m))))
    ∙ sym (append_assoc (rule (kind_of (slice_get parts m)) (inside m)) (at_regions rule (inside m) ++ []) (at_regions rule (told_items parts inside xs)))

more : (first here rest all now : Option ℕ) → now ≡ smaller first here → smaller first (smaller here rest) ≡ all → smaller now rest ≡ all
more first here rest all now e h = ap (λ (o : Option ℕ). smaller o rest) e ∙ (sym (smaller_assoc first here rest) ∙ h)

pub seek_step : (rule : Rule) (parts : List Part) (inside : ℕ → Told ℕ) (items : List row.Item) (index : ℕ) (x : row.Item) (first now all : Option ℕ)
    → drop index items ≡ x ∷ drop (index + 1) items
    → now ≡ smaller first (smallest (at_regions rule (told_items parts inside (item_of x ∷ []))))
    → smaller first (smallest (at_regions rule (told_items parts inside (map item_of (drop index items))))) ≡ all
    → smaller now (smallest (at_regions rule (told_items parts inside (map item_of (drop (index + 1) items))))) ≡ all
seek_step rule parts inside items index x first now all d n h =
    let rest : List Item = map item_of (drop (index + 1) items) in
    let here : Option ℕ = smallest (at_regions rule (told_items parts inside (item_of x ∷ []))) in
    more first here (smallest (at_regions rule (told_items parts inside rest))) all now n
    (ap (smaller first) (sym (smallest-append (at_regions rule (told_items parts inside (item_of x ∷ []))) (at_regions rule (told_items parts inside rest)))
    ∙ (ap smallest (sym (regions_cons rule parts inside (item_of x) rest))
    ∙ ap (λ (ys : List row.Item). smallest (at_regions rule (told_items parts inside (map item_of ys)))) (sym d)))
    ∙ h)

-- the region itself, and then what is inside
pub seek_inner : (rule : Rule) (k code : Region ℕ) (i : Told ℕ) (before own between now : Option ℕ) → code ≡ k → own ≡ smallest (rule code i) → between ≡ smaller before own
    → now ≡ smaller between (smallest (at_regions rule i)) → now ≡ smaller before (smallest (rule k i ++ (at_regions rule i ++ [])))
seek_inner rule k code i before own between now c e b n =
    n ∙ (ap (λ (o : Option ℕ). smaller o (smallest (at_regions rule i))) (b ∙ ap (smaller before) (e ∙ ap (λ (x : Region ℕ). smallest (rule x i)) c))
    ∙ (sym (smaller_assoc before (smallest (rule k i)) (smallest (at_regions rule i)))
    ∙ ap (smaller before) (ap (smaller (smallest (rule k i))) (ap smallest (sym (append-nil (at_regions rule i))))
    ∙ sym (smallest-append (rule k i) (at_regions rule i ++ [])))))

pub seek_end : (rule : Rule) (parts : List Part) (room n : ℕ) (items left : List row.Item) (before now : Option ℕ) → left ≡ []
    → smaller now (smallest (at_regions rule (told_items parts (told_region (room - 1) parts) (map item_of left)))) ≡ smaller before (smallest (at_regions rule (told_items parts (told_region (room - 1) parts) (map item_of items))))
    → map item_of items ≡ items_at room parts n → now ≡ smaller before (smallest (at_regions rule (told_region room parts n)))
seek_end rule parts room n items left before now e h f =
    sym (smaller_none now)
    ∙ (ap (λ (ys : List row.Item). smaller now (smallest (at_regions rule (told_items parts (told_region (room - 1) parts) (map item_of ys))))) (sym e)
    ∙ (h ∙ ap (smaller before) (ap (λ (is : List Item). smallest (at_regions rule (told_items parts (told_region (room - 1) parts) is))) f
    ∙ ap (λ (t : Told ℕ). smallest (at_regions rule t)) (sym (region_tells room parts n)))))

outer_cons : (rule : Rule) (parts : List Part) (inside : ℕ → Told ℕ) (n : ℕ) (around : Option ℕ) (xs : List Item)
    → at_regions rule (told_items parts inside (log.outermost_if n around ++ xs)) ≡ at_regions rule (told_items parts inside (log.outermost_if n around)) ++ at_regions rule (told_items parts inside xs)
outer_cons rule parts inside n None xs = regions_cons rule parts inside (log.Inner n) xs
outer_cons rule parts inside n (Some _) xs = refl

pub seek_outer_step : (rule : Rule) (parts : List Part) (inside : ℕ → Told ℕ) (rows : List RegionRow) (index : ℕ) (x : RegionRow) (first now all : Option ℕ)
    → drop index rows ≡ x ∷ drop (index + 1) rows
    → now ≡ smaller first (smallest (at_regions rule (told_items parts inside (log.outermost_if index x.around))))
    → smaller first (smallest (at_regions rule (told_items parts inside (log.outermost index (map row_of (drop index rows)))))) ≡ all
    → smaller now (smallest (at_regions rule (told_items parts inside (log.outermost (index + 1) (map row_of (drop (index + 1) rows)))))) ≡ all
seek_outer_step rule parts inside rows index x first now all d n h =
    let rest : List Item = log.outermost (index + 1) (map row_of (drop (index + 1) rows)) in
    more first (smallest (at_regions rule (told_items parts inside (log.outermost_if index x.around)))) (smallest (at_regions rule (told_items parts inside rest))) all now n
    (ap (smaller first) (sym (smallest-append (at_regions rule (told_items parts inside (log.outermost_if index x.around))) (at_regions rule (told_items parts inside rest)))
    ∙ (ap smallest (sym (outer_cons rule parts inside index x.around rest))
    ∙ ap (λ (ys : List RegionRow). smallest (at_regions rule (told_items parts inside (log.outermost index (map row_of ys))))) (sym d)))
    ∙ h)

-- no region is left
pub seek_outer_end : (rule : Rule) (rows left : List RegionRow) (index : ℕ) (now : Option ℕ) → left ≡ []
    → smaller now (smallest (at_regions rule (told_items (map row_of rows) (told_region (length rows) (map row_of rows)) (log.outermost index (map row_of left)))))
    ≡ smallest (at_regions rule (told_items (map row_of rows) (told_region (length rows) (map row_of rows)) (log.outermost 0 (map row_of rows))))
    → now ≡ smallest (at_regions rule (log.told_of (map row_of rows)))
seek_outer_end rule rows left index now e h =
    sym (smaller_none now)
    ∙ (ap (λ (ys : List RegionRow). smaller now (smallest (at_regions rule (told_items (map row_of rows) (told_region (length rows) (map row_of rows)) (log.outermost index (map row_of ys)))))) (sym e)
    ∙ (h ∙ ap (λ (n : ℕ). smallest (at_regions rule (told_items (map row_of rows) (told_region n (map row_of rows)) (log.outermost 0 (map row_of rows))))) (sym (length-map rows row_of))))

-- an item that is no region
pub seek_leaf : (before : RuleOffsets) (rule : RegionRule) → offset_of before rule ≡ smaller (offset_of before rule) None
seek_leaf before rule = sym (smaller_none (offset_of before rule))

-- what holds at each of the rules holds at all
pub at_each : (o : RuleOffsets) (g : RegionRule → Option ℕ) → o.twice_lexical ≡ g TwiceLexical → o.catch_and_lexical ≡ g CatchAndLexical → o.param_and_lexical ≡ g ParamAndLexical
    → o.twice_param ≡ g TwiceParam → o.binds_reserved ≡ g BindsReserved → (rule : RegionRule) → offset_of o rule ≡ g rule
at_each o g a b c d e TwiceLexical = a
at_each o g a b c d e CatchAndLexical = b
at_each o g a b c d e ParamAndLexical = c
at_each o g a b c d e TwiceParam = d
at_each o g a b c d e BindsReserved = e
