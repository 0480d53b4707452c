-- A note is put at its nodes, and all notes one by one.
use Rattle.std.proofs.Common.{◌≡◌, ℕ, zero, suc, ◌+◌, ◌-◌, ◌*◌, ◌/◌, ◌%◌, ◌<◌, ◌≤◌, min, ◌==◌, Bool, true, false, ◌⊎◌, inl, inr, List, [], ◌∷◌, length, length-set, drop, replicate, slice_get, get_or, Option, Some, None, Contains, refl, sym, ap, subst, ◌∙◌, arith}
use Rattle.std.specs.List.Sorted.{IsNonDecreasingBy}
use Rattle.std.proofs.Math.ListN.{drop_of_length-le}
use Rattle.std.proofs.lemmas.List.{drop_more, get_or-drop, get_or_default, length-drop, length-replicate}
use Rattle.std.proofs.lemmas.Bool.Decides.{leb_tells}
use Rattle.std.proofs.lemmas.Option.{none-some, slice_get_read}
use Rattle.stencil_data.specs.declared.stencils.TryNote.{TryNote}
use Rattle.code_check.specs.declared.note_index.Entry.{Entry}
use Rattle.code_check.specs.NoteIndex.{Index, IsAbove, IsAround, StandsAbove, Indexes, IsIndexedOf, IsLeastDeep, IsBelowRange, IsSpreading, Spreads, Inserts, with_entry_if}
use Rattle.code_check.proofs.Nodes.{above_next, below_range, half_range, leaf_alone, odd_is}
use Rattle.code_check.proofs.Rows.{Contains_cases, Contains_behind, Contains_nothing, HasPut, has_put}

abbrev nothing : TryNote → Type 0
nothing other = ⊥

pub length-with_entry_if : (wanted : Bool) (node number : ℕ) (index : Index) → length (with_entry_if wanted node number index).heads ≡ length index.heads
length-with_entry_if true node number index = length-set index.heads node (Some (length index.entries))
length-with_entry_if false node number index = refl

-- ---- one turn

module _ (notes rest : List TryNote) (number : ℕ) (note : TryNote) (size low high : ℕ) (index : Index) (rows : ℕ → List TryNote) (some : low < high) (w : IsSpreading notes rest number note size low high index rows) where
  pub first_inside : low < length index.heads
  first_inside = omega (arith, w.fits, w.indexes.size_is, some)

  pub first : HasPut notes rest note size low (low % 2 == 1) (with_entry_if (low % 2 == 1) low number index) rows
  first = has_put notes rest number note size low index rows first_inside w.is w.least (λ at within above. w.around at within (record { node = low; from = omega arith; to = some; above = above })) w.indexes (low % 2 == 1)

  abbrev pub one : Index
  one = with_entry_if (low % 2 == 1) low number index

  pub last_inside : high - 1 < length one.heads
  last_inside = let same : length one.heads ≡ 2 * size = first.indexes.size_is in omega (arith, w.fits, same, some)

  pub last : HasPut notes rest note size (high - 1) (high % 2 == 1) (with_entry_if (high % 2 == 1) (high - 1) number one) first.left
  last = has_put notes rest number note size (high - 1) one first.left last_inside w.is w.least (λ at within above. w.around at within (record { node = high - 1; from = omega (arith, some); to = omega (arith, some); above = above })) first.indexes (high % 2 == 1)

  abbrev pub two : Index
  two = with_entry_if (high % 2 == 1) (high - 1) number one

  kept : (at : ℕ) → StandsAbove size at rows note → StandsAbove size at last.left note
  kept at s = record { node = s.node; above = s.above; there = last.kept s.node note (first.kept s.node note s.there) }

  stands : (at : ℕ) → IsBelowRange size low high at → StandsAbove size at last.left note ⊎ IsBelowRange size ((low + 1) / 2) (high / 2) at
  stands at b = elim (half_range low high b.node b.from b.to) [
    | inl here ↦ inl (record { node = low; above = subst (IsAbove size at) here.0 b.above; there = last.kept low note (first.there (odd_is low here.1)) })
    | inr rest' ↦ elim rest' [
      | inl end ↦ inl (record { node = high - 1; above = subst (IsAbove size at) end.0 b.above; there = last.there (odd_is high end.1) })
      | inr half ↦ inr (record { node = b.node / 2; from = half.0; to = half.1; above = above_next size at b.node (omega (arith, half.0, w.positive)) b.above })
    ]
  ]

  pub spread_more : IsSpreading notes rest number note size ((low + 1) / 2) (high / 2) two last.left
  spread_more = record {
    is = w.is;
    least = w.least;
    positive = omega (arith, w.positive);
    fits = omega (arith, w.fits);
    indexes = last.indexes;
    around = λ at within b. w.around at within (below_range size low high at within w.positive w.fits b);
    stands = λ at within around. elim (w.stands at within around) [ inl s ↦ inl (kept at s) | inr b ↦ stands at b ];
  }

-- ---- the end

all_stand : (notes rest : List TryNote) (note : TryNote) (size : ℕ) (index : Index) (rows : ℕ → List TryNote) → Indexes notes (note ∷ rest) rest size nothing index rows → ((at : ℕ) → at < size → IsAround note at → StandsAbove size at rows note) → Indexes notes (note ∷ rest) (note ∷ rest) size nothing index rows
all_stand notes rest note size index rows w stands = record {
  size_is = w.size_is;
  linked = w.linked;
  row = w.row;
  rises = w.rises;
  listed_in = w.listed_in;
  around = w.around;
  each = λ n c at within around. elim (Contains_cases note rest n c) [
    | inl same ↦ inr (subst (StandsAbove size at rows) same (stands at within (subst (λ (x : TryNote). IsAround x at) (sym same) around)))
    | inr behind ↦ w.each n behind at within around
  ];
}

pub spread_all : (notes rest : List TryNote) (number : ℕ) (note : TryNote) (size low high : ℕ) (index : Index) (rows : ℕ → List TryNote) → high ≤ low → IsSpreading notes rest number note size low high index rows → IsIndexedOf notes (note ∷ rest) size nothing index
spread_all notes rest number note size low high index rows done w = (
  rows,
  all_stand notes rest note size index rows w.indexes (λ at within around. elim (w.stands at within around) [ inl s ↦ s | inr b ↦ absurd (omega (arith, b.from, b.to, done)) ]),
)

-- ---- the beginning

listed_more : (notes rest : List TryNote) (note : TryNote) (size : ℕ) (index : Index) (rows : ℕ → List TryNote) → Indexes notes rest rest size nothing index rows → Indexes notes (note ∷ rest) rest size nothing index rows
listed_more notes rest note size index rows w = record {
  size_is = w.size_is;
  linked = w.linked;
  row = w.row;
  rises = w.rises;
  listed_in = λ node n c. Contains_behind note rest n (w.listed_in node n c);
  around = w.around;
  each = w.each;
}

module _ (notes rest : List TryNote) (number : ℕ) (note : TryNote) (size : ℕ) (index : Index) (rows : ℕ → List TryNote) (is : slice_get notes number ≡ Some note) (least : IsLeastDeep note rest) (w : Indexes notes rest rest size nothing index rows) where
  -- end is the lesser of the note's end and the size
  pub spread_first : (end : ℕ) → note.start < end → end ≤ size → end ≤ note.end → (note.end ≤ end) ⊎ (size ≤ end) → IsSpreading notes rest number note size (note.start + size) (end + size) index rows
  spread_first end some short low which = record {
    is = is;
    least = least;
    positive = omega (arith, some, short);
    fits = omega (arith, short);
    indexes = listed_more notes rest note size index rows w;
    around = λ at within b.
        let leaf : b.node ≡ at + size = leaf_alone size at b.node within (omega (arith, b.from)) b.above in
        record { starts = omega (arith, b.from, leaf); ends = omega (arith, b.to, leaf, low) };
    stands = λ at within around. inr (record {
      node = at + size;
      from = omega (arith, around.starts);
      to = below at within around;
      above = record { positive = omega (arith, within); times = 0; is = refl };
    });
  }
    where
      below : (at : ℕ) → at < size → IsAround note at → at + size < end + size
      below at within around = elim which [ inl all ↦ omega (arith, all, around.ends) | inr whole ↦ omega (arith, whole, within) ]

  -- the note is around no offset
  pub spread_none : (end : ℕ) → end ≤ note.start → (note.end ≤ end) ⊎ (size ≤ end) → IsIndexedOf notes (note ∷ rest) size nothing index
  spread_none end none which = (
    rows,
    all_stand notes rest note size index rows (listed_more notes rest note size index rows w) (λ at within around. absurd (away at within around)),
  )
    where
      away : (at : ℕ) → at < size → IsAround note at → ⊥
      away at within around = elim which [ inl all ↦ omega (arith, all, none, around.starts, around.ends) | inr whole ↦ omega (arith, whole, none, within, around.starts) ]

-- ---- all notes

none_anywhere : (n at : ℕ) → get_or {A = Option ℕ} (replicate n None) at None ≡ None
none_anywhere zero at = refl
none_anywhere (suc n) zero = refl
none_anywhere (suc n) (suc at) = none_anywhere n at

no_entry : (place : ℕ) (entry : Entry) → slice_get [] place ≡ Some entry → ⊥
no_entry place entry is = none-some entry is

pub indexed_none : (notes : List TryNote) (size : ℕ) (index : Index) → index ≡ record { heads = replicate (2 * size) None; entries = [] } → IsIndexedOf notes (drop (length notes) notes) size nothing index
indexed_none notes size index is = subst (λ (i : Index). IsIndexedOf notes (drop (length notes) notes) size nothing i) (sym is) (
  (λ node. []),
  record {
    size_is = length-replicate (2 * size) None;
    linked = λ place entry there. absurd (no_entry place entry there);
    row = λ node. none_anywhere (2 * size) node;
    rises = λ node. tt;
    listed_in = λ node n c. absurd (Contains_nothing n c);
    around = λ node n c. absurd (Contains_nothing n c);
    each = λ n c at within around. absurd (Contains_nothing n (subst (λ (l : List TryNote). Contains l n) (drop_of_length-le notes (omega arith)) c));
  },
)

-- by rising depth no note after one is less deep
pub least_first : (notes : List TryNote) (left : ℕ) (d : TryNote) → left < length notes → IsNonDecreasingBy (λ n. n.depth) notes → IsLeastDeep (get_or notes left d) (drop (left + 1) notes)
least_first notes left d within sorted other c =
    let is : get_or notes (left + 1 + c.0) other ≡ other = sym (get_or-drop (left + 1) notes c.0 other) ∙ c.2 in
    let size : length (drop (left + 1) notes) ≡ length notes - (left + 1) = length-drop (left + 1) notes in
    let first : get_or notes left other ≡ get_or notes left d = get_or_default notes left other d within in
    subst (λ (n : TryNote). (get_or notes left d).depth ≤ n.depth) is (subst (λ (n : TryNote). n.depth ≤ (get_or notes (left + 1 + c.0) other).depth) first (sorted left (left + 1 + c.0) other (omega arith) (omega (arith, c.1, size))))

-- ---- the same as the code goes

pub record SpreadsTo (number first end : ℕ) (old : Index) (low high : ℕ) (index : Index) : Type 0 where
  pub inside : high ≤ length index.heads
  pub spreading : (notes rest : List TryNote) (note : TryNote) (size : ℕ) (rows : ℕ → List TryNote) → IsSpreading notes rest number note size first end old rows → (left : ℕ → List TryNote) × IsSpreading notes rest number note size low high index left

pub spreads_first : (number low high : ℕ) (old : Index) → high ≤ length old.heads → SpreadsTo number low high old low high old
spreads_first number low high old inside = record { inside = inside; spreading = λ notes rest note size rows w. (rows, w) }

module _ (number first end : ℕ) (old : Index) (low high : ℕ) (index : Index) (w : SpreadsTo number first end old low high index) where
  abbrev both : Index
  both = with_entry_if (high % 2 == 1) (high - 1) number (with_entry_if (low % 2 == 1) low number index)

  spreads_both : low < high → SpreadsTo number first end old ((low + 1) / 2) (high / 2) both
  spreads_both some = record {
    inside = let e = length-with_entry_if (high % 2 == 1) (high - 1) number (with_entry_if (low % 2 == 1) low number index) in let d = length-with_entry_if (low % 2 == 1) low number index in omega (arith, w.inside, e, d);
    spreading = λ notes rest note size rows s.
        let t : (left : ℕ → List TryNote) × IsSpreading notes rest number note size low high index left = w.spreading notes rest note size rows s in
        (_, spread_more notes rest number note size low high index t.0 some t.1);
  }

  pub spreads_more : (middle new : Index) → low < high → middle ≡ with_entry_if (low % 2 == 1) low number index → new ≡ with_entry_if (high % 2 == 1) (high - 1) number middle → SpreadsTo number first end old ((low + 1) / 2) (high / 2) new
  spreads_more middle new some a b =
      subst (SpreadsTo number first end old ((low + 1) / 2) (high / 2)) (sym (b ∙ ap (with_entry_if (high % 2 == 1) (high - 1) number) a)) (spreads_both some)

  pub spreads_all : high ≤ low → Spreads number first end old index
  spreads_all done notes rest note size rows s =
      let t : (left : ℕ → List TryNote) × IsSpreading notes rest number note size low high index left = w.spreading notes rest note size rows s in
      spread_all notes rest number note size low high index t.0 done t.1

pub second_inside : (number node low high : ℕ) (wanted : Bool) (index new : Index) → low < high → high ≤ length index.heads → new ≡ with_entry_if wanted node number index → high - 1 < length new.heads
second_inside number node low high wanted index new some inside a =
    let e : length new.heads ≡ length index.heads = ap (λ (i : Index). length i.heads) a ∙ length-with_entry_if wanted node number index in
    omega (arith, some, inside, e)

module _ (number : ℕ) (note : TryNote) (old : Index) (size end : ℕ) (half : size ≡ length old.heads / 2) (lesser : end ≡ min note.end size) where
  which : (note.end ≤ end) ⊎ (size ≤ end)
  which = elim (leb_tells note.end size) [ inl low ↦ inl (omega (arith, low.1, lesser)) | inr high ↦ inr (omega (arith, high.1, lesser)) ]

  pub inserts : (new : Index) → note.start < end → Spreads number (note.start + size) (end + size) old new → Inserts number note old new
  inserts new some f notes rest whole is deep i =
      let same : whole ≡ size = omega (arith, half, i.1.size_is) in
      let w : Indexes notes rest rest size nothing old i.0 = subst (λ (n : ℕ). Indexes notes rest rest n nothing old i.0) same i.1 in
      let short : end ≤ size = omega (arith, lesser) in
      let low : end ≤ note.end = omega (arith, lesser) in
      subst (λ (n : ℕ). IsIndexedOf notes (note ∷ rest) n nothing new) (sym same) (f notes rest note size i.0 (spread_first notes rest number note size old i.0 is deep w end some short low which))

  pub inserts_none : end ≤ note.start → Inserts number note old old
  inserts_none none notes rest whole is deep i =
      let same : whole ≡ size = omega (arith, half, i.1.size_is) in
      let w : Indexes notes rest rest size nothing old i.0 = subst (λ (n : ℕ). Indexes notes rest rest n nothing old i.0) same i.1 in
      subst (λ (n : ℕ). IsIndexedOf notes (note ∷ rest) n nothing old) (sym same) (spread_none notes rest number note size old i.0 is deep w end none which)

-- the notes from a place on are in the index
pub record HoldsFrom (notes : List TryNote) (size left : ℕ) (index : Index) : Type 0 where
  pub below : left ≤ length notes
  pub indexed : IsIndexedOf notes (drop left notes) size nothing index

pub holds_none : (notes : List TryNote) (size : ℕ) (index : Index) → index ≡ record { heads = replicate (2 * size) None; entries = [] } → HoldsFrom notes size (length notes) index
holds_none notes size index is = record { below = omega arith; indexed = indexed_none notes size index is }

holds_more_at : (notes : List TryNote) (size left : ℕ) (index new : Index) (note : TryNote) → 0 < left → IsNonDecreasingBy (λ n. n.depth) notes → note ≡ get_or notes (left - 1) note → HoldsFrom notes size left index → Inserts (left - 1) note index new → HoldsFrom notes size (left - 1) new
holds_more_at notes size left index new note some sorted is w f =
    let within : left - 1 < length notes = omega (arith, some, w.below) in
    let back : left - 1 + 1 ≡ left = omega (arith, some) in
    let deep : IsLeastDeep note (drop left notes) = subst (λ (n : TryNote). IsLeastDeep n (drop left notes)) (sym is) (subst (λ (k : ℕ). IsLeastDeep (get_or notes (left - 1) note) (drop k notes)) back (least_first notes (left - 1) note within sorted)) in
    let rest : drop (left - 1) notes ≡ note ∷ drop left notes = drop_more notes (left - 1) note within ∙ ap (λ (n : TryNote). n ∷ drop (left - 1 + 1) notes) (sym is) ∙ ap (λ (k : ℕ). note ∷ drop k notes) back in
    record {
      below = omega (arith, w.below);
      indexed = subst (λ (l : List TryNote). IsIndexedOf notes l size nothing new) (sym rest) (f notes (drop left notes) size (slice_get_read notes (length notes) (left - 1) note refl within is) deep w.indexed);
    }

pub holds_more : (notes : List TryNote) (size left : ℕ) (index new : Index) (d : TryNote) → 0 < left → IsNonDecreasingBy (λ n. n.depth) notes → HoldsFrom notes size left index → Inserts (left - 1) (get_or notes (left - 1) d) index new → HoldsFrom notes size (left - 1) new
holds_more notes size left index new d some sorted w f =
    holds_more_at notes size left index new (get_or notes (left - 1) d) some sorted (get_or_default notes (left - 1) d (get_or notes (left - 1) d) (omega (arith, some, w.below))) w f

pub holds_all : (notes : List TryNote) (size left : ℕ) (index : Index) → left ≤ 0 → HoldsFrom notes size left index → IsIndexedOf notes notes size nothing index
holds_all notes size left index done w =
    let none : left ≡ 0 = omega (arith, done) in
    subst (λ (k : ℕ). IsIndexedOf notes (drop k notes) size nothing index) none w.indexed
