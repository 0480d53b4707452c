-- The rows of the index, when a note is put in or taken off.
use Rattle.std.proofs.Common.{◌≡◌, ◌≢◌, ℕ, zero, suc, ◌<◌, ◌≤◌, Bool, true, false, cond, eqb, ◌⊎◌, inl, inr, List, [], ◌∷◌, ◌++◌, length, length-set, slice_get, get_or, get_or-set_same, get_or-set_other, Option, Some, None, Contains, refl, sym, ap, subst, ◌∙◌, arith}
use Rattle.std.proofs.lemmas.Bool.Decides.{eqb_tells}
use Rattle.std.proofs.lemmas.List.Elements.{All-contains, Contains-get_or}
use Rattle.std.proofs.lemmas.Option.{none-some, slice_get_within}
use Rattle.stencil_data.specs.declared.stencils.TryNote.{TryNote}
use Rattle.code_check.specs.declared.note_index.Entry.{Entry}
use Rattle.code_check.specs.NoteIndex.{Index, head_of, entry_at, IsBefore, AreLinked, IsAbove, IsAround, IsRow, IsRising, StandsAbove, Indexes, IsLeastDeep, with_entry, with_entry_if, with_head, Takes, HoldsBack}

-- ---- lists

pub Contains_first : {A : Type 0} (x : A) (xs : List A) → Contains (x ∷ xs) x
Contains_first x xs = (0, omega arith, refl)

pub Contains_behind : {A : Type 0} (x : A) (xs : List A) (y : A) → Contains xs y → Contains (x ∷ xs) y
Contains_behind x xs y c = (suc c.0, omega (arith, c.1), c.2)

pub Contains_cases : {A : Type 0} (x : A) (xs : List A) (y : A) → Contains (x ∷ xs) y → (x ≡ y) ⊎ Contains xs y
Contains_cases x xs y (zero, within, is) = inl is
Contains_cases x xs y (suc k, within, is) = inr (k, omega (arith, within), is)

pub Contains_nothing : {A : Type 0} (y : A) → Contains [] y → ⊥
Contains_nothing y c = omega (arith, c.1)

slice_get_more : {A : Type 0} (xs : List A) (y : A) (k : ℕ) (x : A) → slice_get xs k ≡ Some x → slice_get (xs ++ y ∷ []) k ≡ Some x
slice_get_more [] y k x is = absurd (none-some x is)
slice_get_more (z ∷ xs) y zero x is = is
slice_get_more (z ∷ xs) y (suc k) x is = slice_get_more xs y k x is

slice_get_last : {A : Type 0} (xs : List A) (y : A) → slice_get (xs ++ y ∷ []) (length xs) ≡ Some y
slice_get_last [] y = refl
slice_get_last (z ∷ xs) y = slice_get_last xs y

the_same : {A : Type 0} (x y : A) → Some x ≡ Some y → x ≡ y
the_same x y e = cc

slice_get_cases : {A : Type 0} (xs : List A) (y : A) (k : ℕ) (x : A) → slice_get (xs ++ y ∷ []) k ≡ Some x → (slice_get xs k ≡ Some x) ⊎ ((k ≡ length xs) × (y ≡ x))
slice_get_cases [] y zero x is = inr (refl, the_same y x is)
slice_get_cases [] y (suc k) x is = absurd (none-some x is)
slice_get_cases (z ∷ xs) y zero x is = inl is
slice_get_cases (z ∷ xs) y (suc k) x is = elim (slice_get_cases xs y k x is) [ inl there ↦ inl there | inr last ↦ inr (ap suc last.0, last.1) ]

-- ---- one row is another

abbrev pub with_row : ℕ → List TryNote → (ℕ → List TryNote) → ℕ → List TryNote
with_row node row rows other = cond (eqb other node) row (rows other)

with_row-same : (node : ℕ) (row : List TryNote) (rows : ℕ → List TryNote) (other : ℕ) → other ≡ node → with_row node row rows other ≡ row
with_row-same node row rows other same = elim (eqb_tells other node) [
  | inl is ↦ ap (λ (b : Bool). cond b row (rows other)) is.0
  | inr not ↦ absurd (not.1 same)
]

with_row-other : (node : ℕ) (row : List TryNote) (rows : ℕ → List TryNote) (other : ℕ) → other ≢ node → with_row node row rows other ≡ rows other
with_row-other node row rows other differs = elim (eqb_tells other node) [
  | inl is ↦ absurd (differs is.1)
  | inr not ↦ ap (λ (b : Bool). cond b row (rows other)) not.0
]

-- ---- rows in lists of entries

entry_more : (entries : List Entry) (last : Entry) (place : Option ℕ) (entry : Entry) → entry_at entries place ≡ Some entry → entry_at (entries ++ last ∷ []) place ≡ Some entry
entry_more entries last None entry is = is
entry_more entries last (Some k) entry is = slice_get_more entries last k entry is

row_more : (notes : List TryNote) (entries : List Entry) (last : Entry) (place : Option ℕ) (row : List TryNote) → IsRow notes entries place row → IsRow notes (entries ++ last ∷ []) place row
row_more notes entries last place [] r = r
row_more notes entries last place (note ∷ row) r = (r.0, entry_more entries last place r.0 r.1, r.2, row_more notes entries last r.0.next row r.3)

entry_before : (entries : List Entry) (place : Option ℕ) (entry : Entry) → entry_at entries place ≡ Some entry → IsBefore place (length entries)
entry_before entries None entry is = tt
entry_before entries (Some k) entry is = slice_get_within entries k entry is

row_before : (notes : List TryNote) (entries : List Entry) (place : Option ℕ) (row : List TryNote) → IsRow notes entries place row → IsBefore place (length entries)
row_before notes entries place [] r = subst (λ (o : Option ℕ). IsBefore o (length entries)) (sym r) tt
row_before notes entries place (note ∷ row) r = entry_before entries place r.0 r.1

linked_more : (entries : List Entry) (last : Entry) → IsBefore last.next (length entries) → AreLinked entries → AreLinked (entries ++ last ∷ [])
linked_more entries last before linked place entry is = elim (slice_get_cases entries last place entry is) [
  | inl there ↦ linked place entry there
  | inr end ↦ subst (λ (e : Entry). IsBefore e.next place) end.1 (subst (λ (n : ℕ). IsBefore last.next n) (sym end.0) before)
]

row_is : (notes : List TryNote) (entries : List Entry) (p q : Option ℕ) (r s : List TryNote) → p ≡ q → r ≡ s → IsRow notes entries q s → IsRow notes entries p r
row_is notes entries p q r s same equal w = subst (λ (o : Option ℕ). IsRow notes entries o r) (sym same) (subst (λ (l : List TryNote). IsRow notes entries q l) (sym equal) w)

-- ---- a note is put in

abbrev nothing : TryNote → Type 0
nothing other = ⊥

module _ (notes rest : List TryNote) (number : ℕ) (note : TryNote) (size node : ℕ) (index : Index) (rows : ℕ → List TryNote) (inside : node < length index.heads) (is : slice_get notes number ≡ Some note) (least : IsLeastDeep note rest) (below : (at : ℕ) → at < size → IsAbove size at node → IsAround note at) (w : Indexes notes (note ∷ rest) rest size nothing index rows) where
  abbrev more : ℕ → List TryNote
  more = with_row node (note ∷ rows node) rows

  more_here : (other : ℕ) → other ≡ node → more other ≡ note ∷ rows node
  more_here other same = with_row-same node (note ∷ rows node) rows other same

  more_there : (other : ℕ) → other ≢ node → more other ≡ rows other
  more_there other differs = with_row-other node (note ∷ rows node) rows other differs

  abbrev after : Index
  after = with_entry node number index

  head_here : (other : ℕ) → other ≡ node → head_of after other ≡ Some (length index.entries)
  head_here other same = ap (head_of after) same ∙ get_or-set_same index.heads node (Some (length index.entries)) None inside

  head_there : (other : ℕ) → other ≢ node → head_of after other ≡ head_of index other
  head_there other differs = get_or-set_other index.heads node other (Some (length index.entries)) None differs

  abbrev last : Entry
  last = record { note = number; next = head_of index node }

  row_here : IsRow notes after.entries (Some (length index.entries)) (note ∷ rows node)
  row_here = (last, slice_get_last index.entries last, is, row_more notes index.entries last (head_of index node) (rows node) (w.row node))

  row_put : (other : ℕ) → IsRow notes after.entries (head_of after other) (more other)
  row_put other = elim (eqb_tells other node) [
    | inl same ↦ row_is notes after.entries (head_of after other) (Some (length index.entries)) (more other) (note ∷ rows node) (head_here other same.1) (more_here other same.1) row_here
    | inr differs ↦ row_is notes after.entries (head_of after other) (head_of index other) (more other) (rows other) (head_there other differs.1) (more_there other differs.1) (row_more notes index.entries last (head_of index other) (rows other) (w.row other))
  ]

  least_here : (other : TryNote) → Contains (rows node) other → note.depth ≤ other.depth
  least_here other c = elim (Contains_cases note rest other (w.listed_in node other c)) [
    | inl same ↦ subst (λ (n : TryNote). note.depth ≤ n.depth) same (omega arith)
    | inr behind ↦ least other behind
  ]

  rising_here : IsRising (note ∷ rows node)
  rising_here = (λ k d within. least_here (get_or (rows node) k d) (Contains-get_or (rows node) k d within), w.rises node)

  rises_put : (other : ℕ) → IsRising (more other)
  rises_put other = elim (eqb_tells other node) [
    | inl same ↦ subst IsRising (sym (more_here other same.1)) rising_here
    | inr differs ↦ subst IsRising (sym (more_there other differs.1)) (w.rises other)
  ]

  put_cases : (other : ℕ) (n : TryNote) → Contains (more other) n → ((other ≡ node) × (note ≡ n)) ⊎ Contains (rows other) n
  put_cases other n c = elim (eqb_tells other node) [
    | inl same ↦ elim (Contains_cases note (rows node) n (subst (λ (l : List TryNote). Contains l n) (more_here other same.1) c)) [
      | inl first ↦ inl (same.1, first)
      | inr behind ↦ inr (subst (λ (x : ℕ). Contains (rows x) n) (sym same.1) behind)
    ]
    | inr differs ↦ inr (subst (λ (l : List TryNote). Contains l n) (more_there other differs.1) c)
  ]

  pub put_kept : (other : ℕ) (n : TryNote) → Contains (rows other) n → Contains (more other) n
  put_kept other n c = elim (eqb_tells other node) [
    | inl same ↦ subst (λ (l : List TryNote). Contains l n) (sym (more_here other same.1)) (Contains_behind note (rows node) n (subst (λ (x : ℕ). Contains (rows x) n) same.1 c))
    | inr differs ↦ subst (λ (l : List TryNote). Contains l n) (sym (more_there other differs.1)) c
  ]

  pub put_there : Contains (more node) note
  put_there = subst (λ (l : List TryNote). Contains l note) (sym (more_here node refl)) (Contains_first note (rows node))

  put_each : (n : TryNote) → Contains rest n → (at : ℕ) → at < size → IsAround n at → nothing n ⊎ StandsAbove size at more n
  put_each n c at within around = elim (w.each n c at within around) [
    | inl none ↦ inl none
    | inr s ↦ inr (record { node = s.node; above = s.above; there = put_kept s.node n s.there })
  ]

  pub put_indexes : Indexes notes (note ∷ rest) rest size nothing after more
  put_indexes = record {
    size_is = length-set index.heads node (Some (length index.entries)) ∙ w.size_is;
    linked = linked_more index.entries last (row_before notes index.entries (head_of index node) (rows node) (w.row node)) w.linked;
    row = row_put;
    rises = rises_put;
    listed_in = λ other n c. elim (put_cases other n c) [
      | inl new ↦ subst (Contains (note ∷ rest)) new.1 (Contains_first note rest)
      | inr old ↦ w.listed_in other n old
    ];
    around = λ other n c at within above. elim (put_cases other n c) [
      | inl new ↦ subst (λ (x : TryNote). IsAround x at) new.1 (below at within (subst (IsAbove size at) new.0 above))
      | inr old ↦ w.around other n old at within above
    ];
    each = put_each;
  }

-- the rows after a note was put in, if that was wanted
pub record HasPut (notes rest : List TryNote) (note : TryNote) (size node : ℕ) (wanted : Bool) (index : Index) (rows : ℕ → List TryNote) : Type 0 where
  pub left : ℕ → List TryNote
  pub indexes : Indexes notes (note ∷ rest) rest size nothing index left
  pub kept : (other : ℕ) (n : TryNote) → Contains (rows other) n → Contains (left other) n
  pub there : wanted ≡ true → Contains (left node) note

false_true : false ≡ true → ⊥
false_true e = cc

pub has_put : (notes rest : List TryNote) (number : ℕ) (note : TryNote) (size node : ℕ) (index : Index) (rows : ℕ → List TryNote) → node < length index.heads → slice_get notes number ≡ Some note → IsLeastDeep note rest → ((at : ℕ) → at < size → IsAbove size at node → IsAround note at) → Indexes notes (note ∷ rest) rest size nothing index rows → (wanted : Bool) → HasPut notes rest note size node wanted (with_entry_if wanted node number index) rows
has_put notes rest number note size node index rows inside is least below w true = record {
  left = more notes rest number note size node index rows inside is least below w;
  indexes = put_indexes notes rest number note size node index rows inside is least below w;
  kept = put_kept notes rest number note size node index rows inside is least below w;
  there = λ e. put_there notes rest number note size node index rows inside is least below w;
}
has_put notes rest number note size node index rows inside is least below w false = record { left = rows; indexes = w; kept = λ other n c. c; there = λ e. absurd (false_true e) }

-- ---- a note is taken off

-- a row of which the first entry is known
pub record FirstIs (notes : List TryNote) (entries : List Entry) (note : TryNote) (next : Option ℕ) (row : List TryNote) : Type 0 where
  pub rest : List TryNote
  pub is : row ≡ note ∷ rest
  pub behind : IsRow notes entries next rest

same_entry : (o : Option Entry) (d e : Entry) → o ≡ Some d → o ≡ Some e → d ≡ e
same_entry o d e p q = cc

same_note : (o : Option TryNote) (d e : TryNote) → o ≡ Some d → o ≡ Some e → d ≡ e
same_note o d e p q = cc

first_is : (notes : List TryNote) (entries : List Entry) (place : Option ℕ) (entry : Entry) (note : TryNote) (row : List TryNote) → entry_at entries place ≡ Some entry → slice_get notes entry.note ≡ Some note → IsRow notes entries place row → FirstIs notes entries note entry.next row
first_is notes entries place entry note [] at is r = absurd (none-some entry (sym (ap (entry_at entries) r) ∙ at))
first_is notes entries place entry note (other ∷ row) at is r =
    let same : r.0 ≡ entry = same_entry (entry_at entries place) r.0 entry r.1 at in
    let equal : other ≡ note = same_note (slice_get notes entry.note) other note (sym (ap (λ (e : Entry). slice_get notes e.note) same) ∙ r.2) is in
    record { rest = row; is = ap (λ (n : TryNote). n ∷ row) equal; behind = subst (λ (e : Entry). IsRow notes entries e.next row) same r.3 }

module _ (notes listed : List TryNote) (size node depth : ℕ) (IsDone : TryNote → Type 0) (old new : Index) (rows : ℕ → List TryNote) (note : TryNote) (inside : node < length old.heads) (t : Takes notes node depth old new note) (w : Indexes notes listed listed size IsDone old rows) where
  pub off : FirstIs notes old.entries note t.entry.next (rows node)
  off = first_is notes old.entries (head_of old node) t.entry note (rows node) t.first t.is (w.row node)

  -- it stood there
  pub took_there : Contains (rows node) note
  took_there = subst (λ (l : List TryNote). Contains l note) (sym off.is) (Contains_first note off.rest)

  abbrev pub less : ℕ → List TryNote
  less = with_row node off.rest rows

  less_here : (other : ℕ) → other ≡ node → less other ≡ off.rest
  less_here other same = with_row-same node off.rest rows other same

  less_there : (other : ℕ) → other ≢ node → less other ≡ rows other
  less_there other differs = with_row-other node off.rest rows other differs

  pub took_fewer : (other : ℕ) (n : TryNote) → Contains (less other) n → Contains (rows other) n
  took_fewer other n c = elim (eqb_tells other node) [
    | inl same ↦ subst (λ (x : ℕ). Contains (rows x) n) (sym same.1) (subst (λ (l : List TryNote). Contains l n) (sym off.is) (Contains_behind note off.rest n (subst (λ (l : List TryNote). Contains l n) (less_here other same.1) c)))
    | inr differs ↦ subst (λ (l : List TryNote). Contains l n) (less_there other differs.1) c
  ]

  took_cases : (other : ℕ) (n : TryNote) → Contains (rows other) n → (note ≡ n) ⊎ Contains (less other) n
  took_cases other n c = elim (eqb_tells other node) [
    | inl same ↦ elim (Contains_cases note off.rest n (subst (λ (l : List TryNote). Contains l n) off.is (subst (λ (x : ℕ). Contains (rows x) n) same.1 c))) [
      | inl first ↦ inl first
      | inr behind ↦ inr (subst (λ (l : List TryNote). Contains l n) (sym (less_here other same.1)) behind)
    ]
    | inr differs ↦ inr (subst (λ (l : List TryNote). Contains l n) (sym (less_there other differs.1)) c)
  ]

  abbrev afterwards : Index
  afterwards = with_head node t.entry.next old

  row_took : (other : ℕ) → IsRow notes old.entries (head_of afterwards other) (less other)
  row_took other = elim (eqb_tells other node) [
    | inl same ↦ row_is notes old.entries (head_of afterwards other) t.entry.next (less other) off.rest (ap (head_of afterwards) same.1 ∙ get_or-set_same old.heads node t.entry.next None inside) (less_here other same.1) off.behind
    | inr differs ↦ row_is notes old.entries (head_of afterwards other) (head_of old other) (less other) (rows other) (get_or-set_other old.heads node other t.entry.next None differs.1) (less_there other differs.1) (w.row other)
  ]

  rises_behind : IsRising off.rest
  rises_behind = let up : IsRising (note ∷ off.rest) = subst IsRising off.is (w.rises node) in up.1

  rises_took : (other : ℕ) → IsRising (less other)
  rises_took other = elim (eqb_tells other node) [
    | inl same ↦ subst IsRising (sym (less_here other same.1)) rises_behind
    | inr differs ↦ subst IsRising (sym (less_there other differs.1)) (w.rises other)
  ]

  -- where the note is done now, and what was done still is
  module _ (StillDone : TryNote → Type 0) (still : (n : TryNote) → IsDone n → StillDone n) (done : StillDone note) where
    took_each : (n : TryNote) → Contains listed n → (at : ℕ) → at < size → IsAround n at → StillDone n ⊎ StandsAbove size at less n
    took_each n c at within around = elim (w.each n c at within around) [
      | inl was ↦ inl (still n was)
      | inr s ↦ elim (took_cases s.node n s.there) [
        | inl this ↦ inl (subst StillDone this done)
        | inr stands ↦ inr (record { node = s.node; above = s.above; there = stands })
      ]
    ]

    took_afterwards : Indexes notes listed listed size StillDone afterwards less
    took_afterwards = record {
      size_is = length-set old.heads node t.entry.next ∙ w.size_is;
      linked = w.linked;
      row = row_took;
      rises = rises_took;
      listed_in = λ other n c. w.listed_in other n (took_fewer other n c);
      around = λ other n c. w.around other n (took_fewer other n c);
      each = took_each;
    }

    pub took_indexes : Indexes notes listed listed size StillDone new less
    took_indexes = subst (λ (i : Index). Indexes notes listed listed size StillDone i less) (sym t.taken) took_afterwards

-- ---- a node holds back all that it has

deeper_by : (notes : List TryNote) (entries : List Entry) (place : Option ℕ) (depth : ℕ) (row : List TryNote) → ((entry : Entry) (note : TryNote) → entry_at entries place ≡ Some entry → slice_get notes entry.note ≡ Some note → depth < note.depth) → IsRow notes entries place row → IsRising row → (n : TryNote) → Contains row n → depth < n.depth
deeper_by notes entries place depth [] first r up n c = absurd (Contains_nothing n c)
deeper_by notes entries place depth (note ∷ row) first r up n c =
    let low : depth < note.depth = first r.0 note r.1 r.2 in
    elim (Contains_cases note row n c) [
      | inl same ↦ subst (λ (x : TryNote). depth < x.depth) same low
      | inr behind ↦ let over : note.depth ≤ n.depth = All-contains (λ (x : TryNote). note.depth ≤ x.depth) row n up.0 behind in omega (arith, low, over)
    ]

pub holds_back : (notes listed : List TryNote) (size node depth : ℕ) (IsDone : TryNote → Type 0) (old new : Index) (rows : ℕ → List TryNote) → HoldsBack notes node depth old new → Indexes notes listed listed size IsDone old rows → (n : TryNote) → Contains (rows node) n → depth < n.depth
holds_back notes listed size node depth IsDone old new rows h w = deeper_by notes old.entries (head_of old node) depth (rows node) h.deeper (w.row node) (w.rises node)

-- ---- how far a row's first entry is from the beginning

abbrev pub rank : Option ℕ → ℕ
rank None = 0
rank (Some place) = suc place

rank_before : (next : Option ℕ) (place : ℕ) → IsBefore next place → rank next < suc place
rank_before None place b = omega arith
rank_before (Some earlier) place b = omega (arith, b)

rank_by : (entries : List Entry) (place : Option ℕ) (entry : Entry) → AreLinked entries → entry_at entries place ≡ Some entry → rank entry.next < rank place
rank_by entries None entry linked is = absurd (none-some entry is)
rank_by entries (Some place) entry linked is = rank_before entry.next place (linked place entry is)

pub took_rank : (notes : List TryNote) (node depth : ℕ) (old new : Index) (note : TryNote) → node < length old.heads → AreLinked old.entries → Takes notes node depth old new note → rank (head_of new node) < rank (head_of old node)
took_rank notes node depth old new note inside linked t =
    let is : head_of new node ≡ t.entry.next = ap (λ (i : Index). head_of i node) t.taken ∙ get_or-set_same old.heads node t.entry.next None inside in
    subst (λ (o : Option ℕ). rank o < rank (head_of old node)) (sym is) (rank_by old.entries (head_of old node) t.entry linked t.first)
