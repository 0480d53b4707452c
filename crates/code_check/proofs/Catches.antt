-- A throw at a state, note by note and node by node.
use Rattle.std.proofs.Common.{◌≡◌, ℕ, suc, ◌+◌, ◌*◌, ◌/◌, ◌<◌, ◌≤◌, Bool, true, false, if◌then◌else◌, ◌⊎◌, inl, inr, List, [], ◌∷◌, length, length-set, get_or, refl, sym, ap, subst, ◌∙◌, All, Contains, Option, Some, IsSome, None, IfNone, arith, leb-true, nat_le, nat_lt, ◌&&◌}
use Rattle.std.proofs.lemmas.Bool.{ltb-true, lt-ltb, le-leb}
use Rattle.std.proofs.lemmas.Bool.Decides.{leb_tells}
use Rattle.std.proofs.lemmas.List.{get_or_past}
use Rattle.std.proofs.lemmas.List.Elements.{Contains-append_right, Contains-get_or}
use Rattle.std.proofs.lemmas.Option.{none-some}
use Rattle.stencil_data.specs.declared.stencils.TryNote.{TryNote}
use Rattle.bytecode_buf.specs.Layout.{Numbered}
use Rattle.bytecode_buf.specs.Machine.{State, instruction_at, steps_by, flows, flow_of, caught, is_caught_by}
use Rattle.code_check.specs.NoteIndex.{Index, head_of, halved, AreLinked, HoldsBack, Indexes, IsAbove, IsAround, IsIndexed, Takes}
use Rattle.code_check.specs.Catches.{Catches, CatchesAt, GoesAlong, HasLanding, HasShape, StandsAt, landing}
use Rattle.code_check.specs.Survey.{Found, Arrives, Clashes, Follows, Has, HasNoTable, IsAt}
use Rattle.code_check.proofs.Arrivals.{MayArrive, step_may_arrive, arrived, not_arrived, arrives_size, goes_further, goes_on, still_at}
use Rattle.code_check.proofs.Nodes.{IsFrom, from_end, from_leaf, from_next}
use Rattle.code_check.proofs.Rows.{Contains_behind, Contains_cases, Contains_first, Contains_nothing, holds_back, less, rank, took_fewer, took_indexes, took_rank, took_there}

-- ---- which notes catch a state

all_three : (a b c : Bool) → (a && b && c) ≡ true → (a ≡ true) × (b ≡ true) × (c ≡ true)
all_three true true true e = (refl, refl, refl)
all_three true true false e = absurd (cc)
all_three true false c e = absurd (cc)
all_three false b c e = absurd (cc)

all_true : (a b c : Bool) → a ≡ true → b ≡ true → c ≡ true → (a && b && c) ≡ true
all_true true true true p q r = refl
all_true true true false p q r = r
all_true true false c p q r = q
all_true false b c p q r = p

pub caught_when : (s : State) (note : TryNote) → IsAround note s.at → note.depth ≤ s.depth → is_caught_by s note ≡ true
caught_when s note a low = all_true (nat_le note.start s.at) (nat_lt s.at note.end) (nat_le note.depth s.depth) (le-leb note.start s.at a.starts) (lt-ltb s.at note.end a.ends) (le-leb note.depth s.depth low)

around_when : (s : State) (note : TryNote) → is_caught_by s note ≡ true → IsAround note s.at
around_when s note holds =
    let t = all_three (nat_le note.start s.at) (nat_lt s.at note.end) (nat_le note.depth s.depth) holds in
    record { starts = leb-true note.start s.at t.0; ends = ltb-true s.at note.end t.1 }

low_when : (s : State) (note : TryNote) → is_caught_by s note ≡ true → note.depth ≤ s.depth
low_when s note holds = leb-true note.depth s.depth (all_three (nat_le note.start s.at) (nat_lt s.at note.end) (nat_le note.depth s.depth) holds).2

-- ---- the landings of the notes that catch a state

Contains_more : (b : Bool) (note : TryNote) (xs : List State) (x : State) → Contains xs x → Contains (if b then landing note ∷ xs else xs) x
Contains_more true note xs x c = Contains_behind (landing note) xs x c
Contains_more false note xs x c = c

Contains_this : (b : Bool) (note : TryNote) (xs : List State) → b ≡ true → Contains (if b then landing note ∷ xs else xs) (landing note)
Contains_this true note xs is = Contains_first (landing note) xs
Contains_this false note xs is = absurd (cc)

pub caught_from : (notes : List TryNote) (s : State) (note : TryNote) → Contains notes note → is_caught_by s note ≡ true → Contains (caught notes s) (landing note)
caught_from [] s note c holds = absurd (Contains_nothing note c)
caught_from (x ∷ notes) s note c holds = elim (Contains_cases x notes note c) [
  | inl same ↦ subst (λ (n : TryNote). Contains (caught (x ∷ notes) s) (landing n)) same (Contains_this (is_caught_by s x) x (caught notes s) (ap (is_caught_by s) same ∙ holds))
  | inr behind ↦ Contains_more (is_caught_by s x) x (caught notes s) (landing note) (caught_from notes s note behind holds)
]

-- a note of the list catches a state, and a throw lands there
pub record IsLandingOf (notes : List TryNote) (s t : State) : Type 0 where
  pub note : TryNote
  pub within : Contains notes note
  pub holds : is_caught_by s note ≡ true
  pub is : t ≡ landing note

landing_behind : (x : TryNote) (notes : List TryNote) (s t : State) → IsLandingOf notes s t → IsLandingOf (x ∷ notes) s t
landing_behind x notes s t l = record { note = l.note; within = Contains_behind x notes l.note l.within; holds = l.holds; is = l.is }

caught_to_by : (x : TryNote) (notes : List TryNote) (s t : State) (b : Bool) → is_caught_by s x ≡ b → (Contains (caught notes s) t → IsLandingOf notes s t) → Contains (if b then landing x ∷ caught notes s else caught notes s) t → IsLandingOf (x ∷ notes) s t
caught_to_by x notes s t true holds deeper c = elim (Contains_cases (landing x) (caught notes s) t c) [
  | inl same ↦ record { note = x; within = Contains_first x notes; holds = holds; is = sym same }
  | inr behind ↦ landing_behind x notes s t (deeper behind)
]
caught_to_by x notes s t false holds deeper c = landing_behind x notes s t (deeper c)

pub caught_to : (notes : List TryNote) (s t : State) → Contains (caught notes s) t → IsLandingOf notes s t
caught_to [] s t c = absurd (Contains_nothing t c)
caught_to (x ∷ notes) s t c = caught_to_by x notes s t (is_caught_by s x) refl (λ d. caught_to notes s t d) c

caught_step_by : (o : Option Numbered) (notes : List TryNote) (s t : State) → IsSome o → Contains (caught notes s) t → Contains (steps_by o notes s) t
caught_step_by None notes s t some c = absurd (cc)
caught_step_by (Some i) notes s t some c = Contains-append_right (flows (flow_of i.op) i s) (caught notes s) t c

-- ---- one node

has_inside : (found : Found) (s : State) → Has found s → s.at < length found.depths
has_inside found s has = elim (leb_tells (length found.depths) s.at) [
  | inr under ↦ under.1
  | inl over ↦ absurd (none-some s.depth (sym (get_or_past found.depths s.at None over.1) ∙ has))
]

pub at_inside : (code : List ℕ) (notes : List TryNote) (starts : List Bool) (found : Found) (s : State) → IsAt code notes starts found s → s.at < length code
at_inside code notes starts found s h = omega (arith, has_inside found s h.has, h.true_of.size)

-- where a run over the notes has come
abbrev pub GoesTo : List ℕ → List TryNote → Found → Found → (ℕ → List TryNote) → Index → Type 0
GoesTo code notes old now rows index = (left : ℕ → List TryNote) × GoesAlong code notes old now rows index left

pub goes_nowhere : (code : List ℕ) (notes : List TryNote) (starts : List Bool) (s : State) (old : Found) (index : Index) (rows : ℕ → List TryNote) → IsAt code notes starts old s → Indexes notes notes notes (length code) (HasLanding old) index rows → GoesAlong code notes old old rows index rows
goes_nowhere code notes starts s old index rows h i = record { goes = goes_on code notes old h.true_of; indexes = i; fewer = λ node note c. c }

pub record TakesTo (notes : List TryNote) (starts : List Bool) (node depth : ℕ) (old : Found) (before : Index) (now : Found) (index : Index) : Type 0 where
  pub shape : HasShape old now before index
  pub along : (code : List ℕ) (at : ℕ) (rows : ℕ → List TryNote) → StandsAt code notes starts node (record { at = at; depth = depth }) old before rows → GoesTo code notes old now rows index

pub takes_none : (notes : List TryNote) (starts : List Bool) (node depth : ℕ) (old : Found) (before : Index) → TakesTo notes starts node depth old before old before
takes_none notes starts node depth old before = record {
  shape = record { size = refl; heads = refl; entries = refl };
  along = λ code at rows h. (rows, goes_nowhere code notes starts (record { at = at; depth = depth }) old before rows h.is_at h.indexes);
}

module _ (notes : List TryNote) (starts : List Bool) (node depth : ℕ) (old : Found) (before : Index) (now : Found) (index after : Index) (note : TryNote) (inside : node < length before.heads) (w : TakesTo notes starts node depth old before now index) (t : Takes notes node depth index after note) where
  node_inside : node < length index.heads
  node_inside = omega (arith, inside, w.shape.heads)

  module _ (code : List ℕ) (at : ℕ) (rows : ℕ → List TryNote) (h : StandsAt code notes starts node (record { at = at; depth = depth }) old before rows) where
    abbrev s : State
    s = record { at = at; depth = depth }

    g : GoesTo code notes old now rows index
    g = w.along code at rows h

    there : Contains (g.0 node) note
    there = took_there notes notes (length code) node depth (HasLanding now) index after g.0 note node_inside t g.1.indexes

    still : IsAt code notes starts now s
    still = still_at code notes starts old now s h.is_at g.1.goes

    around : IsAround note at
    around = g.1.indexes.around node note there at (at_inside code notes starts now s still) h.above

    may : MayArrive code notes starts now (landing note)
    may =
        let low : note.depth ≤ depth = t.low in
        step_may_arrive code notes starts now s (landing note) still
        (caught_step_by (instruction_at code at) notes s (landing note) (still.true_of.starts s still.has) (caught_from notes s note (g.1.indexes.listed_in node note there) (caught_when s note around low)))
        (omega (arith, low))

    take_stops : Clashes starts (landing note) now → HasNoTable code notes
    take_stops clash = not_arrived code notes starts now (landing note) may clash

    take_goes : (new : Found) → Arrives starts (landing note) now new → GoesTo code notes old new rows after
    take_goes new a =
        let f : Follows code notes now new (landing note ∷ []) = arrived code notes starts now new (landing note) may a in (
          less notes notes (length code) node depth (HasLanding now) index after g.0 note node_inside t g.1.indexes,
          record {
            goes = goes_further code notes old now new g.1.goes f.goes;
            indexes = took_indexes notes notes (length code) node depth (HasLanding now) index after g.0 note node_inside t g.1.indexes (HasLanding new) (λ n was. f.goes.has (landing n) was) (f.has 0 (landing note) (omega arith));
            fewer = λ other n c. g.1.fewer other n (took_fewer notes notes (length code) node depth (HasLanding now) index after g.0 note node_inside t g.1.indexes other n c);
          },
        )

  took_shape : (new : Found) → Arrives starts (landing note) now new → HasShape old new before after
  took_shape new a = record {
    size = arrives_size starts (landing note) now new a ∙ w.shape.size;
    heads = ap (λ (i : Index). length i.heads) t.taken ∙ length-set index.heads node t.entry.next ∙ w.shape.heads;
    entries = ap (λ (i : Index). i.entries) t.taken ∙ w.shape.entries;
  }

  -- as the code goes, with the depth widened
  module _ (wide : ℕ) (same : wide ≡ note.depth) where
    pub takes_more : (new : Found) → Arrives starts (record { at = note.end; depth = wide }) now new → TakesTo notes starts node depth old before new after
    takes_more new a =
        let b : Arrives starts (landing note) now new = subst (λ (d : ℕ). Arrives starts (record { at = note.end; depth = d }) now new) same a in
        record { shape = took_shape new b; along = λ code at rows h. take_goes code at rows h new b }

    pub takes_blocked : Clashes starts (record { at = note.end; depth = wide }) now → (code : List ℕ) (at : ℕ) (rows : ℕ → List TryNote) → StandsAt code notes starts node (record { at = at; depth = depth }) old before rows → HasNoTable code notes
    takes_blocked clash code at rows h = take_stops code at rows h (subst (λ (d : ℕ). Clashes starts (record { at = note.end; depth = d }) now) same clash)

  -- the row's first entry is nearer the beginning
  pub takes_smaller : AreLinked before.entries → rank (head_of after node) < rank (head_of index node)
  takes_smaller linked = took_rank notes node depth index after note node_inside (subst AreLinked (sym w.shape.entries) linked) t

pub none_taken : (o : Option TryNote) (P : Type 0) → ((x : TryNote) → o ≡ Some x → ⊥) → IfNone o P → P
none_taken None P none p = p
none_taken (Some x) P none p = absurd (none x refl)

-- no note of the node is left that is no deeper
pub takes_all : (notes : List TryNote) (starts : List Bool) (node depth : ℕ) (old : Found) (before : Index) (now : Found) (index after : Index) → TakesTo notes starts node depth old before now index → HoldsBack notes node depth index after → (code : List ℕ) (at : ℕ) (rows : ℕ → List TryNote) → StandsAt code notes starts node (record { at = at; depth = depth }) old before rows → CatchesAt code notes node depth old now rows after
takes_all notes starts node depth old before now index after w back code at rows h =
    let g : GoesTo code notes old now rows index = w.along code at rows h in
    subst (λ (i : Index). CatchesAt code notes node depth old now rows i) (sym back.same) (record {
      left = g.0;
      along = g.1;
      deeper = holds_back notes notes (length code) node depth (HasLanding now) index after g.0 back g.1.indexes;
    })

pub takes_shape : (notes : List TryNote) (starts : List Bool) (node depth : ℕ) (old : Found) (before : Index) (now : Found) (index after : Index) → TakesTo notes starts node depth old before now index → HoldsBack notes node depth index after → HasShape old now before after
takes_shape notes starts node depth old before now index after w back = subst (HasShape old now before) (sym back.same) w.shape

-- ---- all nodes above an offset

-- what was gone through below a node
pub record Walked (code : List ℕ) (notes : List TryNote) (s : State) (old : Found) (rows : ℕ → List TryNote) (node : ℕ) (now : Found) (index : Index) : Type 0 where
  pub left : ℕ → List TryNote
  pub along : GoesAlong code notes old now rows index left
  pub times : ℕ
  pub is : node ≡ halved times (s.at + length code)
  pub clear : (other : ℕ) → IsAbove (length code) s.at other → IsFrom node other ⊎ ((note : TryNote) → Contains (left other) note → s.depth < note.depth)

pub record WalksTo (notes : List TryNote) (starts : List Bool) (s : State) (old : Found) (before : Index) (node : ℕ) (now : Found) (index : Index) : Type 0 where
  pub shape : HasShape old now before index
  pub inside : node < length before.heads
  pub walked : (code : List ℕ) → IsAt code notes starts old s → (rows : ℕ → List TryNote) → Indexes notes notes notes (length code) (HasLanding old) before rows → Walked code notes s old rows node now index

pub walks_first : (notes : List TryNote) (starts : List Bool) (s : State) (old : Found) (before : Index) (node : ℕ) → 2 * s.at < length before.heads → node ≡ s.at + length before.heads / 2 → WalksTo notes starts s old before node old before
walks_first notes starts s old before node room leaf = record {
  shape = record { size = refl; heads = refl; entries = refl };
  inside = omega (arith, room, leaf);
  walked = λ code h rows i.
      let is : node ≡ s.at + length code = omega (arith, leaf, i.size_is) in
      record {
        left = rows;
        along = goes_nowhere code notes starts s old before rows h i;
        times = 0;
        is = is;
        clear = λ other a. inl (subst (λ (n : ℕ). IsFrom n other) (sym is) (from_leaf (length code) s.at other a));
      };
}

module _ (notes : List TryNote) (starts : List Bool) (s : State) (old : Found) (before : Index) (node : ℕ) (now : Found) (index : Index) (w : WalksTo notes starts s old before node now index) (some : 0 < node) where
  pub stands_at : (code : List ℕ) (h : IsAt code notes starts old s) (rows : ℕ → List TryNote) (i : Indexes notes notes notes (length code) (HasLanding old) before rows) → StandsAt code notes starts node s now index (w.walked code h rows i).left
  stands_at code h rows i =
      let k : Walked code notes s old rows node now index = w.walked code h rows i in
      record {
        is_at = still_at code notes starts old now s h k.along.goes;
        above = record { positive = some; times = k.times; is = k.is };
        indexes = k.along.indexes;
      }

  clear_next : (code : List ℕ) (left next : ℕ → List TryNote) → ((other : ℕ) (note : TryNote) → Contains (next other) note → Contains (left other) note) → ((note : TryNote) → Contains (next node) note → s.depth < note.depth) → (other : ℕ) → IsFrom node other ⊎ ((note : TryNote) → Contains (left other) note → s.depth < note.depth) → IsFrom (node / 2) other ⊎ ((note : TryNote) → Contains (next other) note → s.depth < note.depth)
  clear_next code left next fewer deeper other (inl from) = elim (from_next node other from) [
    | inl same ↦ inr (λ note c. deeper note (subst (λ (x : ℕ). Contains (next x) note) same c))
    | inr above ↦ inl above
  ]
  clear_next code left next fewer deeper other (inr clear) = inr (λ note c. clear note (fewer other note c))

  pub walks_more : (new : Found) (after : Index) → HasShape now new index after → ((code : List ℕ) (at : ℕ) (rows : ℕ → List TryNote) → StandsAt code notes starts node (record { at = at; depth = s.depth }) now index rows → CatchesAt code notes node s.depth now new rows after) → WalksTo notes starts s old before (node / 2) new after
  walks_more new after shape f = record {
    shape = record { size = shape.size ∙ w.shape.size; heads = shape.heads ∙ w.shape.heads; entries = shape.entries ∙ w.shape.entries };
    inside = omega (arith, w.inside);
    walked = λ code h rows i.
        let k : Walked code notes s old rows node now index = w.walked code h rows i in
        let g : CatchesAt code notes node s.depth now new k.left after = f code s.at k.left (stands_at code h rows i) in
        record {
          left = g.left;
          along = record {
            goes = goes_further code notes old now new k.along.goes g.along.goes;
            indexes = g.along.indexes;
            fewer = λ other note c. k.along.fewer other note (g.along.fewer other note c);
          };
          times = suc k.times;
          is = ap (λ (x : ℕ). x / 2) k.is;
          clear = λ other a. clear_next code k.left g.left g.along.fewer g.deeper other (k.clear other a);
        };
  }

  pub walk_stops : ((code : List ℕ) (at : ℕ) (rows : ℕ → List TryNote) → StandsAt code notes starts node (record { at = at; depth = s.depth }) now index rows → HasNoTable code notes) → (code : List ℕ) → IsAt code notes starts old s → IsIndexed notes (length code) (HasLanding old) before → HasNoTable code notes
  walk_stops f code h i = f code s.at (w.walked code h i.0 i.1).left (stands_at code h i.0 i.1)

module _ (code : List ℕ) (notes : List TryNote) (starts : List Bool) (s : State) (old : Found) (rows : ℕ → List TryNote) (node : ℕ) (now : Found) (index : Index) (k : Walked code notes s old rows node now index) (done : node ≡ 0) (h : IsAt code notes starts old s) where
  found_by : (note : TryNote) → note.depth ≤ s.depth → (other : ℕ) → IsAbove (length code) s.at other → Contains (k.left other) note → IsFrom node other ⊎ ((n : TryNote) → Contains (k.left other) n → s.depth < n.depth) → Has now (landing note)
  found_by note low other a c (inl from) = absurd (omega (arith, from_end node other done from, a.positive))
  found_by note low other a c (inr clear) = absurd (omega (arith, clear note c, low))

  found : (note : TryNote) → Contains notes note → is_caught_by s note ≡ true → Has now (landing note)
  found note c holds = elim (k.along.indexes.each note c s.at (at_inside code notes starts old s h) (around_when s note holds)) [
    | inl has ↦ has
    | inr stands ↦ found_by note (low_when s note holds) stands.node stands.above stands.there (k.clear stands.node stands.above)
  ]

  all_found : All (Has now) (caught notes s)
  all_found n d within =
      let t : State = get_or (caught notes s) n d in
      let l : IsLandingOf notes s t = caught_to notes s t (Contains-get_or (caught notes s) n d within) in
      subst (Has now) (sym l.is) (found l.note l.within l.holds)

  pub walk_catches : Catches code notes s old now index
  walk_catches = record {
    follows = record { goes = k.along.goes; has = all_found };
    indexed = (k.left, k.along.indexes);
  }

pub walks_all : (notes : List TryNote) (starts : List Bool) (s : State) (old : Found) (before : Index) (node : ℕ) (now : Found) (index : Index) → node ≤ 0 → WalksTo notes starts s old before node now index → (code : List ℕ) → IsAt code notes starts old s → IsIndexed notes (length code) (HasLanding old) before → Catches code notes s old now index
walks_all notes starts s old before node now index done w code h i = walk_catches code notes starts s old i.0 node now index (w.walked code h i.0 i.1) (omega (arith, done)) h

-- ---- what is indexed

pub room_inside : (code : List ℕ) (notes : List TryNote) (starts : List Bool) (found : Found) (s : State) (IsDone : TryNote → Type 0) (index : Index) → IsAt code notes starts found s → IsIndexed notes (length code) IsDone index → 2 * s.at < length index.heads
room_inside code notes starts found s IsDone index h i = omega (arith, at_inside code notes starts found s h, i.1.size_is)

pub linked_inside : (notes : List TryNote) (size : ℕ) (IsDone : TryNote → Type 0) (index : Index) → IsIndexed notes size IsDone index → AreLinked index.entries
linked_inside notes size IsDone index i = i.1.linked

-- it still is, when more is done

pub indexed_on : (notes : List TryNote) (size : ℕ) (IsDone StillDone : TryNote → Type 0) (index : Index) → ((note : TryNote) → IsDone note → StillDone note) → IsIndexed notes size IsDone index → IsIndexed notes size StillDone index
indexed_on notes size IsDone StillDone index still i = (
  i.0,
  record {
    size_is = i.1.size_is;
    linked = i.1.linked;
    row = i.1.row;
    rises = i.1.rises;
    listed_in = i.1.listed_in;
    around = i.1.around;
    each = λ note c at within around. elim (i.1.each note c at within around) [ inl was ↦ inl (still note was) | inr stands ↦ inr stands ];
  },
)
