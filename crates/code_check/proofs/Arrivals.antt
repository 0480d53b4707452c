-- States that are found, and why there may be no depth table.
use Rattle.std.proofs.Common.{◌≡◌, ◌≢◌, ℕ, zero, suc, ◌+◌, ◌*◌, ◌<◌, ◌≤◌, Bool, true, false, true≢false, is_some, is_none, IsSome, ◌⊎◌, inl, inr, List, [], ◌∷◌, ◌++◌, length, get_or, get_or-set_same, get_or-set_other, length-set, length-append, Option, Some, None, Contains, refl, sym, ap, ap₂, subst, ◌∙◌, cond, arith}
use Rattle.std.proofs.lemmas.Bool.Decides.{eqb_tells, leb_tells}
use Rattle.std.proofs.lemmas.List.{get_or_past}
use Rattle.std.proofs.lemmas.List.Sums.{sum_by-set}
use Rattle.std.proofs.lemmas.List.Elements.{All-contains, All-append, All-nil, All-cons, Contains-append_left, Contains-append_right, Contains-append_cases}
use Rattle.stencil_data.specs.declared.stencils.TryNote.{TryNote}
use Rattle.bytecode_buf.specs.Layout.{Numbered}
use Rattle.bytecode_buf.specs.Machine.{State, Reaches, start, further, IsDepthTable, instruction_at, is_stuck, stuck_by, steps}
use Rattle.code_check.specs.Survey.{AreStarts, Found, depth_at, unset, Has, with_state, Arrives, Clashes, IsTrueOf, Goes, HasNoTable, IsAt, Follows}

-- ---- why there is no depth table

-- a depth table has each state that is reached
pub table_has : (code : List ℕ) (notes : List TryNote) (table : ℕ → Option ℕ) → IsDepthTable code notes table → (s : State) → Reaches code notes s → table s.at ≡ Some s.depth
table_has code notes table t s start = t.first
table_has code notes table t s (further u v r step) = All-contains (λ (x : State). table x.at ≡ Some x.depth) (steps code notes u) v (t.closed u (table_has code notes table t u r)) step

-- so no state that is reached is stuck
pub never_stuck : (code : List ℕ) (notes : List TryNote) (table : ℕ → Option ℕ) → IsDepthTable code notes table → (s : State) → Reaches code notes s → is_stuck code s ≡ false
never_stuck code notes table t s r = t.free s (table_has code notes table t s r)

pub stuck_none : (code : List ℕ) (notes : List TryNote) (s : State) → Reaches code notes s → is_stuck code s ≡ true → HasNoTable code notes
stuck_none code notes s r stuck h = true≢false (sym stuck ∙ h.1.free s (table_has code notes h.0 h.1 s r))

pub two_depths : (o : Option ℕ) (d e : ℕ) → o ≡ Some d → o ≡ Some e → d ≡ e
two_depths o d e p q = cc

pub clash_none : (code : List ℕ) (notes : List TryNote) (at d e : ℕ) → Reaches code notes (record { at = at; depth = d }) → Reaches code notes (record { at = at; depth = e }) → d ≢ e → HasNoTable code notes
clash_none code notes at d e r q other h = other (two_depths (h.0 at) d e (table_has code notes h.0 h.1 (record { at = at; depth = d }) r) (table_has code notes h.0 h.1 (record { at = at; depth = e }) q))

pub no_start_stuck : (o : Option Numbered) (depth : ℕ) → is_some o ≡ false → stuck_by o depth ≡ true
no_start_stuck None depth none = refl
no_start_stuck (Some i) depth none = absurd (true≢false none)

-- a state that is reached and cannot be found
pub blocked : (code : List ℕ) (notes : List TryNote) (starts : List Bool) (found : Found) (t : State) → AreStarts code starts → IsTrueOf code notes found → Reaches code notes t → Clashes starts t found → HasNoTable code notes
blocked code notes starts found t a w r (inl none) = stuck_none code notes t r (no_start_stuck (instruction_at code t.at) t.depth (sym (a.are t.at) ∙ none))
blocked code notes starts found t a w r (inr clash) = clash_none code notes t.at clash.0 t.depth (w.reached (record { at = t.at; depth = clash.0 }) clash.1) r clash.2

-- ---- one state more

pub state_is : (s t : State) → s.at ≡ t.at → s.depth ≡ t.depth → s ≡ t
state_is s t at depth = ap₂ (λ (a : ℕ) (d : ℕ). let x : State = record { at = a; depth = d } in x) at depth

some_is : (d e : ℕ) → ◌≡◌ {A = Option ℕ} (Some d) (Some e) → d ≡ e
some_is d e p = cc

none_or_some : (o : Option ℕ) (d : ℕ) → o ≡ None → o ≡ Some d → ⊥
none_or_some o d p q = cc

Contains-here : (at x : ℕ) → at ≡ x → Contains (at ∷ []) x
Contains-here at x same = (0, omega arith, same)

pub Contains-only : (at x : ℕ) → Contains (at ∷ []) x → at ≡ x
Contains-only at x (zero, k, same) = same
Contains-only at x (suc n, k, same) = absurd (omega (arith, k))

module _ (code : List ℕ) (notes : List TryNote) (starts : List Bool) (old : Found) (t : State) (a : AreStarts code starts) (w : IsTrueOf code notes old) (begins : get_or starts t.at false ≡ true) (free : depth_at old.depths t.at ≡ None) where
  begun : is_some (instruction_at code t.at) ≡ true
  begun = sym (a.are t.at) ∙ begins

  inside : t.at < length old.depths
  inside = elim (leb_tells (length starts) t.at) [
    | inr under ↦ omega (arith, under.1, a.size, w.size)
    | inl over ↦ absurd (true≢false (sym begins ∙ get_or_past starts t.at false over.1))
  ]

  here : Has (with_state t old) t
  here = get_or-set_same old.depths t.at (Some t.depth) None inside

  there : (at : ℕ) → at ≢ t.at → depth_at (with_state t old).depths at ≡ depth_at old.depths at
  there at other = get_or-set_other old.depths t.at at (Some t.depth) None other

  known : (s : State) → Has old s → Has (with_state t old) s
  known s has = there s.at (λ e. none_or_some (depth_at old.depths t.at) s.depth free (sym (ap (depth_at old.depths) e) ∙ has)) ∙ has

  which : (s : State) → Has (with_state t old) s → (s ≡ t) ⊎ Has old s
  which s has = elim (eqb_tells s.at t.at) [
    | inl same ↦ inl (state_is s t same.1 (some_is s.depth t.depth (sym has ∙ ap (depth_at (with_state t old).depths) same.1 ∙ here)))
    | inr other ↦ inr (sym (there s.at other.1) ∙ has)
  ]

  fewer : unset (with_state t old).depths + 1 ≡ unset old.depths
  fewer =
      let value : ℕ = cond (is_none (depth_at old.depths t.at)) 1 0 in
      let one : value ≡ 1 = ap (λ (o : Option ℕ). cond (is_none o) 1 0) free in
      let sums : unset (with_state t old).depths + value ≡ unset old.depths + 0 = sum_by-set (λ (o : Option ℕ). cond (is_none o) 1 0) old.depths t.at (Some t.depth) None inside in
      omega (arith, one, sums)

  still_some : (at : ℕ) → IsSome (depth_at old.depths at) → IsSome (depth_at (with_state t old).depths at)
  still_some at some = elim (eqb_tells at t.at) [
    | inl same ↦ ap (λ (x : ℕ). is_some (depth_at (with_state t old).depths x)) same.1 ∙ ap is_some here
    | inr other ↦ ap is_some (there at other.1) ∙ some
  ]

  pub more_true : Reaches code notes t → t.depth + 2 * unset old.depths ≤ 2 * length code → IsTrueOf code notes (with_state t old)
  more_true r room = record {
    size = length-set old.depths t.at (Some t.depth) ∙ w.size;
    reached = λ s has. elim (which s has) [ inl same ↦ subst (Reaches code notes) (sym same) r | inr was ↦ w.reached s was ];
    starts = λ s has. elim (which s has) [ inl same ↦ subst (λ (x : State). IsSome (instruction_at code x.at)) (sym same) begun | inr was ↦ w.starts s was ];
    pending = λ at waits. elim (Contains-append_cases old.pending (t.at ∷ []) at waits) [
      | inl was ↦ still_some at (w.pending at was)
      | inr new ↦ subst (λ (x : ℕ). IsSome (depth_at (with_state t old).depths x)) (Contains-only t.at at new) (ap is_some here)
    ];
    bound = λ s has. elim (which s has) [
      | inl same ↦ subst (λ (x : State). x.depth + 2 * unset (with_state t old).depths + 2 ≤ 2 * length code) (sym same) (omega (arith, fewer, room))
      | inr was ↦ omega (arith, fewer, w.bound s was)
    ];
  }

  pub more_goes : Reaches code notes t → t.depth + 2 * unset old.depths ≤ 2 * length code → Goes code notes old (with_state t old)
  more_goes r room = record {
    true_of = more_true r room;
    has = known;
    waits = λ s has. elim (which s has) [
      | inl same ↦ inr (Contains-append_right old.pending (t.at ∷ []) s.at (Contains-here t.at s.at (ap (λ (x : State). x.at) (sym same))))
      | inr was ↦ inl was
    ];
    kept = λ at was. Contains-append_left old.pending (t.at ∷ []) at was;
    work = omega (arith, fewer, length-append old.pending (t.at ∷ []));
  }

pub goes_on : (code : List ℕ) (notes : List TryNote) (found : Found) → IsTrueOf code notes found → Goes code notes found found
goes_on code notes found w = record { true_of = w; has = λ s h. h; waits = λ s h. inl h; kept = λ at h. h; work = refl }

pub goes_further : (code : List ℕ) (notes : List TryNote) (a b c : Found) → Goes code notes a b → Goes code notes b c → Goes code notes a c
goes_further code notes a b c g h = record {
  true_of = h.true_of;
  has = λ s was. h.has s (g.has s was);
  waits = λ s now. elim (h.waits s now) [
    | inl mid ↦ elim (g.waits s mid) [ inl was ↦ inl was | inr waits ↦ inr (h.kept s.at waits) ]
    | inr waits ↦ inr waits
  ];
  kept = λ at was. h.kept at (g.kept at was);
  work = h.work ∙ g.work;
}

-- ---- a state arrives

-- a state that is reached and no deeper than the bound allows
pub record MayArrive (code : List ℕ) (notes : List TryNote) (starts : List Bool) (found : Found) (t : State) : Type 0 where
  pub are_starts : AreStarts code starts
  pub true_of : IsTrueOf code notes found
  pub reached : Reaches code notes t
  pub room : t.depth + 2 * unset found.depths ≤ 2 * length code

pub arrived : (code : List ℕ) (notes : List TryNote) (starts : List Bool) (old new : Found) (t : State) → MayArrive code notes starts old t → Arrives starts t old new → Follows code notes old new (t ∷ [])
arrived code notes starts old new t m (begins, inl (has, same)) =
    subst (λ (f : Found). Follows code notes old f (t ∷ [])) (sym same) (record { goes = goes_on code notes old m.true_of; has = All-cons (Has old) t [] has (All-nil (Has old)) })
arrived code notes starts old new t m (begins, inr (free, same)) =
    subst (λ (f : Found). Follows code notes old f (t ∷ [])) (sym same) (record { goes = more_goes code notes starts old t m.are_starts m.true_of begins free m.reached m.room; has = All-cons (Has (with_state t old)) t [] (here code notes starts old t m.are_starts m.true_of begins free) (All-nil (Has (with_state t old))) })

pub not_arrived : (code : List ℕ) (notes : List TryNote) (starts : List Bool) (found : Found) (t : State) → MayArrive code notes starts found t → Clashes starts t found → HasNoTable code notes
not_arrived code notes starts found t m clash = blocked code notes starts found t m.are_starts m.true_of m.reached clash

-- the length stays
pub arrives_size : (starts : List Bool) (t : State) (old new : Found) → Arrives starts t old new → length new.depths ≡ length old.depths
arrives_size starts t old new (begins, inl (has, same)) = ap (λ (f : Found). length f.depths) same
arrives_size starts t old new (begins, inr (free, same)) = ap (λ (f : Found). length f.depths) same ∙ length-set old.depths t.at (Some t.depth)

-- ---- the steps from a state that was found

-- what is at a state is so when more was found
pub still_at : (code : List ℕ) (notes : List TryNote) (starts : List Bool) (old new : Found) (s : State) → IsAt code notes starts old s → Goes code notes old new → IsAt code notes starts new s
still_at code notes starts old new s h g = record { are_starts = h.are_starts; true_of = g.true_of; has = g.has s h.has }

-- a step leads to a state that may arrive, if it does not go up by more than 2
pub step_may_arrive : (code : List ℕ) (notes : List TryNote) (starts : List Bool) (found : Found) (s t : State) → IsAt code notes starts found s → Contains (steps code notes s) t → t.depth ≤ s.depth + 2 → MayArrive code notes starts found t
step_may_arrive code notes starts found s t h step low = record {
  are_starts = h.are_starts;
  true_of = h.true_of;
  reached = further s t (h.true_of.reached s h.has) step;
  room = omega (arith, low, h.true_of.bound s h.has);
}

pub follows_nothing : (code : List ℕ) (notes : List TryNote) (found : Found) → IsTrueOf code notes found → Follows code notes found found []
follows_nothing code notes found w = record { goes = goes_on code notes found w; has = All-nil (Has found) }

pub follows_both : (code : List ℕ) (notes : List TryNote) (a b c : Found) (xs ys : List State) → Follows code notes a b xs → Follows code notes b c ys → Follows code notes a c (xs ++ ys)
follows_both code notes a b c xs ys f g = record {
  goes = goes_further code notes a b c f.goes g.goes;
  has = All-append (Has c) xs ys (λ k d within. g.goes.has (get_or xs k d) (f.has k d within)) g.has;
}
