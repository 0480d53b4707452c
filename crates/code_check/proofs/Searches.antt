-- The search over all that is reached.
use Rattle.std.proofs.Common.{◌≡◌, ℕ, zero, suc, ◌+◌, ◌*◌, ◌<◌, Bool, true≢false, is_none, IsSome, ◌⊎◌, ◌↔◌, inl, inr, List, [], ◌∷◌, ◌++◌, length, replicate, get_or, length-append, Option, Some, None, Contains, cond, refl, sym, ap, subst, ◌∙◌, arith}
use Rattle.std.proofs.lemmas.Bool.Decides.{leb_tells}
use Rattle.std.proofs.lemmas.List.{length-replicate}
use Rattle.std.proofs.lemmas.List.Elements.{Contains-append_left, Contains-append_right, Contains-append_cases}
use Rattle.std.proofs.lemmas.List.Folds.{sum_by-replicate}
use Rattle.stencil_data.specs.declared.stencils.TryNote.{TryNote}
use Rattle.bytecode_buf.specs.Machine.{State, first_state, start, IsLeastTable, steps}
use Rattle.code_check.specs.Survey.{AreStarts, Found, depth_at, unset, Has, Arrives, Clashes, IsTrueOf, Goes, Follows, IsLookedAt, IsSearched, HasNoTable}
use Rattle.code_check.proofs.Arrivals.{MayArrive, arrived, not_arrived, two_depths, state_is, Contains-only}

-- ---- the beginning

none_anywhere : (n at : ℕ) → get_or {A = Option ℕ} (replicate n None) at None ≡ None
none_anywhere zero at = refl
none_anywhere (suc n) zero = refl
none_anywhere (suc n) (suc at) = none_anywhere n at

abbrev pub nothing_found : ℕ → Found
nothing_found size = record { depths = replicate size None; pending = [] }

not_some : (d : ℕ) → ◌≡◌ {A = Option ℕ} None (Some d) → ⊥
not_some d e = cc

has_nothing : (size : ℕ) (s : State) → Has (nothing_found size) s → ⊥
has_nothing size s has = not_some s.depth (sym (none_anywhere size s.at) ∙ has)

Contains-none : (at : ℕ) → Contains [] at → ⊥
Contains-none at c = omega (arith, c.1)

pub nothing_true : (code : List ℕ) (notes : List TryNote) → IsTrueOf code notes (nothing_found (length code))
nothing_true code notes = record {
  size = length-replicate (length code) None;
  reached = λ s has. absurd (has_nothing (length code) s has);
  starts = λ s has. absurd (has_nothing (length code) s has);
  pending = λ at waits. absurd (Contains-none at waits);
  bound = λ s has. absurd (has_nothing (length code) s has);
}

unset-all : (n : ℕ) → unset (replicate n None) ≡ n
unset-all n = let e : unset (replicate n None) ≡ n * 1 = sum_by-replicate (λ (o : Option ℕ). cond (is_none o) 1 0) n None in omega (arith, e)

pub first_may : (code : List ℕ) (notes : List TryNote) (starts : List Bool) → AreStarts code starts → MayArrive code notes starts (nothing_found (length code)) first_state
first_may code notes starts a = record {
  are_starts = a;
  true_of = nothing_true code notes;
  reached = start;
  room = let e : unset (replicate (length code) None) ≡ length code = unset-all (length code) in omega (arith, e);
}

-- the first state was put down
pub searched_first : (code : List ℕ) (notes : List TryNote) (starts : List Bool) (old new : Found) → old ≡ nothing_found (length code) → AreStarts code starts → Arrives starts first_state old new → IsSearched code notes new
searched_first code notes starts old new empty a arrives = record {
  true_of = f.goes.true_of;
  first = f.has 0 first_state (omega arith);
  looked = λ s has. elim (f.goes.waits s has) [ inl was ↦ absurd (has_nothing (length code) s was) | inr waits ↦ inl waits ];
}
  where
    f : Follows code notes (nothing_found (length code)) new (first_state ∷ [])
    f = arrived code notes starts (nothing_found (length code)) new first_state (first_may code notes starts a) (subst (λ (x : Found). Arrives starts first_state x new) empty arrives)

pub first_blocked : (code : List ℕ) (notes : List TryNote) (starts : List Bool) (old : Found) → old ≡ nothing_found (length code) → AreStarts code starts → Clashes starts first_state old → HasNoTable code notes
first_blocked code notes starts old empty a clash = not_arrived code notes starts (nothing_found (length code)) first_state (first_may code notes starts a) (subst (λ (x : Found). Clashes starts first_state x) empty clash)

-- ---- one turn

abbrev pub found : List (Option ℕ) → List ℕ → Found
found depths pending = record { depths = depths; pending = pending }

Contains-last : (rest : List ℕ) (at : ℕ) → Contains (rest ++ at ∷ []) at
Contains-last rest at = Contains-append_right rest (at ∷ []) at (0, omega arith, refl)

module _ (code : List ℕ) (notes : List TryNote) (depths : List (Option ℕ)) (all rest : List ℕ) (at : ℕ) (taken : all ≡ rest ++ at ∷ []) where
  -- an offset was taken off those that wait
  pub popped_true : IsTrueOf code notes (found depths all) → IsTrueOf code notes (found depths rest)
  popped_true w = record {
    size = w.size;
    reached = w.reached;
    starts = w.starts;
    pending = λ x waits. w.pending x (subst (λ (l : List ℕ). Contains l x) (sym taken) (Contains-append_left rest (at ∷ []) x waits));
    bound = w.bound;
  }

  pub popped_some : IsTrueOf code notes (found depths all) → IsSome (depth_at depths at)
  popped_some w = w.pending at (subst (λ (l : List ℕ). Contains l at) (sym taken) (Contains-last rest at))

  module _ (new : Found) (depth : ℕ) (there : depth_at depths at ≡ Some depth) (w : IsSearched code notes (found depths all)) (g : Goes code notes (found depths rest) new) (l : IsLookedAt code notes new (record { at = at; depth = depth })) where
    this_one : (s : State) → depth_at depths s.at ≡ Some s.depth → Contains (at ∷ []) s.at → IsLookedAt code notes new s
    this_one s has c =
        let same : at ≡ s.at = Contains-only at s.at c in
        let equal : depth ≡ s.depth = two_depths (depth_at depths s.at) depth s.depth (sym (ap (depth_at depths) same) ∙ there) has in
        subst (IsLookedAt code notes new) (state_is (record { at = at; depth = depth }) s same equal) l

    looked_on : (s : State) → IsLookedAt code notes (found depths all) s → IsLookedAt code notes new s
    looked_on s k = record { free = k.free; closed = λ n d within. g.has (get_or (steps code notes s) n d) (k.closed n d within) }

    looked_or : (s : State) → depth_at depths s.at ≡ Some s.depth → Contains all s.at ⊎ IsLookedAt code notes (found depths all) s → Contains new.pending s.at ⊎ IsLookedAt code notes new s
    looked_or s has (inl waits) = elim (Contains-append_cases rest (at ∷ []) s.at (subst (λ (l : List ℕ). Contains l s.at) taken waits)) [
      | inl still ↦ inl (g.kept s.at still)
      | inr here ↦ inr (this_one s has here)
    ]
    looked_or s has (inr k) = inr (looked_on s k)

    pub searched_more : IsSearched code notes new
    searched_more = record {
      true_of = g.true_of;
      first = g.has first_state w.first;
      looked = λ s has. elim (g.waits s has) [ inl was ↦ looked_or s was (w.looked s was) | inr waits ↦ inl waits ];
    }

    pub searched_less : length new.pending + unset new.depths < length all + unset depths
    searched_less = let long : length all ≡ length (rest ++ at ∷ []) = ap length taken in omega (arith, long, length-append rest (at ∷ []), g.work)

-- ---- the end

pub none_left : (o : Option ℕ) (n : ℕ) → ((x : ℕ) → o ≡ Some x → ⊥) → (IsSome o ↔ (0 < n)) → n ≡ 0
none_left o n none some = elim (leb_tells n 0) [
  | inl low ↦ omega (arith, low.1)
  | inr more ↦ absurd (not_some_by o none (some.1 more.1))
]
  where
    not_some_by : (o : Option ℕ) → ((x : ℕ) → o ≡ Some x → ⊥) → IsSome o → ⊥
    not_some_by None none is = true≢false (sym is)
    not_some_by (Some x) none is = none x refl

-- nothing waits any more
pub searched_all : (code : List ℕ) (notes : List TryNote) (depths : List (Option ℕ)) (pending : List ℕ) → length pending ≡ 0 → IsSearched code notes (found depths pending) → IsLeastTable code notes (depth_at depths)
searched_all code notes depths pending none w = record {
  is = record {
    first = w.first;
    free = λ s has. (done s has (w.looked s has)).free;
    closed = λ s has. (done s has (w.looked s has)).closed;
  };
  reached = w.true_of.reached;
}
  where
    done : (s : State) → depth_at depths s.at ≡ Some s.depth → Contains pending s.at ⊎ IsLookedAt code notes (found depths pending) s → IsLookedAt code notes (found depths pending) s
    done s has (inl waits) = absurd (omega (arith, none, waits.1))
    done s has (inr k) = k
