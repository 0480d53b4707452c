-- What each use of a worker's handles moves.
use Rattle.std.proofs.Common.{◌≡◌, ℕ, ◌<◌, List, [], ◌∷◌, ◌++◌, length, get_or, Option, Some, None, Result, Ok, Err, MatchOption, MatchResult, refl, ap, sym, ◌∙◌, subst, arith, length-set}
use Rattle.std.proofs.Math.Seq.{map-set_same}
use Rattle.std.proofs.lemmas.List.{append-nil}
use Rattle.std.specs.Vec.{with_item}
use Rattle.crossbeam_deque.proofs.Lists.{at_index}
use Rattle.helper_tasks.specs.declared.handles.Handles.{Handles}
use Rattle.helper_tasks.specs.Count.{times}
use Rattle.helper_tasks.specs.Rule.{dealt, TookAll}
use Rattle.helper_tasks.specs.Handles.{Place, End, Reach, end_at, reach_at, pushed, took}
use Rattle.helper_tasks.specs.Hands.{IsLook, stole, Equipped, Same, Moved}
use Rattle.helper_tasks.proofs.Counts.{times-append, total-set, each-at, each-set}

module _ {N : Type 0} where
  pub same_refl : (h : Handles N) → Same h h
  same_refl h = record { number = refl; deque = refl; parts = refl; injector = refl; looks_at = refl }

  pub same_then : (a b c : Handles N) → Same a b → Same b c → Same a c
  same_then a b c p q = record { number = q.number ∙ p.number; deque = q.deque ∙ p.deque; parts = q.parts ∙ p.parts; injector = q.injector ∙ p.injector; looks_at = q.looks_at ∙ p.looks_at }

  pub stays : (h : Handles N) (xs : List ℕ) → Equipped h → Moved h h xs xs
  stays h xs e = record { equipped = e; same = same_refl h; moves = λ x. refl }

  pub moved_then : (a b c : Handles N) (xs ys zs : List ℕ) → Moved a b xs ys → Moved b c ys zs → Moved a c xs zs
  moved_then a b c xs ys zs p q = record {
    equipped = q.equipped;
    same = same_then a b c p.same q.same;
    moves = λ x. let i = p.moves x in let j = q.moves x in omega arith;
  }

  -- what else is in hand makes no difference
  pub moved_beside : (a b : Handles N) (ws xs ys : List ℕ) → Moved a b xs ys → Moved a b (ws ++ xs) (ws ++ ys)
  moved_beside a b ws xs ys p = record {
    equipped = p.equipped;
    same = p.same;
    moves = λ x. let i = p.moves x in omega (arith, times-append x ws xs, times-append x ws ys);
  }

  pub popped : (bound : ℕ) (h : Handles N) (own : End) (r : Option ℕ) → Equipped h
      → MatchOption r ((own ≡ h.own) × TookAll h.own.dealt) (λ x. (x < bound) × (own ≡ end_at h.own.deque (took h.own.dealt x)))
      → MatchOption r (Moved h (record h { own = own }) [] []) (λ x. (x < bound) × Moved h (record h { own = own }) [] (x ∷ []))
  popped bound h own None e p = record {
    equipped = record { seated = e.seated; owns = subst (λ (o : End). 0 < o.dealt.parts) (sym p.0) e.owns; fetches = e.fetches; looks_on = e.looks_on };
    same = record { number = refl; deque = ap (λ (o : End). o.deque) p.0; parts = ap (λ (o : End). o.dealt.parts) p.0; injector = refl; looks_at = refl };
    moves = λ x. let i = ap (λ (o : End). times x o.dealt.taken) p.0 in let j = ap (λ (o : End). times x o.dealt.pushed) p.0 in omega arith;
  }
  popped bound h own (Some y) e p = (
    p.0,
    record {
      equipped = record { seated = e.seated; owns = subst (λ (o : End). 0 < o.dealt.parts) (sym p.1) e.owns; fetches = e.fetches; looks_on = e.looks_on };
      same = record { number = refl; deque = ap (λ (o : End). o.deque) p.1; parts = ap (λ (o : End). o.dealt.parts) p.1; injector = refl; looks_at = refl };
      moves = λ x.
          let i = ap (λ (o : End). times x o.dealt.taken) p.1 in
          let j = ap (λ (o : End). times x o.dealt.pushed) p.1 in
          omega (arith, times-append x h.own.dealt.taken (y ∷ []));
    },
  )

  pub kept : (h : Handles N) (own : End) (y : ℕ) (r : Result (Unit {0}) ℕ) → Equipped h
      → MatchResult r (λ _. own ≡ end_at h.own.deque (pushed h.own.dealt y)) (λ t. (t ≡ y) × (own ≡ h.own))
      → MatchResult r (λ _. Moved h (record h { own = own }) (y ∷ []) []) (λ t. (t ≡ y) × (record h { own = own } ≡ h))
  kept h own y (Ok u) e p = record {
    equipped = record { seated = e.seated; owns = subst (λ (o : End). 0 < o.dealt.parts) (sym p) e.owns; fetches = e.fetches; looks_on = e.looks_on };
    same = record { number = refl; deque = ap (λ (o : End). o.deque) p; parts = ap (λ (o : End). o.dealt.parts) p; injector = refl; looks_at = refl };
    moves = λ x.
        let i = ap (λ (o : End). times x o.dealt.taken) p in
        let j = ap (λ (o : End). times x o.dealt.pushed) p in
        omega (arith, times-append x h.own.dealt.pushed (y ∷ []));
  }
  kept h own y (Err t) e p = (p.0, λ i. record h { own = p.1 i })

  pub fetched : (bound : ℕ) (h : Handles N) (queue : Place) (fetcher : Reach) (r : Option ℕ) → Equipped h → h.fetcher.injector ≡ queue
      → MatchOption r ((fetcher ≡ h.fetcher) × TookAll h.fetcher.dealt) (λ x. (x < bound) × (fetcher ≡ reach_at queue (took h.fetcher.dealt x)))
      → MatchOption r (Moved h (record h { fetcher = fetcher }) [] []) (λ x. (x < bound) × Moved h (record h { fetcher = fetcher }) [] (x ∷ []))
  fetched bound h queue fetcher None e at p =
      let Fit : Reach → Type 0 = λ f. (f.dealt.parts ≡ 1) × (f.dealt.pushed ≡ []) in
      record {
        equipped = record { seated = e.seated; owns = e.owns; fetches = subst Fit (sym p.0) e.fetches; looks_on = e.looks_on };
        same = record { number = refl; deque = refl; parts = refl; injector = ap (λ (o : Reach). o.injector) p.0; looks_at = refl };
        moves = λ x. let i = ap (λ (o : Reach). times x o.dealt.taken) p.0 in omega arith;
      }
  fetched bound h queue fetcher (Some y) e at p =
      let Fit : Reach → Type 0 = λ f. (f.dealt.parts ≡ 1) × (f.dealt.pushed ≡ []) in (
        p.0,
        record {
          equipped = record { seated = e.seated; owns = e.owns; fetches = subst Fit (sym p.1) e.fetches; looks_on = e.looks_on };
          same = record { number = refl; deque = refl; parts = refl; injector = ap (λ (o : Reach). o.injector) p.1 ∙ sym at; looks_at = refl };
          moves = λ x.
              let i = ap (λ (o : Reach). times x o.dealt.taken) p.1 in
              omega (arith, times-append x h.fetcher.dealt.taken (y ∷ []));
        },
      )

  -- a look changes to one at the same deque that took ys more
  looked : (h : Handles N) (at : ℕ) (was now : End) (ys : List ℕ) → Equipped h → at < length h.looks.items → was ≡ get_or h.looks.items at was
      → now ≡ end_at was.deque (dealt was.dealt.parts was.dealt.pushed (was.dealt.taken ++ ys)) → Moved h (record h { looks = with_item h.looks at now }) [] ys
  looked h at was now ys e lt is p =
      let here = at_index h.looks.items at was lt is in
      let old : IsLook was = each-at IsLook h.looks.items at was e.looks_on here in
      let new : IsLook now = subst IsLook (sym p) old in
      record {
        equipped = record {
          seated = let n = length-set h.looks.items at now in let s = e.seated in omega arith;
          owns = e.owns;
          fetches = e.fetches;
          looks_on = each-set IsLook h.looks.items at now e.looks_on new;
        };
        same = record {
          number = refl;
          deque = refl;
          parts = refl;
          injector = refl;
          looks_at = map-set_same (λ (l : End). l.deque) h.looks.items at now was (ap (λ (l : End). l.deque) p ∙ ap (λ (l : End). l.deque) is);
        };
        moves = λ x.
            let t = total-set (stole x) h.looks.items at was now here in
            let i = ap (stole x) p in
            omega (arith, times-append x was.dealt.taken ys);
      }

  pub stolen : (bound : ℕ) (h : Handles N) (at : ℕ) (was now : End) (r : Option ℕ) → Equipped h → at < length h.looks.items → was ≡ get_or h.looks.items at was
      → MatchOption r (now ≡ was) (λ x. (x < bound) × (now ≡ end_at was.deque (took was.dealt x)))
      → MatchOption r (Moved h (record h { looks = with_item h.looks at now }) [] []) (λ x. (x < bound) × Moved h (record h { looks = with_item h.looks at now }) [] (x ∷ []))
  stolen bound h at was now None e lt is p =
      let none : was ≡ end_at was.deque (dealt was.dealt.parts was.dealt.pushed (was.dealt.taken ++ [])) = λ i. end_at was.deque (dealt was.dealt.parts was.dealt.pushed (sym (append-nil was.dealt.taken) i)) in
      looked h at was now [] e lt is (p ∙ none)
  stolen bound h at was now (Some y) e lt is p = (p.0, looked h at was now (y ∷ []) e lt is p.1)
