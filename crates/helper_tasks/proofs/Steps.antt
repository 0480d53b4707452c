-- Each step keeps the rule.
use Rattle.std.proofs.Common.{◌≡◌, ℕ, ◌+◌, ◌-◌, ◌<◌, List, [], ◌∷◌, ◌++◌, set, refl, ap, arith}
use mathlib.Core.Option.{some}
use lib.ListN.{get_elem?}
use Rattle.crossbeam_deque.specs.Tasks.{Pushes, Takes, Pops, Finds, Forks, Merges}
use Rattle.helper_tasks.specs.declared.rule.Dealt.{Dealt}
use Rattle.helper_tasks.specs.Count.{times, total, Each}
use Rattle.helper_tasks.specs.Rule.{dealt, IdleIsEmpty, Balanced, TookAll}
use Rattle.helper_tasks.proofs.Counts.{times-append, total-snoc, total-set, total-sole, each-set, each-snoc, each-front, each-back, each-map}

abbrev parts : Dealt → ℕ
parts v = v.parts

abbrev pushed_of : ℕ → Dealt → ℕ
pushed_of x v = times x v.pushed

abbrev taken_of : ℕ → Dealt → ℕ
taken_of x v = times x v.taken

pub begins : (bound : ℕ) → Balanced bound [] (dealt 64 [] [] ∷ [])
begins bound = record {
  parts = refl;
  each = λ x. refl;
  idle = ((λ none. absurd (omega arith)), tt);
  below = tt;
}

pub pushes : (bound port : ℕ) (v : Dealt) (x : ℕ) → 0 < v.parts → x < bound → Pushes (Balanced bound) port v (x ∷ []) (λ w. w ≡ dealt v.parts (v.pushed ++ x ∷ []) v.taken)
pushes bound port v x some_part small items views b at =
    let w : Dealt = dealt v.parts (v.pushed ++ x ∷ []) v.taken in (
      w,
      record {
        parts = let s = total-set parts views port v w at in let p = b.parts in omega arith;
        each = λ y.
            let s = total-set (pushed_of y) views port v w at in
            let t = total-set (taken_of y) views port v w at in
            let p = b.each y in
            omega (arith, times-append y v.pushed (x ∷ []), times-append y items (x ∷ []));
        idle = each-set IdleIsEmpty views port w b.idle (λ none. absurd (omega arith));
        below = each-snoc (λ (y : ℕ). y < bound) items x b.below small;
      },
      refl,
    )

-- tasks leave, at the front or at the back
takes_either : (bound port : ℕ) (v : Dealt) (xs items all : List ℕ) (views : List Dealt) → 0 < v.parts → ((y : ℕ) → times y all ≡ times y xs + times y items) → Each (λ (y : ℕ). y < bound) items
    → Balanced bound all views → get_elem? views port ≡ some v → Balanced bound items (set views port (dealt v.parts v.pushed (v.taken ++ xs)))
takes_either bound port v xs items all views some_part split below b at =
    let w : Dealt = dealt v.parts v.pushed (v.taken ++ xs) in
    record {
      parts = let s = total-set parts views port v w at in let p = b.parts in omega arith;
      each = λ y.
          let s = total-set (pushed_of y) views port v w at in
          let t = total-set (taken_of y) views port v w at in
          let p = b.each y in
          let q = split y in
          omega (arith, times-append y v.taken xs);
      idle = each-set IdleIsEmpty views port w b.idle (λ none. absurd (omega arith));
      below = below;
    }

pub takes : (bound port : ℕ) (v : Dealt) → 0 < v.parts → Takes (Balanced bound) port v 1 (λ xs w. (w ≡ dealt v.parts v.pushed (v.taken ++ xs)) × Each (λ (x : ℕ). x < bound) xs)
takes bound port v some_part xs items views _ _ b at = (
  dealt v.parts v.pushed (v.taken ++ xs),
  takes_either bound port v xs items (xs ++ items) views some_part (λ y. times-append y xs items) (each-back (λ (x : ℕ). x < bound) xs items b.below) b at,
  (refl, each-front (λ (x : ℕ). x < bound) xs items b.below),
)

pub pops : (bound port : ℕ) (v : Dealt) → 0 < v.parts → Pops (Balanced bound) port v (λ xs w. (w ≡ dealt v.parts v.pushed (v.taken ++ xs)) × Each (λ (x : ℕ). x < bound) xs)
pops bound port v some_part x items views b at = (
  dealt v.parts v.pushed (v.taken ++ x ∷ []),
  takes_either bound port v (x ∷ []) items (items ++ x ∷ []) views some_part (λ y. omega (arith, times-append y items (x ∷ []))) (each-front (λ (x : ℕ). x < bound) items (x ∷ []) b.below) b at,
  (refl, each-back (λ (x : ℕ). x < bound) items (x ∷ []) b.below),
)

idle_none : (f : ℕ → Dealt → ℕ) → ((x : ℕ) (v : Dealt) → IdleIsEmpty v → v.parts ≡ 0 → f x v ≡ 0) → (x : ℕ) (views : List Dealt) → Each IdleIsEmpty views → Each (λ u. parts u ≡ 0 → f x u ≡ 0) views
idle_none f none x views idle = each-map IdleIsEmpty (λ u. parts u ≡ 0 → f x u ≡ 0) views (λ u h. none x u h) idle

pub finds : (bound port : ℕ) (v : Dealt) → Finds (Balanced bound) port v (TookAll v)
finds bound port v views b at all x =
    let sole : total parts views ≡ parts v = omega (arith, b.parts, all) in
    let p : total (pushed_of x) views ≡ pushed_of x v = total-sole parts (pushed_of x) views port v at sole (idle_none pushed_of (λ y u h none. ap (times y) (h none).0) x views b.idle) in
    let t : total (taken_of x) views ≡ taken_of x v = total-sole parts (taken_of x) views port v at sole (idle_none taken_of (λ y u h none. ap (times y) (h none).1) x views b.idle) in
    let e = b.each x in omega arith

pub forks : (bound port : ℕ) (v : Dealt) → 1 < v.parts → Forks (Balanced bound) port v (dealt (v.parts - 1) v.pushed v.taken) (dealt 1 [] [])
forks bound port v two items views b at =
    let l : Dealt = dealt (v.parts - 1) v.pushed v.taken in
    let r : Dealt = dealt 1 [] [] in
    let vs : List Dealt = set views port l in
    record {
      parts = let s = total-set parts views port v l at in let n = total-snoc parts vs r in let p = b.parts in omega arith;
      each = λ y.
          let s = total-set (pushed_of y) views port v l at in
          let t = total-set (taken_of y) views port v l at in
          let n = total-snoc (pushed_of y) vs r in
          let m = total-snoc (taken_of y) vs r in
          let p = b.each y in
          omega arith;
      idle = each-snoc IdleIsEmpty vs r (each-set IdleIsEmpty views port l b.idle (λ none. absurd (omega arith))) (λ none. absurd (omega arith));
      below = b.below;
    }

pub merges : (bound port : ℕ) (v : Dealt) (other : ℕ) (u : Dealt) → 0 < v.parts → Merges (Balanced bound) port v other u (dealt (v.parts + u.parts) (v.pushed ++ u.pushed) (v.taken ++ u.taken)) (dealt 0 [] [])
merges bound port v other u some_part items views b at two at' =
    let w : Dealt = dealt (v.parts + u.parts) (v.pushed ++ u.pushed) (v.taken ++ u.taken) in
    let none : Dealt = dealt 0 [] [] in
    let vs : List Dealt = set views port w in
    record {
      parts = let s = total-set parts views port v w at in let n = total-set parts vs other u none at' in let p = b.parts in omega arith;
      each = λ y.
          let s = total-set (pushed_of y) views port v w at in
          let t = total-set (taken_of y) views port v w at in
          let n = total-set (pushed_of y) vs other u none at' in
          let m = total-set (taken_of y) vs other u none at' in
          let p = b.each y in
          omega (arith, times-append y v.pushed u.pushed, times-append y v.taken u.taken);
      idle = each-set IdleIsEmpty vs other none (each-set IdleIsEmpty views port w b.idle (λ no. absurd (omega arith))) (λ no. (refl, refl));
      below = b.below;
    }
