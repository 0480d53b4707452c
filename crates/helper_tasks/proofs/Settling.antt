-- What the workers have once their looks came back and their deques were emptied.
use Rattle.std.proofs.Common.{◌≡◌, ℕ, zero, suc, ◌+◌, ◌-◌, ◌<◌, ◌≤◌, List, [], ◌∷◌, ◌++◌, length, map, take, drop, get_or, set, refl, ap, sym, ◌∙◌, subst, arith}
use Rattle.std.specs.declared.vec.Vec.{Vec}
use Rattle.std.specs.declared.alloc.Global.{Global}
use Rattle.std.proofs.Math.Seq.{map-set_same, drop-set-lt}
use Rattle.std.proofs.lemmas.List.{take-map, drop-map, take_more_set, append-nil}
use Rattle.helper_tasks.specs.declared.rule.Dealt.{Dealt}
use Rattle.helper_tasks.specs.declared.helper.WorkerDesk.{WorkerDesk}
use Rattle.helper_tasks.specs.declared.helper.Helper.{Helper}
use Rattle.helper_tasks.specs.Count.{times, total, Each}
use Rattle.helper_tasks.specs.Rule.{TookAll}
use Rattle.helper_tasks.specs.Handles.{End, Place, Reach, end_at, reach_at, took, joined}
use Rattle.helper_tasks.specs.Hands.{IsLook, stole, places}
use Rattle.helper_tasks.specs.Desks.{tasks_of, InOrder, Lists}
use Rattle.helper_tasks.specs.Crew.{Looking, Dismissible, Drained, Paired, deque_of, desk_of, fetcher_of, came_to, left_by, fetched, popped, ran_at, took_in, all_took_in}
use Rattle.helper_tasks.proofs.Counts.{times-append, total-snoc, each-set, each-snoc, each-map, each-index}
use Rattle.helper_tasks.proofs.Crewing.{each-mapped, each-unmapped}

module _ {A : Type 0} where
  pub total-put : (f : A → ℕ) (xs : List A) (i : ℕ) (w d : A) → i < length xs → total f (set xs i w) + f (get_or xs i d) ≡ total f xs + f w
  total-put f [] i w d lt = absurd (omega arith)
  total-put f (x ∷ xs) zero w d lt = omega arith
  total-put f (x ∷ xs) (suc i) w d lt = let r = total-put f xs i w d (omega arith) in omega arith

  -- a fact on what a map keeps
  pub along : {B : Type 0} (f : A → B) (Q : B → Type 0) (xs ys : List A) → map f xs ≡ map f ys → Each (λ a. Q (f a)) ys → Each (λ a. Q (f a)) xs
  along f Q xs ys e all = each-unmapped f Q xs (subst (Each Q) (sym e) (each-mapped f Q ys all))

  drop_here : (P : A → Type 0) (xs : List A) (i : ℕ) (d : A) → i < length xs → Each P (drop i xs) → P (get_or xs i d)
  drop_here P [] i d lt all = absurd (omega arith)
  drop_here P (x ∷ xs) zero d lt all = all.0
  drop_here P (x ∷ xs) (suc i) d lt all = drop_here P xs i d (omega arith) all

  drop_later : (P : A → Type 0) (xs : List A) (i : ℕ) → Each P (drop i xs) → Each P (drop (suc i) xs)
  drop_later P [] zero all = tt
  drop_later P [] (suc i) all = tt
  drop_later P (x ∷ xs) zero all = all.1
  drop_later P (x ∷ xs) (suc i) all = drop_later P xs i all

module _ {S O N : Type 0} where
  -- the workers from the n-th on take in the looks
  abbrev pub from : ℕ → List (Helper S O N) → List End → List (Helper S O N)
  from zero hs ls = all_took_in hs ls
  from (suc n) [] ls = []
  from (suc n) (h ∷ hs) ls = h ∷ from n hs ls

  pub from_end : (n : ℕ) (hs : List (Helper S O N)) → from n hs [] ≡ hs
  from_end zero [] = refl
  from_end zero (h ∷ hs) = refl
  from_end (suc n) [] = refl
  from_end (suc n) (h ∷ hs) = ap (λ (l : List (Helper S O N)). h ∷ l) (from_end n hs)

  from_step : (at : ℕ) (hs : List (Helper S O N)) (d : Helper S O N) (own l : End) (later : List End) → at < length hs
      → own ≡ end_at (get_or hs at d).handles.own.deque (joined (get_or hs at d).handles.own.dealt l.dealt)
      → from (suc at) (set hs at (record (get_or hs at d) { handles = record (get_or hs at d).handles { own = own } })) later ≡ from at hs (l ∷ later)
  from_step at [] d own l later lt eo = absurd (omega arith)
  from_step zero (h ∷ hs) d own l later lt eo = λ j. record h { handles = record h.handles { own = eo j } } ∷ all_took_in hs later
  from_step (suc at) (h ∷ hs) d own l later lt eo = ap (λ (k : List (Helper S O N)). h ∷ k) (from_step at hs d own l later (omega arith) eo)

  pub look_here : (at : ℕ) (hs : List (Helper S O N)) (d : Helper S O N) (l : End) (later : List End) → l.deque ∷ places later ≡ drop at (map deque_of hs)
      → (at < length hs) × (l.deque ≡ deque_of (get_or hs at d)) × (places later ≡ drop (suc at) (map deque_of hs))
  look_here zero [] d l later e = absurd (cc)
  look_here (suc at) [] d l later e = absurd (cc)
  look_here zero (h ∷ hs) d l later e = (omega arith, cc, cc)
  look_here (suc at) (h ∷ hs) d l later e = let r = look_here at hs d l later e in (omega arith, r.1, r.2)

  -- one look went back
  pub back_step : (goal : List (Helper S O N)) (at n : ℕ) (hs : List (Helper S O N)) (d : Helper S O N) (own l : End) (rest later : List End) → n ≡ at + 1 → rest ≡ l ∷ later
      → places rest ≡ drop at (map deque_of hs) → Each (λ (h : Helper S O N). 0 < h.handles.own.dealt.parts) hs → from at hs rest ≡ goal
      → own ≡ end_at (get_or hs at d).handles.own.deque (joined (get_or hs at d).handles.own.dealt l.dealt)
      → (let new = set hs at (record (get_or hs at d) { handles = record (get_or hs at d).handles { own = own } }) in
      (places later ≡ drop n (map deque_of new)) × Each (λ (h : Helper S O N). 0 < h.handles.own.dealt.parts) new × (from n new later ≡ goal))
  back_step goal at n hs d own l rest later en er ep parts inv eo =
      let y : Helper S O N = get_or hs at d in
      let w : Helper S O N = record y { handles = record y.handles { own = own } } in
      let here = look_here at hs d l later (ap places (sym er) ∙ ep) in
      let next : suc at ≡ n = omega arith in
      let same : map deque_of (set hs at w) ≡ map deque_of hs = map-set_same deque_of hs at w d (ap (λ (o : End). o.deque) eo) in
      let some_part : 0 < y.handles.own.dealt.parts = each-index (λ (h : Helper S O N). 0 < h.handles.own.dealt.parts) hs at d here.0 parts in
      let sum : own.dealt.parts ≡ y.handles.own.dealt.parts + l.dealt.parts = ap (λ (o : End). o.dealt.parts) eo in (
        here.2 ∙ (ap (λ (k : ℕ). drop k (map deque_of hs)) next ∙ ap (drop n) (sym same)),
        each-set (λ (h : Helper S O N). 0 < h.handles.own.dealt.parts) hs at w parts (omega arith),
        ap (λ (k : ℕ). from k (set hs at w) later) (sym next) ∙ (from_step at hs d own l later here.0 eo ∙ (ap (from at hs) (sym er) ∙ inv)),
      )

  -- what taking looks in does not change
  took_maps : {B : Type 0} (f : Helper S O N → B) → ((h : Helper S O N) (l : End) → f (took_in h l) ≡ f h) → (hs : List (Helper S O N)) (ls : List End) → map f (all_took_in hs ls) ≡ map f hs
  took_maps f same [] ls = refl
  took_maps f same (h ∷ hs) [] = refl
  took_maps f same (h ∷ hs) (l ∷ ls) = let r = took_maps f same hs ls in let e = same h l in λ j. e j ∷ r j

  took_left : (x : ℕ) (hs : List (Helper S O N)) (ls : List End) → Each IsLook ls → total (left_by x) (all_took_in hs ls) ≡ total (left_by x) hs
  took_left x [] ls all = refl
  took_left x (h ∷ hs) [] all = refl
  took_left x (h ∷ hs) (l ∷ ls) all =
      let r = took_left x hs ls all.1 in
      let e = ap (times x) all.0.1 in
      omega (arith, times-append x h.handles.own.dealt.pushed l.dealt.pushed)

  took_came : (x : ℕ) (hs : List (Helper S O N)) (ls : List End) → places ls ≡ map deque_of hs → total (came_to x) (all_took_in hs ls) ≡ total (came_to x) hs + total (stole x) ls
  took_came x [] [] e = refl
  took_came x [] (l ∷ ls) e = absurd (cc)
  took_came x (h ∷ hs) [] e = absurd (cc)
  took_came x (h ∷ hs) (l ∷ ls) e =
      let more : places ls ≡ map deque_of hs = cc in
      let r = took_came x hs ls more in
      omega (arith, times-append x h.handles.own.dealt.taken l.dealt.taken)

  took_parts : (n m : ℕ) (hs : List (Helper S O N)) (ls : List End) → m ≡ n + 1 → places ls ≡ map deque_of hs → Each IsLook ls
      → Each (λ (h : Helper S O N). h.handles.own.dealt.parts ≡ n) hs → Each (λ (h : Helper S O N). h.handles.own.dealt.parts ≡ m) (all_took_in hs ls)
  took_parts n m [] ls em e all own = tt
  took_parts n m (h ∷ hs) [] em e all own = absurd (cc)
  took_parts n m (h ∷ hs) (l ∷ ls) em e all own =
      let more : places ls ≡ map deque_of hs = cc in
      let a = all.0.0 in
      let b = own.0 in
      (omega arith, took_parts n m hs ls em more all.1 own.1)

  -- the first `at` workers gave their looks back
  pub record Returning (hs now : List (Helper S O N)) (at : ℕ) : Type 0 where
    pub deques : map deque_of now ≡ map deque_of hs
    pub parts_are : Each (λ (h : Helper S O N). h.handles.own.dealt.parts ≡ (64 - length hs) + at) now
    pub later : Each (λ (h : Helper S O N). (places h.handles.looks.items ≡ map deque_of hs) × Each IsLook h.handles.looks.items) (drop at now)
    pub earlier : Each (λ (h : Helper S O N). h.handles.looks.items ≡ []) (take at now)
    pub came_is : (x : ℕ) → total (came_to x) now ≡ total (came_to x) hs
    pub left_is : (x : ℕ) → total (left_by x) now ≡ total (left_by x) hs
    pub desks : map desk_of now ≡ map desk_of hs
    pub fetchers : map fetcher_of now ≡ map fetcher_of hs

  pub return_begins : (hs : List (Helper S O N)) → Each (Looking (map deque_of hs) (64 - length hs)) hs → Returning hs hs 0
  return_begins hs all = record {
    deques = refl;
    parts_are = each-map (Looking (map deque_of hs) (64 - length hs)) (λ h. h.handles.own.dealt.parts ≡ (64 - length hs) + 0) hs (λ h l. let p = l.own_parts in omega arith) all;
    later = each-map (Looking (map deque_of hs) (64 - length hs)) (λ h. (places h.handles.looks.items ≡ map deque_of hs) × Each IsLook h.handles.looks.items) hs (λ h l. (l.looks_at, l.looks_on)) all;
    earlier = tt;
    came_is = λ x. refl;
    left_is = λ x. refl;
    desks = refl;
    fetchers = refl;
  }

  pub return_fits : (hs now : List (Helper S O N)) (at : ℕ) (d : Helper S O N) (empty : Vec End Global) → at < length now → length hs ≤ 16 → Returning hs now at
      → (places (get_or now at d).handles.looks.items ≡ map deque_of (set now at (record (get_or now at d) { handles = record (get_or now at d).handles { looks = empty } })))
      × Each (λ (h : Helper S O N). 0 < h.handles.own.dealt.parts) (set now at (record (get_or now at d) { handles = record (get_or now at d).handles { looks = empty } }))
  return_fits hs now at d empty lt small r =
      let y : Helper S O N = get_or now at d in
      let w : Helper S O N = record y { handles = record y.handles { looks = empty } } in
      let Row : Helper S O N → Type 0 = λ h. (places h.handles.looks.items ≡ map deque_of hs) × Each IsLook h.handles.looks.items in
      let Some_part : Helper S O N → Type 0 = λ h. 0 < h.handles.own.dealt.parts in
      let here : Row y = drop_here Row now at d lt r.later in
      let parts : Each Some_part now = each-map (λ (h : Helper S O N). h.handles.own.dealt.parts ≡ (64 - length hs) + at) Some_part now (λ h e. omega arith) r.parts_are in (
        here.0 ∙ sym (map-set_same deque_of now at w d refl ∙ r.deques),
        each-set Some_part now at w parts (each-index Some_part now at d lt parts),
      )

  pub return_step : (hs now new : List (Helper S O N)) (at n : ℕ) (d : Helper S O N) (empty : Vec End Global) (looks : List End) → n ≡ at + 1 → at < length now → length hs ≤ 16 → empty.items ≡ [] → Returning hs now at
      → new ≡ all_took_in (set now at (record (get_or now at d) { handles = record (get_or now at d).handles { looks = empty } })) looks → looks ≡ (get_or now at d).handles.looks.items → Returning hs new n
  return_step hs now new at n d empty looks en lt small none r e el =
      let y : Helper S O N = get_or now at d in
      let w : Helper S O N = record y { handles = record y.handles { looks = empty } } in
      let one : List (Helper S O N) = set now at w in
      let next : suc at ≡ n = omega arith in
      let Row : Vec End Global → Type 0 = λ v. (places v.items ≡ map deque_of hs) × Each IsLook v.items in
      let None_left : Vec End Global → Type 0 = λ v. v.items ≡ [] in
      let looks_of : Helper S O N → Vec End Global = λ h. h.handles.looks in
      let Parts : ℕ → Helper S O N → Type 0 = λ k h. h.handles.own.dealt.parts ≡ (64 - length hs) + k in
      let row : Row y.handles.looks = drop_here (λ (h : Helper S O N). Row (looks_of h)) now at d lt r.later in
      let on : Each IsLook looks = subst (Each IsLook) (sym el) row.1 in
      let fits : places looks ≡ map deque_of one = ap places el ∙ (return_fits hs now at d empty lt small r).0 in
      let parts_one : Each (Parts at) one = each-set (Parts at) now at w r.parts_are (each-index (Parts at) now at d lt r.parts_are) in
      let kept : map looks_of new ≡ map looks_of one = ap (map looks_of) e ∙ took_maps looks_of (λ h l. refl) one looks in
      let later_same : map looks_of (drop n new) ≡ map looks_of (drop n one) = sym (drop-map looks_of n new) ∙ (ap (drop n) kept ∙ drop-map looks_of n one) in
      let earlier_same : map looks_of (take n new) ≡ map looks_of (take n one) = sym (take-map looks_of n new) ∙ (ap (take n) kept ∙ take-map looks_of n one) in
      let untouched : drop n one ≡ drop n now = drop-set-lt n now at w (omega arith) in
      let later_now : Each (λ (h : Helper S O N). Row (looks_of h)) (drop n now) = subst (λ (k : ℕ). Each (λ (h : Helper S O N). Row (looks_of h)) (drop k now)) next (drop_later (λ (h : Helper S O N). Row (looks_of h)) now at r.later) in
      let first : take n one ≡ take at now ++ w ∷ [] = ap (λ (k : ℕ). take k one) en ∙ take_more_set now at w lt in
      let earlier_one : Each (λ (h : Helper S O N). None_left (looks_of h)) (take n one) =
      subst (Each (λ (h : Helper S O N). None_left (looks_of h))) (sym first) (each-snoc (λ (h : Helper S O N). None_left (looks_of h)) (take at now) w r.earlier none) in
      record {
        deques = ap (map deque_of) e ∙ (took_maps deque_of (λ h l. refl) one looks ∙ (map-set_same deque_of now at w d refl ∙ r.deques));
        parts_are = subst (Each (Parts n)) (sym e) (took_parts ((64 - length hs) + at) ((64 - length hs) + n) one looks (omega arith) fits on parts_one);
        later = along looks_of Row (drop n new) (drop n one) later_same (subst (Each (λ (h : Helper S O N). Row (looks_of h))) (sym untouched) later_now);
        earlier = along looks_of None_left (take n new) (take n one) earlier_same earlier_one;
        came_is = λ x.
            let a = ap (total (came_to x)) e in
            let b = took_came x one looks fits in
            let c = total-put (came_to x) now at w d lt in
            let z = ap (total (stole x)) none in
            let q = ap (total (stole x)) el in
            let i = r.came_is x in omega arith;
        left_is = λ x.
            let a = ap (total (left_by x)) e in
            let b = took_left x one looks on in
            let c = total-put (left_by x) now at w d lt in
            let i = r.left_is x in omega arith;
        desks = ap (map desk_of) e ∙ (took_maps desk_of (λ h l. refl) one looks ∙ (map-set_same desk_of now at w d refl ∙ r.desks));
        fetchers = ap (map fetcher_of) e ∙ (took_maps fetcher_of (λ h l. refl) one looks ∙ (map-set_same fetcher_of now at w d refl ∙ r.fetchers));
      }

  pub returned_parts : (hs now : List (Helper S O N)) (at : ℕ) → at ≡ length hs → length hs ≤ 16 → Returning hs now at → Each (λ (h : Helper S O N). h.handles.own.dealt.parts ≡ 64) now
  returned_parts hs now at e small r = each-map (λ (h : Helper S O N). h.handles.own.dealt.parts ≡ (64 - length hs) + at) (λ h. h.handles.own.dealt.parts ≡ 64) now (λ h p. omega arith) r.parts_are

-- draining: one more task
module _ {S O : Type 0} (fits : S → Type 0) (gives : ℕ → O → Type 0) (ran : S → List ℕ) where
  pub drained_stay : (d : WorkerDesk S O) (v : Dealt) → InOrder fits gives d → Drained fits gives ran d d v v
  drained_stay d v o = record { in_order = o; lists = λ start l. l; parts_are = refl; pushed_is = refl; moves = λ x. refl }

  pub drained_more : (a b c : WorkerDesk S O) (v w u : Dealt) (t : ℕ) → Drained fits gives ran a b v w → u ≡ took w t → InOrder fits gives c → ((start : List ℕ) → Lists ran start b → Lists ran start c)
      → tasks_of c.made.items ≡ tasks_of b.made.items ++ t ∷ [] → Drained fits gives ran a c v u
  drained_more a b c v w u t p eu o l e = record {
    in_order = o;
    lists = λ start h. l start (p.lists start h);
    parts_are = ap (λ (z : Dealt). z.parts) eu ∙ p.parts_are;
    pushed_is = ap (λ (z : Dealt). z.pushed) eu ∙ p.pushed_is;
    moves = λ x.
        let i = p.moves x in
        let j = ap (times x) e in
        let k = ap (λ (z : Dealt). times x z.taken) eu in
        omega (arith, times-append x (tasks_of b.made.items) (t ∷ []), times-append x w.taken (t ∷ []));
  }

paired_put : {A B : Type 0} (R : A → B → Type 0) (as' : List A) (bs : List B) (b new : B) (cs : List B) → ((a : A) → R a b → R a new) → Paired R as' (bs ++ b ∷ cs) → Paired R as' ((bs ++ new ∷ []) ++ cs)
paired_put R [] [] b new cs to p = p
paired_put R [] (c ∷ bs) b new cs to p = p
paired_put R (a ∷ as') [] b new cs to p = (to a p.0, p.1)
paired_put R (a ∷ as') (c ∷ bs) b new cs to p = (p.0, paired_put R as' bs b new cs to p.1)

-- one worker is dismissed
module _ {S O N : Type 0} (fits : S → Type 0) (gives : ℕ → O → Type 0) (ran : S → List ℕ) (queue : Place) where
  pub dismiss_paired : (starts : List (List ℕ)) (desks more : List (WorkerDesk S O)) (h : Helper S O N) (d : WorkerDesk S O) (v w : Dealt) (rest later : List (Helper S O N)) → rest ≡ h ∷ later → more ≡ desks ++ d ∷ []
      → Drained fits gives ran h.desk d v w → Paired (Lists ran) starts (desks ++ map desk_of rest) → Paired (Lists ran) starts (more ++ map desk_of later)
  dismiss_paired starts desks more h d v w rest later er em p q =
      let now : Paired (Lists ran) starts (desks ++ map desk_of (h ∷ later)) = subst (λ (r : List (Helper S O N)). Paired (Lists ran) starts (desks ++ map desk_of r)) er q in
      subst (λ (m : List (WorkerDesk S O)). Paired (Lists ran) starts (m ++ map desk_of later)) (sym em) (paired_put (Lists ran) starts desks h.desk d (map desk_of later) p.lists now)

  pub dismiss_fits : (h : Helper S O N) (rest later : List (Helper S O N)) → rest ≡ h ∷ later → Each (Dismissible fits gives queue) rest → Dismissible fits gives queue h × Each (Dismissible fits gives queue) later
  dismiss_fits h rest later er all = let r = subst (Each (Dismissible fits gives queue)) er all in (r.0, r.1)

  pub dismiss_ran : (x : ℕ) (desks more : List (WorkerDesk S O)) (h : Helper S O N) (d : WorkerDesk S O) (own : Dealt) (rest later hs : List (Helper S O N)) → rest ≡ h ∷ later → more ≡ desks ++ d ∷ [] → Dismissible fits gives queue h
      → Drained fits gives ran h.desk d h.handles.own.dealt own → TookAll own
      → total (ran_at x) desks + total (popped x) hs + total (left_by x) rest ≡ total (left_by x) hs + total (popped x) rest
      → total (ran_at x) more + total (popped x) hs + total (left_by x) later ≡ total (left_by x) hs + total (popped x) later
  dismiss_ran x desks more h d own rest later hs er em fit p empty inv =
      let a = ap (total (left_by x)) er in
      let b = ap (total (popped x)) er in
      let c = ap (total (ran_at x)) em ∙ total-snoc (ran_at x) desks d in
      let e = p.moves x in
      let f = empty (p.parts_are ∙ fit.all_parts) x in
      let k = ap (times x) p.pushed_is in
      omega arith

  pub dismiss_fetched : (x : ℕ) (all new : Reach) (h : Helper S O N) (rest later : List (Helper S O N)) (goal : ℕ) → rest ≡ h ∷ later → new ≡ reach_at queue (joined all.dealt h.handles.fetcher.dealt)
      → times x all.dealt.taken + total (fetched x) rest ≡ goal → times x new.dealt.taken + total (fetched x) later ≡ goal
  dismiss_fetched x all new h rest later goal er en inv =
      let a = ap (total (fetched x)) er in
      let b = ap (λ (r : Reach). times x r.dealt.taken) en in
      omega (arith, times-append x all.dealt.taken h.handles.fetcher.dealt.taken)

  pub dismiss_parts : (all new : Reach) (h : Helper S O N) (rest later : List (Helper S O N)) (goal : ℕ) → rest ≡ h ∷ later → Dismissible fits gives queue h → new ≡ reach_at queue (joined all.dealt h.handles.fetcher.dealt)
      → all.dealt.parts + length rest ≡ goal → new.dealt.parts + length later ≡ goal
  dismiss_parts all new h rest later goal er fit en inv =
      let a = ap length er in
      let b = ap (λ (r : Reach). r.dealt.parts) en in
      let c = fit.fetches.0 in omega arith

  pub dismiss_pushed : (all new : Reach) (h : Helper S O N) (goal : List ℕ) → Dismissible fits gives queue h → new ≡ reach_at queue (joined all.dealt h.handles.fetcher.dealt) → all.dealt.pushed ≡ goal → new.dealt.pushed ≡ goal
  dismiss_pushed all new h goal fit en inv = ap (λ (r : Reach). r.dealt.pushed) en ∙ (ap (λ (l : List ℕ). all.dealt.pushed ++ l) fit.fetches.1 ∙ (append-nil all.dealt.pushed ∙ inv))

  pub dismiss_some : (all new : Reach) (h : Helper S O N) → new ≡ reach_at queue (joined all.dealt h.handles.fetcher.dealt) → 0 < all.dealt.parts → 0 < new.dealt.parts
  dismiss_some all new h en some_part = let b = ap (λ (r : Reach). r.dealt.parts) en in omega arith

pub dismiss_order : {S O : Type 0} (fits : S → Type 0) (gives : ℕ → O → Type 0) (desks more : List (WorkerDesk S O)) (d : WorkerDesk S O) → more ≡ desks ++ d ∷ [] → InOrder fits gives d → Each (InOrder fits gives) desks → Each (InOrder fits gives) more
dismiss_order fits gives desks more d em o all = subst (Each (InOrder fits gives)) (sym em) (each-snoc (InOrder fits gives) desks d all o)
