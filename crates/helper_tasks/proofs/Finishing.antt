-- From the workers' start to the answer of the call.
use Rattle.std.proofs.Common.{◌≡◌, ℕ, suc, ◌+◌, ◌-◌, ◌<◌, ◌≤◌, Bool, true, false, eqb, ltb, cond, List, [], ◌∷◌, ◌++◌, length, map, take, drop, get_or, set, All, Some, Result, Ok, Err, IfOk, refl, ap, sym, ◌∙◌, subst, arith}
use Rattle.std.specs.declared.alloc.AllocError.{AllocError}
use Rattle.std.specs.declared.vec.Vec.{Vec}
use Rattle.std.specs.declared.alloc.Global.{Global}
use Rattle.std.proofs.Math.Seq.{take-append_seam}
use Rattle.std.proofs.lemmas.List.{take-append-drop, map-append, append-nil, length-map}
use Rattle.std.proofs.lemmas.Bool.Decides.{nat_tests}
use Rattle.helper_tasks.specs.declared.rule.Dealt.{Dealt}
use Rattle.helper_tasks.specs.declared.helper.Made.{Made}
use Rattle.helper_tasks.specs.declared.helper.WorkerDesk.{WorkerDesk}
use Rattle.helper_tasks.specs.declared.helper.Helper.{Helper}
use Rattle.helper_tasks.specs.Count.{times, total, once_below, Each, EachOnceBelow}
use Rattle.helper_tasks.specs.Jobs.{Gain, GainedOnce, GivesEach}
use Rattle.helper_tasks.specs.Rule.{dealt, TookAll}
use Rattle.helper_tasks.specs.Handles.{Place, Reach, reach_at}
use Rattle.helper_tasks.specs.Hands.{IsLook, stole, places, came}
use Rattle.helper_tasks.specs.Desks.{tasks_of, InOrder, Lists, Ready, Works}
use Rattle.helper_tasks.specs.Crew.{Fresh, Hired, Looking, Dismissible, Drained, Paired, Served, StartsIn, aspect, alone, new_look, deque_of, desk_of, fetcher_of, came_to, left_by, fetched, popped, ran_at, all_made, placed, empty_slots}
use Rattle.helper_tasks.proofs.Counts.{times-append, each-append, each-index, each-map}
use Rattle.helper_tasks.proofs.Crewing.{map_after, each-mapped, each-unmapped}
use Rattle.helper_tasks.proofs.Placing.{outs_length, outs_given}
use Rattle.helper_tasks.proofs.Settling.{along, total-put}

module _ {A : Type 0} where
  pub refilled : (len : ℕ) (new old : List A) → length new ≡ len → take len (new ++ drop (length new) old) ≡ new
  refilled len new old e = ap (λ (k : ℕ). take k (new ++ drop (length new) old)) (sym e) ∙ take-append_seam new (drop (length new) old)

  each_all : (P : A → Type 0) (xs : List A) → Each P xs → All P xs
  each_all P xs all k d lt = each-index P xs k d lt all

  pub all_each : (P : A → Type 0) (xs : List A) → All P xs → Each P xs
  all_each P [] all = tt
  all_each P (x ∷ xs) all = (all 0 x (omega arith), all_each P xs (λ k d lt. all (suc k) d (omega arith)))

  pub each_of : {B : Type 0} (f : A → B) (P : B → Type 0) (xs : List A) (ys : List B) → map f xs ≡ ys → Each P ys → Each (λ a. P (f a)) xs
  each_of f P xs ys e all = each-unmapped f P xs (subst (Each P) (sym e) all)

  each_both : (P Q : A → Type 0) (xs : List A) → Each P xs → Each Q xs → Each (λ a. P a × Q a) xs
  each_both P Q [] p q = tt
  each_both P Q (x ∷ xs) p q = ((p.0, q.0), each_both P Q xs p.1 q.1)

  map_along : {B C : Type 0} (f : A → B) (g : B → C) (xs ys : List A) → map f xs ≡ map f ys → map (λ a. g (f a)) xs ≡ map (λ a. g (f a)) ys
  map_along f g xs ys e = sym (map_after g f xs) ∙ (ap (map g) e ∙ map_after g f ys)

  total_map : {B : Type 0} (w : B → ℕ) (f : A → B) (xs : List A) → total w (map f xs) ≡ total (λ a. w (f a)) xs
  total_map w f [] = refl
  total_map w f (x ∷ xs) = let r = total_map w f xs in omega arith

  total_along : {B : Type 0} (f : A → B) (w : B → ℕ) (xs ys : List A) → map f xs ≡ map f ys → total (λ a. w (f a)) xs ≡ total (λ a. w (f a)) ys
  total_along f w xs ys e = sym (total_map w f xs) ∙ (ap (total w) e ∙ total_map w f ys)

-- each number of an order is below its length
pub order_below : (n : ℕ) (xs : List ℕ) → ((x : ℕ) → times x xs ≤ once_below x n) → Each (λ (x : ℕ). x < n) xs
order_below n [] h = tt
order_below n (y ∷ ys) h =
    let a = h y in
    let e : eqb y y ≡ true = grind (arith, nat_tests) in (
      elim (ltb y n) as (λ b. (ltb y n ≡ b) → cond (eqb y y) 1 0 + times y ys ≤ cond b 1 0 → y < n) [
        | true ↦ λ t q. grind (arith, nat_tests)
        | false ↦ λ t q. absurd (let p : 1 + times y ys ≤ 0 = subst (λ (b : Bool). cond b 1 0 + times y ys ≤ 0) e q in omega arith)
      ] refl a,
      order_below n ys (λ x. let b = h x in omega arith),
    )

pub order_within : (n m : ℕ) (xs : List ℕ) → n ≡ m → EachOnceBelow m xs → Each (λ (x : ℕ). x < n) xs
order_within n m xs e once = subst (λ (k : ℕ). Each (λ (x : ℕ). x < k) xs) (sym e) (order_below m xs (λ x. let o = once x in omega arith))

module _ {S O N : Type 0} where
  same_length : (hs ks : List (Helper S O N)) → map aspect hs ≡ map aspect ks → length hs ≡ length ks
  same_length hs ks e = sym (length-map hs aspect) ∙ (ap length e ∙ length-map ks aspect)

  pub staffed_tasks : (order pushed : List ℕ) (p : ℕ) (hired base looking v : List (Helper S O N)) → base ≡ hired → v ≡ looking → map aspect looking ≡ map aspect base → pushed ≡ take p order
      → ((x : ℕ) → total (alone order x) hired ≡ times x (drop p order)) → (x : ℕ) → times x pushed + total (alone order x) v ≡ times x order
  staffed_tasks order pushed p hired base looking v eb ev same ep rest x =
      let a = ap (total (alone order x)) ev in
      let b = total_along aspect (λ (s : ℕ × Place × Reach × WorkerDesk S O × ℕ). times x (drop s.4 order)) looking base same in
      let g = ap (total (alone order x)) eb in
      let c = rest x in
      let d = ap (times x) ep in
      let e = ap (times x) (take-append-drop p order) in
      omega (arith, times-append x (take p order) (drop p order))

  pub staffed_shares : (hired base looking v : List (Helper S O N)) (shares : List S) → base ≡ hired → v ≡ looking → map aspect looking ≡ map aspect base → map (λ (h : Helper S O N). h.desk.share) hired ≡ shares → map (λ (h : Helper S O N). h.desk.share) v ≡ shares
  staffed_shares hired base looking v shares eb ev same e =
      ap (map (λ (h : Helper S O N). h.desk.share)) ev ∙ (map_along aspect (λ (s : ℕ × Place × Reach × WorkerDesk S O × ℕ). s.3.share) looking base same ∙ (ap (map (λ (h : Helper S O N). h.desk.share)) eb ∙ e))

  pub staffed_fresh : (queue : Place) (n : ℕ) (order : List ℕ) (first hired looking v : List (Helper S O N)) → hired ≡ first → v ≡ looking → map aspect looking ≡ map aspect hired → n ≡ length hired
      → Each (Hired queue n order) first → Each (λ (h : Helper S O N). h.handles.own.dealt ≡ dealt (64 - length hired) [] []) looking
      → Each (λ (h : Helper S O N). h.handles.looks.items ≡ map (λ (k : Helper S O N). new_look (deque_of k)) hired) looking
      → Each (Fresh (map deque_of v) queue (length v) order) v
  staffed_fresh queue n order first hired looking v eb ev same en all own looks =
      let P : List Place = map deque_of looking in
      let count : length hired ≡ length looking = sym (same_length looking hired same) in
      let known : Helper S O N → Type 0 = λ h. (h.handles.number < n) × (h.handles.fetcher ≡ reach_at queue (dealt 1 [] [])) × (h.desk.made.items ≡ []) × (h.rest ≤ length order) in
      let Q : ℕ × Place × Reach × WorkerDesk S O × ℕ → Type 0 = λ s. (s.0 < n) × (s.2 ≡ reach_at queue (dealt 1 [] [])) × (s.3.made.items ≡ []) × (s.4 ≤ length order) in
      let old : Each known hired = each-map (Hired queue n order) known hired (λ h f. (f.numbered, f.fetcher_new, f.none_made, f.rest_in)) (subst (Each (Hired queue n order)) (sym eb) all) in
      let new : Each known looking = along aspect Q looking hired same old in
      let at : map (λ (k : Helper S O N). new_look (deque_of k)) hired ≡ map new_look P = sym (map_along aspect (λ (s : ℕ × Place × Reach × WorkerDesk S O × ℕ). new_look s.1) looking hired same) ∙ sym (map_after new_look deque_of looking) in
      let Own : Helper S O N → Type 0 = λ h. h.handles.own.dealt ≡ dealt (64 - length hired) [] [] in
      let Look : Helper S O N → Type 0 = λ h. h.handles.looks.items ≡ map (λ (k : Helper S O N). new_look (deque_of k)) hired in
      let both = each_both known (λ h. Own h × Look h) looking new (each_both Own Look looking own looks) in
      subst (λ (l : List (Helper S O N)). Each (Fresh (map deque_of l) queue (length l) order) l) (sym ev)
      (each-map (λ h. known h × (Own h × Look h)) (Fresh P queue (length looking) order) looking
      (λ h f. record {
        number_in = let a = f.0.0 in omega arith;
        own_left = f.1.0 ∙ (λ j. dealt (64 - count j) [] []);
        new_looks = f.1.1 ∙ at;
        new_fetcher = f.0.1;
        nothing_made = f.0.2;
        rest_at = f.0.3;
      }) both)

  pub settle_came : (x : ℕ) (hs : List (Helper S O N)) → Each (λ (h : Helper S O N). h.handles.looks.items ≡ []) hs → total (came_to x) hs ≡ total (fetched x) hs + total (popped x) hs
  settle_came x [] none = refl
  settle_came x (h ∷ hs) none = let r = settle_came x hs none.1 in let e = ap (total (stole x)) none.0 in omega arith

module _ {S O N : Type 0} (fits : S → Type 0) (gives : ℕ → O → Type 0) (queue : Place) where
  pub settle_dismissible : (old hs v : List (Helper S O N)) → v ≡ hs → map desk_of hs ≡ map desk_of old → map fetcher_of hs ≡ map fetcher_of old → Each (λ (h : Helper S O N). h.handles.own.dealt.parts ≡ 64) hs
      → Each (λ (h : Helper S O N). h.handles.looks.items ≡ []) hs → Each (Ready fits gives queue) old → Each (Dismissible fits gives queue) v
  settle_dismissible old hs v ev desks fetchers parts none ready =
      let F : Reach → Type 0 = λ f. (f.injector ≡ queue) × ((f.dealt.parts ≡ 1) × (f.dealt.pushed ≡ [])) in
      let fetching : Each (λ (h : Helper S O N). F (fetcher_of h)) hs = along fetcher_of F hs old fetchers (each-map (Ready fits gives queue) (λ (h : Helper S O N). F (fetcher_of h)) old (λ h r. (r.fetches_from, r.equipped.fetches)) ready) in
      let ordered : Each (λ (h : Helper S O N). InOrder fits gives (desk_of h)) hs = along desk_of (InOrder fits gives) hs old desks (each-map (Ready fits gives queue) (λ (h : Helper S O N). InOrder fits gives (desk_of h)) old (λ h r. r.in_order) ready) in
      let Parts : Helper S O N → Type 0 = λ h. h.handles.own.dealt.parts ≡ 64 in
      let None_left : Helper S O N → Type 0 = λ h. h.handles.looks.items ≡ [] in
      let one = each_both Parts None_left hs parts none in
      let two = each_both (λ (h : Helper S O N). F (fetcher_of h)) (λ (h : Helper S O N). InOrder fits gives (desk_of h)) hs fetching ordered in
      subst (Each (Dismissible fits gives queue)) (sym ev)
      (each-map (λ (h : Helper S O N). (Parts h × None_left h) × (F (fetcher_of h) × InOrder fits gives (desk_of h))) (Dismissible fits gives queue) hs
      (λ h f. record { all_parts = f.0.0; no_look = f.0.1; fetcher_at = f.1.0.0; fetches = f.1.0.1; desk_in_order = f.1.1 })
      (each_both (λ (h : Helper S O N). Parts h × None_left h) (λ (h : Helper S O N). F (fetcher_of h) × InOrder fits gives (desk_of h)) hs one two))

paired_set : {A B : Type 0} (R : A → B → Type 0) (as' : List A) (bs : List B) (d new : B) → ((a : A) → R a (get_or bs 0 d) → R a new) → Paired R as' bs → Paired R as' (set bs 0 new)
paired_set R [] [] d new to p = p
paired_set R [] (b ∷ bs) d new to p = p
paired_set R (a ∷ as') [] d new to p = p
paired_set R (a ∷ as') (b ∷ bs) d new to p = (to a p.0, p.1)

module _ {S O : Type 0} (fits : S → Type 0) (gives : ℕ → O → Type 0) (ran : S → List ℕ) where
  pub settle_lists : (starts : List (List ℕ)) (desks : List (WorkerDesk S O)) (d was new : WorkerDesk S O) (v w : Dealt) → was ≡ get_or desks 0 d → Drained fits gives ran was new v w → Paired (Lists ran) starts desks → Paired (Lists ran) starts (set desks 0 new)
  settle_lists starts desks d was new v w e p q = paired_set (Lists ran) starts desks d new (λ start l. p.lists start (subst (Lists ran start) (sym e) l)) q

  pub settle_ran : (x c f q l k : ℕ) (desks : List (WorkerDesk S O)) (d was new : WorkerDesk S O) (pushed : List ℕ) (all now : Dealt) → 0 < length desks → was ≡ get_or desks 0 d → Drained fits gives ran was new all now → TookAll now
      → all.parts ≡ 64 → all.pushed ≡ pushed → times x all.taken ≡ f → total (ran_at x) desks + q ≡ l → c ≡ f + q → k ≡ l
      → total (ran_at x) (set desks 0 new) + c ≡ k + times x pushed
  settle_ran x c f q l k desks d was new pushed all now some_desk e p empty parts same took ran_all came left =
      let a = total-put (ran_at x) desks 0 new d some_desk in
      let b = ap (ran_at x) e in
      let i = p.moves x in
      let t = empty (p.parts_are ∙ parts) x in
      let u = ap (times x) (p.pushed_is ∙ same) in
      omega arith

new_looks_on : (at : List Place) → Each IsLook (map new_look at)
new_looks_on [] = tt
new_looks_on (p ∷ at) = ((refl, refl), new_looks_on at)

new_looks_stole : (x : ℕ) (at : List Place) → total (stole x) (map new_look at) ≡ 0
new_looks_stole x [] = refl
new_looks_stole x (p ∷ at) = let r = new_looks_stole x at in omega arith

new_looks_at : (at : List Place) → places (map new_look at) ≡ at
new_looks_at [] = refl
new_looks_at (p ∷ at) = ap (λ (l : List Place). p ∷ l) (new_looks_at at)

-- there are as many workers as shares
pub shares_count : {S O N : Type 0} (hs : List (Helper S O N)) (shares : List S) → map (λ (h : Helper S O N). h.desk.share) hs ≡ shares → length hs ≡ length shares
shares_count {S} {O} {N} hs shares e = sym (length-map hs (λ (h : Helper S O N). h.desk.share)) ∙ ap length e

module _ {S O N : Type 0} (fits : S → Type 0) (gives : ℕ → O → Type 0) (queue : Place) (order : List ℕ) where
  starts_in : (at : List Place) (n : ℕ) (h : Helper S O N) → length at ≡ n → 0 < n → n ≤ 16 → Fresh at queue n order h → fits h.desk.share → StartsIn fits gives queue order h
  starts_in at n h size some_worker small f ok = record {
    ready = record {
      equipped = record {
        seated = let a = ap length f.new_looks in let b = length-map at new_look in let c = f.number_in in omega arith;
        owns = let a = ap (λ (v : Dealt). v.parts) f.own_left in omega arith;
        fetches = (ap (λ (r : Reach). r.dealt.parts) f.new_fetcher, ap (λ (r : Reach). r.dealt.pushed) f.new_fetcher);
        looks_on = subst (Each IsLook) (sym f.new_looks) (new_looks_on at);
      };
      fetches_from = ap (λ (r : Reach). r.injector) f.new_fetcher;
      in_order = record { share_fits = ok; outs_given = subst (Each (λ (m : Made O). gives m.task m.out)) (sym f.nothing_made) tt };
    };
    rest_in = f.rest_at;
  }

  pub all_start : (hs : List (Helper S O N)) (shares : List S) → map (λ (h : Helper S O N). h.desk.share) hs ≡ shares → 0 < length shares → length shares ≤ 16 → Each (Fresh (map deque_of hs) queue (length hs) order) hs → All fits shares
      → Each (StartsIn fits gives queue order) hs
  all_start hs shares e some_share small fresh ok =
      let count : length hs ≡ length shares = shares_count hs shares e in
      let F : Helper S O N → Type 0 = Fresh (map deque_of hs) queue (length hs) order in
      let fit : Each (λ (h : Helper S O N). fits h.desk.share) hs = each_of (λ (h : Helper S O N). h.desk.share) fits hs shares e (all_each fits shares ok) in
      each-map (λ (h : Helper S O N). F h × fits h.desk.share) (StartsIn fits gives queue order) hs
      (λ h f. starts_in (map deque_of hs) (length hs) h (length-map hs deque_of) (omega arith) (omega arith) f.0 f.1)
      (each_both F (λ (h : Helper S O N). fits h.desk.share) hs fresh fit)

module _ {S O N : Type 0} (fits : S → Type 0) (gives : ℕ → O → Type 0) (ran : S → List ℕ) (queue : Place) (order : List ℕ) where
  -- what one worker did
  pub Done : Helper S O N → Helper S O N → Type 0
  Done h k = Works fits gives ran queue h k (drop h.rest order) []

  all_served : (hs ks : List (Helper S O N)) → Paired (Served fits gives ran queue order) hs (map (λ (k : Helper S O N). Ok k) ks) → Paired Done hs ks
  unfolding Done
  all_served [] [] served = tt
  all_served [] (k ∷ ks) served = elim served [ ]
  all_served (h ∷ hs) [] served = elim served [ ]
  all_served (h ∷ hs) (k ∷ ks) served = (served.0, all_served hs ks served.1)

  -- no worker was refused a task
  pub all_done : (hs ks : List (Helper S O N)) (rs : List (Result (Helper S O N) AllocError)) → map (λ (k : Helper S O N). Ok k) ks ≡ rs → Paired (Served fits gives ran queue order) hs rs → Paired Done hs ks
  all_done hs ks rs e served = all_served hs ks (subst (Paired (Served fits gives ran queue order) hs) (sym e) served)

  pub done_looking : (at : List Place) (n : ℕ) (hs ks : List (Helper S O N)) → Each (Fresh at queue n order) hs → Paired Done hs ks → Each (Looking at (64 - n)) ks
  unfolding Done
  done_looking at n [] [] fresh done = tt
  done_looking at n [] (k ∷ ks) fresh done = elim done [ ]
  done_looking at n (h ∷ hs) [] fresh done = elim done [ ]
  done_looking at n (h ∷ hs) (k ∷ ks) fresh done = (
    record {
      own_parts = done.0.same.parts ∙ ap (λ (v : Dealt). v.parts) fresh.0.own_left;
      looks_at = done.0.same.looks_at ∙ (ap places fresh.0.new_looks ∙ new_looks_at at);
      looks_on = done.0.ready.equipped.looks_on;
    },
    done_looking at n hs ks fresh.1 done.1,
  )

  pub done_ready : (hs ks : List (Helper S O N)) → Paired Done hs ks → Each (Ready fits gives queue) ks
  unfolding Done
  done_ready [] [] done = tt
  done_ready [] (k ∷ ks) done = elim done [ ]
  done_ready (h ∷ hs) [] done = elim done [ ]
  done_ready (h ∷ hs) (k ∷ ks) done = (done.0.ready, done_ready hs ks done.1)

  pub done_places : (hs ks : List (Helper S O N)) → Paired Done hs ks → map deque_of ks ≡ map deque_of hs
  unfolding Done
  done_places [] [] done = refl
  done_places [] (k ∷ ks) done = elim done [ ]
  done_places (h ∷ hs) [] done = elim done [ ]
  done_places (h ∷ hs) (k ∷ ks) done = let r = done_places hs ks done.1 in let e = done.0.same.deque in λ j. e j ∷ r j

  pub done_length : (hs ks : List (Helper S O N)) → Paired Done hs ks → length ks ≡ length hs
  done_length hs ks done = sym (length-map ks deque_of) ∙ (ap length (done_places hs ks done) ∙ length-map hs deque_of)

  pub done_lists : (at : List Place) (n : ℕ) (hs ks : List (Helper S O N)) → Each (Fresh at queue n order) hs → Paired Done hs ks → Paired (Lists ran) (map (λ (h : Helper S O N). ran h.desk.share) hs) (map desk_of ks)
  unfolding Done
  done_lists at n [] [] fresh done = tt
  done_lists at n [] (k ∷ ks) fresh done = elim done [ ]
  done_lists at n (h ∷ hs) [] fresh done = elim done [ ]
  done_lists at n (h ∷ hs) (k ∷ ks) fresh done = (
    done.0.lists (ran h.desk.share) (sym (append-nil (ran h.desk.share)) ∙ ap (λ (l : List (Made O)). ran h.desk.share ++ tasks_of l) (sym fresh.0.nothing_made)),
    done_lists at n hs ks fresh.1 done.1,
  )

  pub done_left : (x : ℕ) (at : List Place) (n : ℕ) (hs ks : List (Helper S O N)) → Each (Fresh at queue n order) hs → Paired Done hs ks → total (left_by x) ks ≡ total (came_to x) ks + total (alone order x) hs
  unfolding Done
  done_left x at n [] [] fresh done = refl
  done_left x at n [] (k ∷ ks) fresh done = elim done [ ]
  done_left x at n (h ∷ hs) [] fresh done = elim done [ ]
  done_left x at n (h ∷ hs) (k ∷ ks) fresh done =
      let r = done_left x at n hs ks fresh.1 done.1 in
      let m = done.0.moves x in
      let a = ap (λ (v : Dealt). times x v.pushed) fresh.0.own_left in
      let b = ap (λ (v : Dealt). times x v.taken) fresh.0.own_left in
      let c = ap (λ (f : Reach). times x f.dealt.taken) fresh.0.new_fetcher in
      let d = ap (total (stole x)) fresh.0.new_looks in
      let e = new_looks_stole x at in
      let f = ap (λ (l : List (Made O)). times x (tasks_of l)) fresh.0.nothing_made in
      omega arith

module _ {S O : Type 0} where
  pub made_total : (x : ℕ) (ds : List (WorkerDesk S O)) → times x (tasks_of (all_made ds)) ≡ total (ran_at x) ds
  made_total x [] = refl
  made_total x (d ∷ ds) =
      let r = made_total x ds in
      let e = ap (times x) (map-append (λ (m : Made O). m.task) d.made.items (all_made ds)) in
      omega (arith, times-append x (tasks_of d.made.items) (tasks_of (all_made ds)))

  pub made_given : (fits : S → Type 0) (gives : ℕ → O → Type 0) (ds : List (WorkerDesk S O)) → Each (InOrder fits gives) ds → Each (λ (m : Made O). gives m.task m.out) (all_made ds)
  made_given fits gives [] all = tt
  made_given fits gives (d ∷ ds) all = each-append (λ (m : Made O). gives m.task m.out) d.made.items (all_made ds) all.0.outs_given (made_given fits gives ds all.1)

  pub shares_fit : (fits : S → Type 0) (gives : ℕ → O → Type 0) (ds : List (WorkerDesk S O)) (shares : List S) → shares ≡ map (λ (d : WorkerDesk S O). d.share) ds → Each (InOrder fits gives) ds → All fits shares
  shares_fit fits gives ds shares e all =
      each_all fits shares (subst (Each fits) (sym e) (each-mapped (λ (d : WorkerDesk S O). d.share) fits ds (each-map (InOrder fits gives) (λ (d : WorkerDesk S O). fits d.share) ds (λ d o. o.share_fits) all)))

  gained : (ran : S → List ℕ) (shares : List S) (ds : List (WorkerDesk S O)) → Paired (Lists ran) (map ran shares) ds → Gain ran shares (map (λ (d : WorkerDesk S O). d.share) ds) (tasks_of (all_made ds))
  gained ran [] [] p = refl
  gained ran [] (d ∷ ds) p = elim p [ ]
  gained ran (s ∷ shares) [] p = elim p [ ]
  gained ran (s ∷ shares) (d ∷ ds) p = (tasks_of d.made.items, tasks_of (all_made ds), p.0, gained ran shares ds p.1, map-append (λ (m : Made O). m.task) d.made.items (all_made ds))

  pub lists_gained : (ran : S → List ℕ) (n m : ℕ) (shares after : List S) (ds : List (WorkerDesk S O)) → n ≡ m → after ≡ map (λ (d : WorkerDesk S O). d.share) ds → Paired (Lists ran) (map ran shares) ds → EachOnceBelow n (tasks_of (all_made ds)) → GainedOnce ran shares after m
  lists_gained ran n m shares after ds em ea p once =
      (tasks_of (all_made ds), subst (λ (l : List S). Gain ran shares l (tasks_of (all_made ds))) (sym ea) (gained ran shares ds p), λ x. once x ∙ ap (once_below x) em)

pub paired_length : {A B : Type 0} (R : A → B → Type 0) (as' : List A) (bs : List B) → Paired R as' bs → length bs ≡ length as'
paired_length R [] [] p = refl
paired_length R [] (b ∷ bs) p = elim p [ ]
paired_length R (a ∷ as') [] p = elim p [ ]
paired_length R (a ∷ as') (b ∷ bs) p = ap suc (paired_length R as' bs p.1)

module _ {S O N : Type 0} (fits : S → Type 0) (gives : ℕ → O → Type 0) (ran : S → List ℕ) (queue : Place) (order : List ℕ) where
  -- the workers ran each task once
  pub run_once : (hs ks : List (Helper S O N)) (ds : List (WorkerDesk S O)) (pushed : List ℕ) (tasks : ℕ) → Each (Fresh (map deque_of hs) queue (length hs) order) hs → Paired (Done fits gives ran queue order) hs ks
      → ((x : ℕ) → times x pushed + total (alone order x) hs ≡ times x order) → ((x : ℕ) → total (ran_at x) ds + total (came_to x) ks ≡ total (left_by x) ks + times x pushed)
      → length order ≡ tasks → EachOnceBelow tasks order → EachOnceBelow (length order) (tasks_of (all_made ds))
  run_once hs ks ds pushed tasks fresh done split all size once x =
      let a = made_total x ds in
      let b = split x in
      let c = all x in
      let d = done_left fits gives ran queue order x (map deque_of hs) (length hs) hs ks fresh done in
      let e = once x in
      let f = ap (once_below x) size in
      omega arith

  pub run_looking : (hs ks : List (Helper S O N)) → Each (Fresh (map deque_of hs) queue (length hs) order) hs → Paired (Done fits gives ran queue order) hs ks → Each (Looking (map deque_of ks) (64 - length ks)) ks
  run_looking hs ks fresh done =
      let at = done_places fits gives ran queue order hs ks done in
      let n = done_length fits gives ran queue order hs ks done in
      subst (λ (p : List Place × ℕ). Each (Looking p.0 (64 - p.1)) ks) (λ j. (sym at j, sym n j)) (done_looking fits gives ran queue order (map deque_of hs) (length hs) hs ks fresh done)

  pub run_lists : (hs ks : List (Helper S O N)) (ds : List (WorkerDesk S O)) (shares : List S) → Each (Fresh (map deque_of hs) queue (length hs) order) hs → Paired (Done fits gives ran queue order) hs ks
      → map (λ (h : Helper S O N). h.desk.share) hs ≡ shares → ((starts : List (List ℕ)) → Paired (Lists ran) starts (map desk_of ks) → Paired (Lists ran) starts ds) → Paired (Lists ran) (map ran shares) ds
  run_lists hs ks ds shares fresh done e lists =
      lists (map ran shares) (subst (λ (s : List (List ℕ)). Paired (Lists ran) s (map desk_of ks)) (sym (map_after ran (λ (h : Helper S O N). h.desk.share) hs) ∙ ap (map ran) e) (done_lists fits gives ran queue order (map deque_of hs) (length hs) hs ks fresh done))

module _ {S O E : Type 0} where
  pub answer_outs : (gives : ℕ → O → Type 0) (n m : ℕ) (ds : List (WorkerDesk S O)) (r : Result (Vec O Global × Vec S Global) E) → n ≡ m → Each (λ (k : Made O). gives k.task k.out) (all_made ds)
      → IfOk r (λ r. map (λ (x : O). Some x) r.0.items ≡ placed (empty_slots n) (all_made ds)) → IfOk r (λ r. (length r.0.items ≡ m) × GivesEach gives r.0.items)
  answer_outs gives n m ds (Err e) en given p = tt
  answer_outs gives n m ds (Ok r) en given p = (outs_length n (all_made ds) r.0.items p ∙ en, outs_given gives n (all_made ds) r.0.items p given)

  pub answer_count : (ran : S → List ℕ) (ds : List (WorkerDesk S O)) (shares : List S) (r : Result (Vec O Global × Vec S Global) E) → Paired (Lists ran) (map ran shares) ds
      → IfOk r (λ r. r.1.items ≡ map (λ (d : WorkerDesk S O). d.share) ds) → IfOk r (λ r. length r.1.items ≡ length shares)
  answer_count ran ds shares (Err e) q p = tt
  answer_count ran ds shares (Ok r) q p = ap length p ∙ (length-map ds (λ (d : WorkerDesk S O). d.share) ∙ (paired_length (Lists ran) (map ran shares) ds q ∙ length-map shares ran))

  pub answer_shares : (fits : S → Type 0) (gives : ℕ → O → Type 0) (ds : List (WorkerDesk S O)) (r : Result (Vec O Global × Vec S Global) E) → Each (InOrder fits gives) ds
      → IfOk r (λ r. r.1.items ≡ map (λ (d : WorkerDesk S O). d.share) ds) → IfOk r (λ r. All fits r.1.items)
  answer_shares fits gives ds (Err e) all p = tt
  answer_shares fits gives ds (Ok r) all p = shares_fit fits gives ds r.1.items p all

  pub answer_lists : (ran : S → List ℕ) (n m : ℕ) (ds : List (WorkerDesk S O)) (shares : List S) (r : Result (Vec O Global × Vec S Global) E) → n ≡ m → Paired (Lists ran) (map ran shares) ds → EachOnceBelow n (tasks_of (all_made ds))
      → IfOk r (λ r. r.1.items ≡ map (λ (d : WorkerDesk S O). d.share) ds) → IfOk r (λ r. GainedOnce ran shares r.1.items m)
  answer_lists ran n m ds shares (Err e) en q once p = tt
  answer_lists ran n m ds shares (Ok r) en q once p = lists_gained ran n m shares r.1.items ds en p q once
