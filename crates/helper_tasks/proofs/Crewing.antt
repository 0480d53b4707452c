-- How the workers of a call are made.
use Rattle.std.proofs.Common.{◌≡◌, ℕ, zero, suc, ◌+◌, ◌-◌, ◌<◌, ◌≤◌, List, [], ◌∷◌, ◌++◌, length, map, take, drop, get_or, set, refl, ap, sym, ◌∙◌, subst, arith, append_assoc}
use Rattle.std.specs.declared.vec.Vec.{Vec}
use Rattle.std.specs.declared.alloc.Global.{Global}
use Rattle.std.proofs.Math.Seq.{map-set_same, drop-length}
use Rattle.std.proofs.lemmas.List.{take-map, take_more, take_more_set, map-append, length-map}
use Rattle.helper_tasks.specs.declared.helper.Helper.{Helper}
use Rattle.helper_tasks.specs.Count.{times, total, Each}
use Rattle.helper_tasks.specs.Rule.{dealt}
use Rattle.helper_tasks.specs.Handles.{End, Place, Reach, end_at, reach_at, less}
use Rattle.helper_tasks.specs.Crew.{Hired, aspect, alone, deque_of, new_look, gave_part}
use Rattle.helper_tasks.proofs.Counts.{total-snoc, each-set, each-snoc, each-map, each-index}

module _ {A : Type 0} where
  -- a list of which the first i elements were changed
  seam_at : (g : A → A) (xs : List A) (i : ℕ) (d : A) → i < length xs → get_or (map g (take i xs) ++ drop i xs) i d ≡ get_or xs i d
  seam_at g [] i d lt = absurd (omega arith)
  seam_at g (x ∷ xs) zero d lt = refl
  seam_at g (x ∷ xs) (suc i) d lt = seam_at g xs i d (omega arith)

  seam_set : (g : A → A) (xs : List A) (i : ℕ) (w : A) → i < length xs → set (map g (take i xs) ++ drop i xs) i w ≡ (map g (take i xs) ++ w ∷ []) ++ drop (suc i) xs
  seam_set g [] i w lt = absurd (omega arith)
  seam_set g (x ∷ xs) zero w lt = refl
  seam_set g (x ∷ xs) (suc i) w lt = ap (λ ys. g x ∷ ys) (seam_set g xs i w (omega arith))

  pub seam_length : (g : A → A) (xs : List A) (i : ℕ) → length (map g (take i xs) ++ drop i xs) ≡ length xs
  seam_length g [] zero = refl
  seam_length g [] (suc i) = refl
  seam_length g (x ∷ xs) zero = refl
  seam_length g (x ∷ xs) (suc i) = ap suc (seam_length g xs i)

  pub each-mapped : {B : Type 0} (f : B → A) (P : A → Type 0) (xs : List B) → Each (λ b. P (f b)) xs → Each P (map f xs)
  each-mapped f P [] all = tt
  each-mapped f P (x ∷ xs) all = (all.0, each-mapped f P xs all.1)

  pub each-unmapped : {B : Type 0} (f : B → A) (P : A → Type 0) (xs : List B) → Each P (map f xs) → Each (λ b. P (f b)) xs
  each-unmapped f P [] all = tt
  each-unmapped f P (x ∷ xs) all = (all.0, each-unmapped f P xs all.1)

  pub map_after : {B C : Type 0} (f : B → C) (g : A → B) (xs : List A) → map f (map g xs) ≡ map (λ a. f (g a)) xs
  map_after f g [] = refl
  map_after f g (x ∷ xs) = ap (λ ys. f (g x) ∷ ys) (map_after f g xs)

module _ {S O N : Type 0} where
  look_of : Helper S O N → End
  look_of h = new_look (deque_of h)

  pub look_step : (hs now : List (Helper S O N)) (i n : ℕ) (x : Helper S O N) (own l : End) (looks more : List End) → n ≡ i + 1 → i < length hs
      → looks ≡ map (λ (h : Helper S O N). new_look (deque_of h)) (take i hs) → now ≡ map gave_part (take i hs) ++ drop i hs
      → l ≡ new_look (deque_of (get_or now i x)) → own ≡ end_at (get_or now i x).handles.own.deque (less (get_or now i x).handles.own.dealt) → more ≡ looks ++ l ∷ []
      → (more ≡ map (λ (h : Helper S O N). new_look (deque_of h)) (take n hs)) × (set now i (record (get_or now i x) { handles = record (get_or now i x).handles { own = own } }) ≡ map gave_part (take n hs) ++ drop n hs)
  look_step hs now i n x own l looks more en lt ls nw el eo em =
      let here : get_or now i x ≡ get_or hs i x = ap (λ (ys : List (Helper S O N)). get_or ys i x) nw ∙ seam_at gave_part hs i x lt in
      let front : take n hs ≡ take i hs ++ get_or hs i x ∷ [] = ap (λ (k : ℕ). take k hs) en ∙ take_more hs i x lt in
      let f : Helper S O N → End = λ h. new_look (deque_of h) in
      let one : map f (take n hs) ≡ map f (take i hs) ++ f (get_or hs i x) ∷ [] = ap (map f) front ∙ map-append f (take i hs) (get_or hs i x ∷ []) in
      let two : map gave_part (take n hs) ≡ map gave_part (take i hs) ++ gave_part (get_or hs i x) ∷ [] = ap (map gave_part) front ∙ map-append gave_part (take i hs) (get_or hs i x ∷ []) in
      let w : Helper S O N = record (get_or now i x) { handles = record (get_or now i x).handles { own = own } } in
      let same : w ≡ gave_part (get_or hs i x) =
      subst (λ (y : Helper S O N). w ≡ gave_part y) here (λ j. record (get_or now i x) { handles = record (get_or now i x).handles { own = eo j } }) in
      let put : set now i w ≡ (map gave_part (take i hs) ++ w ∷ []) ++ drop (suc i) hs = ap (λ (ys : List (Helper S O N)). set ys i w) nw ∙ seam_set gave_part hs i w lt in (
        em ∙ (ap (λ (ys : List End). ys ++ l ∷ []) ls ∙ (ap (λ (y : End). map f (take i hs) ++ y ∷ []) (el ∙ ap f here) ∙ sym one)),
        put ∙ (ap (λ (y : Helper S O N). (map gave_part (take i hs) ++ y ∷ []) ++ drop (suc i) hs) same ∙ (ap (λ (ys : List (Helper S O N)). ys ++ drop (suc i) hs) (sym two) ∙ ap (λ (k : ℕ). map gave_part (take n hs) ++ drop k hs) (let e : suc i ≡ n = omega arith in e))),
      )

  pub gave_keeps : (hs : List (Helper S O N)) → map aspect (map gave_part hs) ≡ map aspect hs
  gave_keeps hs = map_after aspect gave_part hs

  -- the looks of workers that agree in their aspects are the same
  pub looks_same : (hs ks : List (Helper S O N)) → map aspect hs ≡ map aspect ks → map (λ (h : Helper S O N). new_look (deque_of h)) hs ≡ map (λ (h : Helper S O N). new_look (deque_of h)) ks
  looks_same [] [] e = refl
  looks_same [] (k ∷ ks) e = absurd (cc)
  looks_same (h ∷ hs) [] e = absurd (cc)
  looks_same (h ∷ hs) (k ∷ ks) e =
      let a : aspect h ≡ aspect k = cc in
      let b : map aspect hs ≡ map aspect ks = cc in
      let d : deque_of h ≡ deque_of k = ap (λ (p : ℕ × Place × _ × _ × ℕ). p.1) a in
      let r = looks_same hs ks b in
      λ j. new_look (d j) ∷ r j

  pub give_step : (hs now : List (Helper S O N)) (at n : ℕ) (x : Helper S O N) (looks : Vec End Global) → n ≡ at + 1 → at < length now → at < 16
      → map aspect now ≡ map aspect hs → Each (λ (h : Helper S O N). h.handles.own.dealt ≡ dealt (64 - at) [] []) now
      → Each (λ (h : Helper S O N). h.handles.looks.items ≡ map (λ (k : Helper S O N). new_look (deque_of k)) hs) (take at now)
      → looks.items ≡ map (λ (k : Helper S O N). new_look (deque_of k)) now
      → (gave : List (Helper S O N)) → gave ≡ map gave_part now
      → (let y = get_or gave at x in let new = set gave at (record y { handles = record y.handles { looks = looks } }) in
      (map aspect new ≡ map aspect hs)
      × Each (λ (h : Helper S O N). h.handles.own.dealt ≡ dealt (64 - n) [] []) new
      × Each (λ (h : Helper S O N). h.handles.looks.items ≡ map (λ (k : Helper S O N). new_look (deque_of k)) hs) (take n new))
  give_step hs now at n x looks en lt small same own front mine gave eg =
      let Own : Helper S O N → Type 0 = λ h. h.handles.own.dealt ≡ dealt (64 - n) [] [] in
      let Mine : Helper S O N → Type 0 = λ h. h.handles.looks.items ≡ map (λ (k : Helper S O N). new_look (deque_of k)) hs in
      let y : Helper S O N = get_or gave at x in
      let w : Helper S O N = record y { handles = record y.handles { looks = looks } } in
      let long : at < length gave = omega (arith, ap length eg, length-map now gave_part) in
      let count : (64 - at) - 1 ≡ 64 - n = omega arith in
      let less_by_one : Each Own (map gave_part now) =
      each-mapped gave_part Own now
      (each-map (λ (h : Helper S O N). h.handles.own.dealt ≡ dealt (64 - at) [] []) (λ h. Own (gave_part h)) now
      (λ h e. ap less e ∙ (λ j. dealt (count j) [] [])) own) in
      let owned : Each Own gave = subst (Each Own) (sym eg) less_by_one in
      let here : Own y = each-index Own gave at x long owned in
      let old : Each Mine (take at gave) =
      subst (Each Mine) (sym (ap (take at) eg ∙ take-map gave_part at now)) (each-mapped gave_part Mine (take at now) front) in (
        (map-set_same aspect gave at w x refl ∙ ap (map aspect) eg) ∙ (gave_keeps now ∙ same),
        each-set Own gave at w owned here,
        subst (Each Mine) (sym (ap (λ (k : ℕ). take k (set gave at w)) en ∙ take_more_set gave at w long)) (each-snoc Mine (take at gave) w old (mine ∙ looks_same now hs same)),
      )

  pub gave_all : (hs : List (Helper S O N)) (at n : ℕ) → at ≡ n → Each (λ (h : Helper S O N). h.handles.own.dealt ≡ dealt (64 - at) [] []) hs → Each (λ (h : Helper S O N). h.handles.own.dealt ≡ dealt (64 - n) [] []) hs
  gave_all hs at n e own = subst (λ (k : ℕ). Each (λ (h : Helper S O N). h.handles.own.dealt ≡ dealt (64 - k) [] []) hs) e own

module _ {S O N : Type 0} where
  pub hire_share : (hs more : List (Helper S O N)) (h : Helper S O N) (s : S) (rest later all : List S) → more ≡ hs ++ h ∷ [] → h.desk.share ≡ s → rest ≡ s ∷ later
      → map (λ (k : Helper S O N). k.desk.share) hs ++ rest ≡ all → map (λ (k : Helper S O N). k.desk.share) more ++ later ≡ all
  hire_share hs more h s rest later all em es er inv =
      let f : Helper S O N → S = λ k. k.desk.share in
      let one : map f more ≡ map f hs ++ s ∷ [] = ap (map f) em ∙ (map-append f hs (h ∷ []) ∙ ap (λ (y : S). map f hs ++ y ∷ []) es) in
      ap (λ (ys : List S). ys ++ later) one ∙ (append_assoc (map f hs) (s ∷ []) later ∙ (ap (λ (ys : List S). map f hs ++ ys) (sym er) ∙ inv))

  pub hire_hired : (queue : Place) (n : ℕ) (order : List ℕ) (hs more : List (Helper S O N)) (h : Helper S O N) (number : ℕ) (fetcher : Reach) → more ≡ hs ++ h ∷ [] → h.handles.number ≡ number → number < n
      → h.handles.own.dealt ≡ dealt 64 [] [] → h.handles.fetcher ≡ fetcher → fetcher ≡ reach_at queue (dealt 1 [] []) → h.desk.made.items ≡ [] → h.rest ≤ length order
      → Each (Hired queue n order) hs → Each (Hired queue n order) more
  hire_hired queue n order hs more h number fetcher em en lt eo ef eq none rest all =
      subst (Each (Hired queue n order)) (sym em)
      (each-snoc (Hired queue n order) hs h all (record { numbered = omega arith; own_new = eo; fetcher_new = ef ∙ eq; none_made = none; rest_in = rest }))

  pub hire_rest : (order : List ℕ) (pushed : ℕ) (hs more : List (Helper S O N)) (h : Helper S O N) (rest : ℕ) → more ≡ hs ++ h ∷ [] → h.rest ≡ rest
      → ((x : ℕ) → total (alone order x) hs + times x (drop rest order) ≡ times x (drop pushed order))
      → (x : ℕ) → total (alone order x) more + times x (drop (length order) order) ≡ times x (drop pushed order)
  hire_rest order pushed hs more h rest em er inv x =
      let a = inv x in
      let b = ap (total (alone order x)) em in
      let c = total-snoc (alone order x) hs h in
      let d = ap (λ (k : ℕ). times x (drop k order)) er in
      let e = ap (times x) (drop-length order) in
      omega arith

  pub hire_done : (order : List ℕ) (pushed : ℕ) (hs : List (Helper S O N)) (rest : ℕ) → rest ≡ length order
      → ((x : ℕ) → total (alone order x) hs + times x (drop rest order) ≡ times x (drop pushed order))
      → (x : ℕ) → total (alone order x) hs ≡ times x (drop pushed order)
  hire_done order pushed hs rest er inv x =
      let a = inv x in
      let d = ap (λ (k : ℕ). times x (drop k order)) er in
      let e = ap (times x) (drop-length order) in
      omega arith

pub hire_all : (queue : Place) (all now : Reach) (number n : ℕ) (pushed : List ℕ) → n ≡ number + 1 → all ≡ reach_at queue (dealt (64 - number) pushed []) → now ≡ reach_at queue (less all.dealt) → now ≡ reach_at queue (dealt (64 - n) pushed [])
hire_all queue all now number n pushed en ea el =
    let count : (64 - number) - 1 ≡ 64 - n = omega arith in
    el ∙ (ap (λ (r : Reach). reach_at queue (less r.dealt)) ea ∙ (λ j. reach_at queue (dealt (count j) pushed [])))
