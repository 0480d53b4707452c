-- Workers that fit files: one file at a time, and how many functions they compiled.
use Rattle.session_requests.specs.Hands.{FitAll, Fits, FitsFile, compiled_total, count_of, count_total}
use Rattle.session_requests.specs.Views.{HandView, SeatView, WorkView}
use Rattle.session_requests.specs.Works.{AreWorks, IsWorkOf, shown_of, shown_total, work_at}
use Rattle.std.specs.List.{All}
use Rattle.std.proofs.Common.{◌∙◌, ℕ, zero, suc, take, refl, sym, ap, subst, arith, None}
use Rattle.std.proofs.lemmas.List.{take_all, take_more}
use Rattle.std.specs.Prelude.{[], List, Option, Some, length, slice_index_or, slice_set, ◌*◌, ◌+◌, ◌++◌, ◌<◌, ◌∷◌, ◌≡◌, ◌≤◌, ◌^◌}
use Rattle.stencil_board.specs.Files.{File}

-- ---- one file

pub works_at : (files : List File) (works : List (Option WorkView)) (k : ℕ) → AreWorks files works → IsWorkOf files (work_at works k)
works_at files [] k h = tt
works_at files (w ∷ works) zero h = h.0
works_at files (w ∷ works) (suc k) h = works_at files works k h.1

pub fit_long : (works : List (Option WorkView)) (seats : List (Option SeatView)) → FitAll works seats → length seats ≡ length works
fit_long [] [] h = refl
fit_long [] (s ∷ seats) h = absurd h
fit_long (w ∷ works) [] h = absurd h
fit_long (w ∷ works) (s ∷ seats) h = ap suc (fit_long works seats h.1)

pub fits_at : (works : List (Option WorkView)) (seats : List (Option SeatView)) (k : ℕ) (d : Option SeatView) → FitAll works seats → k < length works → FitsFile (work_at works k) (slice_index_or seats k d)
fits_at [] [] k d h lt = absurd (omega (arith, lt))
fits_at [] (s ∷ seats) k d h lt = absurd h
fits_at (w ∷ works) [] k d h lt = absurd h
fits_at (w ∷ works) (s ∷ seats) zero d h lt = h.0
fits_at (w ∷ works) (s ∷ seats) (suc k) d h lt = fits_at works seats k d h.1 (omega (arith, lt))

pub fits_set : (works : List (Option WorkView)) (seats : List (Option SeatView)) (k : ℕ) (seat : Option SeatView) → FitAll works seats → FitsFile (work_at works k) seat → FitAll works (slice_set seats k seat)
fits_set [] [] k seat h f = tt
fits_set [] (s ∷ seats) k seat h f = absurd h
fits_set (w ∷ works) [] k seat h f = absurd h
fits_set (w ∷ works) (s ∷ seats) zero seat h f = (f, h.1)
fits_set (w ∷ works) (s ∷ seats) (suc k) seat h f = (h.0, fits_set works seats k seat h.1 f)

-- ---- a file and a seat that were read out of lists

pub work_here : (files : List File) (works : List (Option WorkView)) (k : ℕ) (w : Option WorkView) → k < length works → w ≡ slice_index_or works k w → AreWorks files works → IsWorkOf files w
work_here files [] k w lt is h = absurd (omega (arith, lt))
work_here files (x ∷ works) zero w lt is h = subst (IsWorkOf files) (sym is) h.0
work_here files (x ∷ works) (suc k) w lt is h = work_here files works k w (omega (arith, lt)) is h.1

pub at_any : (works : List (Option WorkView)) (k : ℕ) (w : Option WorkView) → k < length works → w ≡ slice_index_or works k w → work_at works k ≡ w
at_any [] k w lt is = absurd (omega (arith, lt))
at_any (x ∷ works) zero w lt is = sym is
at_any (x ∷ works) (suc k) w lt is = at_any works k w (omega (arith, lt)) is

pub seat_there : (works : List (Option WorkView)) (seats : List (Option SeatView)) (ran : List ℕ) (hand : HandView) (k : ℕ)
    → ◌≡◌ {A = HandView} (record { seats = seats; ran = ran }) hand → Fits works hand → k < length works → k < length seats
seat_there works seats ran hand k is fits lt =
    let same : length seats ≡ length hand.seats = ap (λ (h : HandView). length h.seats) is in
    let long = fit_long works hand.seats fits in
    omega (arith, same, long, lt)

pub fits_here : (works : List (Option WorkView)) (seats : List (Option SeatView)) (ran : List ℕ) (hand : HandView) (k : ℕ) (w : Option WorkView) (s : Option SeatView)
    → ◌≡◌ {A = HandView} (record { seats = seats; ran = ran }) hand → Fits works hand → k < length works → w ≡ slice_index_or works k w → s ≡ slice_index_or seats k s → FitsFile w s
fits_here works seats ran hand k w s is fits lt w_is s_is =
    let all : FitAll works seats = subst (Fits works) (sym is) fits in
    let one : FitsFile (work_at works k) (slice_index_or seats k s) = fits_at works seats k s all lt in
    let other : FitsFile w (slice_index_or seats k s) = subst (λ (v : Option WorkView). FitsFile v (slice_index_or seats k s)) (at_any works k w lt w_is) one in
    subst (FitsFile w) (sym s_is) other

pub fits_after : (works : List (Option WorkView)) (seats : List (Option SeatView)) (ran : List ℕ) (hand : HandView) (k : ℕ) (w : Option WorkView) (s : Option SeatView)
    → ◌≡◌ {A = HandView} (record { seats = seats; ran = ran }) hand → Fits works hand → k < length works → w ≡ slice_index_or works k w → FitsFile w s → FitAll works (slice_set seats k s)
fits_after works seats ran hand k w s is fits lt w_is one =
    fits_set works seats k s (subst (Fits works) (sym is) fits) (subst (λ (v : Option WorkView). FitsFile v s) (sym (at_any works k w lt w_is)) one)

-- ---- a seat more

pub fit_none : (works : List (Option WorkView)) (seats : List (Option SeatView)) → seats ≡ [] → FitAll (take 0 works) seats
fit_none [] seats is = subst (FitAll []) (sym is) tt
fit_none (w ∷ works) seats is = subst (FitAll []) (sym is) tt

fit_more : (works : List (Option WorkView)) (seats : List (Option SeatView)) (w : Option WorkView) (s : Option SeatView) → FitAll works seats → FitsFile w s → FitAll (works ++ w ∷ []) (seats ++ s ∷ [])
fit_more [] [] w s h one = (one, tt)
fit_more [] (x ∷ seats) w s h one = absurd h
fit_more (x ∷ works) [] w s h one = absurd h
fit_more (x ∷ works) (y ∷ seats) w s h one = (h.0, fit_more works seats w s h.1 one)

pub fit_next : (works : List (Option WorkView)) (i : ℕ) (seats more : List (Option SeatView)) (w : Option WorkView) (s : Option SeatView)
    → i < length works → w ≡ slice_index_or works i w → FitAll (take i works) seats → FitsFile w s → more ≡ seats ++ s ∷ [] → FitAll (take (i + 1) works) more
fit_next works i seats more w s lt is fit one more_is =
    let front : take (i + 1) works ≡ take i works ++ w ∷ [] = take_more works i w lt ∙ ap (λ (v : Option WorkView). take i works ++ v ∷ []) (sym is) in
    let all : FitAll (take i works ++ w ∷ []) (seats ++ s ∷ []) = fit_more (take i works) seats w s fit one in
    let both : FitAll (take (i + 1) works) (seats ++ s ∷ []) = subst (λ (v : List (Option WorkView)). FitAll v (seats ++ s ∷ [])) (sym front) all in
    subst (FitAll (take (i + 1) works)) (sym more_is) both

-- ---- how many functions were compiled

count_at : (w : Option WorkView) (s : Option SeatView) → FitsFile w s → count_of s ≤ shown_of w
count_at None None h = omega arith
count_at None (Some s) h = absurd h
count_at (Some w) None h = absurd h
count_at (Some w) (Some s) h = let sum = h.lent in omega (arith, sum)

pub count_few : (works : List (Option WorkView)) (seats : List (Option SeatView)) → FitAll works seats → count_total seats ≤ shown_total works
count_few [] [] h = omega arith
count_few [] (s ∷ seats) h = absurd h
count_few (w ∷ works) [] h = absurd h
count_few (w ∷ works) (s ∷ seats) h = let one = count_at w s h.0 in let others = count_few works seats h.1 in omega (arith, one, others)

all_first : {X : Type 0} (P : X → Type 0) (x : X) (xs : List X) → All P (x ∷ xs) → P x
all_first P x xs h = h 0 x (omega arith)

all_rest : {X : Type 0} (P : X → Type 0) (x : X) (xs : List X) → All P (x ∷ xs) → All P xs
all_rest P x xs h = λ k d lt. h (suc k) d (omega (arith, lt))

pub compiled_few : (works : List (Option WorkView)) (hands : List HandView) → All (Fits works) hands → compiled_total hands ≤ length hands * shown_total works
compiled_few works [] h = omega arith
compiled_few works (x ∷ hands) h =
    let one = count_few works x.seats (all_first (Fits works) x hands h) in
    let others = compiled_few works hands (all_rest (Fits works) x hands h) in
    let more : suc (length hands) * shown_total works ≡ shown_total works + length hands * shown_total works = omega arith in
    omega (arith, one, others, more)

-- ---- in a part of the seats, and of the workers

pub nothing_taken : (seats : List (Option SeatView)) → count_total (take 0 seats) ≡ 0
nothing_taken [] = refl
nothing_taken (x ∷ seats) = refl

pub none_taken : (hands : List HandView) → compiled_total (take 0 hands) ≡ 0
none_taken [] = refl
none_taken (x ∷ hands) = refl

count_suc : (seats : List (Option SeatView)) (i : ℕ) (s : Option SeatView) → i < length seats → s ≡ slice_index_or seats i s → count_total (take (suc i) seats) ≡ count_total (take i seats) + count_of s
count_suc [] i s lt is = absurd (omega (arith, lt))
count_suc (x ∷ seats) zero s lt is = let e : count_of x ≡ count_of s = ap count_of (sym is) in let none = nothing_taken seats in omega (arith, e, none)
count_suc (x ∷ seats) (suc i) s lt is = let others = count_suc seats i s (omega (arith, lt)) is in omega (arith, others)

pub count_more : (seats : List (Option SeatView)) (i : ℕ) (s : Option SeatView) → i < length seats → s ≡ slice_index_or seats i s → count_total (take (i + 1) seats) ≡ count_total (take i seats) + count_of s
count_more seats i s lt is = let e : i + 1 ≡ suc i = omega arith in ap (λ (n : ℕ). count_total (take n seats)) e ∙ count_suc seats i s lt is

pub count_front : (seats : List (Option SeatView)) (i : ℕ) → count_total (take i seats) ≤ count_total seats
count_front [] zero = omega arith
count_front [] (suc i) = omega arith
count_front (x ∷ seats) zero = omega arith
count_front (x ∷ seats) (suc i) = let others = count_front seats i in omega (arith, others)

compiled_suc : (hands : List HandView) (i : ℕ) (h : HandView) → i < length hands → h ≡ slice_index_or hands i h → compiled_total (take (suc i) hands) ≡ compiled_total (take i hands) + count_total h.seats
compiled_suc [] i h lt is = absurd (omega (arith, lt))
compiled_suc (x ∷ hands) zero h lt is =
    let e : count_total x.seats ≡ count_total h.seats = ap (λ (y : HandView). count_total y.seats) (sym is) in
    let none = none_taken hands in
    omega (arith, e, none)
compiled_suc (x ∷ hands) (suc i) h lt is = let others = compiled_suc hands i h (omega (arith, lt)) is in omega (arith, others)

pub compiled_more : (hands : List HandView) (i : ℕ) (h : HandView) → i < length hands → h ≡ slice_index_or hands i h → compiled_total (take (i + 1) hands) ≡ compiled_total (take i hands) + count_total h.seats
compiled_more hands i h lt is = let e : i + 1 ≡ suc i = omega arith in ap (λ (n : ℕ). compiled_total (take n hands)) e ∙ compiled_suc hands i h lt is

pub compiled_front : (hands : List HandView) (i : ℕ) → compiled_total (take i hands) ≤ compiled_total hands
compiled_front [] zero = omega arith
compiled_front [] (suc i) = omega arith
compiled_front (x ∷ hands) zero = omega arith
compiled_front (x ∷ hands) (suc i) = let others = compiled_front hands i in omega (arith, others)

-- the count at one seat, where the whole fits
pub seat_fits : (items seats : List (Option SeatView)) (ran : List ℕ) (hand : HandView) (i : ℕ) (s : Option SeatView) (count one : ℕ)
    → ◌≡◌ {A = HandView} (record { seats = seats; ran = ran }) hand → items ≡ seats → i < length items → s ≡ slice_index_or items i s → count ≡ count_total (take i items) → one ≡ count_of s
    → count_total hand.seats < 2 ^ 64 → count + one < 2 ^ 64
seat_fits items seats ran hand i s count one is same lt s_is so_far here room =
    let all : count_total items ≡ count_total hand.seats = ap count_total same ∙ ap (λ (h : HandView). count_total h.seats) is in
    let more = count_more items i s lt s_is in
    let front = count_front items (i + 1) in
    omega (arith, all, more, front, so_far, here, room)

pub all_seats : (items seats : List (Option SeatView)) (ran : List ℕ) (hand : HandView) (i count : ℕ)
    → ◌≡◌ {A = HandView} (record { seats = seats; ran = ran }) hand → items ≡ seats → length items ≤ i → count ≡ count_total (take i items) → count ≡ count_total hand.seats
all_seats items seats ran hand i count is same end so_far =
    so_far ∙ (ap count_total (take_all i items end) ∙ (ap count_total same ∙ ap (λ (h : HandView). count_total h.seats) is))

-- the count at one worker, where all of theirs fits
pub one_fits : (works : List (Option WorkView)) (hands : List HandView) (i : ℕ) (h : HandView) → All (Fits works) hands → length hands * shown_total works < 2 ^ 64 → i < length hands → h ≡ slice_index_or hands i h
    → compiled_total (take i hands) + count_total h.seats < 2 ^ 64
one_fits works hands i h fit room lt is =
    let more = compiled_more hands i h lt is in
    let front = compiled_front hands (i + 1) in
    let few = compiled_few works hands fit in
    omega (arith, more, front, few, room)
