-- A worker's seat at a file fits it, whatever is asked there.
use Rattle.std.proofs.Common.{◌≡◌, ◌∙◌, ℕ, ◌+◌, ◌≤◌, Bool, true, false, List, sym, ap, subst, arith}
use Rattle.compile_shown.specs.Shown.{flagged}
use Rattle.compile_shown.proofs.Upward.{upward}
use Rattle.stencil_board.specs.Files.{File}
use Rattle.stencil_board.specs.Views.{BoardView, PassView}
use Rattle.stencil_board.specs.Passes.{BelongsTo, IsUpward, Suffices, lacking}
use Rattle.session_requests.specs.Views.{SeatView, WorkView}
use Rattle.session_requests.specs.Works.{IsWork}
use Rattle.session_requests.specs.Hands.{FitsWork}
use Rattle.session_requests.proofs.Lacking.{lacks_few}

-- a seat that knows nothing
pub new_fits : (files : List File) (board : BoardView) (shown : List Bool) (count : ℕ) (work : WorkView) (pass : PassView) (counted room : ℕ)
    → ◌≡◌ {A = WorkView} (record { board = board; shown = shown; count = count }) work → IsWork files work → BelongsTo pass board → counted ≡ 0 → room ≡ count
    → FitsWork work (record { pass = pass; count = counted; room = room; spent = false })
new_fits files board shown count work pass counted room is w belongs none all =
    let same : count ≡ work.count = ap (λ (w : WorkView). w.count) is in
    let sum = w.count in
    let few = lacks_few work.shown pass in
    record {
      belongs = subst (BelongsTo pass) (ap (λ (w : WorkView). w.board) is) belongs;
      lent = omega (arith, same, none, all);
      room = λ _. omega (arith, same, sum, few, all);
    }

-- with a function that is shown the one around it is
pub shown_upward : (files : List File) (board : BoardView) (shown : List Bool) (count : ℕ) (work : WorkView)
    → ◌≡◌ {A = WorkView} (record { board = board; shown = shown; count = count }) work → IsWork files work → IsUpward board.initial (flagged work.shown)
shown_upward files board shown count work is w =
    subst (λ (v : WorkView). IsUpward v.board.initial (flagged work.shown)) (sym is) (upward w.want work.board.bytes work.board.initial w.board.initial work.shown w.flags)

-- the room serves for what is not known yet
pub room_serves : (files : List File) (board : BoardView) (shown : List Bool) (count : ℕ) (work : WorkView) (pass : PassView) (counted room : ℕ) (spent : Bool) (seat : SeatView) (number : ℕ)
    → ◌≡◌ {A = WorkView} (record { board = board; shown = shown; count = count }) work → ◌≡◌ {A = SeatView} (record { pass = pass; count = counted; room = room; spent = spent }) seat
    → IsWork files work → FitsWork work seat → spent ≡ false → flagged work.shown number ≡ true
    → (p : ℕ → Bool) × Suffices board.initial p number pass room
room_serves files board shown count work pass counted room spent seat number is seat_is w fits still is_shown =
    let unspent : seat.spent ≡ false = sym (ap (λ (s : SeatView). s.spent) seat_is) ∙ still in
    let enough : lacking (flagged work.shown) seat.pass ≤ seat.room = fits.room unspent in (
      flagged work.shown,
      record {
        upward = shown_upward files board shown count work is w;
        shows = is_shown;
        room = subst (λ (s : SeatView). lacking (flagged work.shown) s.pass ≤ s.room) (sym seat_is) enough;
      },
    )

-- a seat after a request that was answered
pub asked_fits : (board : BoardView) (shown : List Bool) (count : ℕ) (work : WorkView) (pass : PassView) (counted room : ℕ) (spent : Bool) (seat : SeatView) (known : PassView) (risen left : ℕ) (made : SeatView)
    → ◌≡◌ {A = WorkView} (record { board = board; shown = shown; count = count }) work → ◌≡◌ {A = SeatView} (record { pass = pass; count = counted; room = room; spent = spent }) seat
    → FitsWork work seat → BelongsTo known board → risen + left ≡ counted + room → risen + lacking (flagged work.shown) known ≤ counted + lacking (flagged work.shown) pass
    → ◌≡◌ {A = SeatView} made (record { pass = known; count = risen; room = left; spent = spent })
    → FitsWork work made
asked_fits board shown count work pass counted room spent seat known risen left made is seat_is fits belongs sum fewer made_is =
    let lent = fits.lent in
    let counts : counted ≡ seat.count = ap (λ (s : SeatView). s.count) seat_is in
    let rooms : room ≡ seat.room = ap (λ (s : SeatView). s.room) seat_is in
    let same : spent ≡ seat.spent = ap (λ (s : SeatView). s.spent) seat_is in
    let lacks : lacking (flagged work.shown) pass ≡ lacking (flagged work.shown) seat.pass = ap (λ (s : SeatView). lacking (flagged work.shown) s.pass) seat_is in
    let all : FitsWork work (record { pass = known; count = risen; room = left; spent = spent }) = record {
      belongs = subst (BelongsTo known) (ap (λ (w : WorkView). w.board) is) belongs;
      lent = omega (arith, lent, counts, rooms, sum);
      room = λ still. let enough = fits.room (sym same ∙ still) in omega (arith, enough, lacks, fewer, sum, rooms);
    } in
    subst (FitsWork work) (sym made_is) all

-- after one for which memory was wanting
pub refused_fits : (board : BoardView) (shown : List Bool) (count : ℕ) (work : WorkView) (pass : PassView) (counted room : ℕ) (spent : Bool) (seat : SeatView) (known : PassView) (risen left : ℕ) (made : SeatView)
    → ◌≡◌ {A = WorkView} (record { board = board; shown = shown; count = count }) work → ◌≡◌ {A = SeatView} (record { pass = pass; count = counted; room = room; spent = spent }) seat
    → FitsWork work seat → BelongsTo known board → risen + left ≡ counted + room
    → ◌≡◌ {A = SeatView} made (record { pass = known; count = risen; room = left; spent = true })
    → FitsWork work made
refused_fits board shown count work pass counted room spent seat known risen left made is seat_is fits belongs sum made_is =
    let lent = fits.lent in
    let counts : counted ≡ seat.count = ap (λ (s : SeatView). s.count) seat_is in
    let rooms : room ≡ seat.room = ap (λ (s : SeatView). s.room) seat_is in
    let all : FitsWork work (record { pass = known; count = risen; room = left; spent = true }) = record {
      belongs = subst (BelongsTo known) (ap (λ (w : WorkView). w.board) is) belongs;
      lent = omega (arith, lent, counts, rooms, sum);
      room = λ still. absurd (cc);
    } in
    subst (FitsWork work) (sym made_is) all
