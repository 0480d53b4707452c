-- Looking at one instruction.
use Rattle.std.proofs.Common.{◌≡◌, ℕ, ◌+◌, ◌-◌, ◌^◌, ◌<◌, ◌≤◌, Bool, true, false, IsSome, IfSome, nat_lt, List, [], ◌∷◌, ◌++◌, length, drop, Option, Some, None, All, Contains, refl, sym, ap, subst, ◌∙◌, arith, option_map}
use Rattle.std.proofs.lemmas.Bool.{le-ltb, lt-ltb}
use Rattle.std.proofs.lemmas.List.Elements.{Contains-append_left, Contains-append_right}
use Rattle.stencil_data.specs.declared.stencils.TryNote.{TryNote}
use Rattle.bytecode_buf.specs.declared.instruction.Instr.{Instr}
use Rattle.bytecode_buf.specs.Width.{first_of}
use Rattle.bytecode_buf.specs.Layout.{Numbered, decoded, instr_at}
use Rattle.bytecode_buf.specs.Machine.{State, instruction_at, is_stuck, stuck_by, steps, steps_by, caught, taken}
use Rattle.code_check.specs.declared.step.Landing.{Landing}
use Rattle.code_check.specs.declared.step.Step.{Step}
use Rattle.code_check.specs.Steps.{GainsLittle, IsStepOf, landed, landed_if}
use Rattle.code_check.specs.Survey.{Found, Has, Follows, Goes, HasNoTable, IsAt, IsLookedAt, Lands, Blocked}
use Rattle.code_check.specs.NoteIndex.{Index, IsIndexed}
use Rattle.code_check.specs.Catches.{Catches, HasLanding, landing}
use Rattle.code_check.proofs.Catches.{indexed_on}
use Rattle.code_check.proofs.StartWalk.{decoded_at}
use Rattle.code_check.proofs.Operands.{AreBytes, decoded_fits, AreBytes-drop}
use Rattle.code_check.proofs.Arrivals.{step_may_arrive, arrived, not_arrived, arrives_size, follows_nothing, follows_both, still_at, stuck_none}

-- ---- one landing

-- each state to which the landing leads is one of the steps, and no more than 2 above
pub record LandsIn (all : List State) (depth taken : ℕ) (landing : Option Landing) : Type 0 where
  pub steps : (t : State) → Contains (landed_if depth taken landing) t → Contains all t
  pub low : IfSome landing (λ l. l.given ≤ taken + 2)
  pub enough : taken ≤ depth

land_low : (depth taken given : ℕ) → given ≤ taken + 2 → taken ≤ depth → depth - taken + given ≤ depth + 2
land_low depth taken given low enough = omega arith

Contains-alone : (t : State) → Contains (t ∷ []) t
Contains-alone t = (0, omega arith, refl)

pub land_follows : (code : List ℕ) (notes : List TryNote) (starts : List Bool) (old new : Found) (s : State) (taken : ℕ) (landing : Option Landing) → IsAt code notes starts old s → LandsIn (steps code notes s) s.depth taken landing → Lands starts s.depth taken landing old new → Follows code notes old new (landed_if s.depth taken landing)
land_follows code notes starts old new s taken None h i same = subst (λ (f : Found). Follows code notes old f []) (sym same) (follows_nothing code notes old h.true_of)
land_follows code notes starts old new s taken (Some l) h i a =
    arrived code notes starts old new (landed s.depth taken l) (step_may_arrive code notes starts old s (landed s.depth taken l) h (i.steps (landed s.depth taken l) (Contains-alone (landed s.depth taken l))) (land_low s.depth taken l.given i.low i.enough)) a

pub land_blocked : (code : List ℕ) (notes : List TryNote) (starts : List Bool) (found : Found) (s : State) (taken : ℕ) (landing : Option Landing) → IsAt code notes starts found s → LandsIn (steps code notes s) s.depth taken landing → Blocked starts s.depth taken landing found → HasNoTable code notes
land_blocked code notes starts found s taken None h i b = absurd b
land_blocked code notes starts found s taken (Some l) h i b =
    not_arrived code notes starts found (landed s.depth taken l) (step_may_arrive code notes starts found s (landed s.depth taken l) h (i.steps (landed s.depth taken l) (Contains-alone (landed s.depth taken l))) (land_low s.depth taken l.given i.low i.enough)) b

pub lands_size : (starts : List Bool) (depth taken : ℕ) (landing : Option Landing) (old new : Found) → Lands starts depth taken landing old new → length new.depths ≡ length old.depths
lands_size starts depth taken None old new same = ap (λ (f : Found). length f.depths) same
lands_size starts depth taken (Some l) old new a = arrives_size starts (landed depth taken l) old new a

-- it fits 64 bits
pub land_fits : (code : List ℕ) (notes : List TryNote) (starts : List Bool) (found : Found) (s : State) (taken : ℕ) (landing : Option Landing) → length code < 2 ^ 63 → IsAt code notes starts found s → IfSome landing (λ l. l.given ≤ taken + 2) → taken ≤ s.depth → IfSome landing (λ l. s.depth - taken + l.given < 2 ^ 64)
land_fits code notes starts found s taken None short h low enough = low
land_fits code notes starts found s taken (Some l) short h low enough =
    let room = h.true_of.bound s h.has in
    let up : s.depth - taken + l.given ≤ s.depth + 2 = land_low s.depth taken l.given low enough in
    omega (arith, room, up)

-- ---- the instruction

-- what is read at a state that was found
pub record Reads (code : List ℕ) (s : State) (step : Step) : Type 0 where
  pub i : Numbered
  pub there : instruction_at code s.at ≡ Some i
  pub is : IsStepOf i s.at step
  pub gains : GainsLittle step

reads_by : (code : List ℕ) (s : State) (instr : Instr) (step : Step) (o : Option Numbered) → AreBytes code → instruction_at code s.at ≡ o → IsSome o → Some instr ≡ option_map (instr_at s.at) (decoded (drop s.at code)) → GainsLittle step → ((i : Numbered) → instr ≡ instr_at s.at i → i.a < 256 ^ first_of i.op → IsStepOf i s.at step) → Reads code s step
reads_by code s instr step None bytes there some read gains steps = absurd (cc)
reads_by code s instr step (Some i) bytes there some read gains steps =
    let found : decoded (drop s.at code) ≡ Some i = decoded_at code s.at i there in
    let is : instr ≡ instr_at s.at i = same_instr instr (instr_at s.at i) (read ∙ ap (option_map (instr_at s.at)) found) in
    record { i = i; there = there; is = steps i is (decoded_fits (drop s.at code) i (AreBytes-drop s.at code bytes) found); gains = gains }
  where
    same_instr : (x y : Instr) → ◌≡◌ {A = Option Instr} (Some x) (Some y) → x ≡ y
    same_instr x y e = cc

pub reads : (code : List ℕ) (notes : List TryNote) (starts : List Bool) (found : Found) (s : State) (instr : Instr) (step : Step) → AreBytes code → IsAt code notes starts found s → Some instr ≡ option_map (instr_at s.at) (decoded (drop s.at code)) → GainsLittle step → ((i : Numbered) → instr ≡ instr_at s.at i → i.a < 256 ^ first_of i.op → IsStepOf i s.at step) → Reads code s step
reads code notes starts found s instr step bytes h read gains steps = reads_by code s instr step (instruction_at code s.at) bytes refl (h.true_of.starts s h.has) read gains steps

-- nothing is read there
none_stuck : (o : Option Numbered) (depth : ℕ) → ((i : Numbered) → o ≡ Some i → ⊥) → stuck_by o depth ≡ true
none_stuck None depth none = refl
none_stuck (Some i) depth none = absurd (none i refl)

pub unread : (code : List ℕ) (notes : List TryNote) (starts : List Bool) (found : Found) (s : State) → IsAt code notes starts found s → decoded (drop s.at code) ≡ None → HasNoTable code notes
unread code notes starts found s h none =
    stuck_none code notes s (h.true_of.reached s h.has) (none_stuck (instruction_at code s.at) s.depth (λ i there. apart i (sym none ∙ decoded_at code s.at i there)))
  where
    apart : (i : Numbered) → ◌≡◌ {A = Option Numbered} None (Some i) → ⊥
    apart i e = cc

module _ (code : List ℕ) (notes : List TryNote) (starts : List Bool) (s : State) (step : Step) (r : Reads code s step) where
  stuck_is : is_stuck code s ≡ nat_lt s.depth step.taken
  stuck_is = ap (λ (o : Option Numbered). stuck_by o s.depth) r.there ∙ ap (nat_lt s.depth) (sym r.is.taken)

  -- more is taken than there is
  pub takes_too_much : (found : Found) → IsAt code notes starts found s → s.depth < step.taken → HasNoTable code notes
  takes_too_much found h low = stuck_none code notes s (h.true_of.reached s h.has) (stuck_is ∙ lt-ltb s.depth step.taken low)

  steps_are : steps code notes s ≡ (landed_if s.depth step.taken step.next ++ landed_if s.depth step.taken step.target) ++ caught notes s
  steps_are = ap (λ (o : Option Numbered). steps_by o notes s) r.there ∙ ap (λ (l : List State). l ++ caught notes s) (sym (r.is.flows s.depth))

  pub next_in : step.taken ≤ s.depth → LandsIn (steps code notes s) s.depth step.taken step.next
  next_in enough = record {
    steps = λ t c. subst (λ (l : List State). Contains l t) (sym steps_are) (Contains-append_left (landed_if s.depth step.taken step.next ++ landed_if s.depth step.taken step.target) (caught notes s) t (Contains-append_left (landed_if s.depth step.taken step.next) (landed_if s.depth step.taken step.target) t c));
    low = r.gains.0;
    enough = enough;
  }

  pub target_in : step.taken ≤ s.depth → LandsIn (steps code notes s) s.depth step.taken step.target
  target_in enough = record {
    steps = λ t c. subst (λ (l : List State). Contains l t) (sym steps_are) (Contains-append_left (landed_if s.depth step.taken step.next ++ landed_if s.depth step.taken step.target) (caught notes s) t (Contains-append_right (landed_if s.depth step.taken step.next) (landed_if s.depth step.taken step.target) t c));
    low = r.gains.1;
    enough = enough;
  }

  -- all three were gone
  pub looked : (old one two new : Found) → step.taken ≤ s.depth → Follows code notes old one (landed_if s.depth step.taken step.next) → Follows code notes one two (landed_if s.depth step.taken step.target) → Follows code notes two new (caught notes s) → Goes code notes old new × IsLookedAt code notes new s
  looked old one two new enough a b c = (
    all.goes,
    record {
      free = stuck_is ∙ not_below s.depth step.taken enough;
      closed = subst (All (Has new)) (sym steps_are) all.has;
    },
  )
    where
      all : Follows code notes old new ((landed_if s.depth step.taken step.next ++ landed_if s.depth step.taken step.target) ++ caught notes s)
      all = follows_both code notes old two new (landed_if s.depth step.taken step.next ++ landed_if s.depth step.taken step.target) (caught notes s) (follows_both code notes old one two (landed_if s.depth step.taken step.next) (landed_if s.depth step.taken step.target) a b) c

      not_below : (a b : ℕ) → b ≤ a → nat_lt a b ≡ false
      not_below a b le = le-ltb a b le

-- ---- the same as the code goes

module _ (code : List ℕ) (notes : List TryNote) (starts : List Bool) (old : Found) (s : State) (step : Step) (r : Reads code s step) (h : IsAt code notes starts old s) (enough : step.taken ≤ s.depth) where
  pub next_stops : Blocked starts s.depth step.taken step.next old → HasNoTable code notes
  next_stops b = land_blocked code notes starts old s step.taken step.next h (next_in code notes starts s step r enough) b

  pub next_fits : length code < 2 ^ 63 → IfSome step.next (λ l. s.depth - step.taken + l.given < 2 ^ 64)
  next_fits short = land_fits code notes starts old s step.taken step.next short h r.gains.0 enough

  module _ (one : Found) (first : Lands starts s.depth step.taken step.next old one) where
    gone : Follows code notes old one (landed_if s.depth step.taken step.next)
    gone = land_follows code notes starts old one s step.taken step.next h (next_in code notes starts s step r enough) first

    at_one : IsAt code notes starts one s
    at_one = still_at code notes starts old one s h gone.goes

    pub target_stops : Blocked starts s.depth step.taken step.target one → HasNoTable code notes
    target_stops b = land_blocked code notes starts one s step.taken step.target at_one (target_in code notes starts s step r enough) b

    pub target_fits : length code < 2 ^ 63 → IfSome step.target (λ l. s.depth - step.taken + l.given < 2 ^ 64)
    target_fits short = land_fits code notes starts one s step.taken step.target short at_one r.gains.1 enough

    module _ (two : Found) (second : Lands starts s.depth step.taken step.target one two) where
      gone_away : Follows code notes one two (landed_if s.depth step.taken step.target)
      gone_away = land_follows code notes starts one two s step.taken step.target at_one (target_in code notes starts s step r enough) second

      at_two : IsAt code notes starts two s
      at_two = still_at code notes starts one two s at_one gone_away.goes

      module _ (index : Index) (i : IsIndexed notes (length code) (HasLanding old) index) where
        indexed_two : IsIndexed notes (length code) (HasLanding two) index
        indexed_two = indexed_on notes (length code) (HasLanding old) (HasLanding two) index (λ note was. gone_away.goes.has (landing note) (gone.goes.has (landing note) was)) i

        pub catch_stops : ((c : List ℕ) → IsAt c notes starts two s → IsIndexed notes (length c) (HasLanding two) index → HasNoTable c notes) → HasNoTable code notes
        catch_stops f = f code at_two indexed_two

        module _ (new : Found) (after : Index) (f : (c : List ℕ) → IsAt c notes starts two s → IsIndexed notes (length c) (HasLanding two) index → Catches c notes s two new after) where
          pub all_looked : Goes code notes old new × IsLookedAt code notes new s
          all_looked = looked code notes starts s step r old one two new enough gone gone_away (f code at_two indexed_two).follows

          pub all_indexed : IsIndexed notes (length code) (HasLanding new) after
          all_indexed = (f code at_two indexed_two).indexed
