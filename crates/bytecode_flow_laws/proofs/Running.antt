-- Single pieces that run, and commands one after another.
use Rattle.std.proofs.Common.{◌≡◌, ◌∙◌, ℕ, zero, suc, ◌+◌, ◌-◌, ◌<◌, ◌≤◌, Bool, false, nat_eq, if◌then◌else◌, List, [], ◌∷◌, map, Option, Some, None, refl, sym, ap, subst, arith}
use Rattle.std.proofs.lemmas.Bool.{ne_eqb}
use Rattle.bytecode_buf.specs.declared.opcode.Op.{Op}
use Rattle.bytecode_buf.specs.declared.opcode.Op.TheVariants as op
use Rattle.bytecode_buf.specs.declared.opcode.Count.{Count}
use Rattle.bytecode_buf.specs.declared.opcode.Count.TheVariants as count
use Rattle.bytecode_buf.specs.declared.waits.Aim.{Aim}
use Rattle.bytecode_buf.specs.Command.{Command, counted}
use Rattle.bytecode_buf.specs.Machine.{amount, Flow, FallThrough, Jump, Branch, Terminates, flow_of, given_away_by}
use Rattle.bytecode_buf.specs.Pieces.{Whole, Waiting}
use Rattle.bytecode_buf.specs.Table.{row_of}
use Rattle.bytecode_buf.specs.Width.{width_of}
use Rattle.bytecode_flow_laws.specs.Depths.{Leads, Steps, takes, gives, OpSteps, Exits, Runs, lowered, raised, raised_option, counted_after, flow_after, depth_after, all_after, depth_behind}
use Rattle.bytecode_flow_laws.specs.Staying.{number_in}
use Rattle.bytecode_flow_laws.proofs.Joining.{runs_none, runs_both, steps_moved}

-- ---- one piece

-- this depth at the beginning, and that one after it
abbrev pub first_then : ℕ → ℕ → ℕ → ℕ
first_then d e at = if nat_eq at 0 then d else e

wide : (o : Op) → nat_eq (width_of o) 0 ≡ false
wide o = ne_eqb (width_of o) 0 (λ e. omega arith)

-- after a piece
pub behind_width : (o : Op) (d e n : ℕ) → n ≡ width_of o → first_then d e n ≡ e
behind_width o d e n is = ap (first_then d e) is ∙ ap (λ (b : Bool). if b then d else e) (wide o)

pub runs_command : (exits : Exits) (c : Command) (d e : ℕ) → OpSteps c.op (number_in c.operand) d (λ depth. e ≡ depth) (λ depth. ⊥) → Runs exits (Whole c ∷ []) d e
runs_command exits c d e h = record {
  depth_at = first_then d e;
  begins = refl;
  ends = behind_width c.op d e (width_of c.op + 0) (omega arith);
  pieces = (steps_moved (flow_of c.op) (takes c.op (number_in c.operand)) (gives c.op (number_in c.operand)) (given_away_by c.op (gives c.op (number_in c.operand))) d d _ _ _ _ (λ x k. behind_width c.op d e (0 + width_of c.op) (omega arith) ∙ k) (λ x k. absurd k) refl h, tt);
}

pub runs_waiting : (exits : Exits) (o : Op) (aim : Aim) (d e : ℕ) → OpSteps o 0 d (λ depth. e ≡ depth) (λ depth. exits aim ≡ Some depth) → Runs exits (Waiting o aim ∷ []) d e
runs_waiting exits o aim d e h = record {
  depth_at = first_then d e;
  begins = refl;
  ends = behind_width o d e (width_of o + 0) (omega arith);
  pieces = (steps_moved (flow_of o) (takes o 0) (gives o 0) (given_away_by o (gives o 0)) d d _ _ _ _ (λ x k. behind_width o d e (0 + width_of o) (omega arith) ∙ k) (λ x k. k) refl h, tt);
}

-- ---- counts

-- an instruction takes n values and gives others, and goes on
pub goes_on : (t g rest d e : ℕ) → d ≡ rest + t → e ≡ rest + g → Leads (λ depth. e ≡ depth) t g d
goes_on t g rest d e b a = record { depth = e; fit = refl; changes = record { rest = rest; before_is = b; after_is = a } }

pub raised_is : (n d : ℕ) → raised n d ≡ d + n
raised_is zero d = omega arith
raised_is (suc n) d = let h = raised_is n d in omega arith

pub lowered_is : (n d rest : ℕ) → lowered n d ≡ Some rest → d ≡ rest + n
lowered_is zero d rest h = let e : d ≡ rest = cc in omega arith
lowered_is (suc n) zero rest h = absurd (cc)
lowered_is (suc n) (suc d) rest h = let k = lowered_is n d rest h in omega arith

fixed_leads : (t g d e : ℕ) (o : Option ℕ) → lowered t d ≡ o → raised_option g o ≡ Some e → Leads (λ depth. e ≡ depth) t g d
fixed_leads t g d e None l h = absurd (cc)
fixed_leads t g d e (Some rest) l h =
    let a : raised g rest ≡ e = cc in
    let r = raised_is g rest in
    goes_on t g rest d e (lowered_is t d rest l) (omega arith)

count_leads : (pops pushes : Count) (n d e : ℕ) → counted_after pops pushes d ≡ Some e → Leads (λ depth. e ≡ depth) (amount pops n) (amount pushes n) d
count_leads (count.Fixed t) (count.Fixed g) n d e h = fixed_leads t g d e (lowered t d) refl h
count_leads (count.Fixed t) (count.More g) n d e h = absurd (cc)
count_leads (count.More t) pushes n d e h = absurd (cc)

flow_steps : (flow : Flow) (o : Op) (n d e : ℕ) → flow_after flow o d ≡ Some e → Steps flow (takes o n) (gives o n) (given_away_by o (gives o n)) d (λ depth. e ≡ depth) (λ depth. ⊥)
flow_steps FallThrough o n d e h = count_leads (row_of o).pops (row_of o).pushes n d e h
flow_steps Jump o n d e h = absurd (cc)
flow_steps Branch o n d e h = absurd (cc)
flow_steps Terminates o n d e h = absurd (cc)

pub runs_after : (exits : Exits) (c : Command) (d e : ℕ) → depth_after c.op d ≡ Some e → Runs exits (Whole c ∷ []) d e
runs_after exits c d e h = runs_command exits c d e (flow_steps (flow_of c.op) c.op (number_in c.operand) d e h)

all_none : (cs : List Command) (e : ℕ) → all_after cs None ≡ Some e → ⊥
all_none [] e h = cc
all_none (c ∷ cs) e h = cc

after_by : (exits : Exits) (cs : List Command) (o : Option ℕ) (d e : ℕ) (c : Command) → depth_after c.op d ≡ o → all_after cs o ≡ Some e → ((mid : ℕ) → all_after cs (Some mid) ≡ Some e → Runs exits (map (λ (x : Command). Whole x) cs) mid e) → Runs exits (Whole c ∷ map (λ (x : Command). Whole x) cs) d e
after_by exits cs None d e c first h rest = absurd (all_none cs e h)
after_by exits cs (Some mid) d e c first h rest = runs_both (runs_after exits c d mid first) (rest mid h)

-- commands whose counts need no operand
pub runs_whole : (exits : Exits) (cs : List Command) (d e : ℕ) → depth_behind cs d ≡ Some e → Runs exits (map (λ (c : Command). Whole c) cs) d e
runs_whole exits [] d e h = let same : d ≡ e = cc in subst (Runs exits [] d) same (runs_none exits d)
runs_whole exits (c ∷ cs) d e h = after_by exits cs (depth_after c.op d) d e c refl h (λ mid k. runs_whole exits cs mid e k)

-- ---- instructions that leave

pub runs_end : (exits : Exits) (c : Command) (d e : ℕ) → flow_of c.op ≡ Terminates → takes c.op (number_in c.operand) ≤ d → Runs exits (Whole c ∷ []) d e
runs_end exits c d e is room = runs_command exits c d e (subst (λ (f : Flow). Steps f (takes c.op (number_in c.operand)) (gives c.op (number_in c.operand)) (given_away_by c.op (gives c.op (number_in c.operand))) d (λ depth. e ≡ depth) (λ depth. ⊥)) (sym is) room)

-- ---- jumps that wait

-- to the aim alone
pub runs_goto : (exits : Exits) (aim : Aim) (d e : ℕ) → exits aim ≡ Some d → Runs exits (Waiting op.Goto aim ∷ []) d e
runs_goto exits aim d e h = runs_waiting exits op.Goto aim d e (record { depth = d; fit = h; changes = record { rest = d; before_is = omega arith; after_is = omega arith } })

pub runs_default : (exits : Exits) (aim : Aim) (d e : ℕ) → exits aim ≡ Some d → Runs exits (Waiting op.Default aim ∷ []) (suc d) e
runs_default exits aim d e h = runs_waiting exits op.Default aim (suc d) e (record { depth = d; fit = h; changes = record { rest = d; before_is = omega arith; after_is = omega arith } })

-- on, or to the aim
pub both_ways : (exits : Exits) (aim : Aim) (t g a rest d e x : ℕ) → d ≡ rest + t → e ≡ rest + g → x ≡ rest + a → exits aim ≡ Some x → Leads (λ depth. e ≡ depth) t g d × Leads (λ depth. exits aim ≡ Some depth) t a d
both_ways exits aim t g a rest d e x b n w h = (goes_on t g rest d e b n, record { depth = x; fit = h; changes = record { rest = rest; before_is = b; after_is = w } })

pub runs_if_false : (exits : Exits) (aim : Aim) (d : ℕ) → exits aim ≡ Some d → Runs exits (Waiting op.JumpIfFalse aim ∷ []) (suc d) d
runs_if_false exits aim d h = runs_waiting exits op.JumpIfFalse aim (suc d) d (both_ways exits aim 1 0 0 d (suc d) d d (omega arith) (omega arith) (omega arith) h)

pub runs_if_true : (exits : Exits) (aim : Aim) (d : ℕ) → exits aim ≡ Some d → Runs exits (Waiting op.JumpIfTrue aim ∷ []) (suc d) d
runs_if_true exits aim d h = runs_waiting exits op.JumpIfTrue aim (suc d) d (both_ways exits aim 1 0 0 d (suc d) d d (omega arith) (omega arith) (omega arith) h)

pub runs_and : (exits : Exits) (aim : Aim) (d : ℕ) → exits aim ≡ Some (suc d) → Runs exits (Waiting op.And aim ∷ []) (suc d) (suc d)
runs_and exits aim d h = runs_waiting exits op.And aim (suc d) (suc d) (both_ways exits aim 1 1 1 d (suc d) (suc d) (suc d) (omega arith) (omega arith) (omega arith) h)

pub runs_or : (exits : Exits) (aim : Aim) (d : ℕ) → exits aim ≡ Some (suc d) → Runs exits (Waiting op.Or aim ∷ []) (suc d) (suc d)
runs_or exits aim d h = runs_waiting exits op.Or aim (suc d) (suc d) (both_ways exits aim 1 1 1 d (suc d) (suc d) (suc d) (omega arith) (omega arith) (omega arith) h)

pub runs_coalesce : (exits : Exits) (aim : Aim) (d : ℕ) → exits aim ≡ Some (suc d) → Runs exits (Waiting op.Coalesce aim ∷ []) (suc d) (suc d)
runs_coalesce exits aim d h = runs_waiting exits op.Coalesce aim (suc d) (suc d) (both_ways exits aim 1 1 1 d (suc d) (suc d) (suc d) (omega arith) (omega arith) (omega arith) h)

pub runs_case : (exits : Exits) (aim : Aim) (d : ℕ) → exits aim ≡ Some d → Runs exits (Waiting op.Case aim ∷ []) (suc (suc d)) (suc d)
runs_case exits aim d h = runs_waiting exits op.Case aim (suc (suc d)) (suc d) (both_ways exits aim 2 1 0 d (suc (suc d)) (suc d) d (omega arith) (omega arith) (omega arith) h)

-- ---- counts by the operand

pub runs_call : (exits : Exits) (n d : ℕ) → Runs exits (Whole (counted op.Call n) ∷ []) (raised n (suc (suc d))) (suc d)
runs_call exits n d = let r = raised_is n (suc (suc d)) in runs_command exits (counted op.Call n) (raised n (suc (suc d))) (suc d) (goes_on (n + 2) 1 d (raised n (suc (suc d))) (suc d) (omega arith) (omega arith))

pub runs_new : (exits : Exits) (n d : ℕ) → Runs exits (Whole (counted op.New n) ∷ []) (raised n (suc (suc (suc d)))) (suc d)
runs_new exits n d = let r = raised_is n (suc (suc (suc d))) in runs_command exits (counted op.New n) (raised n (suc (suc (suc d)))) (suc d) (goes_on (n + 3) 1 d (raised n (suc (suc (suc d)))) (suc d) (omega arith) (omega arith))

-- a value deep in the stack to its top, and back
pub runs_pick : (exits : Exits) (n d : ℕ) → n < d → Runs exits (Whole (counted op.Pick n) ∷ []) d d
runs_pick exits n d room = runs_command exits (counted op.Pick n) d d (goes_on (n + 1) (n + 1) (d - (n + 1)) d d (omega arith) (omega arith))

pub runs_unpick : (exits : Exits) (n d : ℕ) → n < d → Runs exits (Whole (counted op.Unpick n) ∷ []) d d
runs_unpick exits n d room = runs_command exits (counted op.Unpick n) d d (goes_on (n + 1) (n + 1) (d - (n + 1)) d d (omega arith) (omega arith))
