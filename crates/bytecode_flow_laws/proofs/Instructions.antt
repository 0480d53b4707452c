-- Instructions whose steps fit depths at their offsets make a depth table.
use Rattle.std.proofs.Common.{◌≡◌, ◌∙◌, ℕ, zero, suc, ◌+◌, ◌-◌, ◌%◌, ◌^◌, ◌<◌, ◌≤◌, ◌⊎◌, Bool, true, false, eqb, leb, if◌then◌else◌, List, [], ◌∷◌, map, Option, Some, None, All, refl, sym, ap, subst, inl, inr, le-leb, arith}
use Rattle.std.proofs.lemmas.Bool.{lt-leb, ne_eqb, le-ltb}
use Rattle.std.proofs.lemmas.Bool.Decides.{leb_tells, eqb_tells}
use Rattle.std.proofs.lemmas.List.Elements.{All-append, All-nil, All-cons}
use Rattle.stencil_data.specs.declared.stencils.TryNote.{TryNote}
use Rattle.bytecode_buf.specs.declared.opcode.Op.{Op}
use Rattle.bytecode_buf.specs.Layout.{Numbered, instructions}
use Rattle.bytecode_buf.specs.Machine.{State, Flow, FallThrough, Jump, Branch, Terminates, flow_of, taken, given, given_away, given_away_by, behind, away, flows, caught, is_caught_by, steps_by, stuck_by, instruction_in, instruction_at, HasDepthTable}
use Rattle.bytecode_buf.specs.Width.{width_of}
use Rattle.bytecode_flow_laws.specs.Depths.{Leads, Steps}

-- ---- offsets of instructions

-- an offset at which one of the instructions of these widths begins
abbrev pub IsInside : List ℕ → ℕ → Type 0
IsInside [] at = ⊥
IsInside (w ∷ ws) at = (at ≡ 0) ⊎ ((rest : ℕ) × (at ≡ w + rest) × IsInside ws rest)

abbrev pub instruction_widths : List Numbered → List ℕ
instruction_widths is = map (λ (i : Numbered). width_of i.op) is

in_behind : (i : Numbered) (is : List Numbered) (rest : ℕ) → instruction_in (i ∷ is) (width_of i.op + rest) ≡ instruction_in is rest
in_behind i is rest =
    let w : ℕ = width_of i.op in
    let first : eqb (w + rest) 0 ≡ false = ne_eqb (w + rest) 0 (λ e. omega arith) in
    let second : leb w (w + rest) ≡ true = le-leb w (w + rest) (omega arith) in
    let left : w + rest - w ≡ rest = omega arith in
    ap (λ (b : Bool). if b then Some i else (if leb w (w + rest) then instruction_in is (w + rest - w) else None)) first
    ∙ ap (λ (b : Bool). if b then instruction_in is (w + rest - w) else None) second
    ∙ ap (instruction_in is) left

pub record Found (is : List Numbered) (at : ℕ) : Type 0 where
  pub i : Numbered
  pub found : instruction_in is at ≡ Some i

pub inside_found : (is : List Numbered) (at : ℕ) → IsInside (instruction_widths is) at → Found is at
inside_found [] at h = absurd h
inside_found (i ∷ is) at (inl first) = record { i = i; found = ap (instruction_in (i ∷ is)) first }
inside_found (i ∷ is) at (inr more) =
    let f = inside_found is more.0 more.2 in
    record { i = f.i; found = ap (instruction_in (i ∷ is)) more.1 ∙ in_behind i is more.0 ∙ f.found }

-- ---- instructions with depths

module _ (ws : List ℕ) (depth_at : ℕ → ℕ) where
  -- an instruction's offset with its depth
  abbrev pub At : ℕ → ℕ → Type 0
  At at depth = IsInside ws at × (depth_at at ≡ depth)

  abbrev pub RunsAs : ℕ → Op → (taken given a : ℕ) → Type 0
  RunsAs at op taken given a = Steps (flow_of op) taken given (given_away_by op given) (depth_at at) (λ depth. At (at + width_of op) depth) (λ depth. At ((at + a) % 2 ^ 64) depth)

  abbrev pub InstructionsRun : ℕ → List Numbered → Type 0
  InstructionsRun at [] = Unit {0}
  InstructionsRun at (i ∷ is) = RunsAs at i.op (taken i) (given i) i.a × InstructionsRun (at + width_of i.op) is

  abbrev pub NotesFit : List TryNote → Type 0
  NotesFit [] = Unit {0}
  NotesFit (n ∷ ns) = At n.end n.depth × NotesFit ns

none_is_none : (i : Numbered) → ◌≡◌ {A = Option Numbered} None (Some i) → ⊥
none_is_none i e = cc

some_same : (i j : Numbered) → ◌≡◌ {A = Option Numbered} (Some i) (Some j) → i ≡ j
some_same i j e = cc

in_middle : (i : Numbered) (is : List Numbered) (at : ℕ) → 0 < at → at < width_of i.op → instruction_in (i ∷ is) at ≡ None
in_middle i is at far near =
    let first : eqb at 0 ≡ false = ne_eqb at 0 (λ e. omega arith) in
    let second : leb (width_of i.op) at ≡ false = lt-leb (width_of i.op) at near in
    ap (λ (b : Bool). if b then Some i else (if leb (width_of i.op) at then instruction_in is (at - width_of i.op) else None)) first
    ∙ ap (λ (b : Bool). if b then instruction_in is (at - width_of i.op) else None) second

-- what holds of each instruction holds of the one at an offset
run_at : (ws : List ℕ) (depth_at : ℕ → ℕ) (from : ℕ) (is : List Numbered) (at : ℕ) (i : Numbered) → InstructionsRun ws depth_at from is → instruction_in is at ≡ Some i → RunsAs ws depth_at (from + at) i.op (taken i) (given i) i.a
run_at ws depth_at from [] at i h found = absurd (none_is_none i found)
run_at ws depth_at from (j ∷ is) at i h found = elim (eqb_tells at 0) [
  | inl none ↦
      let same : j ≡ i = some_same j i (sym (ap (instruction_in (j ∷ is)) none.1) ∙ found) in
      let e : from ≡ from + at = omega (arith, none.1) in
      subst (λ (k : ℕ). RunsAs ws depth_at k i.op (taken i) (given i) i.a) e (subst (λ (x : Numbered). RunsAs ws depth_at from x.op (taken x) (given x) x.a) same h.0)
  | inr some ↦ elim (leb_tells (width_of j.op) at) [
    | inl far ↦
        let rest : ℕ = at - width_of j.op in
        let whole : at ≡ width_of j.op + rest = omega (arith, far.1) in
        let e : (from + width_of j.op) + rest ≡ from + at = omega (arith, far.1) in
        subst (λ (k : ℕ). RunsAs ws depth_at k i.op (taken i) (given i) i.a) e (run_at ws depth_at (from + width_of j.op) is rest i h.1 (sym (ap (instruction_in (j ∷ is)) whole ∙ in_behind j is rest) ∙ found))
    | inr near ↦ absurd (none_is_none i (sym (in_middle j is at (positive at some.1) near.1) ∙ found))
  ]
]
  where
    positive : (n : ℕ) → (n ≡ 0 → ⊥) → 0 < n
    positive zero ne = absurd (ne refl)
    positive (suc n) ne = omega arith

-- ---- the table

abbrev pub table_by : Option Numbered → ℕ → Option ℕ
table_by None depth = None
table_by (Some i) depth = Some depth

module _ (code : List ℕ) (notes : List TryNote) (depth_at : ℕ → ℕ) (run : InstructionsRun (instruction_widths (instructions code)) depth_at 0 (instructions code)) (fit : NotesFit (instruction_widths (instructions code)) depth_at notes) (first : At (instruction_widths (instructions code)) depth_at 0 0) where
  abbrev ws : List ℕ
  ws = instruction_widths (instructions code)

  abbrev table : ℕ → Option ℕ
  table at = table_by (instruction_at code at) (depth_at at)

  abbrev Has : State → Type 0
  Has t = table t.at ≡ Some t.depth

  at_table : (at depth : ℕ) → At ws depth_at at depth → table at ≡ Some depth
  at_table at depth h =
      let f = inside_found (instructions code) at h.0 in
      ap (λ (o : Option Numbered). table_by o (depth_at at)) f.found ∙ ap (λ (d : ℕ). Some d) h.1

  runs_there : (at : ℕ) (i : Numbered) → instruction_at code at ≡ Some i → RunsAs ws depth_at at i.op (taken i) (given i) i.a
  runs_there at i found = let e : 0 + at ≡ at = omega arith in subst (λ (k : ℕ). RunsAs ws depth_at k i.op (taken i) (given i) i.a) e (run_at ws depth_at 0 (instructions code) at i run found)

  enough : (flow : Flow) (t g a b : ℕ) (N G : ℕ → Type 0) → Steps flow t g a b N G → t ≤ b
  enough FallThrough t g a b N G h = let e = h.changes.before_is in omega arith
  enough Jump t g a b N G h = let e = h.changes.before_is in omega arith
  enough Branch t g a b N G h = let e = h.0.changes.before_is in omega arith
  enough Terminates t g a b N G h = h

  depth_is : (d e : ℕ) → ◌≡◌ {A = Option ℕ} (Some d) (Some e) → d ≡ e
  depth_is d e p = cc

  none_has : (d : ℕ) → ◌≡◌ {A = Option ℕ} None (Some d) → ⊥
  none_has d e = cc

  free_by : (o : Option Numbered) (s : State) → instruction_at code s.at ≡ o → table_by o (depth_at s.at) ≡ Some s.depth → stuck_by o s.depth ≡ false
  free_by None s is has = absurd (none_has s.depth has)
  free_by (Some i) s is has =
      let e = depth_is (depth_at s.at) s.depth has in
      le-ltb s.depth (taken i) (subst (λ (d : ℕ). taken i ≤ d) e (enough (flow_of i.op) (taken i) (given i) (given_away i) (depth_at s.at) _ _ (runs_there s.at i is)))

  lead_has : (at t g b : ℕ) → Leads (λ depth. At ws depth_at at depth) t g b → table at ≡ Some (b - t + g)
  lead_has at t g b h =
      let c = h.changes in
      let e : h.depth ≡ b - t + g = omega arith in
      at_table at h.depth h.fit ∙ ap (λ (d : ℕ). Some d) e

  flows_have : (flow : Flow) (i : Numbered) (s : State) → Steps flow (taken i) (given i) (given_away i) s.depth (λ depth. At ws depth_at (s.at + width_of i.op) depth) (λ depth. At ws depth_at ((s.at + i.a) % 2 ^ 64) depth) → All Has (flows flow i s)
  flows_have FallThrough i s h = All-cons Has (behind i s) [] (lead_has (s.at + width_of i.op) (taken i) (given i) s.depth h) (All-nil Has)
  flows_have Jump i s h = All-cons Has (away i s) [] (lead_has ((s.at + i.a) % 2 ^ 64) (taken i) (given_away i) s.depth h) (All-nil Has)
  flows_have Branch i s h =
      All-cons Has (behind i s) (away i s ∷ []) (lead_has (s.at + width_of i.op) (taken i) (given i) s.depth h.0)
      (All-cons Has (away i s) [] (lead_has ((s.at + i.a) % 2 ^ 64) (taken i) (given_away i) s.depth h.1) (All-nil Has))
  flows_have Terminates i s h = All-nil Has

  one_has : (b : Bool) (n : TryNote) (rest : List State) → At ws depth_at n.end n.depth → All Has rest → All Has (if b then (let t : State = record { at = n.end; depth = n.depth } in t) ∷ rest else rest)
  one_has true n rest h all = All-cons Has (record { at = n.end; depth = n.depth }) rest (at_table n.end n.depth h) all
  one_has false n rest h all = all

  caught_have : (ns : List TryNote) (s : State) → NotesFit ws depth_at ns → All Has (caught ns s)
  caught_have [] s h = All-nil Has
  caught_have (n ∷ ns) s h = one_has (is_caught_by s n) n (caught ns s) h.0 (caught_have ns s h.1)

  closed_by : (o : Option Numbered) (s : State) → instruction_at code s.at ≡ o → table_by o (depth_at s.at) ≡ Some s.depth → All Has (steps_by o notes s)
  closed_by None s is has = absurd (none_has s.depth has)
  closed_by (Some i) s is has =
      let e = depth_is (depth_at s.at) s.depth has in
      All-append Has (flows (flow_of i.op) i s) (caught notes s)
      (flows_have (flow_of i.op) i s (subst (λ (d : ℕ). Steps (flow_of i.op) (taken i) (given i) (given_away i) d (λ depth. At ws depth_at (s.at + width_of i.op) depth) (λ depth. At ws depth_at ((s.at + i.a) % 2 ^ 64) depth)) e (runs_there s.at i is)))
      (caught_have notes s fit)

  pub has_table : HasDepthTable code notes
  has_table = (
    table,
    record {
      first = at_table 0 0 first;
      free = λ s has. free_by (instruction_at code s.at) s refl has;
      closed = λ s has. closed_by (instruction_at code s.at) s refl has;
    },
  )
