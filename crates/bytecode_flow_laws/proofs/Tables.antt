-- Bytes that stand for code that runs have a depth table.
use Rattle.std.proofs.Common.{◌≡◌, ◌∙◌, ℕ, ◌+◌, ◌-◌, ◌%◌, ◌^◌, ◌<◌, ◌≤◌, List, [], ◌∷◌, ◌++◌, length, map, refl, sym, ap, ap₂, subst, inl, inr, arith}
use Rattle.std.proofs.Math.Nat.{mod-eq_of_lt, add-mod_right}
use Rattle.bytecode_buf.specs.declared.opcode.Op.{Op}
use Rattle.bytecode_buf.specs.declared.opcode.Op.TheVariants as op
use Rattle.bytecode_buf.specs.declared.opcode.Shape.{Shape}
use Rattle.bytecode_buf.specs.declared.opcode.Shape.TheVariants as shape
use Rattle.bytecode_buf.specs.Command.{Operand, Nothing, Distance, Target, Command, plain, jump, operand_of, operand_at, ShowsCommands}
use Rattle.bytecode_buf.specs.Layout.{Numbered, instructions}
use Rattle.bytecode_buf.specs.Machine.{Flow, Terminates, flow_of, taken, given, given_away_by, HasDepthTable}
use Rattle.bytecode_buf.specs.Pieces.{Piece, Whole, Waiting, Trying, Code, one, size, settled, settled_piece, notes, notes_by, command_width, width_by}
use Rattle.bytecode_buf.specs.Width.{width_of, shape_of}
use Rattle.bytecode_flow_laws.specs.Depths.{Steps, takes, gives, IsStart, total, widths, Goes, OperandLands, no_exits, PieceRuns, PiecesRun, Runs}
use Rattle.bytecode_flow_laws.specs.Staying.{number_in}
use Rattle.bytecode_flow_laws.proofs.Starts.{start_within, start_first, size_total}
use Rattle.bytecode_flow_laws.proofs.Joining.{steps_moved}
use Rattle.bytecode_flow_laws.proofs.Instructions.{IsInside, instruction_widths, At, RunsAs, InstructionsRun, NotesFit, has_table}
use Rattle.bytecode_flow_laws.proofs.Reading.{StandsAt, AllStand, shown_stand, instructions_size}
use Rattle.bytecode_flow_laws.proofs.Within.{to_target, instructions_fit, number_at}

-- ---- commands that run alike

-- the same opcode, which takes and gives as much, and the same target of a jump
pub record Alike (c d : Command) : Type 0 where
  pub op : c.op ≡ d.op
  pub takes : takes c.op (number_in c.operand) ≡ takes d.op (number_in d.operand)
  pub gives : gives c.op (number_in c.operand) ≡ gives d.op (number_in d.operand)
  pub target : (at offset : ℕ) → operand_at at c.operand ≡ Target offset → operand_at at d.operand ≡ Target offset

abbrev pub AllAlike : List Command → List Command → Type 0
AllAlike [] [] = Unit {0}
AllAlike [] (d ∷ ds) = ⊥
AllAlike (c ∷ cs) [] = ⊥
AllAlike (c ∷ cs) (d ∷ ds) = Alike c d × AllAlike cs ds

pub alike_all : (cs : List Command) → AllAlike cs cs
alike_all [] = tt
alike_all (c ∷ cs) = (record { op = refl; takes = refl; gives = refl; target = λ at offset h. h }, alike_all cs)

-- ---- an instruction works as a command

pub record Works (at : ℕ) (i : Numbered) (c : Command) : Type 0 where
  pub op : c.op ≡ i.op
  pub takes : takes c.op (number_in c.operand) ≡ taken i
  pub gives : gives c.op (number_in c.operand) ≡ given i
  pub target : (offset : ℕ) → operand_at at c.operand ≡ Target offset → (at + i.a) % 2 ^ 64 ≡ offset

-- where the count needs an operand, the operand is a number
takes_same : (texts : List (List ℕ)) (o : Op) (a b : ℕ) → takes o (number_in (operand_of texts (shape_of o) a b)) ≡ takes o a
takes_same texts op.Undefined a b = refl
takes_same texts _ a b = refl

gives_same : (texts : List (List ℕ)) (o : Op) (a b : ℕ) → gives o (number_in (operand_of texts (shape_of o) a b)) ≡ gives o a
gives_same texts op.Undefined a b = refl
gives_same texts _ a b = refl

target_same : (texts : List (List ℕ)) (s : Shape) (a b at offset : ℕ) → operand_at at (operand_of texts s a b) ≡ Target offset → (at + a) % 2 ^ 64 ≡ offset
target_same texts shape.Jump a b at offset e = to_target ((at + a) % 2 ^ 64) offset e
target_same texts shape.Nothing a b at offset e = absurd (cc)
target_same texts _ a b at offset e = absurd (cc)

works_at : (texts : List (List ℕ)) (at : ℕ) (i : Numbered) (c d : Command) → Alike c d → StandsAt texts at i d → Works at i c
works_at texts at i c d l s = record {
  op = same;
  takes = l.takes ∙ ap₂ takes (sym s.op) number ∙ takes_same texts i.op i.a i.b;
  gives = l.gives ∙ ap₂ gives (sym s.op) number ∙ gives_same texts i.op i.a i.b;
  target = λ offset h. target_same texts (shape_of i.op) i.a i.b at offset (s.operand ∙ l.target at offset h);
}
  where
    same : c.op ≡ i.op
    same = l.op ∙ sym s.op

    number : number_in d.operand ≡ number_in (operand_of texts (shape_of i.op) i.a i.b)
    number = sym (number_at at d.operand) ∙ sym (ap number_in s.operand) ∙ number_at at (operand_of texts (shape_of i.op) i.a i.b)

abbrev pub AllWork : ℕ → List Numbered → List Command → Type 0
AllWork at [] [] = Unit {0}
AllWork at [] (c ∷ cs) = ⊥
AllWork at (i ∷ is) [] = ⊥
AllWork at (i ∷ is) (c ∷ cs) = Works at i c × AllWork (at + width_of i.op) is cs

all_work : (texts : List (List ℕ)) (at : ℕ) (is : List Numbered) (cs ds : List Command) → AllAlike cs ds → AllStand texts at is ds → AllWork at is cs
all_work texts at [] [] [] l s = tt
all_work texts at [] [] (d ∷ ds) l s = absurd s
all_work texts at [] (c ∷ cs) [] l s = absurd l
all_work texts at [] (c ∷ cs) (d ∷ ds) l s = absurd s
all_work texts at (i ∷ is) [] [] l s = absurd s
all_work texts at (i ∷ is) [] (d ∷ ds) l s = absurd l
all_work texts at (i ∷ is) (c ∷ cs) [] l s = absurd l
all_work texts at (i ∷ is) (c ∷ cs) (d ∷ ds) l s = (works_at texts at i c d l.0 s.0, all_work texts (at + width_of i.op) is cs ds l.1 s.1)

-- ---- offsets

command_widths : List Command → List ℕ
command_widths cs = map (λ (c : Command). width_of c.op) cs

work_widths : (at : ℕ) (is : List Numbered) (cs : List Command) → AllWork at is cs → instruction_widths is ≡ command_widths cs
unfolding command_widths
work_widths at [] [] h = refl
work_widths at [] (c ∷ cs) h = absurd h
work_widths at (i ∷ is) [] h = absurd h
work_widths at (i ∷ is) (c ∷ cs) h = ap₂ (λ (n : ℕ) (l : List ℕ). n ∷ l) (sym (ap width_of h.0.op)) (work_widths (at + width_of i.op) is cs h.1)

settled_widths : (code : Code) (last : Op) → command_widths (settled (code ++ one (plain last))) ≡ widths code ++ width_of last ∷ []
unfolding command_widths
settled_widths [] last = refl
settled_widths (Whole c ∷ ps) last = ap (λ (l : List ℕ). width_of c.op ∷ l) (settled_widths ps last)
settled_widths (Waiting o aim ∷ ps) last = ap (λ (l : List ℕ). width_of o ∷ l) (settled_widths ps last)
settled_widths (Trying n depth ∷ ps) last = ap (λ (l : List ℕ). width_of op.Try ∷ l) (settled_widths ps last)

start_inside : (ws : List ℕ) (w at : ℕ) → IsStart ws at → IsInside (ws ++ w ∷ []) at
start_inside [] w at h = inl h
start_inside (v ∷ ws) w at (inl first) = inl first
start_inside (v ∷ ws) w at (inr more) = inr (more.0, more.1, start_inside ws w more.0 more.2)

-- ---- where a jump leads

goes_mod : (m at distance target : ℕ) → at + distance ≡ target → target < m → (at + distance) % m ≡ target
goes_mod m at distance target is small = ap (λ (n : ℕ). n % m) is ∙ mod-eq_of_lt small

back_mod : (m at distance target back : ℕ) → distance ≡ m - back → at ≡ target + back → at < m → (at + distance) % m ≡ target
back_mod m at distance target back is there small =
    let e : at + distance ≡ target + m = omega arith in
    let less : target < m = omega arith in
    ap (λ (n : ℕ). n % m) e ∙ add-mod_right target m ∙ mod-eq_of_lt less

leads_mod : (at distance target : ℕ) → Goes at distance target → target < 2 ^ 64 → at < 2 ^ 64 → (at + distance) % 2 ^ 64 ≡ target
leads_mod at distance target (inl is) small here = goes_mod (2 ^ 64) at distance target is small
leads_mod at distance target (inr back) small here = back_mod (2 ^ 64) at distance target back.0 back.1 back.2 here

-- ---- code that runs, as instructions

module _ (code : Code) (last : Op) (e : ℕ) (run : Runs no_exits code 0 e) (stops : flow_of last ≡ Terminates) (room : takes last 0 ≤ e) (small : total (widths code) < 2 ^ 64) where
  abbrev ws : List ℕ
  ws = widths code ++ width_of last ∷ []

  inside : (at : ℕ) → IsStart (widths code) at → IsInside ws at
  inside at h = start_inside (widths code) (width_of last) at h

  away_at : (at : ℕ) (i : Numbered) (o : Operand) (depth : ℕ) → at ≤ total (widths code) → ((offset : ℕ) → operand_at at o ≡ Target offset → (at + i.a) % 2 ^ 64 ≡ offset) → OperandLands (widths code) run.depth_at at o depth → At ws run.depth_at ((at + i.a) % 2 ^ 64) depth
  away_at at i (Distance d) depth within target h =
      let small_target : h.target < 2 ^ 64 = let w = start_within (widths code) h.target h.start in omega arith in
      let there : (at + d) % 2 ^ 64 ≡ h.target = leads_mod at d h.target h.goes small_target (omega arith) in
      let same : (at + i.a) % 2 ^ 64 ≡ h.target = target h.target (ap Target there) in
      subst (λ (n : ℕ). At ws run.depth_at n depth) (sym same) (inside h.target h.start, h.is)
  away_at at i Nothing depth within target h = absurd h
  away_at at i _ depth within target h = absurd h

  as_instruction : (at : ℕ) (i : Numbered) (c : Command) → Works at i c → RunsAs ws run.depth_at at c.op (takes c.op (number_in c.operand)) (gives c.op (number_in c.operand)) i.a → RunsAs ws run.depth_at at i.op (taken i) (given i) i.a
  as_instruction at i c w h =
      subst (λ (g : ℕ). RunsAs ws run.depth_at at i.op (taken i) g i.a) w.gives
      (subst (λ (t : ℕ). RunsAs ws run.depth_at at i.op t (gives c.op (number_in c.operand)) i.a) w.takes
      (subst (λ (o : Op). RunsAs ws run.depth_at at o (takes c.op (number_in c.operand)) (gives c.op (number_in c.operand)) i.a) w.op h))

  next_at : (at w depth : ℕ) → IsStart (widths code) (at + w) → run.depth_at (at + w) ≡ depth → At ws run.depth_at (at + w) depth
  next_at at w depth start is = (inside (at + w) start, is)

  piece_instruction : (at : ℕ) (p : Piece Command) (i : Numbered) → at + width_by command_width p ≤ total (widths code) → IsStart (widths code) (at + width_by command_width p) → PieceRuns no_exits (widths code) run.depth_at at p → Works at i (settled_piece jump plain p) → RunsAs ws run.depth_at at i.op (taken i) (given i) i.a
  piece_instruction at (Whole c) i within next h w =
      as_instruction at i c w (steps_moved (flow_of c.op) (takes c.op (number_in c.operand)) (gives c.op (number_in c.operand)) (given_away_by c.op (gives c.op (number_in c.operand))) (run.depth_at at) (run.depth_at at) _ _ _ _ (λ d k. next_at at (width_of c.op) d next k) (λ d k. away_at at i c.operand d (omega arith) w.target k) refl h)
  piece_instruction at (Waiting o aim) i within next h w =
      as_instruction at i (jump o 0) w (steps_moved (flow_of o) (takes o 0) (gives o 0) (given_away_by o (gives o 0)) (run.depth_at at) (run.depth_at at) _ _ _ _ (λ d k. next_at at (width_of o) d next k) (λ d k. absurd (cc)) refl h)
  piece_instruction at (Trying n depth) i within next h w =
      as_instruction at i (plain op.Try) w (record { depth = run.depth_at (at + 1); fit = next_at at 1 (run.depth_at (at + 1)) next refl; changes = record { rest = run.depth_at at; before_is = omega arith; after_is = let f = h.further in omega arith } })

  pieces_instructions : (at : ℕ) (ps : Code) (is : List Numbered) → at + size ps ≡ size code → ((k : ℕ) → IsStart (widths ps) k → IsStart (widths code) (at + k)) → PiecesRun no_exits (widths code) run.depth_at at ps → AllWork at is (settled (ps ++ one (plain last))) → InstructionsRun ws run.depth_at at is
  pieces_instructions at [] [] whole starts h w = absurd w
  pieces_instructions at [] (i ∷ []) whole starts h w =
      let there : run.depth_at at ≡ e = (let z : at ≡ size code = omega arith in ap run.depth_at z ∙ run.ends) in
      let less : takes last 0 ≤ run.depth_at at = omega arith in
      (as_instruction at i (plain last) w.0 (subst (λ (f : Flow). Steps f (takes last 0) (gives last 0) (given_away_by last (gives last 0)) (run.depth_at at) (λ depth. At ws run.depth_at (at + width_of last) depth) (λ depth. At ws run.depth_at ((at + i.a) % 2 ^ 64) depth)) (sym stops) less), tt)
  pieces_instructions at [] (i ∷ j ∷ is) whole starts h w = absurd w.1
  pieces_instructions at (p ∷ ps) [] whole starts h w = absurd w
  pieces_instructions at (p ∷ ps) (i ∷ is) whole starts h w =
      let n : ℕ = width_by command_width p in
      let t = size_total code in
      let next : IsStart (widths code) (at + n) = (let z : at + (n + 0) ≡ at + n = omega arith in subst (IsStart (widths code)) z (starts (n + 0) (inr (0, refl, start_first (widths ps))))) in
      let same : width_of i.op ≡ n = sym (ap width_of w.0.op) ∙ settled_width p in (
        piece_instruction at p i (omega arith) next h.0 w.0,
        pieces_instructions (at + width_of i.op) ps is (omega arith)
            (λ k s. let z : at + (n + k) ≡ (at + width_of i.op) + k = omega arith in subst (IsStart (widths code)) z (starts (n + k) (inr (k, refl, s))))
            (subst (λ (m : ℕ). PiecesRun no_exits (widths code) run.depth_at (at + m) ps) (sym same) h.1) w.1,
      )
    where
      settled_width : (q : Piece Command) → width_of (settled_piece jump plain q).op ≡ width_by command_width q
      settled_width (Whole c) = refl
      settled_width (Waiting o aim) = refl
      settled_width (Trying m depth) = refl

  notes_fit : (at : ℕ) (ps : Code) → PiecesRun no_exits (widths code) run.depth_at at ps → NotesFit ws run.depth_at (notes_by command_width at (ps ++ one (plain last)))
  notes_fit at [] h = tt
  notes_fit at (Whole c ∷ ps) h = notes_fit (at + width_of c.op) ps h.1
  notes_fit at (Waiting o aim ∷ ps) h = notes_fit (at + width_of o) ps h.1
  notes_fit at (Trying n depth ∷ ps) h = ((inside (at + 1 + n) h.0.end, h.0.is), notes_fit (at + width_of op.Try) ps h.1)

-- ---- the theorem

-- Code that runs from an empty stack, and ends with an instruction after which nothing runs: bytes that stand for it, or for
-- commands that run alike, have a depth table.
pub runs_table : (texts : List (List ℕ)) (bytes : List ℕ) (code : Code) (last : Op) (e : ℕ) (commands : List Command) → Runs no_exits code 0 e → flow_of last ≡ Terminates → takes last 0 ≤ e → AllAlike (settled (code ++ one (plain last))) commands → ShowsCommands texts bytes commands → length bytes < 2 ^ 64 → HasDepthTable bytes (notes (code ++ one (plain last)))
runs_table texts bytes code last e commands run stops room alike shows short =
    has_table bytes (notes (code ++ one (plain last))) run.depth_at
    (subst (λ (ws : List ℕ). InstructionsRun ws run.depth_at 0 (instructions bytes)) (sym same) (pieces_instructions code last e run stops room small 0 code (instructions bytes) (omega arith) (λ k s. let z : k ≡ 0 + k = omega arith in subst (IsStart (widths code)) z s) run.pieces work))
    (subst (λ (ws : List ℕ). NotesFit ws run.depth_at (notes (code ++ one (plain last)))) (sym same) (notes_fit code last e run stops room small 0 code run.pieces))
    (subst (λ (ws : List ℕ). At ws run.depth_at 0 0) (sym same) (start_inside (widths code) (width_of last) 0 (start_first (widths code)), run.begins))
  where
    stand : AllStand texts 0 (instructions bytes) commands
    stand = shown_stand texts bytes commands shows

    work : AllWork 0 (instructions bytes) (settled (code ++ one (plain last)))
    work = all_work texts 0 (instructions bytes) (settled (code ++ one (plain last))) commands alike stand

    same : instruction_widths (instructions bytes) ≡ widths code ++ width_of last ∷ []
    same = work_widths 0 (instructions bytes) (settled (code ++ one (plain last))) work ∙ settled_widths code last

    total_size : (is : List Numbered) → total (instruction_widths is) ≡ instructions_size is
    total_size [] = refl
    total_size (i ∷ is) = ap (λ (n : ℕ). width_of i.op + n) (total_size is)

    total-append : (xs ys : List ℕ) → total (xs ++ ys) ≡ total xs + total ys
    total-append [] ys = omega arith
    total-append (x ∷ xs) ys = let h = total-append xs ys in omega arith

    small : total (widths code) < 2 ^ 64
    small =
        let fit = instructions_fit bytes in
        let a = total_size (instructions bytes) in
        let b = total-append (widths code) (width_of last ∷ []) in
        let c = ap total same in
        omega arith
