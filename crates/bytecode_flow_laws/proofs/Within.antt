-- Bytes that stand for commands whose jumps stay have jumps within the bytes.
use Rattle.std.proofs.Common.{◌≡◌, ◌∙◌, ℕ, zero, suc, ◌+◌, ◌%◌, ◌^◌, ◌≤◌, List, [], ◌∷◌, length, drop, length-drop, Option, Some, None, refl, sym, ap, subst, leb-true, nat_le, Bool, true, false, if◌then◌else◌, arith}
use Rattle.bytecode_buf.specs.declared.opcode.Op.{Op}
use Rattle.bytecode_buf.specs.declared.opcode.Op.TheVariants as op
use Rattle.bytecode_buf.specs.declared.opcode.Shape.{Shape}
use Rattle.bytecode_buf.specs.declared.opcode.Shape.TheVariants as shape
use Rattle.bytecode_buf.specs.Command.{Operand, Nothing, Number, Text, Aliased, Distance, Target, Command, operand_of, operand_at, ShowsCommands}
use Rattle.bytecode_buf.specs.InRange.{JumpWithin}
use Rattle.bytecode_buf.specs.Layout.{Numbered, decoded, decoded_as, read_as, followed, instructions, instructions_within}
use Rattle.bytecode_buf.specs.Table.{op_at}
use Rattle.bytecode_buf.specs.Width.{shape_of, width_of, first_of, second_of}
use Rattle.bytecode_buf.proofs.ReadBack.{instructions_within-none, instructions_within-more}
use Rattle.bytecode_flow_laws.specs.Staying.{OperandStays, CommandsStay, JumpsStay, JumpsWithin, commands_size, number_in}
use Rattle.bytecode_flow_laws.proofs.Reading.{AllStand, shown_stand, instructions_size, same_size}

-- ---- no more bytes than there are

fits_by : (o : Op) (rest : List ℕ) (enough : Bool) (i : Numbered) → nat_le (first_of o + second_of o) (length rest) ≡ enough → (if enough then Some (read_as o rest) else None) ≡ Some i → width_of i.op ≤ suc (length rest)
fits_by o rest true i room is =
    let e : o ≡ i.op = ap (λ (x : Option Numbered). op_or o x) is in
    let l = leb-true (first_of o + second_of o) (length rest) room in
    subst (λ (x : Op). width_of x ≤ suc (length rest)) e (omega arith)
  where
    op_or : Op → Option Numbered → Op
    op_or other None = other
    op_or other (Some j) = j.op
fits_by o rest false i room is = absurd (cc)

fits_as : (o : Option Op) (rest : List ℕ) (i : Numbered) → decoded_as o rest ≡ Some i → width_of i.op ≤ suc (length rest)
fits_as None rest i is = absurd (cc)
fits_as (Some o) rest i is = fits_by o rest (nat_le (first_of o + second_of o) (length rest)) i refl is

-- an instruction that is decoded is there whole
pub decoded_fits : (code : List ℕ) (i : Numbered) → decoded code ≡ Some i → width_of i.op ≤ length code
decoded_fits [] i is = absurd (cc)
decoded_fits (byte ∷ rest) i is = fits_as (op_at byte) rest i is

size_by : (n : ℕ) (code : List ℕ) (o : Option Numbered) → decoded code ≡ o → ((i : Numbered) → instructions_size (instructions_within n (drop (width_of i.op) code)) ≤ length (drop (width_of i.op) code)) → instructions_size (followed o (λ i. instructions_within n (drop (width_of i.op) code))) ≤ length code
size_by n code None is deeper = omega arith
size_by n code (Some i) is deeper =
    let fits = decoded_fits code i is in
    let less = deeper i in
    let left = length-drop (width_of i.op) code in
    omega arith

size_within : (n : ℕ) (code : List ℕ) → instructions_size (instructions_within n code) ≤ length code
size_within zero code = subst (λ (l : List Numbered). instructions_size l ≤ length code) (sym (instructions_within-none code)) (omega arith)
size_within (suc n) code = subst (λ (l : List Numbered). instructions_size l ≤ length code) (sym (instructions_within-more n code)) (size_by n code (decoded code) refl (λ i. size_within n (drop (width_of i.op) code)))

pub instructions_fit : (code : List ℕ) → instructions_size (instructions code) ≤ length code
instructions_fit code = size_within (length code) code

-- ---- the target of a jump

pub to_target : (a b : ℕ) → Target a ≡ Target b → a ≡ b
to_target a b e = cc

-- an instruction that stands for a jump to a place stands for a jump there
pub jump_within : (texts : List (List ℕ)) (s : Shape) (a b at size : ℕ) (o : Operand) → operand_at at (operand_of texts s a b) ≡ operand_at at o → OperandStays size at o → JumpWithin s at a size
jump_within texts shape.Jump a b at size Nothing e h = absurd (cc)
jump_within texts shape.Jump a b at size (Number n) e h = absurd (cc)
jump_within texts shape.Jump a b at size (Text text) e h = absurd (cc)
jump_within texts shape.Jump a b at size (Aliased hops slot) e h = absurd (cc)
jump_within texts shape.Jump a b at size (Distance d) e h = subst (λ (n : ℕ). n ≤ size) (sym (to_target ((at + a) % 2 ^ 64) ((at + d) % 2 ^ 64) e)) h
jump_within texts shape.Jump a b at size (Target offset) e h = absurd h
jump_within texts shape.Nothing a b at size o e h = tt
jump_within texts _ a b at size o e h = tt

jumps_from : (texts : List (List ℕ)) (size bound at : ℕ) (is : List Numbered) (cs : List Command) → size ≤ bound → AllStand texts at is cs → CommandsStay size at cs → JumpsWithin bound at is
jumps_from texts size bound at [] cs room s h = tt
jumps_from texts size bound at (i ∷ is) [] room s h = absurd s
jumps_from texts size bound at (i ∷ is) (c ∷ cs) room s h =
    let next : CommandsStay size (at + width_of i.op) cs = subst (λ (o : Op). CommandsStay size (at + width_of o) cs) (sym s.0.op) h.1 in
    (jump_within texts (shape_of i.op) i.a i.b at bound c.operand s.0.operand (looser c.operand h.0), jumps_from texts size bound (at + width_of i.op) is cs room s.1 next)
  where
    looser : (o : Operand) → OperandStays size at o → OperandStays bound at o
    looser Nothing k = tt
    looser (Number n) k = tt
    looser (Text text) k = tt
    looser (Aliased hops slot) k = tt
    looser (Distance d) k = omega arith
    looser (Target offset) k = absurd k

-- ---- the theorems

-- Bytes that stand for commands whose jumps stay within the commands: each jump of the bytes goes to an offset from 0 to
-- their length.
pub jumps_within : (texts : List (List ℕ)) (code : List ℕ) (commands : List Command) → JumpsStay commands → ShowsCommands texts code commands → JumpsWithin (length code) 0 (instructions code)
jumps_within texts code commands stays shows =
    let all = shown_stand texts code commands shows in
    let same = same_size texts 0 (instructions code) commands all in
    let fit = instructions_fit code in
    jumps_from texts (commands_size commands) (length code) 0 (instructions code) commands (omega arith) all stays.stay

-- the number in an operand, wherever it stands
pub number_at : (at : ℕ) (o : Operand) → number_in (operand_at at o) ≡ number_in o
number_at at Nothing = refl
number_at at (Number n) = refl
number_at at (Text text) = refl
number_at at (Aliased hops slot) = refl
number_at at (Distance d) = refl
number_at at (Target offset) = refl
