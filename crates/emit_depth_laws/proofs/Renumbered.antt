-- Commands that name functions by other numbers run alike, and their jumps stay as well.
use Rattle.std.proofs.Common.{◌≡◌, ℕ, ◌+◌, List, [], ◌∷◌, map, refl, ap, subst, sym}
use Rattle.bytecode_buf.specs.declared.opcode.Op.{Op}
use Rattle.bytecode_buf.specs.declared.opcode.Op.TheVariants as op
use Rattle.bytecode_buf.specs.Command.{Operand, Nothing, Number, Text, Aliased, Distance, Target, Command}
use Rattle.bytecode_buf.specs.Width.{width_of}
use Rattle.bytecode_flow_laws.specs.Staying.{OperandStays, CommandsStay, JumpsStay, commands_size}
use Rattle.bytecode_flow_laws.proofs.Tables.{Alike, AllAlike}
use Rattle.compile_specs.specs.Shown.{renumbered}

-- the command with other numbers
abbrev pub numbered_as : List ℕ → Command → Command
numbered_as numbers c = record { op = c.op; operand = renumbered numbers c.op c.operand }

abbrev pub all_numbered_as : List ℕ → List Command → List Command
all_numbered_as numbers cs = map (λ (c : Command). record { op = c.op; operand = renumbered numbers c.op c.operand }) cs

alike_one : (numbers : List ℕ) (o : Op) (x : Operand) → Alike (record { op = o; operand = x }) (record { op = o; operand = renumbered numbers o x })
alike_one numbers op.Lambda (Number n) = record { op = refl; takes = refl; gives = refl; target = λ at offset h. absurd (cc) }
alike_one numbers op.Lambda Nothing = record { op = refl; takes = refl; gives = refl; target = λ at offset h. h }
alike_one numbers op.Lambda (Text text) = record { op = refl; takes = refl; gives = refl; target = λ at offset h. h }
alike_one numbers op.Lambda (Aliased hops slot) = record { op = refl; takes = refl; gives = refl; target = λ at offset h. h }
alike_one numbers op.Lambda (Distance d) = record { op = refl; takes = refl; gives = refl; target = λ at offset h. h }
alike_one numbers op.Lambda (Target t) = record { op = refl; takes = refl; gives = refl; target = λ at offset h. h }
alike_one numbers op.Undefined x = record { op = refl; takes = refl; gives = refl; target = λ at offset h. h }
alike_one numbers _ x = record { op = refl; takes = refl; gives = refl; target = λ at offset h. h }

pub alike_renumbered : (numbers : List ℕ) (cs : List Command) → AllAlike cs (all_numbered_as numbers cs)
alike_renumbered numbers [] = tt
alike_renumbered numbers (c ∷ cs) = (alike_one numbers c.op c.operand, alike_renumbered numbers cs)

stays_one : (numbers : List ℕ) (size at : ℕ) (o : Op) (x : Operand) → OperandStays size at x → OperandStays size at (renumbered numbers o x)
stays_one numbers size at op.Lambda (Number n) h = tt
stays_one numbers size at op.Lambda Nothing h = h
stays_one numbers size at op.Lambda (Text text) h = h
stays_one numbers size at op.Lambda (Aliased hops slot) h = h
stays_one numbers size at op.Lambda (Distance d) h = h
stays_one numbers size at op.Lambda (Target t) h = h
stays_one numbers size at op.Undefined x h = h
stays_one numbers size at _ x h = h

same_size : (numbers : List ℕ) (cs : List Command) → commands_size (all_numbered_as numbers cs) ≡ commands_size cs
same_size numbers [] = refl
same_size numbers (c ∷ cs) = ap (λ (n : ℕ). width_of c.op + n) (same_size numbers cs)

stay_from : (numbers : List ℕ) (size at : ℕ) (cs : List Command) → CommandsStay size at cs → CommandsStay size at (all_numbered_as numbers cs)
stay_from numbers size at [] h = tt
stay_from numbers size at (c ∷ cs) h = (stays_one numbers size at c.op c.operand h.0, stay_from numbers size (at + width_of c.op) cs h.1)

pub stays_renumbered : (numbers : List ℕ) (cs : List Command) → JumpsStay cs → JumpsStay (all_numbered_as numbers cs)
stays_renumbered numbers cs h = record { stay = subst (λ (n : ℕ). CommandsStay n 0 (all_numbered_as numbers cs)) (sym (same_size numbers cs)) (stay_from numbers (commands_size cs) 0 cs h.stay) }
