-- What code stands for by other texts, once its atoms are changed for those of equal texts and its functions are numbered.
use Rattle.std.proofs.Common.{◌≡◌, ℕ, ◌+◌, List, [], ◌∷◌, map, refl, ◌∙◌, ap, ap₂}
use Rattle.std.specs.Prelude.{unwrap_or}
use Rattle.stencil_data.specs.StandsFor.{text_at}
use Rattle.bytecode_buf.specs.declared.opcode.Op.{Op}
use Rattle.bytecode_buf.specs.declared.opcode.Op.TheVariants as op
use Rattle.bytecode_buf.specs.Width.{shape_of, width_of}
use Rattle.bytecode_buf.specs.Layout.{Numbered, instructions}
use Rattle.bytecode_buf.specs.Command.{Nothing, Number, Text, Aliased, Distance, Target, Operand, Command, operand_of, operand_at, Listed, listed, listed_from, placed_from}
use Rattle.stencil_merge.specs.Atoms.{atom_by}
use Rattle.stencil_merge.specs.Instructions.{new_operand, instruction_by, AreInstructionsBy, numbered_operand, numbered_listed, numbered_commands, numbered_list}

-- each atom of the one list, and what is none, is changed for one of an equal text of the other
abbrev pub AreEqualTexts : List (List ℕ) → List (List ℕ) → List ℕ → Type 0
AreEqualTexts texts other atoms = (a : ℕ) → text_at other (atom_by atoms a) ≡ text_at texts a

-- ---- one instruction

operand_same : (texts other : List (List ℕ)) (atoms numbers : List ℕ) (o : Op) (a b : ℕ) → text_at other (atom_by atoms a) ≡ text_at texts a
    → operand_of other (shape_of o) (unwrap_or (new_operand atoms numbers o a) a) b ≡ numbered_operand numbers o (operand_of texts (shape_of o) a b)
operand_same texts other atoms numbers op.Lambda a b same = refl
operand_same texts other atoms numbers _ a b same = cc

operand_placed : (numbers : List ℕ) (at : ℕ) (o : Op) (operand : Operand) → operand_at at (numbered_operand numbers o operand) ≡ numbered_operand numbers o (operand_at at operand)
operand_placed numbers at op.Lambda Nothing = refl
operand_placed numbers at op.Lambda (Number n) = refl
operand_placed numbers at op.Lambda (Text t) = refl
operand_placed numbers at op.Lambda (Aliased hops slot) = refl
operand_placed numbers at op.Lambda (Distance n) = refl
operand_placed numbers at op.Lambda (Target n) = refl
operand_placed numbers at _ operand = refl

listed_one : ℕ → Op → Operand → Listed
listed_one at o operand = record { at = at; command = record { op = o; operand = operand } }

-- ---- lists of them

module _ (texts other : List (List ℕ)) (atoms numbers : List ℕ) (same : AreEqualTexts texts other atoms) where
  pub listed_from-by : (at : ℕ) (is : List Numbered) → listed_from other at (map (instruction_by atoms numbers) is) ≡ map (numbered_listed numbers) (listed_from texts at is)
  unfolding listed_one
  listed_from-by at [] = refl
  listed_from-by at (i ∷ is) =
      ap₂ (λ (x : Operand) (ls : List Listed). listed_one at i.op x ∷ ls)
      (ap (operand_at at) (operand_same texts other atoms numbers i.op i.a i.b (same i.a)) ∙ operand_placed numbers at i.op (operand_of texts (shape_of i.op) i.a i.b))
      (listed_from-by (at + width_of i.op) is)

  pub listed-by : (old new : List ℕ) → AreInstructionsBy atoms numbers old new → listed other new ≡ numbered_list numbers (listed texts old)
  listed-by old new by = ap (listed_from other 0) by ∙ listed_from-by 0 (instructions old)

-- commands with numbers, listed, are listed commands with numbers
pub placed_from-numbered : (numbers : List ℕ) (at : ℕ) (cs : List Command) → placed_from at (numbered_commands numbers cs) ≡ numbered_list numbers (placed_from at cs)
unfolding listed_one
placed_from-numbered numbers at [] = refl
placed_from-numbered numbers at (c ∷ cs) =
    ap₂ (λ (x : Operand) (ls : List Listed). listed_one at c.op x ∷ ls) (operand_placed numbers at c.op c.operand) (placed_from-numbered numbers (at + width_of c.op) cs)
