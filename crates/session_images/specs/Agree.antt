-- Codes that are the same but for the numbers of texts. This project's own choice.
use Rattle.std.specs.Prelude.{◌≡◌, ℕ, List, [], ◌∷◌, map}
use Rattle.stencil_data.specs.declared.stencils.Entry.{Entry}
use Rattle.stencil_data.specs.declared.stencils.Entry.TheVariants as entry
use Rattle.stencil_data.specs.MergedView.{MergedView}
use Rattle.stencil_data.specs.Views.{FunctionView}
use Rattle.bytecode_buf.specs.declared.opcode.Shape.{Shape}
use Rattle.bytecode_buf.specs.declared.opcode.Shape.TheVariants as shape
use Rattle.bytecode_buf.specs.Layout.{Numbered, instructions}
use Rattle.bytecode_buf.specs.Width.{shape_of}
use Rattle.bytecode_buf.specs.Verdicts.{Soundness, IsVerified}

-- an operand, but 0 for the number of a text
abbrev pub textless : Shape → ℕ → ℕ
textless shape.Atom a = 0
textless _ a = a

abbrev pub without_text : Numbered → Numbered
without_text i = record { op = i.op; a = textless (shape_of i.op) i.a; b = i.b }

-- the same opcodes, and the same operands but for the numbers of texts
pub record CodesAgree (code other : List ℕ) : Type 0 where
  pub are : map without_text (instructions code) ≡ map without_text (instructions other)

pub record PartsAgree (part other : FunctionView) : Type 0 where
  pub codes : CodesAgree part.code other.code
  pub notes : part.notes ≡ other.notes

-- each is compiled where the other is, and then they agree
abbrev pub EntriesAgree : List Entry → List Entry → Type 0
EntriesAgree [] [] = Unit {0}
EntriesAgree [] (o ∷ others) = ⊥
EntriesAgree (e ∷ entries) [] = ⊥
EntriesAgree (entry.Lazy ∷ entries) (entry.Lazy ∷ others) = EntriesAgree entries others
EntriesAgree (entry.Lazy ∷ entries) (entry.Compiled g ∷ others) = ⊥
EntriesAgree (entry.Compiled f ∷ entries) (entry.Lazy ∷ others) = ⊥
EntriesAgree (entry.Compiled f ∷ entries) (entry.Compiled g ∷ others) = PartsAgree f g × EntriesAgree entries others

pub record StencilsAgree (stencil other : MergedView) : Type 0 where
  pub top : PartsAgree stencil.top other.top
  pub entries : EntriesAgree stencil.entries other.entries

-- what is verified of each compiled entry of one list is verified of the entry of that place of the other
abbrev pub EntriesVerified : List Entry → List Entry → Type 0
EntriesVerified [] [] = Unit {0}
EntriesVerified [] (o ∷ others) = ⊥
EntriesVerified (e ∷ entries) [] = ⊥
EntriesVerified (entry.Lazy ∷ entries) (entry.Lazy ∷ others) = EntriesVerified entries others
EntriesVerified (entry.Lazy ∷ entries) (entry.Compiled g ∷ others) = ⊥
EntriesVerified (entry.Compiled f ∷ entries) (entry.Lazy ∷ others) = ⊥
EntriesVerified (entry.Compiled f ∷ entries) (entry.Compiled g ∷ others) =
    ((s : Soundness) → IsVerified f.code f.notes s → IsVerified g.code g.notes s) × EntriesVerified entries others
