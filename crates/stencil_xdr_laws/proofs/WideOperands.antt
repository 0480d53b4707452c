-- A value with an operand that its width has no room for has no image: this is why codes are asked to be bytes, before a value
-- that they stand for is said to have one.
use Rattle.std.proofs.Common.{◌≡◌, ℕ, ◌^◌, ◌<◌, ◌≤◌, List, [], ◌∷◌, ap, ◌∙◌, subst, arith}
use Rattle.stencil_data.specs.Named.{NamedMerged}
use Rattle.bytecode_buf.specs.declared.opcode.Op.{Op}
use Rattle.bytecode_buf.specs.declared.opcode.Shape.{Shape}
use Rattle.bytecode_buf.specs.declared.opcode.Shape.TheVariants as shape
use Rattle.bytecode_buf.specs.Command.{Command, Listed, Number, counted, operand_of, operand_at, command_of, command_at, listed_from, placed_from}
use Rattle.bytecode_buf.specs.Layout.{Numbered, AllFit, instructions}
use Rattle.bytecode_buf.specs.Width.{shape_of, first_of}
use Rattle.session_image_specs.specs.Images.{IsImage}
use Rattle.stencil_xdr_read.proofs.Renamed.{whole_fit}

number_read : (texts : List (List ℕ)) (at : ℕ) (s : Shape) (a b n : ℕ) → operand_at at (operand_of texts s a b) ≡ Number n → a ≡ n
number_read texts at shape.Nothing a b n e = cc
number_read texts at _ a b n e = cc

first_fits : (texts : List (List ℕ)) (at : ℕ) (is : List Numbered) (op : Op) (n : ℕ) (rest : List Command) → AllFit is → listed_from texts at is ≡ placed_from at (counted op n ∷ rest) → n < 256 ^ first_of op
first_fits texts at [] op n rest fit e = absurd (cc)
first_fits texts at (i ∷ is) op n rest fit e =
    subst (λ (o : Op). n < 256 ^ first_of o) (ap (λ (l : Listed). l.command.op) head)
    (subst (λ (k : ℕ). k < 256 ^ first_of i.op) (number_read texts at (shape_of i.op) i.a i.b n (ap (λ (l : Listed). l.command.operand) head)) fit.0.first)
  where
    head : ◌≡◌ {A = Listed} (record { at = at; command = command_at at (command_of texts i) }) (record { at = at; command = command_at at (counted op n) })
    head = cc

-- where the code of a script begins with such an operand
pub wide_has_no_image : (n : NamedMerged (List Command)) (bytes : List ℕ) (op : Op) (number : ℕ) (rest : List Command) → n.top.code ≡ counted op number ∷ rest → 256 ^ first_of op ≤ number → IsImage n bytes → ⊥
wide_has_no_image n bytes op number rest begins wide h =
    let low : number < 256 ^ first_of op = first_fits h.stencil.texts 0 (instructions h.stencil.top.code) op number rest (whole_fit h.stencil.top.code h.is.range.top.range.code.whole) (h.stands.top.code.is ∙ ap (placed_from 0) begins) in omega arith
