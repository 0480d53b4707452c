-- Single instructions by what stands after their opcode.
use Rattle.std.proofs.Common.{◌≡◌, ℕ, ◌^◌, ◌<◌, true, false, List, [], ◌∷◌, ◌++◌, slice_index_or, refl, sym, ◌∙◌, ap, subst, true≢false, lit<}
use Rattle.bytecode_buf.specs.declared.opcode.Op.{Op}
use Rattle.bytecode_buf.specs.declared.opcode.Shape.{Shape}
use Rattle.bytecode_buf.specs.declared.opcode.Shape.TheVariants as shape
use Rattle.bytecode_buf.specs.Width.{shape_of, first_of, second_of, first_width, second_width, is_jump, is_jump_shape}
use Rattle.bytecode_buf.specs.Layout.{Numbered, Fits, laid}
use Rattle.bytecode_buf.specs.Command.{Command, Operand, Nothing, Number, Text, Aliased, operand_of, plain, counted, named, aliased}
use Rattle.bytecode_buf.specs.Pieces.{Whole, Code, one}
use Rattle.bytecode_buf.specs.Emits.{Emits}
use Rattle.bytecode_buf.proofs.AppendLemmas.{emits_one, emits_none, emits_both}
use Rattle.bytecode_buf.specs.declared.opcode.Op.TheVariants as op
use Rattle.emit_exprs.specs.Names.{after_check}
use Rattle.emit_exprs.specs.Whole.{whole}
use Rattle.emit_exprs.specs.Steps.{is_counted_shape, is_counted}

pub is_jump-of : (op : Op) (s : Shape) → shape_of op ≡ s → is_jump_shape s ≡ false → is_jump op ≡ false
is_jump-of op s is plain_one = ap is_jump_shape is ∙ plain_one

pub fits_first : (op : Op) (s : Shape) (a : ℕ) → shape_of op ≡ s → a < 256 ^ first_width s → a < 256 ^ first_of op
fits_first op s a is fits = subst (λ (x : Shape). a < 256 ^ first_width x) (sym is) fits

pub fits_second : (op : Op) (s : Shape) (b : ℕ) → shape_of op ≡ s → b < 256 ^ second_width s → b < 256 ^ second_of op
fits_second op s b is fits = subst (λ (x : Shape). b < 256 ^ second_width x) (sym is) fits

pub counted_no_jump : (s : Shape) → is_counted_shape s ≡ true → is_jump_shape s ≡ false
counted_no_jump shape.Jump is = sym is
counted_no_jump shape.Nothing is = refl
counted_no_jump _ is = refl

pub counted_second : (s : Shape) → is_counted_shape s ≡ true → 0 < 256 ^ second_width s
counted_second shape.Aliased is = absurd (true≢false (sym is))
counted_second shape.Nothing is = lit< tt
counted_second _ is = lit< tt

counted_operand : (texts : List (List ℕ)) (s : Shape) (a : ℕ) → is_counted_shape s ≡ true → operand_of texts s a 0 ≡ Number a
counted_operand texts shape.Nothing a is = absurd (true≢false (sym is))
counted_operand texts shape.Atom a is = absurd (true≢false (sym is))
counted_operand texts shape.Aliased a is = absurd (true≢false (sym is))
counted_operand texts shape.Jump a is = absurd (true≢false (sym is))
counted_operand texts _ a is = refl

-- the instruction that was put, as a command whose operand is this
emits_as : (texts : List (List ℕ)) (old new : List ℕ) (i : Numbered) (o : Operand) → Fits i → operand_of texts (shape_of i.op) i.a i.b ≡ o → new ≡ old ++ laid i → Emits texts old new (one (record { op = i.op; operand = o }))
emits_as texts old new i o fits is made = subst (λ (x : Operand). Emits texts old new (one (record { op = i.op; operand = x }))) is (emits_one texts old new i fits made)

pub emits_plain : (texts : List (List ℕ)) (old new : List ℕ) (op : Op) → shape_of op ≡ shape.Nothing → new ≡ old ++ laid (record { op = op; a = 0; b = 0 }) → Emits texts old new (one (plain op))
emits_plain texts old new op is made = emits_as texts old new (record { op = op; a = 0; b = 0 }) Nothing (record { first = fits_first op shape.Nothing 0 is (lit< tt); second = fits_second op shape.Nothing 0 is (lit< tt) }) (ap (λ (s : Shape). operand_of texts s 0 0) is) made

pub emits_counted : (texts : List (List ℕ)) (old new : List ℕ) (op : Op) (n : ℕ) → is_counted op ≡ true → n < 256 ^ first_of op → new ≡ old ++ laid (record { op = op; a = n; b = 0 }) → Emits texts old new (one (counted op n))
emits_counted texts old new op n is fits made = emits_as texts old new (record { op = op; a = n; b = 0 }) (Number n) (record { first = fits; second = counted_second (shape_of op) is }) (counted_operand texts (shape_of op) n is) made

pub emits_named : (texts : List (List ℕ)) (old new : List ℕ) (op : Op) (atom : ℕ) → shape_of op ≡ shape.Atom → atom < 2 ^ 32 → new ≡ old ++ laid (record { op = op; a = atom; b = 0 }) → Emits texts old new (one (named op (slice_index_or texts atom [])))
emits_named texts old new op atom is fits made = emits_as texts old new (record { op = op; a = atom; b = 0 }) (Text (slice_index_or texts atom [])) (record { first = fits_first op shape.Atom atom is fits; second = fits_second op shape.Atom 0 is (lit< tt) }) (ap (λ (s : Shape). operand_of texts s atom 0) is) made

pub emits_aliased : (texts : List (List ℕ)) (old new : List ℕ) (op : Op) (hops slot : ℕ) → shape_of op ≡ shape.Aliased → hops < 2 ^ 16 → slot < 2 ^ 24 → new ≡ old ++ laid (record { op = op; a = hops; b = slot }) → Emits texts old new (one (aliased op hops slot))
emits_aliased texts old new op hops slot is h s made = emits_as texts old new (record { op = op; a = hops; b = slot }) (Aliased hops slot) (record { first = fits_first op shape.Aliased hops is h; second = fits_second op shape.Aliased slot is s }) (ap (λ (x : Shape). operand_of texts x hops slot) is) made

-- no code
pub emits_nothing : (texts : List (List ℕ)) (now : List ℕ) → Emits texts now now []
emits_nothing texts now = emits_none texts now

-- commands one after the other
pub whole-append : (xs ys : List Command) → whole (xs ++ ys) ≡ whole xs ++ whole ys
whole-append [] ys = refl
whole-append (x ∷ xs) ys = ap (λ (l : Code). Whole x ∷ l) (whole-append xs ys)

-- a command after a check
pub emits_after_check : (texts : List (List ℕ)) (old read popped new : List ℕ) (checked_read : List Command) (last : Command) → Emits texts old read (whole checked_read) → Emits texts read popped (one (plain op.Pop)) → Emits texts popped new (one last) → Emits texts old new (whole (after_check checked_read last))
emits_after_check texts old read popped new checked_read last x y z =
    subst (λ (code : Code). Emits texts old new code) (sym (whole-append checked_read (plain op.Pop ∷ last ∷ []))) (emits_both x (emits_both y z))
