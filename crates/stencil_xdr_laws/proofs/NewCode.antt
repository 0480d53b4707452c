-- The whole instructions of a code, laid out with new numbers of the same texts, stand for the same commands.
use Rattle.std.proofs.Common.{◌≡◌, ℕ, ◌+◌, ◌^◌, ◌<◌, ◌≤◌, List, [], ◌∷◌, length, map, refl, sym, ◌∙◌, ap, ap₂, subst, arith, length-append}
use Rattle.bytecode_buf.specs.declared.opcode.Shape.{Shape}
use Rattle.bytecode_buf.specs.declared.opcode.Shape.TheVariants as shape
use Rattle.bytecode_buf.specs.Command.{Command, Listed, Operand, Text, operand_of, command_of, command_at, listed_from, ShowsCommands}
use Rattle.bytecode_buf.specs.InRange.{AtomWithin}
use Rattle.bytecode_buf.specs.Layout.{Numbered, Fits, AllFit, instructions, laid, layout}
use Rattle.bytecode_buf.specs.Width.{shape_of, width_of, first_width}
use Rattle.bytecode_buf.proofs.ReadBack.{layout_is_read_back, length-laid}
use Rattle.stencil_xdr_laws.specs.Texts.{AtomsWithin}
use Rattle.stencil_xdr_read.proofs.Anew.{width_anew}
use Rattle.stencil_xdr_read.proofs.CodeLoop.{AreBytes}
use Rattle.stencil_xdr_read.proofs.Renamed.{renamed_by, renamed_instruction, renamed_code}
use Rattle.stencil_xdr_laws.proofs.HeldCode.{instructions_held}
use Rattle.stencil_xdr_laws.proofs.NewTexts.{NamesSame}

module _ {texts order : List (List ℕ)} {N : ℕ → ℕ} (new : NamesSame texts order N) where
  -- ---- one instruction

  instruction_fits : (s : Shape) (i : Numbered) → shape_of i.op ≡ s → Fits i → Fits (renamed_by s N i)
  instruction_fits shape.Atom i e f = record { first = subst (λ (s : Shape). N i.a < 256 ^ first_width s) (sym e) (new.small i.a); second = f.second }
  instruction_fits _ i e f = f

  atom_within : (s : Shape) (i : Numbered) → shape_of i.op ≡ s → AtomWithin (shape_of (renamed_by s N i).op) (renamed_by s N i).a (length order)
  atom_within shape.Atom i e = subst (λ (s : Shape). AtomWithin s (N i.a) (length order)) (sym e) (new.below i.a)
  atom_within _ i e = subst (λ (s : Shape). AtomWithin s i.a (length order)) (sym e) tt

  command_same : (s : Shape) (i : Numbered) → shape_of i.op ≡ s → command_of order (renamed_by s N i) ≡ command_of texts i
  command_same shape.Atom i e =
      ap (λ (o : Operand). let c : Command = record { op = i.op; operand = o } in c) (subst (λ (s : Shape). operand_of order s (N i.a) i.b ≡ operand_of texts s i.a i.b) (sym e) (ap (λ (t : List ℕ). Text t) (new.same i.a)))
  command_same _ i e = ap (λ (o : Operand). let c : Command = record { op = i.op; operand = o } in c) (subst (λ (s : Shape). operand_of order s i.a i.b ≡ operand_of texts s i.a i.b) (sym e) refl)

  -- ---- all instructions

  all_fit : (is : List Numbered) → AllFit is → AllFit (map (renamed_instruction N) is)
  all_fit [] f = tt
  all_fit (i ∷ is) f = (instruction_fits (shape_of i.op) i refl f.0, all_fit is f.1)

  atoms_within : (is : List Numbered) → AtomsWithin (length order) (map (renamed_instruction N) is)
  atoms_within [] = tt
  atoms_within (i ∷ is) = (atom_within (shape_of i.op) i refl, atoms_within is)

  listed_same : (at : ℕ) (is : List Numbered) → listed_from order at (map (renamed_instruction N) is) ≡ listed_from texts at is
  listed_same at [] = refl
  listed_same at (i ∷ is) =
      ap₂ (λ (c : Command) (l : List Listed). let x : Listed = record { at = at; command = command_at at c } in x ∷ l)
      (command_same (shape_of i.op) i refl)
      (ap (λ (w : ℕ). listed_from order (at + w) (map (renamed_instruction N) is)) (width_anew N (shape_of i.op) i) ∙ listed_same (at + width_of i.op) is)

  same_room : (is : List Numbered) → length (layout (map (renamed_instruction N) is)) ≡ length (layout is)
  same_room [] = refl
  same_room (i ∷ is) =
      length-append (laid (renamed_instruction N i)) (layout (map (renamed_instruction N) is))
      ∙ (ap₂ (λ (x : ℕ) (y : ℕ). x + y) (length-laid (renamed_instruction N i) ∙ (width_anew N (shape_of i.op) i ∙ sym (length-laid i))) (same_room is)
      ∙ sym (length-append (laid i) (layout is)))

  -- ---- codes

  read_back : (code : List ℕ) → AreBytes code → instructions (renamed_code N code) ≡ map (renamed_instruction N) (instructions code)
  read_back code are = layout_is_read_back (map (renamed_instruction N) (instructions code)) (all_fit (instructions code) (instructions_held code are).fit)

  pub code_shows_same : (code : List ℕ) (commands : List Command) → AreBytes code → ShowsCommands texts code commands → ShowsCommands order (renamed_code N code) commands
  code_shows_same code commands are shows = record {
    is = ap (listed_from order 0) (read_back code are) ∙ (listed_same 0 (instructions code) ∙ shows.is);
    whole = ap layout (read_back code are);
  }

  pub code_stands : (code : List ℕ) → AreBytes code → AtomsWithin (length order) (instructions (renamed_code N code))
  code_stands code are = subst (AtomsWithin (length order)) (sym (read_back code are)) (atoms_within (instructions code))

  pub code_no_longer : (code : List ℕ) → AreBytes code → length (renamed_code N code) ≤ length code
  code_no_longer code are = omega (arith, same_room (instructions code), (instructions_held code are).room)
