-- A code whose bytes are whole instructions gives the pieces of what it is listed as.
use Rattle.std.proofs.Common.{◌≡◌, ℕ, ◌+◌, ◌-◌, ◌%◌, ◌^◌, ◌<◌, List, [], ◌∷◌, ◌++◌, length, flat_map, refl, sym, ◌∙◌, ap, ap₂, subst, arith, length-append}
use Rattle.bytecode_buf.specs.declared.opcode.Shape.{Shape}
use Rattle.bytecode_buf.specs.declared.opcode.Shape.TheVariants as shape
use Rattle.bytecode_buf.specs.Bytes.{le_bytes}
use Rattle.bytecode_buf.specs.Command.{operand_of, operand_at, listed_from, listed}
use Rattle.bytecode_buf.specs.Layout.{Numbered, AllFit, laid, layout, instructions, IsWhole}
use Rattle.bytecode_buf.specs.Table.{number_of}
use Rattle.bytecode_buf.specs.Width.{shape_of, first_width, second_width, width_of}
use Rattle.bytecode_buf.proofs.ReadBack.{length-laid}
use Rattle.stencil_xdr_specs.specs.Image.{instruction_items, code_items}
use Rattle.stencil_xdr_read.proofs.Renamed.{whole_fit}
use Rattle.stencil_xdr_laws.specs.Pieces.{Piece, Plain, command_pieces, listed_pieces, code_size, code_pieces}
use Rattle.stencil_xdr_laws.proofs.Pieces.{Shows, shows_none, shows_both}

-- ---- one instruction

-- numbers with the same bytes in the widths of the shape are laid out alike
laid_alike : (i : Numbered) (s : Shape) (a b : ℕ) → shape_of i.op ≡ s → le_bytes (first_width s) i.a ≡ le_bytes (first_width s) a → le_bytes (second_width s) i.b ≡ le_bytes (second_width s) b
    → laid i ≡ laid (record { op = i.op; a = a; b = b })
laid_alike i s a b e first second = ap (λ (l : List ℕ). number_of i.op ∷ l) (subst (λ (s : Shape). le_bytes (first_width s) i.a ++ le_bytes (second_width s) i.b ≡ le_bytes (first_width s) a ++ le_bytes (second_width s) b) (sym e) (ap₂ (λ (k l : List ℕ). k ++ l) first second))

-- a jump's distance is told by its target
distance_back : (at distance : ℕ) → distance < 2 ^ 64 → distance ≡ ((at + distance) % 2 ^ 64 + (2 ^ 64 - at % 2 ^ 64)) % 2 ^ 64
distance_back at distance small = omega arith

instruction_shows : (texts : List (List ℕ)) (at : ℕ) (s : Shape) (i : Numbered) → shape_of i.op ≡ s → i.a < 256 ^ first_width s → Shows texts (instruction_items s i) (command_pieces at i.op (operand_at at (operand_of texts s i.a i.b)))
instruction_shows texts at shape.Atom i e small = record { are = refl }
instruction_shows texts at shape.Nothing i e small = record { are = ap (λ (l : List ℕ). Plain l ∷ []) (laid_alike i shape.Nothing 0 0 e refl refl) }
instruction_shows texts at shape.Aliased i e small = record { are = refl }
instruction_shows texts at shape.Jump i e small =
    record { are = ap (λ (l : List ℕ). Plain l ∷ []) (laid_alike i shape.Jump (((at + i.a) % 2 ^ 64 + (2 ^ 64 - at % 2 ^ 64)) % 2 ^ 64) 0 e (ap (le_bytes 8) (distance_back at i.a small)) refl) }
instruction_shows texts at s i e small = record { are = ap (λ (l : List ℕ). Plain l ∷ []) (laid_alike i s i.a 0 e refl refl) }

-- ---- a code

instructions_show : (texts : List (List ℕ)) (at : ℕ) (is : List Numbered) → AllFit is → Shows texts (flat_map (λ (i : Numbered). instruction_items (shape_of i.op) i) is) (flat_map listed_pieces (listed_from texts at is))
instructions_show texts at [] fit = shows_none
instructions_show texts at (i ∷ is) fit = shows_both (instruction_shows texts at (shape_of i.op) i refl fit.0.first) (instructions_show texts (at + width_of i.op) is fit.1)

layout_size : (texts : List (List ℕ)) (at : ℕ) (is : List Numbered) → length (layout is) ≡ code_size (listed_from texts at is)
layout_size texts at [] = refl
layout_size texts at (i ∷ is) = length-append (laid i) (layout is) ∙ ap₂ (λ (m n : ℕ). m + n) (length-laid i) (layout_size texts (at + width_of i.op) is)

pub code_shows : (texts : List (List ℕ)) (code : List ℕ) → IsWhole code → Shows texts (code_items code) (code_pieces (listed texts code))
code_shows texts code is_whole =
    let behind = instructions_show texts 0 (instructions code) (whole_fit code is_whole) in
    record { are = ap₂ (λ (n : ℕ) (l : List Piece). Plain (le_bytes 8 n) ∷ l) (sym (ap length is_whole) ∙ layout_size texts 0 (instructions code)) behind.are }
