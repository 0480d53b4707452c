-- Code that was made from nothing: the commands and the try notes that its bytes stand for.
use Rattle.std.proofs.Common.{◌≡◌, ℕ, ◌+◌, List, [], ◌∷◌, ◌++◌, map, refl, sym, ◌∙◌, ap, ap₂, lit<}
use Rattle.stencil_data.specs.declared.stencils.TryNote.{TryNote}
use Rattle.bytecode_buf.specs.declared.opcode.Op.TheVariants as op
use Rattle.bytecode_buf.specs.declared.waits.Wait.{Wait}
use Rattle.bytecode_buf.specs.Width.{width_of}
use Rattle.bytecode_buf.specs.Layout.{Numbered, Fits, AllFit, laid, layout, instructions}
use Rattle.bytecode_buf.specs.Command.{Command, Listed, command_of, command_at, listed_from, placed_from, ShowsCommands, plain}
use Rattle.bytecode_buf.specs.Pieces.{Piece, Whole, Waiting, Trying, Code, settled, notes, width_by, notes_by, note_of, command_width}
use Rattle.bytecode_buf.specs.Appends.{Appends, PieceFits, PiecesFit, numbered_width, piece_instruction, piece_of, laid_pieces}
use Rattle.bytecode_buf.specs.Emits.{emitted}
use Rattle.bytecode_buf.proofs.AppendLemmas.{Fits-jump, Fits-bare, command_of-jump, width-piece_of}
use Rattle.bytecode_buf.proofs.ReadBack.{layout_is_read_back}

laid_layout : (ps : List (Piece Numbered)) → laid_pieces ps ≡ layout (map piece_instruction ps)
laid_layout [] = refl
laid_layout (p ∷ ps) = ap (λ (l : List ℕ). laid (piece_instruction p) ++ l) (laid_layout ps)

piece_fits : (p : Piece Numbered) → PieceFits p → Fits (piece_instruction p)
piece_fits (Whole i) fit = fit
piece_fits (Waiting op aim) fit = Fits-jump op 0 fit (lit< tt)
piece_fits (Trying size depth) fit = Fits-bare op.Try (lit< tt) (lit< tt)

all_fit : (ps : List (Piece Numbered)) → PiecesFit ps → AllFit (map piece_instruction ps)
all_fit [] fit = tt
all_fit (p ∷ ps) fit = (piece_fits p fit.0, all_fit ps fit.1)

commands_settled : (texts : List (List ℕ)) (ps : List (Piece Numbered)) → PiecesFit ps → map (command_of texts) (map piece_instruction ps) ≡ settled (map (piece_of texts) ps)
commands_settled texts [] fit = refl
commands_settled texts (Whole i ∷ ps) fit = ap (λ (l : List Command). command_of texts i ∷ l) (commands_settled texts ps fit.1)
commands_settled texts (Waiting op aim ∷ ps) fit = ap₂ (λ (c : Command) (l : List Command). c ∷ l) (command_of-jump texts op 0 fit.0) (commands_settled texts ps fit.1)
commands_settled texts (Trying size depth ∷ ps) fit = ap (λ (l : List Command). plain op.Try ∷ l) (commands_settled texts ps fit.1)

listed_placed : (texts : List (List ℕ)) (at : ℕ) (is : List Numbered) → listed_from texts at is ≡ placed_from at (map (command_of texts) is)
listed_placed texts at [] = refl
listed_placed texts at (i ∷ is) = ap (λ (l : List Listed). record { at = at; command = command_at at (command_of texts i) } ∷ l) (listed_placed texts (at + width_of i.op) is)

note_placed : (texts : List (List ℕ)) (at : ℕ) (p : Piece Numbered) (further : List TryNote) → note_of at p further ≡ note_of at (piece_of texts p) further
note_placed texts at (Whole i) further = refl
note_placed texts at (Waiting op aim) further = refl
note_placed texts at (Trying size depth) further = refl

notes_placed : (texts : List (List ℕ)) (ps : List (Piece Numbered)) (at : ℕ) → notes_by numbered_width at ps ≡ notes_by command_width at (map (piece_of texts) ps)
notes_placed texts [] at = refl
notes_placed texts (p ∷ ps) at =
    note_placed texts at p _
    ∙ ap (λ (l : List TryNote). note_of at (piece_of texts p) l)
    (ap (λ (k : ℕ). notes_by numbered_width (at + k) ps) (sym (width-piece_of texts p)) ∙ notes_placed texts ps (at + width_by command_width (piece_of texts p)))

-- the bytes stand for the finished commands
pub finished_code : {texts : List (List ℕ)} {bytes : List ℕ} {ws : List Wait} {ns : List TryNote} {code : Code} → Appends texts (emitted [] [] []) (emitted bytes ws ns) code → ShowsCommands texts bytes (settled code)
finished_code {texts} {bytes} a = record {
  is = ap (listed_from texts 0) read_back
      ∙ (listed_placed texts 0 laid_out
      ∙ (ap (placed_from 0) (commands_settled texts a.pieces a.fit) ∙ ap (λ (c : Code). placed_from 0 (settled c)) a.stands));
  whole = ap layout read_back ∙ sym are_laid;
}
  where
    laid_out : List Numbered
    laid_out = map piece_instruction a.pieces

    are_laid : bytes ≡ layout laid_out
    are_laid = a.bytes ∙ laid_layout a.pieces

    read_back : instructions bytes ≡ laid_out
    read_back = ap instructions are_laid ∙ layout_is_read_back laid_out (all_fit a.pieces a.fit)

-- its try notes are all there are
pub finished_notes : {texts : List (List ℕ)} {bytes : List ℕ} {ws : List Wait} {ns : List TryNote} {code : Code} → Appends texts (emitted [] [] []) (emitted bytes ws ns) code → ns ≡ notes code
finished_notes {texts} a = a.notes ∙ (notes_placed texts a.pieces 0 ∙ ap notes a.stands)
