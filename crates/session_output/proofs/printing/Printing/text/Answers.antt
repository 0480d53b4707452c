use Rattle.std.proofs.Common.{arith, subst}
use Rattle.std.proofs.lemmas.Option.{get_or_from_slice_get}
use Rattle.script_image.specs.declared.pieces.Piece.{Piece}
use Rattle.script_image.specs.Pieces.{IsTextOf}
use Rattle.session_output.proofs.Pieces.{piece_at}
use Rattle.session_output.proofs.printing.Printing.text.Goals as goal

pub piece_text-requires : goal.piece_text-requires
piece_text-requires c =
    let below = c.requires.number in
    let there = c.requires.can.there in
    piece_at c.args.self.now.script.now c.args.self.now.pieces.now c.args.number _ c.requires.can.each (omega (arith, below, there))

pub returns : goal.returns
returns c = λ piece at.
    subst (λ (p : Piece). IsTextOf c.args.self.now.script.now.listing c.args.self.now.script.now.stencil p c.in_ok-text.text.items)
    (get_or_from_slice_get c.args.self.now.pieces.now c.args.number piece _ at) c.in_ok-text.ensures
