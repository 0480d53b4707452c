use Rattle.std.proofs.Common.{Some, sym, subst}
use Rattle.stencil_board.specs.Views.{PassView}
use Rattle.stencil_board.specs.Passes.{BelongsTo}
use Rattle.stencil_board.proofs.AtHand.{belongs_known}
use Rattle.stencil_board.proofs.board.Board.publish.Goals as goal

pub returns-clause-belongs : goal.returns-clause-belongs
returns-clause-belongs g c =
    subst (λ (p : PassView). BelongsTo p c.args.self.now) (sym c.offer-stands.ensures.pass)
    (belongs_known c.args.pass.now c.args.self.now c.args.number c.requires.belongs c.requires.number (Some c.offer-stands.result.now) c.offer-stands.ensures.agrees)
