use Rattle.std.proofs.Common.{option_map, sym, subst}
use Rattle.stencil_board.specs.Views.{PassView}
use Rattle.stencil_board.specs.Passes.{BelongsTo}
use Rattle.stencil_board.proofs.AtHand.{belongs_known}
use Rattle.stencil_board.proofs.board.Board.known.Goals as goal

pub returns-in-Some-clause-belongs : goal.returns-in-Some-clause-belongs
returns-in-Some-clause-belongs g c =
    subst (λ (p : PassView). BelongsTo p c.args.self.now) (sym c.look.ensures.pass)
    (belongs_known c.args.pass.now c.args.self.now c.args.number c.requires.belongs c.requires.number (option_map (λ found. found.now) c.look.result) c.look.ensures.agrees)

pub returns-in-None-clause-belongs : goal.returns-in-None-clause-belongs
returns-in-None-clause-belongs g c =
    subst (λ (p : PassView). BelongsTo p c.args.self.now) (sym c.look.ensures.pass)
    (belongs_known c.args.pass.now c.args.self.now c.args.number c.requires.belongs c.requires.number (option_map (λ found. found.now) c.look.result) c.look.ensures.agrees)
