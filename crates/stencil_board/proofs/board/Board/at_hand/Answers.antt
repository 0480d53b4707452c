use Rattle.std.proofs.Common.{option_map, sym, subst}
use Rattle.stencil_board.specs.Views.{PassView}
use Rattle.stencil_board.specs.Passes.{BelongsTo, Keeps}
use Rattle.stencil_board.proofs.AtHand.{belongs_known, keeps_known}
use Rattle.stencil_board.proofs.board.Board.at_hand.Goals as goal

pub returns-in_err-share-in-Some-look-clause-keeps : goal.returns-in_err-share-in-Some-look-clause-keeps
returns-in_err-share-in-Some-look-clause-keeps g c =
    subst (λ (p : PassView). Keeps c.args.pass.now p) (sym c.look.ensures.pass)
    (keeps_known c.args.pass.now c.args.self.now c.args.number c.requires.belongs c.requires.number (option_map (λ found. found.now) c.look.result) c.look.ensures.agrees)

pub returns-in_ok-share-in-Some-look-clause-keeps : goal.returns-in_ok-share-in-Some-look-clause-keeps
returns-in_ok-share-in-Some-look-clause-keeps g c =
    subst (λ (p : PassView). Keeps c.args.pass.now p) (sym c.look.ensures.pass)
    (keeps_known c.args.pass.now c.args.self.now c.args.number c.requires.belongs c.requires.number (option_map (λ found. found.now) c.look.result) c.look.ensures.agrees)

pub returns-else-is_of-clause-keeps : goal.returns-else-is_of-clause-keeps
returns-else-is_of-clause-keeps g c =
    subst (λ (p : PassView). Keeps c.args.pass.now p) (sym c.look.ensures.pass)
    (keeps_known c.args.pass.now c.args.self.now c.args.number c.requires.belongs c.requires.number (option_map (λ found. found.now) c.look.result) c.look.ensures.agrees)

pub returns-in_err-share-in-Some-look-clause-belongs : goal.returns-in_err-share-in-Some-look-clause-belongs
returns-in_err-share-in-Some-look-clause-belongs g c =
    subst (λ (p : PassView). BelongsTo p c.args.self.now) (sym c.look.ensures.pass)
    (belongs_known c.args.pass.now c.args.self.now c.args.number c.requires.belongs c.requires.number (option_map (λ found. found.now) c.look.result) c.look.ensures.agrees)

pub returns-in_ok-share-in-Some-look-clause-belongs : goal.returns-in_ok-share-in-Some-look-clause-belongs
returns-in_ok-share-in-Some-look-clause-belongs g c =
    subst (λ (p : PassView). BelongsTo p c.args.self.now) (sym c.look.ensures.pass)
    (belongs_known c.args.pass.now c.args.self.now c.args.number c.requires.belongs c.requires.number (option_map (λ found. found.now) c.look.result) c.look.ensures.agrees)

pub returns-else-is_of-clause-belongs : goal.returns-else-is_of-clause-belongs
returns-else-is_of-clause-belongs g c =
    subst (λ (p : PassView). BelongsTo p c.args.self.now) (sym c.look.ensures.pass)
    (belongs_known c.args.pass.now c.args.self.now c.args.number c.requires.belongs c.requires.number (option_map (λ found. found.now) c.look.result) c.look.ensures.agrees)

pub returns-in-None-clause-belongs : goal.returns-in-None-clause-belongs
returns-in-None-clause-belongs g c =
    subst (λ (p : PassView). BelongsTo p c.args.self.now) (sym c.look.ensures.pass)
    (belongs_known c.args.pass.now c.args.self.now c.args.number c.requires.belongs c.requires.number (option_map (λ found. found.now) c.look.result) c.look.ensures.agrees)
