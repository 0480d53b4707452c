use Rattle.std.proofs.Common.{◌≡◌, ◌∙◌, false, Some, None, sym, ap, subst}
use Rattle.stencil_board.specs.Views.{BoardView, PassView}
use Rattle.stencil_board.specs.Passes.{BelongsTo, HasAnother, Keeps, at_hand, is_of, with_known, with_own}
use Rattle.stencil_board.proofs.AtHand.{belongs_known, belongs_own, fits_not, hand_known, keeps_both, keeps_known, keeps_own, known_then, own_none}
use Rattle.stencil_board.proofs.board.Board.put.Goals as goal

pub returns-clause-keeps : goal.returns-clause-keeps
returns-clause-keeps g c =
    let pass = c.args.pass.now in
    let board = c.args.self.now in
    let stands = c.offer-stands.result.now in
    let belongs = c.requires.belongs in
    let number = c.requires.number in
    let known = with_known pass c.args.number (Some stands) in
    let file : c.self.inside.file ≡ pass.file = ap (λ (b : BoardView). b.file) c.self.view_is ∙ sym belongs.file in
    let other : is_of pass.file c.args.number stands ≡ false = ap (λ f. is_of f c.args.number stands) (sym file) ∙ sym c.is_of.ensures ∙ c.if-is_of.false in
    let lacks : at_hand known c.args.number ≡ None = hand_known pass board c.args.number belongs number (Some stands) (own_none pass c.args.number c.requires.lacking) ∙ fits_not pass.file c.args.number stands other in
    let first : Keeps pass known = keeps_known pass board c.args.number belongs number (Some stands) c.offer-stands.ensures.agrees in
    let second : Keeps known (with_own known c.args.number (Some c.new-3.result)) = keeps_own known board c.args.number (belongs_known pass board c.args.number belongs number (Some stands) c.offer-stands.ensures.agrees) number c.new-3.result lacks in
    subst (λ (p : PassView). Keeps pass p) (sym (c.keep.ensures ∙ ap (λ (p : PassView). with_own p c.args.number (Some c.new-3.result)) c.offer-stands.ensures.pass)) (keeps_both pass known (with_own known c.args.number (Some c.new-3.result)) first second)

pub returns-then-is_of-clause-keeps : goal.returns-then-is_of-clause-keeps
returns-then-is_of-clause-keeps g c =
    subst (λ (p : PassView). Keeps c.args.pass.now p) (sym c.offer-stands.ensures.pass)
    (keeps_known c.args.pass.now c.args.self.now c.args.number c.requires.belongs c.requires.number (Some c.offer-stands.result.now) c.offer-stands.ensures.agrees)

pub returns-in_err-other-2-clause-keeps : goal.returns-in_err-other-2-clause-keeps
returns-in_err-other-2-clause-keeps g c =
    subst (λ (p : PassView). Keeps c.args.pass.now p) (sym c.offer-stands.ensures.pass)
    (keeps_known c.args.pass.now c.args.self.now c.args.number c.requires.belongs c.requires.number (Some c.offer-stands.result.now) c.offer-stands.ensures.agrees)

pub returns-clause-belongs : goal.returns-clause-belongs
returns-clause-belongs g c =
    let pass = c.args.pass.now in
    let board = c.args.self.now in
    let stands = c.offer-stands.result.now in
    let number = c.requires.number in
    let known = with_known pass c.args.number (Some stands) in
    let file : c.self.inside.file ≡ pass.file = ap (λ (b : BoardView). b.file) c.self.view_is ∙ sym c.requires.belongs.file in
    let other : is_of pass.file c.args.number stands ≡ false = ap (λ f. is_of f c.args.number stands) (sym file) ∙ sym c.is_of.ensures ∙ c.if-is_of.false in
    let another : HasAnother known c.args.number = record { other = stands; known = known_then pass board c.args.number c.requires.belongs number (Some stands); apart = other } in
    let first : BelongsTo known board = belongs_known pass board c.args.number c.requires.belongs number (Some stands) c.offer-stands.ensures.agrees in
    subst (λ (p : PassView). BelongsTo p board) (sym (c.keep.ensures ∙ ap (λ (p : PassView). with_own p c.args.number (Some c.new-3.result)) c.offer-stands.ensures.pass)) (belongs_own known board c.args.number first number (Some c.new-3.result) another)

pub returns-then-is_of-clause-belongs : goal.returns-then-is_of-clause-belongs
returns-then-is_of-clause-belongs g c =
    subst (λ (p : PassView). BelongsTo p c.args.self.now) (sym c.offer-stands.ensures.pass)
    (belongs_known c.args.pass.now c.args.self.now c.args.number c.requires.belongs c.requires.number (Some c.offer-stands.result.now) c.offer-stands.ensures.agrees)

pub returns-in_err-other-2-clause-belongs : goal.returns-in_err-other-2-clause-belongs
returns-in_err-other-2-clause-belongs g c =
    subst (λ (p : PassView). BelongsTo p c.args.self.now) (sym c.offer-stands.ensures.pass)
    (belongs_known c.args.pass.now c.args.self.now c.args.number c.requires.belongs c.requires.number (Some c.offer-stands.result.now) c.offer-stands.ensures.agrees)
