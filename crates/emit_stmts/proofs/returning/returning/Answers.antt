use Rattle.std.proofs.Common.{sym, ◌∙◌}
use Rattle.emit_stmts.specs.Frames.{exits}
use Rattle.emit_stmts.specs.Positions.{position_of}
use Rattle.emit_stmts.proofs.ReturnRows.{returned_out}
use Rattle.emit_stmts.proofs.returning.returning.Goals as goal

pub returns-in_ok-plain-2 : goal.returns-in_ok-plain-2
returns-in_ok-plain-2 c =
    let s = c.args.site.now in
    returned_out (exits (position_of s).scopes (position_of s).frames) (sym c.if-have_exit.true ∙ c.have_exit.ensures) (c.in_ok-plain.ensures s.exprs.texts.now) c.in_ok-exits.ensures.made (c.in_ok-plain-2.ensures s.exprs.texts.now)
