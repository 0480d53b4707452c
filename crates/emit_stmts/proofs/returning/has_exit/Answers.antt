use Rattle.std.proofs.Common.{Bool, if◌then◌else◌, [], sym, ◌∙◌, ap}
use Rattle.bytecode_buf.specs.declared.opcode.Op.TheVariants as op
use Rattle.emit_exprs.specs.Whole.{just}
use Rattle.emit_stmts.specs.declared.frames.Frame.{Frame}
use Rattle.emit_stmts.specs.Frames.{exit}
use Rattle.emit_stmts.specs.Leaving.{has_code}
use Rattle.emit_stmts.specs.Positions.{position_of, frame_in}
use Rattle.emit_stmts.proofs.ReturnRows.{has_code-if}
use Rattle.emit_stmts.proofs.returning.has_exit.Goals as goal

pub returns-in-Entered : goal.returns-in-Entered
returns-in-Entered c =
    has_code-if _
    ∙ (ap (λ (b : Bool). has_code (if b then just op.PopLexicalEnv else [])) c.has_env.ensures
    ∙ sym (ap (λ (f : Frame). has_code (exit (position_of c.args.site.now).scopes (frame_in c.args.site.now.exprs.texts.now f))) c.in-Entered.is))
