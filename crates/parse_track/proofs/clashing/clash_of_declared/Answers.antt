use Rattle.std.proofs.Common.{sym, ap, ◌∙◌}
use Rattle.parse_track.specs.EarlyErrors.{smaller}
use Rattle.parse_track.specs.Clashes.{clash_at}
use Rattle.parse_track.specs.LexicalNames.{offset_for}
use Rattle.parse_track.specs.declared.clashing.LexicalOffsets.{LexicalOffsets}
use Rattle.parse_track.proofs.Smallest.{smaller_none}
use Rattle.parse_track.proofs.clashing.clash_of_declared.Goals as goal

pub returns-in-Var : goal.returns-in-Var
returns-in-Var c = rw c.in-Var.is (λ heads.
    c.lessen.ensures heads
    ∙ ap (smaller (offset_for heads c.args.found.now))
    (c.clashes_at.ensures heads ∙ (ap (λ (o : LexicalOffsets). clash_at heads (offset_for heads o) c.args.name.at) c.first_of.ensures ∙ sym (smaller_none _))))

pub returns-in-Lexical : goal.returns-in-Lexical
returns-in-Lexical c = rw c.in-Lexical.is (λ heads. sym (smaller_none (offset_for heads c.args.found.now)))

pub returns-in-Param : goal.returns-in-Param
returns-in-Param c = rw c.in-Param.is (λ heads. sym (smaller_none (offset_for heads c.args.found.now)))

pub returns-in-Catch : goal.returns-in-Catch
returns-in-Catch c = rw c.in-Catch.is (λ heads. sym (smaller_none (offset_for heads c.args.found.now)))
