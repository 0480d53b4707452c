use Rattle.std.proofs.Common.{subst}
use Rattle.session_words.specs.Asked as asked
use Rattle.compile_first_pass.specs.declared.verdict.FileVerdict.{FileVerdict}
use Rattle.compile_first_pass.specs.Passes.{IsVerdict}
use Rattle.compile_session.proofs.FileLemmas.{any_want}
use Rattle.compile_session.proofs.source.check_source.Goals as goal

pub returns-in-Script : goal.returns-in-Script
returns-in-Script c =
    let fine = subst (λ (v : FileVerdict). IsVerdict c.args.bytes.now v) c.in-Script.is c.in_ok-verdict.ensures in
    c.script_verdict.ensures c.args.bytes.now fine.0 fine.1

pub returns-in-Refused : goal.returns-in-Refused
returns-in-Refused c =
    any_want (asked.wanted c.args.want.now) c.args.bytes.now c.in-Refused.fault (subst (λ (v : FileVerdict). IsVerdict c.args.bytes.now v) c.in-Refused.is c.in_ok-verdict.ensures)
