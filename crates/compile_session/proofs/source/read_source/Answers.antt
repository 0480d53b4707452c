use Rattle.std.proofs.Common.{subst}
use Rattle.session_words.specs.Asked as asked
use Rattle.compile_first_pass.specs.declared.pass.FirstPass.{FirstPass}
use Rattle.compile_first_pass.specs.Passes.{IsFirstPass}
use Rattle.compile_session.proofs.FileLemmas.{any_want}
use Rattle.compile_session.proofs.source.read_source.Goals as goal

pub returns-in-Script : goal.returns-in-Script
returns-in-Script c = c.script_text.ensures c.args.bytes.now (subst (λ (p : FirstPass). IsFirstPass c.args.bytes.now p) c.in-Script.is c.in_ok-pass.ensures)

pub returns-in-Refused : goal.returns-in-Refused
returns-in-Refused c =
    any_want (asked.wanted c.args.want.now) c.args.bytes.now c.in-Refused.fault (subst (λ (p : FirstPass). IsFirstPass c.args.bytes.now p) c.in-Refused.is c.in_ok-pass.ensures)
