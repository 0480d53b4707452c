use Rattle.std.proofs.Common.{subst}
use Rattle.compile_session.proofs.FileLemmas.{script_is}
use Rattle.compile_session.proofs.TrialLemmas.{not_refused}
use Rattle.compile_session.specs.Answers.{IsSourceText}
use Rattle.compile_session.specs.declared.source.SourceText.{SourceText}
use Rattle.session_words.specs.Asked as asked
use Rattle.compile_session.proofs.generated.script_in.Goals as goal

pub unreachable-requires : goal.unreachable-requires
unreachable-requires c =
    let script = c.requires.script in
    not_refused c.args.bytes.now script.0 script.1 _ script.2 (subst (λ (x : SourceText). IsSourceText asked.All c.args.bytes.now x) c.in-Refused.is c.in_ok-source.ensures)

pub returns : goal.returns
returns c = (script_is asked.All c.args.bytes.now c.in_ok-source.source c.in-Script.script c.in_ok-source.ensures c.in-Script.is).is
