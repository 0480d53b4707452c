use Rattle.session_words.specs.Asked as asked
use Rattle.compile_session.proofs.FileLemmas.{is_fine, lacks_function}
use Rattle.compile_session.proofs.source.script_verdict.Goals as goal

pub returns-in-None : goal.returns-in-None
returns-in-None c = λ bytes items valid. is_fine (asked.wanted c.args.want.now) bytes items c.args.functions c.missing_of.result valid c.missing_of.ensures c.in-None.is

pub returns-in-Some : goal.returns-in-Some
returns-in-Some c = λ bytes items valid. lacks_function (asked.wanted c.args.want.now) bytes items c.args.functions c.missing_of.result c.in-Some.number valid c.missing_of.ensures c.in-Some.is
