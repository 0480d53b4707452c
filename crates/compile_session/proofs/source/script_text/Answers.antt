use Rattle.std.proofs.Common.{arith}
use Rattle.session_words.specs.Asked as asked
use Rattle.compile_session.proofs.FileLemmas.{has_wanted, lacks_one}
use Rattle.compile_session.proofs.source.script_text.Goals as goal

pub returns-in-None : goal.returns-in-None
returns-in-None c = λ bytes s.
    has_wanted (asked.wanted c.args.want.now) bytes c.args.script c.len.result c.missing_of.result s
    (let e = c.len.ensures in let o = c.args.script.functions.ok.0 in omega (arith, e, o)) c.missing_of.ensures c.in-None.is

pub returns-in-Some : goal.returns-in-Some
returns-in-Some c = λ bytes s.
    lacks_one (asked.wanted c.args.want.now) bytes c.args.script c.len.result c.missing_of.result c.in-Some.number s
    (let e = c.len.ensures in let o = c.args.script.functions.ok.0 in omega (arith, e, o)) c.missing_of.ensures c.in-Some.is
