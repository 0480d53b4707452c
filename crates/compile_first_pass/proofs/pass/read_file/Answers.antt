use Rattle.std.proofs.Common.{length}
use Rattle.script_grammar.specs.Fault.{Unexpected, TooDeep}
use Rattle.script_grammar.specs.Tree.{no_stmts}
use Rattle.parse_script.specs.Reading.{under}
use Rattle.parse_script.specs.Tokens.{tokens_in}
use Rattle.parse_script.proofs.ReadLemmas.{read_unexpected, read_too_deep}
use Rattle.compile_first_pass.proofs.FileLemmas.{fault_of}
use Rattle.compile_first_pass.proofs.TokenStarts.{starts_same}
use Rattle.compile_first_pass.proofs.pass.read_file.Goals as goal

pub returns-in-Ok : goal.returns-in-Ok
returns-in-Ok g c = c.in-Ok.ensures

pub returns-in-Err-Unexpected : goal.returns-in-Err-Unexpected
returns-in-Err-Unexpected g c = λ bytes t.
    let file = c.args.file.now in
    fault_of file (length bytes) bytes Unexpected c.in-Err-Unexpected.token c.start_of-offset.result t
    (read_unexpected g.H.Handler.shows_body (under file.texts.items (λ n. no_stmts)) (tokens_in file) c.in-Err-Unexpected.field-0 c.in-Err-Unexpected.token c.in-Err-Unexpected.field-0-is (c.in-Err-Unexpected.ensures (λ n. no_stmts)))
    (starts_same file.known.get file.known.set file.texts.items file.tokens.items c.deref.result.now c.in-Err-Unexpected.token _ c.start_of-offset.result c.deref.ensures.value c.in-Err-Unexpected.token-is (c.start_of-offset.ensures file.known.get file.known.set file.texts.items))

pub returns-in-Err-TooDeep : goal.returns-in-Err-TooDeep
returns-in-Err-TooDeep g c = λ bytes t.
    let file = c.args.file.now in
    fault_of file (length bytes) bytes TooDeep c.in-Err-TooDeep.token c.start_of-offset-in-Err-TooDeep.result t
    (read_too_deep g.H.Handler.shows_body (under file.texts.items (λ n. no_stmts)) (tokens_in file) c.in-Err-TooDeep.field-0 c.in-Err-TooDeep.token c.in-Err-TooDeep.field-0-is (c.in-Err-TooDeep.ensures (λ n. no_stmts)))
    (starts_same file.known.get file.known.set file.texts.items file.tokens.items c.deref-in-Err-TooDeep.result.now c.in-Err-TooDeep.token _ c.start_of-offset-in-Err-TooDeep.result c.deref-in-Err-TooDeep.ensures.value c.in-Err-TooDeep.token-is (c.start_of-offset-in-Err-TooDeep.ensures file.known.get file.known.set file.texts.items))
