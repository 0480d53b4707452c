use Rattle.parse_script.specs.Tokens.{tokens_in}
use Rattle.parse_top.proofs.TopLaws.{is_no_unexpected, is_no_too_deep}
use Rattle.parse_top.proofs.top.read_top.Goals as goal

pub returns-in-Ok : goal.returns-in-Ok
returns-in-Ok g c = λ items bodies text. c.in-Ok.ensures bodies items text

pub unreachable-requires : goal.unreachable-requires
unreachable-requires g c = is_no_unexpected g.H.Handler.shows_body c.args.file.now.texts.items (tokens_in c.args.file.now) c.requires.script c.in-Err-Unexpected.field-0 c.in-Err-Unexpected.ensures c.in-Err-Unexpected.field-0-0 c.in-Err-Unexpected.field-0-is

pub unreachable-requires-in-Err-TooDeep : goal.unreachable-requires-in-Err-TooDeep
unreachable-requires-in-Err-TooDeep g c = is_no_too_deep g.H.Handler.shows_body c.args.file.now.texts.items (tokens_in c.args.file.now) c.requires.script c.in-Err-TooDeep.field-0 c.in-Err-TooDeep.ensures c.in-Err-TooDeep.field-0-0 c.in-Err-TooDeep.field-0-is
