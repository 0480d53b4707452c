use Rattle.std.proofs.Common.{refl}
use Rattle.compile_first_pass.proofs.FewTokens.{small_file}
use Rattle.compile_first_pass.proofs.PassLemmas.{script_apart, script_checked, script_refused, syntax_of}
use Rattle.compile_first_pass.proofs.pass.pass_over.Goals as goal

pub returns-in-Ok-2 : goal.returns-in-Ok-2
returns-in-Ok-2 g c =
    let file = c.args.file in
    let apart = script_apart g.H.Handler.shows_body file c.in_ok-script.field-0 c.in-Ok.script c.in_ok-skimmed.skimmed c.in_ok-script.ensures c.in-Ok.is c.in_ok-skimmed.ensures in
    syntax_of file apart.0 c.in-Ok-2.field-0 (script_checked file apart.0 c.in_ok-functions.field-0 c.in-Ok-2.field-0 (c.in_ok-functions.ensures file apart.0 c.requires.sound apart.1 refl) c.in-Ok-2.is) c.requires.sound

pub returns-in-Err-2 : goal.returns-in-Err-2
returns-in-Err-2 g c =
    let file = c.args.file in
    let apart = script_apart g.H.Handler.shows_body file c.in_ok-script.field-0 c.in-Ok.script c.in_ok-skimmed.skimmed c.in_ok-script.ensures c.in-Ok.is c.in_ok-skimmed.ensures in
    script_refused file apart.0 c.in_ok-functions.field-0 c.in-Err-2.fault (c.in_ok-functions.ensures file apart.0 c.requires.sound apart.1 refl) c.in-Err-2.is

pub check_skimmed-requires : goal.check_skimmed-requires
check_skimmed-requires g c =
    let file = c.args.file in
    let apart = script_apart g.H.Handler.shows_body file c.in_ok-script.field-0 c.in-Ok.script c.in_ok-skimmed.skimmed c.in_ok-script.ensures c.in-Ok.is c.in_ok-skimmed.ensures in
    small_file file apart.0 c.in_ok-skimmed.skimmed c.requires.sound apart.1 c.requires.few
