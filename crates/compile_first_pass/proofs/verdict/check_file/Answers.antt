use Rattle.compile_first_pass.proofs.FewTokens.{file_few}
use Rattle.compile_first_pass.proofs.verdict.check_file.Goals as goal

pub check_over-requires-clause-few : goal.check_over-requires-clause-few
check_over-requires-clause-few g c = file_few c.in-Ok.file c.args.bytes.now c.in-Ok.ensures.utf8 c.in-Ok.ensures.tokens c.requires
