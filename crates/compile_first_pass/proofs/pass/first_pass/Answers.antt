use Rattle.compile_first_pass.proofs.FewTokens.{file_few}
use Rattle.compile_first_pass.proofs.pass.first_pass.Goals as goal

pub pass_over-requires-clause-few : goal.pass_over-requires-clause-few
pass_over-requires-clause-few g c = file_few c.in-Ok.file c.args.bytes.now c.in-Ok.ensures.utf8 c.in-Ok.ensures.tokens c.requires
