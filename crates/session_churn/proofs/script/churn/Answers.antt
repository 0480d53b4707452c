use Rattle.std.proofs.Common.{rules}
use Rattle.std.specs.Prelude.{length, ◌≡◌}
use Rattle.bytecode_buf.specs.Layout.{instructions}
use Rattle.session_churn.proofs.Totals.{script_has}
use Rattle.session_churn.proofs.script.churn.Goals as goal

pub returns-clause-instructions : goal.returns-clause-instructions
returns-clause-instructions g c =
    let counted : c.count_instructions-top.result ≡ length (instructions c.args.initial.now.parts.top.code) = search rules in
    script_has c.args.bytes.now c.args.initial.now c.count_instructions-top.result c.in_ok-found.found.instructions c.requires.initial counted c.in_ok-found.ensures.instructions
