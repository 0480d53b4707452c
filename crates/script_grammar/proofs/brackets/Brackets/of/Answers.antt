use Rattle.std.proofs.Common.{reverse, arith}
use Rattle.script_grammar.proofs.Taking.{after-fits, taken-end}
use Rattle.script_grammar.proofs.brackets.Brackets.of.Goals as goal

pub loop-token-preserved : goal.loop-token-preserved
loop-token-preserved c =
    let new = c.take.new.self in
    after-fits c.args.tokens.now c.loop-token.token c.in_ok-take.field-0 new.partners.items (reverse new.stack.items) c.if-not-branch.false c.in_ok-take.ensures

pub returns : goal.returns
returns c =
    let walk = c.loop-token.walk in let ended = c.loop-token-test.false in let below = c.loop-token.auto.token-end in let some = c.requires.some in
    taken-end c.args.tokens.now c.loop-token.token _ walk.partners.items (reverse walk.stack.items) c.stop_at-2.result (omega arith) (omega arith) c.stop_at-2.ensures c.loop-token.invariant
