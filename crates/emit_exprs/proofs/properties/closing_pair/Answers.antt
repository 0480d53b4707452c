use Rattle.std.proofs.Common.{sym, ◌∙◌}
use Rattle.emit_exprs.proofs.Keys.{pair_proto, pair_other}
use Rattle.emit_exprs.proofs.properties.closing_pair.Goals as goal

pub returns-in_ok-plain : goal.returns-in_ok-plain
returns-in_ok-plain c = pair_proto c.args.key.now (λ bodies. sym c.if-is_proto.true ∙ c.is_proto.ensures bodies) (c.in_ok-plain.ensures c.args.site.now.texts.now)

pub returns-in_ok-closing : goal.returns-in_ok-closing
returns-in_ok-closing c = pair_other c.args.key.now (λ bodies. sym c.if-is_proto.false ∙ c.is_proto.ensures bodies) c.in_ok-closing.ensures
