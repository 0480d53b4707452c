use Rattle.emit_stmts.proofs.Values.{lexical_value}
use Rattle.emit_stmts.proofs.bindings.bind_lexical.Goals as goal

pub returns : goal.returns
returns c = lexical_value c.args.value.now c.args.name c.in_ok-value_or_undefined.ensures c.in_ok-initializing.ensures (c.in_ok-plain.ensures c.args.site.now.texts.now)
