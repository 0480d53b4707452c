use Rattle.std.proofs.Common.{refl}
use Rattle.scope_inner.proofs.FunctionRows.{script_row}
use Rattle.scope_inner.proofs.functions.script_sites.Goals as goal

pub returns : goal.returns
returns c = script_row c.args.texts.now c.args.scopes.now c.in_ok-chain.chain c.args.items.now c.in_ok-chain.ensures c.new.ensures.items refl c.in_ok-find_stmts.ensures
