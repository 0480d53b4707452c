use Rattle.std.proofs.lemmas.Result.{IfOk-weaker}
use Rattle.scope_functions.proofs.functions.scopes.Goals as goal

pub returns : goal.returns
returns c = IfOk-weaker c.scopes_using.result _ _ (λ made given bodies b has knows. given bodies b has knows (c.own_uses.ensures bodies b has)) c.scopes_using.ensures
