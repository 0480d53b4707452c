use Rattle.std.proofs.Common.{[], ◌∷◌, Option, ap}
use Rattle.script_grammar.specs.TreeOf.{func_of}
use Rattle.scope_analysis.specs.DeclaredNames.{Text}
use Rattle.scope_inner.proofs.FindRows.{found_as}
use Rattle.scope_inner.proofs.exprs.find_named.Goals as goal

pub returns : goal.returns
returns c = found_as (λ i r. ap (λ (name : Option Text). record { func = func_of i c.args.func.now; kind = c.args.kind; name = name; around = r } ∷ []) (c.own_name.ensures i)) c.in_ok-find_function.ensures
