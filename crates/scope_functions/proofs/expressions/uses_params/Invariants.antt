use Rattle.std.proofs.Common.{◌≡◌, ℕ, map, drop}
use Rattle.script_grammar.specs.Tree.{Stmts}
use Rattle.script_grammar.specs.TreeLists.{params_of}
use Rattle.script_grammar.specs.TreeOf.{param_of}
use Rattle.scope_analysis.specs.DeclaredNames.{has_text}
use Rattle.scope_analysis.specs.Uses.{uses_params}
use Rattle.scope_analysis.specs.Kept.{under}
use Rattle.scope_functions.proofs.expressions.uses_params.Given as goal

abbrev pub invariant-loop-param : goal.invariant-loop-param
invariant-loop-param l = (bodies : ℕ → Stmts) → has_text (uses_params (params_of (map (param_of (under l.wanted.texts.now bodies)) (drop l.param-index l.params)))).own l.wanted.units.now ≡ has_text (uses_params (params_of (map (param_of (under l.wanted.texts.now bodies)) l.params))).own l.wanted.units.now
