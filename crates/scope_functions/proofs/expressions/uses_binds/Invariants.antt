use Rattle.std.proofs.Common.{◌≡◌, ℕ, map, drop}
use Rattle.script_grammar.specs.Tree.{Stmts}
use Rattle.script_grammar.specs.TreeLists.{binds_of}
use Rattle.script_grammar.specs.TreeOf.{bind_of}
use Rattle.scope_analysis.specs.DeclaredNames.{has_text}
use Rattle.scope_analysis.specs.Uses.{uses_binds}
use Rattle.scope_analysis.specs.Kept.{under}
use Rattle.scope_functions.proofs.expressions.uses_binds.Given as goal

abbrev pub invariant-loop-bind : goal.invariant-loop-bind
invariant-loop-bind l = (bodies : ℕ → Stmts) → has_text (uses_binds (binds_of (map (bind_of (under l.wanted.texts.now bodies)) (drop l.bind-index l.binds)))).own l.wanted.units.now ≡ has_text (uses_binds (binds_of (map (bind_of (under l.wanted.texts.now bodies)) l.binds))).own l.wanted.units.now
