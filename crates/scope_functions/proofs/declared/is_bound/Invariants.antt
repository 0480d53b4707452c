use Rattle.std.proofs.Common.{◌≡◌, ℕ, map, drop}
use Rattle.script_grammar.specs.Tree.{Stmts}
use Rattle.script_grammar.specs.TreeLists.{binds_of}
use Rattle.script_grammar.specs.TreeOf.{bind_of}
use Rattle.scope_analysis.specs.DeclaredNames.{has_text, bound_names}
use Rattle.scope_analysis.specs.Kept.{under}
use Rattle.scope_functions.proofs.declared.is_bound.Given as goal

abbrev pub invariant-loop-bind : goal.invariant-loop-bind
invariant-loop-bind l = (bodies : ℕ → Stmts) → has_text (bound_names (binds_of (map (bind_of (under l.wanted.texts.now bodies)) (drop l.bind-index l.binds)))) l.wanted.units.now ≡ has_text (bound_names (binds_of (map (bind_of (under l.wanted.texts.now bodies)) l.binds))) l.wanted.units.now
