use Rattle.std.proofs.Common.{◌≡◌, ℕ, map, drop}
use Rattle.script_grammar.specs.Tree.{Stmts}
use Rattle.script_grammar.specs.TreeLists.{clauses_of}
use Rattle.script_grammar.specs.TreeOf.{clause_of}
use Rattle.scope_analysis.specs.DeclaredNames.{has_text, texts_of, clauses_lexical_names}
use Rattle.scope_analysis.specs.Kept.{under}
use Rattle.scope_functions.proofs.declared.is_lexical_in_clauses.Given as goal

abbrev pub invariant-loop-clause : goal.invariant-loop-clause
invariant-loop-clause l = (bodies : ℕ → Stmts) → has_text (texts_of (clauses_lexical_names (clauses_of (map (clause_of (under l.wanted.texts.now bodies)) (drop l.clause-index l.clauses))))) l.wanted.units.now ≡ has_text (texts_of (clauses_lexical_names (clauses_of (map (clause_of (under l.wanted.texts.now bodies)) l.clauses)))) l.wanted.units.now
