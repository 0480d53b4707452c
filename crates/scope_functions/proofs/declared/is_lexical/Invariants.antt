use Rattle.std.proofs.Common.{◌≡◌, ℕ, map, drop}
use Rattle.script_grammar.specs.Tree.{Stmts}
use Rattle.script_grammar.specs.TreeLists.{stmts_of}
use Rattle.script_grammar.specs.TreeOf.{stmt_of}
use Rattle.scope_analysis.specs.DeclaredNames.{has_text, texts_of, lexical_names}
use Rattle.scope_analysis.specs.Kept.{under}
use Rattle.scope_functions.proofs.declared.is_lexical.Given as goal

abbrev pub invariant-loop-item : goal.invariant-loop-item
invariant-loop-item l = (bodies : ℕ → Stmts) → has_text (texts_of (lexical_names (stmts_of (map (stmt_of (under l.wanted.texts.now bodies)) (drop l.item-index l.items))))) l.wanted.units.now ≡ has_text (texts_of (lexical_names (stmts_of (map (stmt_of (under l.wanted.texts.now bodies)) l.items)))) l.wanted.units.now
