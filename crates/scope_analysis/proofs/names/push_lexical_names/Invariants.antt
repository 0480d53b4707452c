use Rattle.std.proofs.Common.{◌≡◌, ◌++◌, map, drop}
use Rattle.script_grammar.specs.Interpretation.{Interpretation}
use Rattle.script_grammar.specs.TreeLists.{stmts_of}
use Rattle.script_grammar.specs.TreeOf.{stmt_of}
use Rattle.scope_analysis.specs.DeclaredNames.{lexical_names}
use Rattle.scope_analysis.specs.Kept.{declarations_in}
use Rattle.scope_analysis.proofs.names.push_lexical_names.Given as goal

abbrev pub invariant-loop-item : goal.invariant-loop-item
invariant-loop-item l =
    (i : Interpretation) → declarations_in i l.names.items ++ lexical_names (stmts_of (map (stmt_of i) (drop l.item-index l.items)))
    ≡ declarations_in i l.fn.names.items ++ lexical_names (stmts_of (map (stmt_of i) l.items))
