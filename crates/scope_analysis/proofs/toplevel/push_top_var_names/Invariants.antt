use Rattle.std.proofs.Common.{◌≡◌, ◌++◌, map, drop}
use Rattle.script_grammar.specs.Interpretation.{Interpretation, text_of}
use Rattle.script_grammar.specs.TreeLists.{stmts_of}
use Rattle.script_grammar.specs.TreeOf.{stmt_of}
use Rattle.scope_analysis.specs.DeclaredNames.{all_top_var_names}
use Rattle.scope_analysis.proofs.toplevel.push_top_var_names.Given as goal

abbrev pub invariant-loop-item : goal.invariant-loop-item
invariant-loop-item l =
    (i : Interpretation) → map (text_of i) l.atoms.items ++ all_top_var_names (stmts_of (map (stmt_of i) (drop l.item-index l.items)))
    ≡ map (text_of i) l.fn.atoms.items ++ all_top_var_names (stmts_of (map (stmt_of i) l.items))
