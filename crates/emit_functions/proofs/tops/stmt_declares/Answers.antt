use Rattle.std.proofs.Common.{List, map, sym, ◌∙◌, ap}
use Rattle.script_grammar.specs.declared.tree.Bind.{Bind}
use Rattle.script_grammar.specs.Tree.{Stmt}
use Rattle.script_grammar.specs.TreeLists.{binds_of}
use Rattle.script_grammar.specs.TreeOf.{bind_of, stmt_of}
use Rattle.script_grammar.proofs.StmtEquations.{stmt_of-Binds}
use Rattle.scope_analysis.specs.DeclaredNames.{lexical_binds, top_lexical_name}
use Rattle.emit_stmts.specs.Declares.{declares}
use Rattle.emit_functions.proofs.tops.stmt_declares.Goals as goal

pub returns-in-Binds : goal.returns-in-Binds
returns-in-Binds c i =
    c.binds_declare.ensures i
    ∙ (ap (λ (bs : List Bind). declares (lexical_binds c.in-Binds.decl (binds_of (map (bind_of i) bs)))) c.deref.ensures.value
    ∙ sym (ap (λ (m : Stmt). declares (top_lexical_name m)) (ap (stmt_of i) c.in-Binds.is ∙ stmt_of-Binds i c.in-Binds.decl c.in-Binds.binds c.in-Binds.semi)))
