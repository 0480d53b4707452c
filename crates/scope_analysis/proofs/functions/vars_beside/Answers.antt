use Rattle.std.proofs.Common.{◌≡◌, List, Bool, map, sym, ap, ◌∙◌}
use Rattle.script_grammar.specs.declared.tree.Stmt.{Stmt}
use Rattle.script_grammar.specs.Interpretation.{Interpretation}
use Rattle.script_grammar.specs.Tree.{Stmts}
use Rattle.script_grammar.specs.Tree as model
use Rattle.script_grammar.specs.TreeLists.{stmts_of}
use Rattle.script_grammar.specs.TreeOf.{stmt_of, body_of}
use Rattle.script_grammar.proofs.StmtEquations.{body_of-Braced}
use Rattle.scope_analysis.specs.DeclaredNames.{top_var_names}
use Rattle.scope_analysis.specs.Kept.{under}
use Rattle.scope_analysis.specs.Uses.{beside_params}
use Rattle.scope_analysis.proofs.FunctionScopes.{same_some}
use Rattle.scope_analysis.proofs.functions.vars_beside.Goals as goal

pub returns-in_ok-vars-in-Braced : goal.returns-in_ok-vars-in-Braced
returns-in_ok-vars-in-Braced c = λ bodies b is.
    let i : Interpretation = under c.args.known.now.texts.now bodies in
    let body : model.BracedBody (stmts_of (map (stmt_of i) c.in-Braced.items.items)) ≡ b = same_some _ _ (sym (ap (body_of i) c.in-Braced.is ∙ body_of-Braced i c.in-Braced.items) ∙ is) in
    c.in_ok-vars-in-Braced.ensures bodies
    ∙ (ap (λ (xs : List Stmt). top_var_names (stmts_of (map (stmt_of i) xs))) c.deref.ensures.value
    ∙ (ap (λ (x : Bool). beside_params x (model.BracedBody (stmts_of (map (stmt_of i) c.in-Braced.items.items)))) (sym c.if-initialized.false)
    ∙ ap (beside_params c.args.initialized) body))
