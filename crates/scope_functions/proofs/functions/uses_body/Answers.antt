use Rattle.std.proofs.Common.{◌≡◌, List, Option, Some, None, map, sym, ap, ◌∙◌}
use Rattle.script_grammar.specs.declared.tree.Expr.{Expr}
use Rattle.script_grammar.specs.declared.tree.Stmt.{Stmt}
use Rattle.script_grammar.specs.Interpretation.{Interpretation}
use Rattle.script_grammar.specs.Tree as model
use Rattle.script_grammar.specs.TreeLists.{stmts_of}
use Rattle.script_grammar.specs.TreeOf.{stmt_of, expr_of, body_of}
use Rattle.script_grammar.proofs.StmtEquations.{body_of-Braced, body_of-Short, body_of-Passed}
use Rattle.scope_analysis.specs.DeclaredNames.{has_text}
use Rattle.scope_analysis.specs.Kept.{under}
use Rattle.scope_analysis.specs.Uses.{uses_body}
use Rattle.scope_analysis.proofs.FunctionScopes.{same_some}
use Rattle.scope_functions.proofs.functions.uses_body.Goals as goal

pub returns-in-Braced : goal.returns-in-Braced
returns-in-Braced c = λ bodies b is.
    let i : Interpretation = under c.args.wanted.now.texts.now bodies in
    let same : model.BracedBody (stmts_of (map (stmt_of i) c.deref.result.now)) ≡ b =
    ap (λ (xs : List Stmt). model.BracedBody (stmts_of (map (stmt_of i) xs))) c.deref.ensures.value ∙ same_some _ _ (sym (ap (body_of i) c.in-Braced.is ∙ body_of-Braced i c.in-Braced.items) ∙ is) in
    c.uses_braced.ensures bodies ∙ ap (λ (x : model.Body). has_text (uses_body c.args.initialized x).own c.args.wanted.now.units.now) same

pub returns-in-Short : goal.returns-in-Short
returns-in-Short c = λ bodies b is.
    let i : Interpretation = under c.args.wanted.now.texts.now bodies in
    let same : model.ShortBody (expr_of i c.deref-in-Short.result.now) ≡ b =
    ap (λ (x : Expr). model.ShortBody (expr_of i x)) c.deref-in-Short.ensures ∙ same_some _ _ (sym (ap (body_of i) c.in-Short.is ∙ body_of-Short i c.in-Short.value) ∙ is) in
    c.uses_expr.ensures bodies ∙ ap (λ (x : model.Body). has_text (uses_body c.args.initialized x).own c.args.wanted.now.units.now) same

pub returns-in-Passed : goal.returns-in-Passed
returns-in-Passed c = λ bodies b is.
    let none : ◌≡◌ {A = Option model.Body} None (Some b) = sym (ap (body_of (under c.args.wanted.now.texts.now bodies)) c.in-Passed.is ∙ body_of-Passed (under c.args.wanted.now.texts.now bodies)) ∙ is in cc
