use Rattle.std.proofs.Common.{◌≡◌, List, map, length, sym, subst, ap, ◌∙◌}
use Rattle.script_grammar.specs.declared.tree.Stmt.{Stmt}
use Rattle.script_grammar.specs.Interpretation.{Interpretation}
use Rattle.script_grammar.specs.Tree.{Stmts}
use Rattle.script_grammar.specs.Tree as model
use Rattle.script_grammar.specs.TreeLists.{stmts_of}
use Rattle.script_grammar.specs.TreeOf.{stmt_of, body_of}
use Rattle.script_grammar.proofs.StmtEquations.{body_of-Braced}
use Rattle.scope_analysis.specs.Kept.{under}
use Rattle.scope_analysis.specs.Scopes.{scopes_body}
use Rattle.scope_analysis.specs.Walked.{within, Adds}
use Rattle.scope_analysis.proofs.FunctionScopes.{same_some}
use Rattle.scope_analysis.proofs.functions.add_body.Goals as goal

pub returns-in_ok-add_braced-in-Braced : goal.returns-in_ok-add_braced-in-Braced
returns-in_ok-add_braced-in-Braced c = λ bodies b is.
    let i : Interpretation = under c.args.known.now.texts.now bodies in
    let body : model.BracedBody (stmts_of (map (stmt_of i) c.deref.result.now)) ≡ b =
    ap (λ (xs : List Stmt). model.BracedBody (stmts_of (map (stmt_of i) xs))) c.deref.ensures.value ∙ same_some _ _ (sym (ap (body_of i) c.in-Braced.is ∙ body_of-Braced i c.in-Braced.items) ∙ is) in
    subst (λ (x : model.Body). Adds c.args.known.now.texts.now c.args.known.now.closed.now c.args.made.now.scopes.items c.args.made.now.closed c.add_braced.new.made.scopes.items c.add_braced.new.made.closed (scopes_body c.args.initialized x (within c.args.around (length c.args.made.now.scopes.items)))) body (c.in_ok-add_braced-in-Braced.ensures bodies)
