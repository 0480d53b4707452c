use Rattle.std.proofs.Common.{Bool, map, ap, sym, ◌∙◌}
use Rattle.script_grammar.specs.TreeLists.{stmts_of}
use Rattle.script_grammar.specs.TreeOf.{stmt_of}
use Rattle.scope_analysis.specs.Kept.{under}
use Rattle.scope_analysis.specs.Scopes.{body_var_names}
use Rattle.scope_analysis.proofs.functions.body_vars.Goals as goal

pub returns-in_ok-vars_of : goal.returns-in_ok-vars_of
returns-in_ok-vars_of c = λ bodies.
    c.in_ok-vars_of.ensures bodies ∙ ap (λ (b : Bool). body_var_names b (stmts_of (map (stmt_of (under c.args.known.now.texts.now bodies)) c.args.items.now))) (sym c.if-initialized.true)
