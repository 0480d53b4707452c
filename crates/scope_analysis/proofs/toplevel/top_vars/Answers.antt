use Rattle.std.proofs.Common.{ℕ, ◌++◌, List, map, ap, ◌∙◌}
use Rattle.script_grammar.specs.TreeLists.{stmts_of}
use Rattle.script_grammar.specs.TreeOf.{stmt_of}
use Rattle.stencil_data.specs.StandsFor.{text_at}
use Rattle.scope_analysis.specs.DeclaredNames.{first_ones, all_top_var_names}
use Rattle.scope_analysis.specs.Kept.{under}
use Rattle.scope_analysis.proofs.toplevel.top_vars.Goals as goal

pub returns : goal.returns
returns c = λ bodies.
    c.in_ok-vars.ensures
    ∙ ap first_ones (ap (map (text_at c.args.texts.now)) c.deref.ensures.value
    ∙ (c.in_ok-push_top_var_names.ensures (under c.args.texts.now bodies)
    ∙ ap (λ (xs : List ℕ). map (text_at c.args.texts.now) xs ++ all_top_var_names (stmts_of (map (stmt_of (under c.args.texts.now bodies)) c.args.items.now))) c.new-atoms.ensures.items))
