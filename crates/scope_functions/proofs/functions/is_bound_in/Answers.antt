use Rattle.std.proofs.Common.{Bool, map, sym, ap, ◌∙◌}
use Rattle.script_grammar.specs.TreeLists.{stmts_of}
use Rattle.script_grammar.specs.TreeOf.{stmt_of}
use Rattle.scope_analysis.specs.DeclaredNames.{has_text, texts_of, top_lexical_names, all_top_var_names}
use Rattle.scope_analysis.specs.Kept.{under}
use Rattle.scope_analysis.specs.Uses.{body_vars}
use Rattle.scope_functions.proofs.OwnUses.{has_first, used_first, used_behind}
use Rattle.scope_functions.proofs.functions.is_bound_in.Goals as goal

pub returns-then-is_top_lexical : goal.returns-then-is_top_lexical
returns-then-is_top_lexical c = λ bodies. used_first (texts_of (top_lexical_names (stmts_of (map (stmt_of (under c.args.wanted.now.texts.now bodies)) c.args.items.now)))) (body_vars c.args.initialized (stmts_of (map (stmt_of (under c.args.wanted.now.texts.now bodies)) c.args.items.now))) c.args.wanted.now.units.now _ (c.is_top_lexical.ensures bodies) c.if-is_top_lexical.true

pub returns-then-initialized : goal.returns-then-initialized
returns-then-initialized c = λ bodies.
    used_behind (texts_of (top_lexical_names (stmts_of (map (stmt_of (under c.args.wanted.now.texts.now bodies)) c.args.items.now)))) (body_vars c.args.initialized (stmts_of (map (stmt_of (under c.args.wanted.now.texts.now bodies)) c.args.items.now))) c.args.wanted.now.units.now _ _ (c.is_top_lexical.ensures bodies) c.if-is_top_lexical.false
    (c.is_top_var.ensures bodies ∙ (sym (has_first (all_top_var_names (stmts_of (map (stmt_of (under c.args.wanted.now.texts.now bodies)) c.args.items.now))) c.args.wanted.now.units.now) ∙ ap (λ (b : Bool). has_text (body_vars b (stmts_of (map (stmt_of (under c.args.wanted.now.texts.now bodies)) c.args.items.now))) c.args.wanted.now.units.now) (sym c.if-initialized.true)))

pub returns-else-initialized : goal.returns-else-initialized
returns-else-initialized c = λ bodies.
    used_behind (texts_of (top_lexical_names (stmts_of (map (stmt_of (under c.args.wanted.now.texts.now bodies)) c.args.items.now)))) (body_vars c.args.initialized (stmts_of (map (stmt_of (under c.args.wanted.now.texts.now bodies)) c.args.items.now))) c.args.wanted.now.units.now _ _ (c.is_top_lexical.ensures bodies) c.if-is_top_lexical.false
    (c.if-initialized.false ∙ ap (λ (b : Bool). has_text (body_vars b (stmts_of (map (stmt_of (under c.args.wanted.now.texts.now bodies)) c.args.items.now))) c.args.wanted.now.units.now) (sym c.if-initialized.false))
