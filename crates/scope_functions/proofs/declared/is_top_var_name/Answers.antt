use Rattle.std.proofs.Common.{◌∙◌, List, sym, ap}
use Rattle.script_grammar.specs.Tree as model
use Rattle.script_grammar.specs.TreeOf.{stmt_of}
use Rattle.scope_analysis.specs.DeclaredNames.{Text, has_text, var_names_in}
use Rattle.scope_analysis.specs.Kept.{under, declared_name}
use Rattle.scope_analysis.proofs.Tops.{top_vars_split}
use Rattle.scope_functions.proofs.OwnUses.{used_first, used_behind}
use Rattle.scope_functions.proofs.declared.is_top_var_name.Goals as goal

pub returns-then-is_declared_name : goal.returns-then-is_declared_name
returns-then-is_declared_name c = λ bodies.
    let s : model.Stmt = stmt_of (under c.args.wanted.now.texts.now bodies) c.args.stmt.now in
    used_first (declared_name s) (var_names_in s) c.args.wanted.now.units.now _ (c.is_declared_name.ensures bodies) c.if-is_declared_name.true ∙ ap (λ (xs : List Text). has_text xs c.args.wanted.now.units.now) (sym (top_vars_split s))

pub returns-else-is_declared_name : goal.returns-else-is_declared_name
returns-else-is_declared_name c = λ bodies.
    let s : model.Stmt = stmt_of (under c.args.wanted.now.texts.now bodies) c.args.stmt.now in
    used_behind (declared_name s) (var_names_in s) c.args.wanted.now.units.now _ _ (c.is_declared_name.ensures bodies) c.if-is_declared_name.false (c.is_var_in.ensures bodies) ∙ ap (λ (xs : List Text). has_text xs c.args.wanted.now.units.now) (sym (top_vars_split s))
