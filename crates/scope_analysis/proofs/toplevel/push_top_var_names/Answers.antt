use Rattle.std.proofs.Common.{◌++◌, List, map, refl, sym, ◌∙◌, ap}
use Rattle.script_grammar.specs.Interpretation.{text_of}
use Rattle.script_grammar.specs.TreeLists.{stmts_of}
use Rattle.script_grammar.specs.TreeOf.{stmt_of}
use Rattle.scope_analysis.specs.DeclaredNames.{Text, all_top_var_names, top_var_names_in, var_names_in}
use Rattle.scope_analysis.specs.Kept.{declared_name}
use Rattle.scope_analysis.proofs.Appending.{both_new, step_on, all_done}
use Rattle.scope_analysis.proofs.Tops.{top_vars_split}
use Rattle.scope_analysis.proofs.toplevel.push_top_var_names.Goals as goal

pub loop-item-preserved : goal.loop-item-preserved
loop-item-preserved c = λ i.
    step_on (λ items. all_top_var_names (stmts_of (map (stmt_of i) items))) c.args.items.now c.loop-item.item-index c.item-item.result
    (map (text_of i) c.loop-item.atoms.items) (map (text_of i) c.push_var_names.new.atoms.items) (top_var_names_in (stmt_of i c.item-item.result))
    (map (text_of i) c.args.atoms.now.items ++ all_top_var_names (stmts_of (map (stmt_of i) c.args.items.now)))
    c.loop-item-test.true c.item-item.is refl
    (both_new (map (text_of i) c.loop-item.atoms.items) (map (text_of i) c.push_declared_name.new.atoms.items) (map (text_of i) c.push_var_names.new.atoms.items)
    (declared_name (stmt_of i c.item-item.result)) (var_names_in (stmt_of i c.item-item.result))
    (c.in_ok-push_declared_name.ensures i) (c.in_ok-push_var_names.ensures i)
    ∙ ap (λ (l : List Text). map (text_of i) c.loop-item.atoms.items ++ l) (sym (top_vars_split (stmt_of i c.item-item.result))))
    (c.loop-item.invariant i)

pub returns : goal.returns
returns c = λ i.
    all_done (λ items. all_top_var_names (stmts_of (map (stmt_of i) items))) c.args.items.now c.loop-item.item-index (map (text_of i) c.loop-item.atoms.items)
    (map (text_of i) c.args.atoms.now.items ++ all_top_var_names (stmts_of (map (stmt_of i) c.args.items.now)))
    c.loop-item-test.false refl (c.loop-item.invariant i)
