use Rattle.std.proofs.Common.{◌++◌, map, refl}
use Rattle.script_grammar.specs.TreeLists.{stmts_of}
use Rattle.script_grammar.specs.TreeOf.{stmt_of}
use Rattle.scope_analysis.specs.DeclaredNames.{lexical_names, lexical_name}
use Rattle.scope_analysis.specs.Kept.{declarations_in}
use Rattle.scope_analysis.proofs.Appending.{step_on, all_done}
use Rattle.scope_analysis.proofs.names.push_lexical_names.Goals as goal

pub loop-item-preserved : goal.loop-item-preserved
loop-item-preserved c = λ i.
    step_on (λ items. lexical_names (stmts_of (map (stmt_of i) items))) c.args.items.now c.loop-item.item-index c.item-item.result
    (declarations_in i c.loop-item.names.items) (declarations_in i c.push_lexical_name.new.names.items) (lexical_name (stmt_of i c.item-item.result))
    (declarations_in i c.args.names.now.items ++ lexical_names (stmts_of (map (stmt_of i) c.args.items.now)))
    c.loop-item-test.true c.item-item.is refl (c.in_ok-push_lexical_name.ensures i) (c.loop-item.invariant i)

pub returns : goal.returns
returns c = λ i.
    all_done (λ items. lexical_names (stmts_of (map (stmt_of i) items))) c.args.items.now c.loop-item.item-index (declarations_in i c.loop-item.names.items)
    (declarations_in i c.args.names.now.items ++ lexical_names (stmts_of (map (stmt_of i) c.args.items.now)))
    c.loop-item-test.false refl (c.loop-item.invariant i)
