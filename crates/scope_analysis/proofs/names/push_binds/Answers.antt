use Rattle.std.proofs.Common.{◌+◌, ◌++◌, ◌∷◌, [], map, drop, refl, ap}
use Rattle.script_grammar.specs.Interpretation.{text_of}
use Rattle.script_grammar.specs.TreeLists as part
use Rattle.script_grammar.specs.TreeLists.{binds_of}
use Rattle.script_grammar.specs.TreeOf.{bind_of}
use Rattle.script_grammar.proofs.PartEquations.{bind_of-fields}
use Rattle.scope_analysis.specs.DeclaredNames.{declaration, declarations, bound_names}
use Rattle.scope_analysis.specs.Kept.{declaration_of, declarations_in}
use Rattle.scope_analysis.proofs.Appending.{one_more, step_on, all_done}
use Rattle.scope_analysis.proofs.names.push_binds.Goals as goal

pub loop-bind-preserved : goal.loop-bind-preserved
loop-bind-preserved c = λ i.
    step_on (λ binds. declarations c.args.kind (bound_names (binds_of (map (bind_of i) binds)))) c.args.binds.now c.loop-bind.bind-index c.bind-item.result
    (declarations_in i c.loop-bind.names.items) (declarations_in i c.push.new.self.items)
    (declaration c.args.kind (text_of i c.bind-item.result.name.atom) ∷ [])
    (declarations_in i c.args.names.now.items ++ declarations c.args.kind (bound_names (binds_of (map (bind_of i) c.args.binds.now))))
    c.loop-bind-test.true c.bind-item.is
    (ap (λ (b : part.Bind). declarations c.args.kind (b.name.text ∷ bound_names (binds_of (map (bind_of i) (drop (c.loop-bind.bind-index + 1) c.args.binds.now))))) (bind_of-fields i c.bind-item.result))
    (one_more (declaration_of i.texts) c.loop-bind.names.items c.push.new.self.items (record { atom = c.bind-item.result.name.atom; kind = c.args.kind })
    c.in_ok-push.ensures.items)
    (c.loop-bind.invariant i)

pub returns : goal.returns
returns c = λ i.
    all_done (λ binds. declarations c.args.kind (bound_names (binds_of (map (bind_of i) binds)))) c.args.binds.now c.loop-bind.bind-index
    (declarations_in i c.loop-bind.names.items)
    (declarations_in i c.args.names.now.items ++ declarations c.args.kind (bound_names (binds_of (map (bind_of i) c.args.binds.now))))
    c.loop-bind-test.false refl (c.loop-bind.invariant i)
