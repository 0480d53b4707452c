use Rattle.std.proofs.Common.{◌+◌, ◌++◌, ◌∷◌, [], map, drop, refl, ap}
use Rattle.script_grammar.specs.Interpretation.{text_of}
use Rattle.script_grammar.specs.TreeLists as part
use Rattle.script_grammar.specs.TreeLists.{params_of}
use Rattle.script_grammar.specs.TreeOf.{param_of}
use Rattle.script_grammar.proofs.PartEquations.{param_of-fields}
use Rattle.scope_analysis.specs.DeclaredNames.{param_names}
use Rattle.scope_analysis.proofs.Appending.{one_more, step_on, all_done}
use Rattle.scope_analysis.proofs.functions.push_param_names.Goals as goal

pub loop-param-preserved : goal.loop-param-preserved
loop-param-preserved c = λ i.
    step_on (λ params. param_names (params_of (map (param_of i) params))) c.args.params.now c.loop-param.param-index c.param-item.result
    (map (text_of i) c.loop-param.atoms.items) (map (text_of i) c.push.new.self.items) (text_of i c.param-item.result.name.atom ∷ [])
    (map (text_of i) c.args.atoms.now.items ++ param_names (params_of (map (param_of i) c.args.params.now)))
    c.loop-param-test.true c.param-item.is
    (ap (λ (p : part.Param). p.name.text ∷ param_names (params_of (map (param_of i) (drop (c.loop-param.param-index + 1) c.args.params.now))))
    (param_of-fields i c.param-item.result))
    (one_more (text_of i) c.loop-param.atoms.items c.push.new.self.items c.param-item.result.name.atom c.in_ok-push.ensures.items)
    (c.loop-param.invariant i)

pub returns : goal.returns
returns c = λ i.
    all_done (λ params. param_names (params_of (map (param_of i) params))) c.args.params.now c.loop-param.param-index
    (map (text_of i) c.loop-param.atoms.items)
    (map (text_of i) c.args.atoms.now.items ++ param_names (params_of (map (param_of i) c.args.params.now)))
    c.loop-param-test.false refl (c.loop-param.invariant i)
