use Rattle.std.proofs.Common.{◌≡◌, ◌∙◌, ap, sym, drop, ◌+◌, ◌<◌, ℕ, List, ◌∷◌, length, get_or, drop_of_length-le, add-one, Option}
use Rattle.std.proofs.Math.Seq.{drop-cons}
use Rattle.script_grammar.specs.declared.node.NodeParam.{NodeParam}
use Rattle.parse_track_pieces.specs.Parts.{have_initializer, is_some_or}
use Rattle.parse_track_pieces.proofs.params.has_initializer.Goals as goal

here : {E : Type 0} (ps : List (NodeParam E)) (k : ℕ) (p : NodeParam E) (v : Option E) → k < length ps → p ≡ get_or ps k p → p.value ≡ v
    → have_initializer (drop k ps) ≡ is_some_or v (have_initializer (drop (k + 1) ps))
here {E} ps k p v lt is e =
    ap have_initializer (drop-cons ps k p lt ∙ (ap (λ (n : ℕ). get_or ps k p ∷ drop n ps) (sym (add-one k)) ∙ ap (λ (q : NodeParam E). q ∷ drop (k + 1) ps) (sym is)))
    ∙ ap (λ (o : Option E). is_some_or o (have_initializer (drop (k + 1) ps))) e

pub returns-in-Some : goal.returns-in-Some
returns-in-Some g c = sym (c.loop-param.invariant ∙ here c.args.params.now c.loop-param.param-index c.param-item.result _ c.loop-param-test.true c.param-item.is c.in-Some.is)

pub loop-param-preserved : goal.loop-param-preserved
loop-param-preserved g c = c.loop-param.invariant ∙ here c.args.params.now c.loop-param.param-index c.param-item.result _ c.loop-param-test.true c.param-item.is c.in-None.is

pub returns : goal.returns
returns g c = sym (c.loop-param.invariant ∙ ap have_initializer (drop_of_length-le c.args.params.now c.loop-param-test.false))
