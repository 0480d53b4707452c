use Rattle.std.proofs.Common.{◌≡◌, ◌∷◌, drop, Some, sym, ◌∙◌, ap, arith}
use Rattle.std.specs.Arc.{arc_value}
use Rattle.stencil_data.specs.Links.{outer_links}
use Rattle.stencil_data.proofs.ChainWalk.{here_at, one_further, none_past}
use Rattle.stencil_data.proofs.chains.Chain.link.Goals as goal

pub returns-in-None : goal.returns-in-None
returns-in-None c =
    sym (none_past c.loop.counter c.args.n c.args.self.now (arc_value c.chain.inside.first)
    (ap (λ outer. arc_value c.chain.inside.first ∷ outer_links outer) (sym c.in-None.is) ∙ c.chain.view_is ∙ c.loop.invariant)
    c.loop-test.true)

pub loop-preserved : goal.loop-preserved
loop-preserved c =
    c.deref-chain.ensures ∙
    one_further c.loop.counter c.args.self.now (arc_value c.chain.inside.first) (arc_value c.in-Some.outer)
    (ap (λ outer. arc_value c.chain.inside.first ∷ outer_links outer) (sym c.in-Some.is) ∙ c.chain.view_is ∙ c.loop.invariant)

pub returns : goal.returns
returns c =
    let end : c.loop.counter ≡ c.args.n = omega arith in
    ap Some (c.link.ensures ∙ c.deref.ensures) ∙
    sym (here_at c.args.n c.args.self.now (arc_value c.chain-2.inside.first) (outer_links c.chain-2.inside.outer)
    (c.chain-2.view_is ∙ c.loop.invariant ∙ ap (λ n. drop n c.args.self.now) end))
