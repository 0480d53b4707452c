use Rattle.std.proofs.Common.{arith, sym, ◌∙◌, ap, map, [], ◌∷◌}
use Rattle.unit_text.specs.Points.{code_of}
use Rattle.script_scanner.specs.Blanks.{begins}
use Rattle.script_scanner.proofs.BlankLemmas.{star_more, star_within}
use Rattle.script_scanner.proofs.blanks.length_to_star_slash.Goals as goal

pub loop-at-preserved : goal.loop-at-preserved
loop-at-preserved g c = record {
  within = omega arith;
  so_far = star_more (g.T.Source.points c.args.rest) c.loop-at.at (omega arith)
      (ap (λ ps. begins (0x2A ∷ 0x2F ∷ []) (map code_of ps)) (sym c.behind.ensures) ∙ sym c.begins.ensures ∙ c.if-begins.false) c.loop-at.invariant.so_far;
}

pub returns-then-begins-clause-within : goal.returns-then-begins-clause-within
returns-then-begins-clause-within g c = star_within (g.T.Source.points c.args.rest) c.loop-at.at c.loop-at.invariant.within
    (ap (λ ps. begins (0x2A ∷ 0x2F ∷ []) (map code_of ps)) (sym c.behind.ensures) ∙ sym c.begins.ensures ∙ c.if-begins.true)

pub returns-then-begins-clause-few : goal.returns-then-begins-clause-few
returns-then-begins-clause-few g c = let within = returns-then-begins-clause-within g c in omega (arith, within, c.count.ensures.few)
