use Rattle.std.proofs.Common.{arith, ◌≤◌, ◌∙◌, sym, ap, subst, List, map, length}
use Rattle.unit_text.specs.declared.Point.{Point}
use Rattle.unit_text.specs.Points.{code_of}
use Rattle.script_scanner.specs.Parts.{step_at}
use Rattle.script_scanner.proofs.PartLemmas.{reading_first, reading_add, reading_skip, reading_close, reading_break, reading_end}
use Rattle.script_scanner.proofs.parts.read_body.Goals as goal

pub loop-at-init : goal.loop-at-init
loop-at-init g c = reading_first c.args.ending (g.T.Source.points c.args.rest) c.clear.new.self.items c.clear.ensures.items

pub loop-at-preserved-in-Add : goal.loop-at-preserved-in-Add
loop-at-preserved-in-Add g c =
    reading_add c.args.ending (g.T.Source.points c.args.rest) c.loop-at.at c.in-Add.code c.in-Add.length c.loop-at.units.items c.push_code.new.units.items c.loop-at.invariant (omega (arith, c.loop-at-test.true, c.count.ensures.value))
    c.in-Add.ensures.fits.0 (subst (λ (ps : List Point). c.in-Add.length ≤ length ps) c.behind.ensures c.in-Add.ensures.fits.1)
    (ap (λ (ps : List Point). step_at c.args.ending (map code_of ps)) (sym c.behind.ensures) ∙ sym c.step_at.ensures.value ∙ c.in-Add.is) c.in_ok-push_code-in-Add.ensures

pub loop-at-preserved : goal.loop-at-preserved
loop-at-preserved g c =
    reading_skip c.args.ending (g.T.Source.points c.args.rest) c.loop-at.at c.in-Skip.length c.loop-at.units.items c.loop-at.invariant (omega (arith, c.loop-at-test.true, c.count.ensures.value))
    c.in-Skip.ensures.fits.0 (subst (λ (ps : List Point). c.in-Skip.length ≤ length ps) c.behind.ensures c.in-Skip.ensures.fits.1)
    (ap (λ (ps : List Point). step_at c.args.ending (map code_of ps)) (sym c.behind.ensures) ∙ sym c.step_at.ensures.value ∙ c.in-Skip.is)

pub returns-in-Close-clause-value : goal.returns-in-Close-clause-value
returns-in-Close-clause-value g c =
    reading_close c.args.ending (g.T.Source.points c.args.rest) c.loop-at.at c.in-Close.length c.loop-at.units.items c.loop-at.invariant (omega (arith, c.loop-at-test.true, c.count.ensures.value))
    (ap (λ (ps : List Point). step_at c.args.ending (map code_of ps)) (sym c.behind.ensures) ∙ sym c.step_at.ensures.value ∙ c.in-Close.is)

pub returns-in-Break-clause-value : goal.returns-in-Break-clause-value
returns-in-Break-clause-value g c =
    reading_break c.args.ending (g.T.Source.points c.args.rest) c.loop-at.at c.loop-at.units.items c.loop-at.invariant (omega (arith, c.loop-at-test.true, c.count.ensures.value))
    (ap (λ (ps : List Point). step_at c.args.ending (map code_of ps)) (sym c.behind.ensures) ∙ sym c.step_at.ensures.value ∙ c.in-Break.is)

pub returns-clause-value : goal.returns-clause-value
returns-clause-value g c = reading_end c.args.ending (g.T.Source.points c.args.rest) c.loop-at.at c.loop-at.units.items c.loop-at.invariant (omega (arith, c.loop-at-test.false, c.count.ensures.value))
