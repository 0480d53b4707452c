-- What is counted of the stencil is counted of a stencil of the whole script.
use Rattle.std.proofs.Common.{[], subst}
use Rattle.holzikra_session.specs.declared.verdict.Compiled.{Compiled}
use Rattle.holzikra_session.specs.Compiling.{IsCompiledBy}
use Rattle.holzikra_session.proofs.CompiledLemmas.{counted_of}
use Rattle.holzikra_session.proofs.stats.counts_of_text.Goals as goal

pub returns-in-Script : goal.returns-in-Script
returns-in-Script g c =
    let text = c.args.text.now in
    let script = subst (λ (x : Compiled). IsCompiledBy (g.J.Judge.judges c.args.judge.now) (g.J.Judge.shows c.args.judge.now) [] text x) c.in-Script.is c.in_ok-compiled.ensures in
    counted_of (g.J.Judge.shows c.args.judge.now) [] text c.in-Script.stencil _ c.in_ok-row-in-Script.row script c.in_ok-row-in-Script.ensures
