use Rattle.compile_first_pass.proofs.SkimLemmas.{skims_script}
use Rattle.compile_first_pass.proofs.skim.skim.Goals as goal

pub returns : goal.returns
returns g c = skims_script g.H.Handler.shows_body c.args.script.top c.args.script.bodies.items _ c.apart-top.ensures c.in_ok-bodies.ensures
