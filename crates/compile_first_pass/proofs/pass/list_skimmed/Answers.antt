use Rattle.compile_first_pass.proofs.PassLemmas.{of_script, placed, told}
use Rattle.compile_first_pass.proofs.pass.list_skimmed.Goals as goal

pub returns : goal.returns
returns c = λ file items sound h. record {
  text = h.text;
  of = of_script file c.args.script items sound h;
  told = told file c.args.script items sound h c.in_ok-listed.listed c.deref.result.now c.first_of_bodies-first.result c.sooner-first.result c.in_ok-listed.ensures.functions c.in_ok-listed.ensures.late c.deref.ensures.value c.first_of_bodies-first.ensures c.sooner-first.ensures;
  placed = placed file c.args.script items sound h c.in_ok-listed.listed c.deref.result.now c.first_of_bodies-first.result c.sooner-first.result c.in_ok-listed.ensures.functions c.in_ok-listed.ensures.late c.deref.ensures.value c.first_of_bodies-first.ensures c.sooner-first.ensures;
}
