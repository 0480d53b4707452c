use Rattle.std.proofs.Common.{◌∙◌, sym, ap, map}
use Rattle.std.proofs.lemmas.List.{nil_from_length}
use Rattle.unit_text.specs.Points.{code_of}
use Rattle.script_scanner.specs.Blanks.{blank_at}
use Rattle.script_scanner.proofs.blanks.blank_at.Goals as goal

pub returns-in_err-first-clause-value : goal.returns-in_err-first-clause-value
returns-in_err-first-clause-value g c = c.from_residual.ensures ∙ ap (λ ps. blank_at (map code_of ps)) (sym (nil_from_length (g.T.Source.points c.args.rest) c.in_err-first.ensures.cases))
