use Rattle.std.proofs.Common.{◌∙◌, refl, ap, suc, take, add-one}
use Rattle.parse_exprs.proofs.Cut.{is_source}
use Rattle.parse_exprs.proofs.source.Source.new.Goals as goal

pub returns-clause-is : goal.returns-clause-is
returns-clause-is c = is_source c.args.tokens.now c.args.brackets.now c.requires.scanned c.requires.matching _ (ap (λ n. take n c.args.tokens.now) (add-one c.stop-stop.result ∙ ap suc c.stop-stop.ensures)) refl
