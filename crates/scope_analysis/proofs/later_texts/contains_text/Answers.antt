use Rattle.std.proofs.Common.{◌∙◌}
use Rattle.scope_analysis.proofs.NameTexts.{has_contains}
use Rattle.scope_analysis.proofs.later_texts.contains_text.Goals as goal

pub returns : goal.returns
returns c = c.contains.ensures ∙ has_contains c.args.some.now.keys c.args.text
