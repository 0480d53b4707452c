use Rattle.std.proofs.Common.{map, ap, ◌∙◌, not, Bor, List}
use Rattle.scope_analysis.specs.DeclaredNames.{Text, has_text}
use Rattle.scope_analysis.proofs.NameTexts.{has_contains, insert_has}
use Rattle.scope_analysis.proofs.later_texts.insert_text.Goals as goal

pub returns-clause-added : goal.returns-clause-added
returns-clause-added c = c.in_ok-fresh.ensures.added ∙ ap not (has_contains c.args.seen.now.keys c.args.text)

pub returns-clause-seen : goal.returns-clause-seen
returns-clause-seen c = λ q. ap (λ (ks : List (Bor Text)). has_text (map (λ (k : Bor Text). k.now) ks) q) c.in_ok-fresh.ensures.keys ∙ insert_has c.args.seen.now.keys c.args.text q
