use Rattle.parse_exprs.proofs.Fronts.{front_next, front_end}
use Rattle.parse_exprs.proofs.place.Cursor.step.Goals as goal

pub returns-then-self-source-clause-at : goal.returns-then-self-source-clause-at
returns-then-self-source-clause-at c = λ i. front_next c.args.source.now i c.args.self.now.at

pub returns-else-self-source-clause-at : goal.returns-else-self-source-clause-at
returns-else-self-source-clause-at c = λ i. front_end c.args.source.now i c.args.self.now.at c.if-self-source.false
