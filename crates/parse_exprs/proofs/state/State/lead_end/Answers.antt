use Rattle.parse_exprs.proofs.Steps.{just, when_true, when_false, read_at}
use Rattle.grammar_parser_specs.specs.Exprs.{lead_end}
use Rattle.std.proofs.Common.{[], ◌∷◌, ◌∙◌, sym}
use Rattle.parse_exprs.proofs.state.State.lead_end.Goals as goal

pub returns-then-is_mark : goal.returns-then-is_mark
unfolding lead_end
returns-then-is_mark g c = λ i t m. (t, m, read_at (when_true _ _ (sym (c.is_mark.ensures i) ∙ c.if-is_mark.true) (just _ _ _)) (c.step.ensures.records i) (c.step.ensures.at i))

pub returns : goal.returns
unfolding lead_end
returns g c = λ i t m. rw (c.in_ok-push.ensures.items, c.new-items.ensures.items) (t ∷ [], (m, tt), when_false _ _ (sym (c.is_mark.ensures i) ∙ c.if-is_mark.false) (just _ _ _))
