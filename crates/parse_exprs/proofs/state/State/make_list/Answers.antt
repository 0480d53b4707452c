use Rattle.parse_exprs.proofs.ListExits.{none_popped, list_comma}
use Rattle.std.proofs.Common.{◌∙◌, sym, subst}
use Rattle.parse_exprs.proofs.state.State.make_list.Goals as goal
use Rattle.std.proofs.Common.{rules}
use Rattle.parse_exprs.proofs.state.State.make_list.Goals.{else-len-eq1-via-else-len-eq1, else-len-eq1-via-then-len-eq1+in-None-1}

pub returns-2-clause-makes : goal.returns-2-clause-makes
returns-2-clause-makes g c = λ i ts all. elim c.else-len-eq1.branch [
  | else-len-eq1-via-else-len-eq1 w ↦ subst (λ t. g.H.Handler.shows_expr i c.in_ok-make_comma.field-0 t) (list_comma (g.H.Handler.shows_expr i) c.args.items.items ts all (λ one. w.if-len-eq1.false (c.len.ensures ∙ c.args.items.ok.0 ∙ one))) (c.in_ok-make_comma.ensures i ts (rw w.items-is all))
  | else-len-eq1-via-then-len-eq1+in-None-1 w ↦ absurd (none_popped w.pop.result _ _ (search rules) w.pop.ensures.cases (sym c.len.ensures ∙ w.if-len-eq1.true))
]
