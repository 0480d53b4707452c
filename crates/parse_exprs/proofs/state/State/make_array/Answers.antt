use Rattle.parse_exprs.proofs.ListExits.{some_shown, none_shown, has_shown}
use Rattle.parse_exprs.proofs.Loops.{all_more}
use Rattle.grammar_parser_specs.specs.Exprs.{array_case}
use Rattle.script_grammar.specs.Shows.{ShowMaybe}
use Rattle.script_grammar.specs.TreeLists.{items_of}
use Rattle.std.proofs.Common.{[], ◌∷◌, ◌++◌, ◌∙◌, sym, ap, subst, Some, append-nil, not}
use Rattle.script_grammar.specs.Tree as model
use Rattle.parse_exprs.proofs.state.State.make_array.Goals as goal
use Rattle.parse_exprs.proofs.state.State.make_array.Goals.{in-Some+in_ok-push-in-Some, in-None}

pub returns-clause-makes : goal.returns-clause-makes
returns-clause-makes g c = λ i ts o all last. elim c.match-last.branch [
  | in-Some+in_ok-push-in-Some w ↦
      let t = some_shown (g.H.Handler.shows_expr i) c.args.last w.in-Some.item o w.in-Some.is last in
      let made = c.in_ok-make_array.ensures i (ts ++ Some t.0 ∷ []) (rw (w.items-is, w.in_ok-push-in-Some.ensures.items) (all_more (ShowMaybe (g.H.Handler.shows_expr i)) c.args.items.items ts (Some w.in-Some.item) (Some t.0) all t.2)) in
      subst (λ y. g.H.Handler.shows_expr i c.in_ok-make_array.field-0 (array_case c.args.at ts y)) (sym t.1) (subst (λ b. g.H.Handler.shows_expr i c.in_ok-make_array.field-0 (model.Array c.args.at (items_of (ts ++ Some t.0 ∷ [])) b)) w.comma-is made)
  | in-None w ↦
      let n = none_shown (g.H.Handler.shows_expr i) c.args.last o w.in-None.is last in
      let made = c.in_ok-make_array.ensures i (ts ++ []) (rw (w.items-is, append-nil ts) all) in
      subst (λ y. g.H.Handler.shows_expr i c.in_ok-make_array.field-0 (array_case c.args.at ts y)) (sym n) (subst (λ b. g.H.Handler.shows_expr i c.in_ok-make_array.field-0 (model.Array c.args.at (items_of (ts ++ [])) b)) (w.comma-is ∙ ap not w.is_empty.ensures ∙ has_shown (ShowMaybe (g.H.Handler.shows_expr i)) c.args.items.items ts all _ c.args.items.ok.0) made)
]
