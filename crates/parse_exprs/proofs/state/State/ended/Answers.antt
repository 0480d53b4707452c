use Rattle.parse_exprs.proofs.ParamParts.{comma_at, comma_none, no_rest_params, rest_params}
use Rattle.grammar_parser_specs.specs.Exprs.{AnAssign, AParam, ARest}
use Rattle.grammar_parser_specs.specs.Exprs as pure
use Rattle.script_grammar.specs.Shows.{ShowAll, ShowParam}
use Rattle.std.proofs.Common.{refl, subst, sym, ◌∙◌, ◌≡◌}
use Rattle.parse_exprs.proofs.state.State.ended.Goals.{in-Trailing, in_default, in-Rest+in_ok-push, in_default-last}
use Rattle.std.specs.Prelude.{Vec}
use Rattle.parse_exprs.proofs.state.State.ended.Goals as goal

pub returns : goal.returns
returns g c = λ i m all end.
    let comma : c.match-matches.matches ≡ pure.is_trailing m.last = elim c.match-matches.branch [ in-Trailing w ↦ w.matches-is ∙ comma_at i c.args.read.last m.last end w.in-Trailing.is | in_default w ↦ w.matches-is ∙ comma_none i c.args.read.last m.last end w.in_default.not-Trailing ] in
    let params : ShowAll (ShowParam i (g.H.Handler.shows_expr i)) c.match-read.params.items (pure.ended_params m.items m.last) = elim c.match-read.branch [ in-Rest+in_ok-push w ↦ subst (λ (v : Vec _ _). ShowAll (ShowParam i (g.H.Handler.shows_expr i)) v.items (pure.ended_params m.items m.last)) (sym w.params-is) (rw w.in_ok-push.ensures.items (rest_params i (g.H.Handler.shows_expr i) c.args.read.last m.last w.in-Rest.name c.args.read.items.items m.items end w.in-Rest.is all)) | in_default-last w ↦ subst (λ (v : Vec _ _). ShowAll (ShowParam i (g.H.Handler.shows_expr i)) v.items (pure.ended_params m.items m.last)) (sym w.params-is) (no_rest_params i (g.H.Handler.shows_expr i) c.args.read.last m.last c.args.read.items.items m.items end w.in_default-last.not-Rest all) ] in
    (pure.ended_params m.items m.last, params, rw comma refl)
