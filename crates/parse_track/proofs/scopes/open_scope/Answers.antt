use Rattle.std.proofs.Common.{ℕ, List, subst, ap, sym, ◌∙◌}
use Rattle.std.specs.Bool.{◌==◌}
use Rattle.std.proofs.lemmas.Result.{IfOk-weaker}
use Rattle.parse_track.specs.Scopes.{Opens}
use Rattle.parse_track.proofs.Distinct.{some_names}
use Rattle.parse_track.proofs.scopes.open_scope.Goals as goal

pub returns : goal.returns
returns c = IfOk-weaker c.open_whole_scope.result _ _
    (λ next o. subst (λ (xss : List (List ℕ)). Opens c.args.func c.args.scope c.args.bound.now.items c.open_whole_scope.new.bound.items next xss)
    (some_names c.args.scratch.now.names.items (sym c.if-is_empty.false ∙ (c.is_empty.ensures ∙ ap (λ (n : ℕ). n == 0) c.args.scratch.now.names.ok.0))) o)
    c.open_whole_scope.ensures
