use Rattle.std.proofs.Common.{◌∙◌, sym}
use Rattle.scope_analysis.proofs.Adding.{opens_some}
use Rattle.scope_analysis.proofs.scoping.open_scope.Goals as goal

pub returns : goal.returns
returns c =
    opens_some c.args.known.now.texts.now c.args.known.now.closed.now c.args.made.now.scopes.items c.push_scope.new.made.scopes.items c.args.made.now.closed c.push_scope.new.made.closed c.args.kind c.args.names.now c.args.around c.in_ok-inside.inside
    (sym c.if-is_empty.false ∙ c.is_empty.ensures) c.in_ok-inside.ensures
