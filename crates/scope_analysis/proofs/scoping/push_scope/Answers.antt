use Rattle.std.proofs.Common.{◌∙◌, arith}
use Rattle.scope_analysis.specs.Kept.{declarations_of}
use Rattle.scope_analysis.proofs.Adding.{pushed_opens}
use Rattle.scope_analysis.proofs.scoping.push_scope.Goals as goal

pub returns : goal.returns
returns c =
    pushed_opens c.args.known.now.texts.now c.args.known.now.closed.now c.args.made.now.scopes.items c.push.new.self.items c.args.made.now.closed c.in_ok-bindings.field-0.closed c.args.kind (declarations_of c.args.known.now.texts.now c.args.names.now) c.args.around
    c.len-number.result c.in_ok-bindings.field-0.next.env c.in_ok-bindings.field-0.next.arg c.in_ok-bindings.field-0.next.frame c.narrow.result c.narrow-2.result c.narrow-3.result c.in_ok-bindings.field-0.bindings.items
    c.requires (c.len-number.ensures ∙ c.args.made.now.scopes.ok.0) (omega arith) c.in_ok-bindings.ensures c.in_ok-push.ensures.items c.narrow.ensures c.narrow-2.ensures c.narrow-3.ensures
