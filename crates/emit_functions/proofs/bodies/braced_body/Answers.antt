use Rattle.std.proofs.Common.{List, sym, ◌∙◌, ap}
use Rattle.stencil_data.specs.LinkView.{LinkView}
use Rattle.emit_stmts.specs.Positions.{position_of}
use Rattle.emit_functions.specs.BodyCode.{at_body}
use Rattle.emit_functions.proofs.BodyRows.{braced_vars, braced_plain}
use Rattle.emit_functions.proofs.bodies.braced_body.Goals as goal

pub returns-in_ok-plain : goal.returns-in_ok-plain
returns-in_ok-plain c =
    braced_vars c.args.site.now c.site_under-inside.result c.args.params.now c.args.items.now (sym c.has_vars.ensures ∙ c.if-has_vars.true) c.in_ok-chain.ensures.code c.in_ok-chain.ensures.notes c.in_ok-chain.ensures.next
    (c.site_under-inside.ensures ∙ ap (λ (l : List LinkView). at_body l (position_of c.args.site.now)) c.in_ok-chain.ensures.chain) c.in_ok-top_scope.ensures (c.in_ok-plain.ensures c.args.site.now.exprs.texts.now)

pub returns-in_ok-plain-2 : goal.returns-in_ok-plain-2
returns-in_ok-plain-2 c = braced_plain c.args.site.now c.site_under-inside-else-has_vars.result c.args.params.now c.args.items.now (sym c.has_vars.ensures ∙ c.if-has_vars.false) c.site_under-inside-else-has_vars.ensures c.in_ok-top_scope-2.ensures (c.in_ok-plain-2.ensures c.args.site.now.exprs.texts.now)
