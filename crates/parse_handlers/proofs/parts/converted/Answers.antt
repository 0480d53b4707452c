use Rattle.std.proofs.Common.{◌∙◌, ◌++◌, ◌∷◌, [], sym, subst}
use Rattle.std.proofs.lemmas.Iterator.Consumers.{YieldsList-end}
use Rattle.std.proofs.lemmas.Iterator.Adapters.{YieldsList-from_vec}
use Rattle.script_grammar.specs.Shows.{ShowAll}
use Rattle.parse_handlers.proofs.KeptLists.{show_all-more, map-same}
use Rattle.parse_handlers.proofs.parts.converted.Goals as goal

pub loop-node-preserved : goal.loop-node-preserved
loop-node-preserved g c =
    let R : g.row.N.Denot → g.row.T.Denot → Type 0 = λ n t. g.F.Fn.post c.args.convert (n, tt) t in
    subst (λ made. ShowAll R (c.loop-node.yielded ++ (c.in-Some.node ∷ [])) made) (sym c.in_ok-push.ensures.items)
    (show_all-more R c.loop-node.yielded c.loop-node.made.items c.in-Some.node c.convert.result c.loop-node.invariant c.convert.ensures)

pub returns : goal.returns
returns g c =
    let R : g.row.N.Denot → g.row.T.Denot → Type 0 = λ n t. g.F.Fn.post c.args.convert (n, tt) t in
    let start = c.into_iter-node-iterator.ensures.into_iter_gives in
    let seen = YieldsList-end (YieldsList-from_vec c.args.nodes.items start.0 (start.1 ∙ c.args.nodes.ok.0)) c.loop-node.yielded c.loop-node.node-iterator c.loop-node.yielded_by c.next.result c.next.new.self c.in-None.is c.next.ensures.steps in
    subst (λ ns. ShowAll R ns c.loop-node.made.items) (sym (map-same c.loop-node.yielded) ∙ seen.0) c.loop-node.invariant
