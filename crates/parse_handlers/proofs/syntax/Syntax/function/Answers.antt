use Rattle.std.proofs.Common.{◌∙◌, ◌++◌, ◌∷◌, [], ap}
use Rattle.std.specs.List.{flat_map, list_all}
use Rattle.parse_handlers.specs.FoundOf.{found_of, founds_before}
use Rattle.parse_handlers.specs.Held.{held_param, held_body, is_plain}
use Rattle.parse_handlers.proofs.Gathered.{puts-function, function-found}
use Rattle.parse_handlers.proofs.syntax.Syntax.function.Goals as goal

pub returns : goal.returns
returns c = λ i f h r.
    let func = c.args.func in
    ap (λ l. founds_before i l r) (c.in_ok-push.ensures.items ∙ ap (λ l. l ++ (c.found.result ∷ [])) c.nothing-node.ensures)
    ∙ puts-function i c.args.declared func f (found_of i c.found.result) c.in_ok-inside-2.inside.found.items h
    (c.in_ok-inside-2.ensures ∙ ap (λ l. l ++ held_body func.body) (c.in_ok-inside.ensures ∙ ap (λ l. l ++ flat_map held_param func.params.items) c.nothing.ensures))
    (function-found i (found_of i c.found.result) _ _ _ _ _ _ _ _ _ _ _ (c.found.ensures i) c.kind_of.ensures (c.atom_of.ensures i) c.is_braced-braced.ensures (c.is_simple-simple.ensures ∙ ap (list_all is_plain) c.deref.ensures.value)) r
