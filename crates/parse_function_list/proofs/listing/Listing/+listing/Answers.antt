use denote.Param.Weighed.{most}
use Rattle.std.proofs.Common.{◌≡◌, ◌∙◌, ℕ, ◌+◌, ap, arith, drop, length, refl, suc}
use Rattle.std.proofs.Math.ListN.{set}
use Rattle.parse_handlers.specs.declared.found.FoundFunction.{size-FoundFunction}
use Rattle.parse_function_list.specs.declared.list.ListedFunction.{ListedFunction}
use Rattle.parse_function_list.specs.Listing.{head_of}
use Rattle.parse_function_list.specs.Weight.{weight}
use Rattle.parse_function_list.proofs.Depths.{most_depth, weight_push}
use Rattle.parse_function_list.proofs.Inside.{body_listed, inside_braced, inside_short, one_listed}
use Rattle.parse_function_list.proofs.Turns.{lists_of, next_of, turn_begin, turn_next}
use Rattle.parse_function_list.proofs.listing.Listing.+listing.Goals as goal

pub list_all-loop-function-init : goal.list_all-loop-function-init
list_all-loop-function-init t c = turn_begin _ _ _ _

pub list_all-loop-function-preserved : goal.list_all-loop-function-preserved
list_all-loop-function-preserved t c =
    turn_next c.function-item.result (drop (c.loop-function.function-index + 1) c.args.found.now)
    (next_of c.args.found.now c.loop-function.function-index c.function-item.result c.loop-function-test.true c.function-item.is)
    c.in_ok-list_one.ensures.longer c.in_ok-list_one.ensures.lighter c.in_ok-list_one.ensures.lists c.loop-function.invariant

pub list_body-list_all-requires : goal.list_body-list_all-requires
list_body-list_all-requires t c =
    let e = ap weight c.in-Some.ensures.items ∙ weight_push _ c.in-Some.body in
    let d = ap (most size-FoundFunction) c.deref.ensures.value ∙ most_depth c.in-Some.body.found.found.items in
    omega (arith, e, d, c.decreases)

pub list_body-returns-in_ok-list_all-in-Some-clause-lighter : goal.list_body-returns-in_ok-list_all-in-Some-clause-lighter
list_body-returns-in_ok-list_all-in-Some-clause-lighter t c =
    let e = ap weight c.in-Some.ensures.items ∙ weight_push _ c.in-Some.body in
    let l = c.in_ok-list_all-in-Some.ensures.lighter in
    omega (arith, e, l)

pub list_body-returns-in_ok-list_all-in-Some-clause-lists : goal.list_body-returns-in_ok-list_all-in-Some-clause-lists
list_body-returns-in_ok-list_all-in-Some-clause-lists t c =
    body_listed c.args.simple c.in-Some.body c.in-Some.ensures.items refl c.met-self.ensures (lists_of c.deref.ensures.value c.in_ok-list_all-in-Some.ensures.lists)

pub list_inside-returns-in_ok-list_body-clause-lists : goal.list_inside-returns-in_ok-list_body-clause-lists
list_inside-returns-in_ok-list_body-clause-lists t c =
    inside_braced c.args.found.now c.if-found.true (lists_of c.deref.ensures.value c.in_ok-list_all.ensures.lists) c.in_ok-list_body.ensures.lists

pub list_inside-returns-else-found-clause-lists : goal.list_inside-returns-else-found-clause-lists
list_inside-returns-else-found-clause-lists t c = inside_short c.args.found.now c.if-found.false (lists_of c.deref.ensures.value c.in_ok-list_all.ensures.lists)

pub list_one-returns-clause-lists : goal.list_one-returns-clause-lists
list_one-returns-clause-lists t c =
    let before : c.len-before.result ≡ length c.args.self.now.functions.items = omega (arith, c.len-before.ensures, c.args.self.now.functions.ok.0) in
    let number : c.len-before.result + 1 ≡ suc (length c.args.self.now.functions.items) = omega (arith, before) in
    let place : c.len-place.result ≡ length c.args.directly.now.items = omega (arith, c.len-place.ensures, c.args.directly.now.ok.0) in
    let inner = c.list_inside.new.directly in
    let items = c.list_inside.new.self.functions.items in
    one_listed c.args.found.now c.listed-unfilled.result inner c.in_ok-push-2.ensures.items refl refl number c.new-inner.ensures.items
    c.in_ok-list_inside.ensures.lists
    (ap (λ (k : ℕ). set items k c.listed.result) before
    ∙ ap (λ (f : ListedFunction). set items (length c.args.self.now.functions.items) f) (c.listed.ensures ∙ ap (λ (k : ℕ). head_of c.args.found.now c.args.around k inner) place))
    refl refl c.in_ok-push.ensures.items
