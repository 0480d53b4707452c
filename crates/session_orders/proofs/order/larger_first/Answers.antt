use Rattle.std.proofs.Common.{rules, ◌≡◌}
use Rattle.std.proofs.lemmas.Fn.{always_returns_same}
use Rattle.std.proofs.lemmas.Result.{on_ok_weaker}
use Rattle.std.specs.Ordering.{is_lt}
use Rattle.session_orders.proofs.Falling.{larger, is_order, falls, ties_rise}
use Rattle.session_orders.proofs.order.larger_first.Goals as goal

pub returns : goal.returns
returns g c =
    let size = g.S.Sizes.size c.args.sizes.now in
    let compares = always_returns_same _ (λ a r. is_lt r ≡ larger size a.0.now a.1.0.now) _ (λ a r q k. (search rules, search rules)) in
    on_ok_weaker c.sort_by.result (λ sorted. record {
      same = c.sort_by.ensures.permutation;
      fall = falls size c.sort_by.new.self.items (sorted (larger size) (is_order size) compares);
      ties = ties_rise size c.args.numbers.now.items c.sort_by.new.self.items (c.sort_by.ensures.stable (larger size) (is_order size) compares);
    }) c.sort_by.ensures.sorted
