use Rattle.std.proofs.Common.{List, subst, ℕ}
use Rattle.session_orders.specs.Orders.{AreInOrder}
use Rattle.compile_session.specs.Orders.{size_in}
use Rattle.compile_session.proofs.OrderLemmas.{order_put}
use Rattle.compile_session.proofs.file_order.file_order.Goals as goal

pub returns-clause-order : goal.returns-clause-order
returns-clause-order c =
    order_put c.args.order (size_in c.args.reads.now) c.args.count c.in_ok-numbers.numbers.items c.put_in_order.new.numbers.items c.in_ok-put_in_order.ensures c.in_ok-numbers.ensures.order

pub returns-clause-begun : goal.returns-clause-begun
returns-clause-begun c =
    subst (λ (before : List ℕ). AreInOrder c.args.order (size_in c.args.reads.now) before c.put_in_order.new.numbers.items) c.in_ok-numbers.ensures.rising c.in_ok-put_in_order.ensures
