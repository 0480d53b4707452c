use Rattle.std.proofs.Common.{rules, ◌≡◌}
use Rattle.std.proofs.lemmas.Fn.{always_returns_same}
use Rattle.std.specs.Ordering.{is_lt}
use Rattle.holzikra_scripts.proofs.LineLemmas.{before, is_order}
use Rattle.holzikra_scripts.proofs.table.sorted_lines.Goals as goal

pub returns-clause-sorted : goal.returns-clause-sorted
returns-clause-sorted c =
    let compares = always_returns_same _ (λ a r. is_lt r ≡ before c.args.column a.0.now a.1.0.now) _ (λ a r q k. (search rules, search rules)) in
    c.in_ok-sort_by.ensures.sorted (before c.args.column) (is_order c.args.column) compares

pub returns-clause-stable : goal.returns-clause-stable
returns-clause-stable c =
    let compares = always_returns_same _ (λ a r. is_lt r ≡ before c.args.column a.0.now a.1.0.now) _ (λ a r q k. (search rules, search rules)) in
    c.in_ok-sort_by.ensures.stable (before c.args.column) (is_order c.args.column) compares
