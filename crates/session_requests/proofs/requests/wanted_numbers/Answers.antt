use Rattle.std.proofs.Common.{ℕ, List, sym, subst}
use Rattle.std.proofs.lemmas.List.Sorted.{IsNonDecreasingBy-from_sort}
use Rattle.std.specs.Prelude.{IsPermutation}
use Rattle.compile_wanted.specs.declared.flags.Wanted.{Wanted}
use Rattle.compile_wanted.specs.Numbers.{to_show}
use Rattle.session_requests.specs.Requests.{AreWanted}
use Rattle.session_requests.proofs.requests.wanted_numbers.Goals as goal

pub returns-in_ok-sort-in-Numbers : goal.returns-in_ok-sort-in-Numbers
returns-in_ok-sort-in-Numbers c =
    let sorted : List ℕ = c.sort.new.self.items in
    subst (λ (w : Wanted). AreWanted (to_show w) c.args.count sorted) (sym c.in-Numbers.is) (
      subst (λ (ns : List ℕ). IsPermutation ns sorted) c.in_ok-rising-in-Numbers.ensures.items c.sort.ensures.permutation,
      IsNonDecreasingBy-from_sort (λ (n : ℕ). n) sorted c.in_ok-sort-in-Numbers.ensures.sorted,
    )
