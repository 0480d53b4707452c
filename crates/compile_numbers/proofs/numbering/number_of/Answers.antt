use Rattle.std.proofs.Common.{◌≡◌, ◌+◌, ◌<◌, ◌≤◌, ◌^◌, ℕ, nat_lt, length, rules, arith}
use Rattle.std.specs.List.{filter}
use Rattle.std.proofs.lemmas.List.Sorted.{IsPartitionPoint-from_clause}
use Rattle.std.proofs.lemmas.Grind.{common_steps}
use Rattle.compile_numbers.proofs.Places.{parted, place_of, number_is}
use Rattle.compile_numbers.proofs.numbering.number_of.Goals as goal

pub returns : goal.returns
returns c = λ rising few.
    let place : c.partition_point-before.result ≡ length (filter (λ (n : ℕ). nat_lt n c.args.start) c.args.starts.now) = place_of c.args.starts.now c.args.start c.partition_point-before.result c.partition_point-before.ensures.bound
    (IsPartitionPoint-from_clause (λ (n : ℕ). nat_lt n c.args.start) _ _ c.partition_point-before.ensures.partitioned (parted c.args.starts.now c.args.start rising) (λ a r q k. search rules)) in
    let fits : c.partition_point-before.result + 1 < 2 ^ 32 = omega (arith, c.partition_point-before.ensures.bound) in
    let bound : c.partition_point-before.result ≤ length c.args.starts.now = c.partition_point-before.ensures.bound in
    number_is c.args.starts.now c.args.start c.partition_point-before.result c.unwrap_or.result (grind (arith, common_steps)) place
