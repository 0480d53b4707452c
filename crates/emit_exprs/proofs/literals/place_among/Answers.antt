use Rattle.std.proofs.Common.{nat_lt, rules}
use Rattle.stencil_data.specs.declared.functions.Extent.{Extent}
use Rattle.std.proofs.lemmas.List.Sorted.{IsPartitionPoint-from_clause}
use Rattle.emit_exprs.proofs.Rising.{parted, place_of}
use Rattle.emit_exprs.proofs.literals.place_among.Goals as goal

pub returns-clause-place : goal.returns-clause-place
returns-clause-place c =
    place_of c.args.inner.now c.args.start c.partition_point.result c.partition_point.ensures.bound
    (IsPartitionPoint-from_clause (λ (e : Extent). nat_lt e.start c.args.start) _ _ c.partition_point.ensures.partitioned (parted c.args.inner.now c.args.start c.requires) (λ a r q k. search rules))
