use Rattle.std.proofs.Common.{◌≡◌, ◌∙◌, ◌+◌, ◌-◌, ◌<◌, List, map, length, take, slice_index_or, Some, refl, sym, ap, subst, arith}
use Rattle.stencil_data.specs.declared.functions.Extent.{Extent}
use Rattle.stencil_data.specs.Views.{RecordView}
use Rattle.compile_lazy_laws.specs.Inside.{extents_at}
use Rattle.lazy_function.proofs.ExtentsInside.{one_more}
use Rattle.lazy_function.proofs.extents.extents_of.Goals as goal

pub loop-number-preserved : goal.loop-number-preserved
loop-number-preserved c =
    let records = c.args.records.now in
    let numbers = c.args.numbers.now in
    let k = c.loop-number.number-index in
    let n = slice_index_or numbers k 0 in
    let number = c.requires k 0 c.loop-number-test.true in
    let some = number.0 in
    let high = number.1 in
    let within : n - 1 < length records = omega (arith, some, high) in
    subst (λ (xs : List Extent). map (λ (e : Extent). Some e) xs ≡ extents_at records (take (k + 1) numbers)) (sym c.in_ok-push.ensures.items)
    (one_more records numbers c.loop-number.extents.items k n 0 c.index-records-number.result c.extent_of.result c.loop-number-test.true refl within (c.extent_of.ensures ∙ ap (λ (r : RecordView). r.extent) c.index-records-number.is) c.loop-number.invariant)
