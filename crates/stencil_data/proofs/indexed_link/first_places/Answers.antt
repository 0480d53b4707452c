use Rattle.std.proofs.Common.{◌≡◌, ◌+◌, ◌-◌, ◌∙◌, ℕ, List, Bool, cond, bytes_eq, Some, ap, sym, refl, arith}
use Rattle.std.specs.BTreeMap.{get}
use Rattle.std.specs.Cmp.Lexicographic.{slice_cmp}
use Rattle.std.specs.Ordering.{nat_cmp}
use Rattle.std.proofs.lemmas.Map.Text.{is_eq-slice_cmp}
use Rattle.stencil_data.specs.declared.chains.LinkName.{LinkName}
use Rattle.stencil_data.proofs.FirstPlaces.{one_before, none_from_end, leads_from_start}
use Rattle.stencil_data.proofs.indexed_link.first_places.Goals as goal

pub loop-place-init : goal.loop-place-init
loop-place-init c = none_from_end c.args.names.now c.new-places.result _ refl c.new-places.ensures.empty

pub loop-place-preserved : goal.loop-place-preserved
loop-place-preserved c =
    let next : c.loop-place.place ≡ (c.loop-place.place - 1) + 1 = omega (arith, c.loop-place-test.true) in
    one_before c.args.names.now c.loop-place.places c.insert.new.self (c.loop-place.place - 1) c.loop-place.place c.index-names-place.result c.loop-place.invariant next c.index-names-place.is
    (λ name. c.in_ok-insert.ensures.updates.0 name ∙ ap (λ (b : Bool). cond b (Some (c.loop-place.place - 1)) (get (slice_cmp nat_cmp) c.loop-place.places name)) (is_eq-slice_cmp _ name) ∙ ap (λ (text : List ℕ). cond (bytes_eq text name) (Some (c.loop-place.place - 1)) (get (slice_cmp nat_cmp) c.loop-place.places name)) (c.in_ok-name.ensures ∙ ap (λ (binding : LinkName). binding.text) (sym c.index-names-place.is)))

pub returns : goal.returns
returns c = let start : c.loop-place.place ≡ 0 = omega (arith, c.loop-place-test.false) in leads_from_start c.args.names.now c.loop-place.places c.loop-place.place start c.loop-place.invariant
