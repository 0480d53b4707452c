use Rattle.std.proofs.Common.{List, Bool, cond, nat_eq, ◌≡◌, ℕ, ◌-◌, ◌<◌, drop, length, map, arith, add-one, drop-cons, slice_get, refl, sym, ap, subst, ◌∙◌}
use Rattle.std.proofs.lemmas.List.{drop_all}
use Rattle.script_grammar.specs.declared.tree.Ident.{Ident}
use Rattle.parse_track.specs.AtomTables.{entry}
use Rattle.parse_track.specs.Told.{Name, Told}
use Rattle.parse_track.specs.RegionNames.{is_lexical, is_head, stops_vars, directly}
use Rattle.parse_track.specs.EarlyErrors.{has, smaller}
use Rattle.parse_track.specs.ClosedNames.{names_of}
use Rattle.parse_track.specs.Log.{told_region, name_of, kind_of, region_of}
use Rattle.parse_track.specs.Rows.{row_of}
use Rattle.parse_track.specs.Clashes.{open_all, opens}
use Rattle.parse_track.specs.LexicalNames.{Kept, offset_for, firsts_of, keep_all, AreKeptTo}
use Rattle.parse_track.proofs.Items.{names_atoms}
use Rattle.parse_track.proofs.Keeping.{opened_first, first_same, first_deeper, deeper_within, kept_within, same_within, keep_other}
use Rattle.parse_track.proofs.ClashSteps.{clashes_same, clash_step, clash_end, clash_inner}
use Rattle.parse_track.proofs.Smallest.{smaller_none}
use Rattle.parse_track.proofs.clashing.+clashing.Goals as goal

pub clash_in-loop-item-preserved : goal.clash_in-loop-item-preserved
clash_in-loop-item-preserved t c =
    let l : c.loop-item.item-index < length c.items_at-items.result.now = omega arith in (
      (λ y. c.in_ok-clash_in_item.ensures.same y ∙ c.loop-item.invariant.0 y),
      λ kept heads.
          clash_step heads (map row_of c.args.rows.now) (told_region (c.args.room - 1) (map row_of c.args.rows.now)) c.items_at-items.result.now c.loop-item.item-index _
          (firsts_of heads c.args.depth (entry c.args.names.now.entries.items)) (firsts_of heads c.args.depth (entry c.loop-item.names.entries.items))
          (offset_for heads c.loop-item.found) (offset_for heads c.clash_in_item.new.found) _
          (rw add-one (drop-cons c.items_at-items.result.now c.loop-item.item-index _ l))
          (first_same heads c.args.depth (entry c.loop-item.names.entries.items) (entry c.args.names.now.entries.items) c.loop-item.invariant.0)
          (c.in_ok-clash_in_item.ensures.found (same_within c.args.depth (entry c.args.names.now.entries.items) (entry c.loop-item.names.entries.items) c.loop-item.invariant.0 kept) heads)
          (c.loop-item.invariant.1 kept heads),
    )

pub clash_in-returns : goal.clash_in-returns
clash_in-returns t c = record {
  same = c.loop-item.invariant.0;
  found = λ kept heads.
      clash_end heads (map row_of c.args.rows.now) c.args.room c.args.region c.items_at-items.result.now (drop c.loop-item.item-index c.items_at-items.result.now)
      (firsts_of heads c.args.depth (entry c.args.names.now.entries.items)) (offset_for heads c.args.found.now) (offset_for heads c.loop-item.found)
      (drop_all c.loop-item.item-index c.items_at-items.result.now (omega arith)) (c.loop-item.invariant.1 kept heads) c.items_at-items.ensures.items;
}

pub clash_inside-returns : goal.clash_inside-returns
clash_inside-returns t c =
    let told : Told ℕ = told_region c.args.room (map row_of c.args.rows.now) c.args.region in
    let f : Kept = entry c.args.names.now.entries.items in
    let opened : List (Name ℕ) = directly is_lexical told in
    let h : Bool = is_head (region_of c.args.kind) in
    let names : map name_of c.in_ok-opened.opened.items ≡ opened = c.in_ok-opened.ensures in
    let kept : (y : ℕ) → entry c.open_names.new.names.entries.items y ≡ keep_all c.args.depth h opened f y =
    λ y. c.in_ok-open_names.ensures y
    ∙ (ap (λ (b : Bool). keep_all c.args.depth b (map name_of c.deref-3.result.now) f y) c.is_head.ensures
    ∙ (ap (λ (xs : List Ident). keep_all c.args.depth h (map name_of xs) f y) c.deref-3.ensures.value
    ∙ ap (λ (xs : List (Name ℕ)). keep_all c.args.depth h xs f y) names)) in record {
      same = c.in_ok-put_back.ensures f
          (c.deref-5.ensures.value ∙ (c.in_ok-saved.ensures ∙ ap (map f) (c.deref-2.ensures.value ∙ sym c.deref-4.ensures.value)))
          (λ y other. c.in_ok-clash_in.ensures.same y ∙ (kept y ∙ keep_other c.args.depth h opened y f
          (ap (λ (xs : List (Name ℕ)). has nat_eq y (names_of xs)) (sym names)
          ∙ (ap (has nat_eq y) (names_atoms c.in_ok-opened.opened.items ∙ (ap (map (λ (name : Ident). name.atom)) (sym c.deref.ensures.value) ∙ (sym c.in_ok-atoms.ensures ∙ sym c.deref-4.ensures.value))) ∙ other))));
      found = λ to heads.
          c.in_ok-clash_in.ensures.found (same_within c.args.depth (keep_all c.args.depth h opened f) (entry c.open_names.new.names.entries.items) kept (kept_within c.args.depth h opened f to)) heads
          ∙ ap (smaller (offset_for heads c.args.found.now))
          (clashes_same heads told (firsts_of heads c.args.depth (entry c.open_names.new.names.entries.items))
          (cond (opens heads (region_of c.args.kind)) (open_all opened (firsts_of heads c.args.depth f)) (firsts_of heads c.args.depth f))
          (λ y. first_same heads c.args.depth (entry c.open_names.new.names.entries.items) (keep_all c.args.depth h opened f) kept y ∙ opened_first c.args.depth heads h opened f y));
    }

pub clash_in_item-returns-in-Declared : goal.clash_in_item-returns-in-Declared
clash_in_item-returns-in-Declared t c = rw c.in-Declared.is (record {
  same = λ y. refl;
  found = λ to heads. c.clash_of_declared.ensures heads ∙ ap (smaller (offset_for heads c.args.found.now)) (sym (smaller_none _));
})

pub clash_in_item-returns-in-Used : goal.clash_in_item-returns-in-Used
clash_in_item-returns-in-Used t c = rw c.in-Used.is (record { same = λ y. refl; found = λ to heads. sym (smaller_none (offset_for heads c.args.found.now)) })

pub clash_in_item-returns-in-Jumped : goal.clash_in_item-returns-in-Jumped
clash_in_item-returns-in-Jumped t c = rw c.in-Jumped.is (record { same = λ y. refl; found = λ to heads. sym (smaller_none (offset_for heads c.args.found.now)) })

pub clash_in_item-returns-in-JumpedTo : goal.clash_in_item-returns-in-JumpedTo
clash_in_item-returns-in-JumpedTo t c = rw c.in-JumpedTo.is (record { same = λ y. refl; found = λ to heads. sym (smaller_none (offset_for heads c.args.found.now)) })

pub clash_in_item-returns-in_ok-clash_inside-in-Inner : goal.clash_in_item-returns-in_ok-clash_inside-in-Inner
clash_in_item-returns-in_ok-clash_inside-in-Inner t c =
    let f : Kept = entry c.args.names.now.entries.items in
    let stops : Bool = stops_vars (region_of c.kind_at-kind.result) in
    rw c.in-Inner.is (record {
      same = c.in_ok-clash_inside-in-Inner.ensures.same;
      found = λ to heads.
          clash_inner heads (kind_of (slice_get (map row_of c.args.rows.now) c.in-Inner.region)) (region_of c.kind_at-kind.result) (told_region c.args.room (map row_of c.args.rows.now) c.in-Inner.region)
          (firsts_of heads c.args.depth f) (firsts_of heads c.depth_inside-inside.result f)
          (offset_for heads c.args.found.now) (offset_for heads c.clash_inside.new.found)
          c.kind_at-kind.ensures
          (λ y. ap (λ (d : ℕ). firsts_of heads d f y) c.depth_inside-inside.ensures ∙ first_deeper heads stops c.args.depth f to y)
          (c.in_ok-clash_inside-in-Inner.ensures.found (subst (λ (d : ℕ). AreKeptTo d f) (sym c.depth_inside-inside.ensures) (deeper_within stops c.args.depth f to)) heads);
    })
