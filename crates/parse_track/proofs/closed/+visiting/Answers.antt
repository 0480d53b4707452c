use Rattle.std.proofs.Common.{◌≡◌, ℕ, ◌+◌, ◌-◌, ◌<◌, ◌++◌, List, Bool, true, cond, Some, nat_eq, drop, length, map, arith, get_or, [], ◌∷◌, slice_get, refl, sym, ap, subst, ◌∙◌}
use Rattle.std.proofs.Math.Seq.{drop-append_seam}
use Rattle.std.proofs.lemmas.List.{drop_all, length-map, take_rest}
use Rattle.parse_track.specs.declared.region.ClosedAt.{ClosedAt}
use Rattle.parse_track.specs.declared.closed.Shadowed.{Shadowed}
use Rattle.parse_track.specs.AtomTables.{entry}
use Rattle.parse_track.specs.Told.{Region, Told, KnownNames}
use Rattle.parse_track.specs.RegionNames.{is_lambda}
use Rattle.parse_track.specs.ClosedNames.{scopes, joined, begins, at_of, bound_by}
use Rattle.parse_track.specs.Scopes.{bound_of, bounds_of}
use Rattle.parse_track.specs.Shadows.{atoms_bound, shadow_of, bind_back}
use Rattle.parse_track.specs.Walk.{Tops, bind_all, deeper}
use Rattle.parse_track.specs.declared.region.Declare.TheVariants as how
use Rattle.parse_track.specs.declared.track.Item.{Item}
use Rattle.parse_track.specs.declared.track.Item.TheVariants as row
use Rattle.parse_track.specs.Log.{Part, kind_of, region_of, told_items, told_region, known_names}
use Rattle.parse_track.specs.Log.{at_of as offset_of}
use Rattle.parse_track.specs.Rows.{item_of, row_of}
use Rattle.parse_track.specs.Visited.{Visits, stand_of}
use Rattle.parse_track.specs.Pruned.{is_plain, quiet, pruned}
use Rattle.parse_track.proofs.PrunedNames.{pruned_at, pruned_names, pruned_scopes, pruned_count}
use Rattle.parse_track.proofs.PrunedWalk.{given_back, passed_over}
use Rattle.parse_track.proofs.LoneFunctions.{quiet_lone}
use Rattle.parse_track.proofs.Shadowing.{all_back}
use Rattle.parse_track.proofs.Regions.{drop_at, items_left, region_items, scopes_behind}
use Rattle.parse_track.proofs.Visiting.{visit_step, visit_end, region_visits, bind_other, bounds_left, names_opened}
use Rattle.parse_track.proofs.closed.+visiting.Goals as goal

pub visit-loop-item-preserved : goal.visit-loop-item-preserved
visit-loop-item-preserved t c =
    let first : Item = row.Declared how.Lexical (record { atom = 0; at = 0 }) in
    let l : c.loop-item.item-index < length c.items_at-item-items.result.now = omega arith in
    let x : Item = get_or c.items_at-item-items.result.now c.loop-item.item-index first in
    let known = known_names c.args.known.now in
    let parts = map row_of c.args.rows.now in
    let inside = told_region (c.args.room - 1) parts in
    let d = drop_at c.items_at-item-items.result.now c.loop-item.item-index first l in (
      c.in_ok-next.ensures.shadowed ∙ c.loop-item.invariant.0,
      (
        visit_step known c.args.around.named c.args.around.func c.args.around.depth parts inside
            (stand_of c.args.found.now c.args.scope) (stand_of c.loop-item.found c.loop-item.next) (stand_of c.visit_item.new.found c.in_ok-next.next) c.items_at-item-items.result.now c.loop-item.item-index x
            d c.loop-item.invariant.1.0 c.in_ok-next.ensures.visited,
        scopes_behind known c.args.around.named (told_items parts inside (item_of x ∷ [])) c.loop-item.next c.in_ok-next.next _ _
            (c.in_ok-next.ensures.visited.next ∙ ap (λ (n : ℕ). c.loop-item.next + n) (pruned_count known (told_items parts inside (item_of x ∷ [])) c.args.around.named))
            (items_left parts inside c.items_at-item-items.result.now c.loop-item.item-index x c.loop-item.next _ d c.loop-item.invariant.1.1),
      ),
    )

-- the scopes of an item are among those that its region may have
pub visit-visit_item-requires : goal.visit-visit_item-requires
visit-visit_item-requires t c =
    let first : Item = row.Declared how.Lexical (record { atom = 0; at = 0 }) in
    let l : c.loop-item.item-index < length c.items_at-item-items.result.now = omega arith in
    let x : Item = get_or c.items_at-item-items.result.now c.loop-item.item-index first in
    let some = items_left (map row_of c.args.rows.now) (told_region (c.args.room - 1) (map row_of c.args.rows.now)) c.items_at-item-items.result.now c.loop-item.item-index x c.loop-item.next _ (drop_at c.items_at-item-items.result.now c.loop-item.item-index first l) c.loop-item.invariant.1.1 in
    let all = region_items c.args.rows.now c.args.room c.args.region c.items_at-item-items.result.now c.items_at-item-items.ensures.items in
    let limit = c.requires.scopes in
    let depth = c.requires.depth in
    let room = c.items_at-item-items.ensures.room in
    (omega (arith, c.decreases, room, l), (omega (arith, depth, room, l), omega (arith, some, all, limit)))

pub visit-returns-clause-visited : goal.visit-returns-clause-visited
visit-returns-clause-visited t c =
    visit_end (known_names c.args.known.now) c.args.around.named c.args.around.func c.args.around.depth (map row_of c.args.rows.now) c.args.room c.args.region
    (stand_of c.args.found.now c.args.scope) (stand_of c.loop-item.found c.loop-item.next) c.items_at-item-items.result.now (drop c.loop-item.item-index c.items_at-item-items.result.now)
    (drop_all c.loop-item.item-index c.items_at-item-items.result.now (omega arith))
    c.loop-item.invariant.1.0
    c.items_at-item-items.ensures.items

pub visit_region-returns-clause-visited : goal.visit_region-returns-clause-visited
visit_region-returns-clause-visited t c =
    let parts : List Part = map row_of c.args.rows.now in
    let k : Region ℕ = kind_of (slice_get parts c.args.region) in
    let off : ℕ = offset_of (slice_get parts c.args.region) in
    let i : Told ℕ = told_region c.args.room parts c.args.region in
    let known : KnownNames ℕ = known_names c.args.known.now in
    let tops : Tops = entry c.args.found.now.env.entries.items in
    let deep : ℕ = c.around_inside-inside.result.depth in
    let before : List ClosedAt = c.args.found.now.bound.items in
    let own : List ClosedAt = drop c.count-place.result c.open_scopes.new.bound.items in
    let e : region_of c.kind_at-kind.result ≡ k = c.kind_at-kind.ensures in
    let j : Told ℕ = pruned known (is_lambda k) i in
    let lambda : c.around_inside-inside.result.named ≡ is_lambda k = c.around_inside-inside.ensures.named ∙ ap is_lambda e in
    let begun : c.begins-begun.result ≡ begins c.args.around.named k = c.begins-begun.ensures ∙ ap (begins c.args.around.named) e in
    let place : c.count-place.result ≡ length (bounds_of before) = c.count-place.ensures ∙ (ap length c.deref.ensures.value ∙ sym (length-map before bound_of)) in
    let bound : (y : ℕ) → entry c.bind.new.env.entries.items y ≡ bind_all deep (length (bounds_of before)) (atoms_bound own) tops y =
    λ y. c.in_ok-bind.ensures y
    ∙ (ap (λ (xs : List ClosedAt). bind_all deep c.count-place.result (atoms_bound xs) tops y) (take_rest c.deref-3.result.now c.count-place.result)
    ∙ (ap (λ (p : ℕ). bind_all deep p (atoms_bound (drop c.count-place.result c.deref-3.result.now)) tops y) place
    ∙ ap (λ (xs : List ClosedAt). bind_all deep (length (bounds_of before)) (atoms_bound (drop c.count-place.result xs)) tops y) c.deref-3.ensures.value)) in
    let shadowed : drop c.len-outside.result c.deref-4.result.now ≡ map (shadow_of tops) own =
    ap (drop c.len-outside.result)
    (c.deref-4.ensures.value ∙ (c.in_ok-end.ensures.shadowed ∙ (c.in_ok-shadow.ensures
    ∙ ap (λ (xs : List ClosedAt). c.args.found.now.shadowed.items ++ map (shadow_of tops) xs)
    (take_rest c.deref-2.result.now c.count-place.result ∙ ap (drop c.count-place.result) c.deref-2.ensures.value))))
    ∙ (ap (λ (n : ℕ). drop n (c.args.found.now.shadowed.items ++ map (shadow_of tops) own)) (c.len-outside.ensures ∙ c.args.found.now.shadowed.ok.0)
    ∙ drop-append_seam c.args.found.now.shadowed.items (map (shadow_of tops) own)) in
    region_visits known c.args.around.named c.args.around.func c.args.around.depth
    (stand_of c.args.found.now c.args.scope)
    (record { bound = bounds_of c.open_scopes.new.bound.items; hits = c.args.found.now.hits.items; tops = entry c.bind.new.env.entries.items; scope = c.in_ok-next.next })
    (stand_of c.visit.new.found c.in_ok-end.end)
    (record { bound = bounds_of c.visit.new.found.bound.items; hits = c.visit.new.found.hits.items; tops = entry c.bind_back.new.env.entries.items; scope = c.scope_behind-behind.result })
    k off j c.around_inside-inside.result.named c.around_inside-inside.result.func deep c.first_scope-from.result (atoms_bound own)
    (record {
      lambda_is = lambda;
      own_is = c.around_inside-inside.ensures.func ∙ (ap (λ (x : Region ℕ). cond (begins c.args.around.named x) (Some (at_of x off i)) c.args.around.func) e
          ∙ ap (λ (n : ℕ). cond (begins c.args.around.named k) (Some n) c.args.around.func) (sym (pruned_at known k off i (is_lambda k))));
      deep_is = c.around_inside-inside.ensures.depth ∙ ap (λ (x : Region ℕ). deeper (begins c.args.around.named x) c.args.around.depth) e;
      from_is = c.first_scope-from.ensures ∙ ap (λ (b : Bool). cond b 0 c.args.scope) begun;
      names_are = names_opened before c.open_scopes.new.bound.items c.around_inside-inside.result.func c.first_scope-from.result c.count-place.result (scopes nat_eq known (region_of c.kind_at-kind.result) i) place c.in_ok-next.ensures.binds
          ∙ (ap (λ (x : Region ℕ). joined (scopes nat_eq known x i)) e ∙ sym (pruned_names known (is_lambda k) i k));
      bound = c.in_ok-next.ensures.binds ∙ (ap (λ (x : Region ℕ). bounds_of before ++ bound_by c.around_inside-inside.result.func c.first_scope-from.result (scopes nat_eq known x i)) e
          ∙ ap (λ (xss : List (List ℕ)). bounds_of before ++ bound_by c.around_inside-inside.result.func c.first_scope-from.result xss) (sym (pruned_scopes known (is_lambda k) i k)));
      hits = refl;
      tops = bound;
      scope = c.in_ok-next.ensures.next_is ∙ (ap (λ (x : Region ℕ). c.first_scope-from.result + length (scopes nat_eq known x i)) e
          ∙ ap (λ (xss : List (List ℕ)). c.first_scope-from.result + length xss) (sym (pruned_scopes known (is_lambda k) i k)));
      visits = subst (λ (b : Bool). Visits known c.around_inside-inside.result.named c.around_inside-inside.result.func deep
          (record { bound = bounds_of c.open_scopes.new.bound.items; hits = c.args.found.now.hits.items; tops = entry c.bind.new.env.entries.items; scope = c.in_ok-next.next })
          (stand_of c.visit.new.found c.in_ok-end.end) (pruned known b i)) lambda c.in_ok-end.ensures.visited;
      now_bound = refl;
      now_hits = refl;
      now_tops = λ y.
          c.in_ok-bind_back.ensures y
          ∙ (ap (λ (xs : List Shadowed). bind_back xs (entry c.visit.new.found.env.entries.items) y) (take_rest c.deref-4.result.now c.len-outside.result ∙ shadowed)
          ∙ all_back own (entry c.visit.new.found.env.entries.items) tops
          (λ z h. c.in_ok-end.ensures.visited.same z ∙ (bound z ∙ bind_other (atoms_bound own) deep (length (bounds_of before)) z tops h)) y);
      now_scope = c.scope_behind-behind.ensures ∙ ap (λ (b : Bool). cond b c.args.scope c.in_ok-end.end) begun;
    })

-- a function in which none begins, and in which no use finds a binding of a function further out
pub visit_inner-returns-then-is_quiet-clause-visited : goal.visit_inner-returns-then-is_quiet-clause-visited
visit_inner-returns-then-is_quiet-clause-visited t c =
    let parts : List Part = map row_of c.args.rows.now in
    let k : Region ℕ = kind_of (slice_get parts c.args.region) in
    let i : Told ℕ = told_region c.args.room parts c.args.region in
    let tops : Tops = entry c.args.found.now.env.entries.items in
    let silent : quiet tops (c.args.around.depth + 1) i ≡ true = sym c.is_quiet.ensures ∙ c.if-is_quiet.true in
    passed_over (known_names c.args.known.now) c.args.around.named c.args.around.func c.args.around.depth k (offset_of (slice_get parts c.args.region)) i
    (ap (is_plain c.args.around.named) (sym c.kind_at.ensures) ∙ (sym c.is_plain.ensures ∙ c.if-not-is_plain.false))
    (quiet_lone tops (c.args.around.depth + 1) i silent) (stand_of c.args.found.now c.args.scope) silent

-- a function in which none begins gives its bindings back
pub visit_inner-returns-then-is_lone-clause-visited : goal.visit_inner-returns-then-is_lone-clause-visited
visit_inner-returns-then-is_lone-clause-visited t c =
    let parts : List Part = map row_of c.args.rows.now in
    let k : Region ℕ = kind_of (slice_get parts c.args.region) in
    let i : Told ℕ = told_region c.args.room parts c.args.region in
    given_back (known_names c.args.known.now) c.args.around.named c.args.around.func c.args.around.depth k (offset_of (slice_get parts c.args.region)) i
    (ap (is_plain c.args.around.named) (sym c.kind_at.ensures) ∙ (sym c.is_plain.ensures ∙ c.if-not-is_plain.false))
    (sym c.is_lone.ensures ∙ c.if-is_lone.true)
    (stand_of c.args.found.now c.args.scope) (stand_of c.visit_region-2.new.found c.in_ok-next.next)
    (record {
      bound = bounds_of c.truncate.new.self.items;
      hits = c.visit_region-2.new.found.hits.items;
      tops = entry c.visit_region-2.new.found.env.entries.items;
      scope = c.in_ok-next.next;
    })
    c.in_ok-next.ensures.visited
    (bounds_left c.args.found.now.bound.items c.visit_region-2.new.found.bound.items c.truncate.new.self.items c.count-place.result _ (c.count-place.ensures ∙ ap length c.deref.ensures.value) c.truncate.ensures.items
    c.in_ok-next.ensures.visited.binds)
    refl (λ y. refl) refl
