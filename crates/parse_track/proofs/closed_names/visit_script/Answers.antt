use Rattle.std.proofs.Common.{◌≡◌, ℕ, ◌+◌, ◌<◌, ◌∷◌, None, false, drop, length, map, arith, add-one, drop-cons, suc, sym, ap, ◌∙◌}
use Rattle.std.proofs.lemmas.List.{drop_all}
use Rattle.parse_track.specs.Log.{told_region, known_names}
use Rattle.parse_track.specs.Rows.{row_of, told_outermost}
use Rattle.parse_track.specs.Visited.{stand_of}
use Rattle.parse_track.proofs.PrunedNames.{pruned_count}
use Rattle.parse_track.proofs.Regions.{rows_left, scopes_behind, script_rows}
use Rattle.parse_track.proofs.Visiting.{outer_step, outer_end}
use Rattle.parse_track.proofs.closed_names.visit_script.Goals as goal

pub loop-region-preserved : goal.loop-region-preserved
loop-region-preserved c =
    let l : c.loop-region.region < length c.args.rows.now = omega arith in
    let d : drop c.loop-region.region c.args.rows.now ≡ c.index-rows-region.result ∷ drop (c.loop-region.region + 1) c.args.rows.now = rw add-one (drop-cons c.args.rows.now c.loop-region.region c.index-rows-region.result l ∙ ap (λ x. x ∷ drop (suc c.loop-region.region) c.args.rows.now) (sym c.index-rows-region.is)) in (
      outer_step (known_names c.args.known.now) false None 0 (map row_of c.args.rows.now) (told_region (length c.args.rows.now) (map row_of c.args.rows.now))
          (stand_of c.args.found.now 0) (stand_of c.loop-region.found c.loop-region.scope) (stand_of c.visit_outermost.new.found c.in_ok-scope.scope) c.args.rows.now c.loop-region.region c.index-rows-region.result
          d
          c.loop-region.invariant.0
          c.in_ok-scope.ensures,
      scopes_behind (known_names c.args.known.now) false (told_outermost c.args.rows.now c.loop-region.region c.index-rows-region.result.around) c.loop-region.scope c.in_ok-scope.scope _ _
          (c.in_ok-scope.ensures.next ∙ ap (λ (n : ℕ). c.loop-region.scope + n) (pruned_count (known_names c.args.known.now) (told_outermost c.args.rows.now c.loop-region.region c.index-rows-region.result.around) false))
          (rows_left (map row_of c.args.rows.now) (told_region (length c.args.rows.now) (map row_of c.args.rows.now)) c.args.rows.now c.loop-region.region c.index-rows-region.result c.loop-region.scope _ d c.loop-region.invariant.1),
    )

-- the scopes of an outermost region are among those that the script may have
pub visit_outermost-requires-clause-scopes : goal.visit_outermost-requires-clause-scopes
visit_outermost-requires-clause-scopes c =
    let l : c.loop-region.region < length c.args.rows.now = omega arith in
    let d : drop c.loop-region.region c.args.rows.now ≡ c.index-rows-region.result ∷ drop (c.loop-region.region + 1) c.args.rows.now = rw add-one (drop-cons c.args.rows.now c.loop-region.region c.index-rows-region.result l ∙ ap (λ x. x ∷ drop (suc c.loop-region.region) c.args.rows.now) (sym c.index-rows-region.is)) in
    let some = rows_left (map row_of c.args.rows.now) (told_region (length c.args.rows.now) (map row_of c.args.rows.now)) c.args.rows.now c.loop-region.region c.index-rows-region.result c.loop-region.scope _ d c.loop-region.invariant.1 in
    let all = script_rows c.args.rows.now in
    let limit = c.requires.scopes in
    omega (arith, some, all, limit)

pub returns : goal.returns
returns c = outer_end (known_names c.args.known.now) c.args.rows.now (drop c.loop-region.region c.args.rows.now) (stand_of c.args.found.now 0) (stand_of c.loop-region.found c.loop-region.scope) c.loop-region.region
    (drop_all c.loop-region.region c.args.rows.now (omega arith)) c.loop-region.invariant.0
