use Rattle.std.proofs.Common.{ℕ, List, ap, sym, ◌∙◌, length, map, refl}
use Rattle.std.proofs.lemmas.List.{length-map}
use Rattle.std.proofs.lemmas.Result.{IfOk-weaker}
use Rattle.parse_track.specs.ClosedNames.{kept}
use Rattle.parse_track.specs.Log.{known_names, told_of}
use Rattle.parse_track.specs.Rows.{row_of}
use Rattle.parse_track.specs.Scopes.{bound_of, bounds_of}
use Rattle.parse_track.specs.Walk.{marks}
use Rattle.parse_track.specs.Visited.{stand_of}
use Rattle.parse_track.proofs.Marking.{length-marks}
use Rattle.parse_track.proofs.Closing.{all_closed}
use Rattle.parse_track.proofs.closed_names.closed_names.Goals as goal

pub keep-requires : goal.keep-requires
keep-requires c =
    ap length (c.deref-4.ensures.value ∙ c.in_ok-marked.ensures)
    ∙ (length-marks c.deref.result.now 0 c.count.result
    ∙ (c.count.ensures ∙ ap length (c.deref-2.ensures.value ∙ sym c.deref-3.ensures.value)))

pub returns : goal.returns
returns c = IfOk-weaker c.keep.result _ _
    (λ some e. e
    ∙ (ap (λ xs. kept xs (bounds_of c.deref-3.result.now)) c.deref-4.ensures.value
    ∙ (ap (λ xs. kept c.in_ok-marked.marked.items (bounds_of xs)) c.deref-3.ensures.value
    ∙ all_closed (known_names c.args.known.now) (told_of (map row_of c.args.rows.now)) (stand_of c.new-found.result 0) (stand_of c.visit_script.new.found c.in_ok-_scopes._scopes) c.in_ok-marked.marked.items c.count.result
    (ap (map bound_of) c.new-found.ensures.bound) c.new-found.ensures.hits c.new-found.ensures.env refl c.in_ok-_scopes.ensures
    (c.count.ensures ∙ (ap length c.deref-2.ensures.value ∙ sym (length-map c.visit_script.new.found.bound.items bound_of)))
    (c.in_ok-marked.ensures ∙ ap (λ (xs : List ℕ). marks xs 0 c.count.result) c.deref.ensures.value))))
    c.keep.ensures
