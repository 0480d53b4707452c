use Rattle.std.proofs.Common.{arith, true, false, ap, sym, ◌∙◌, ◌∷◌, [], append-nil}
use Rattle.std.proofs.lemmas.List.{map-append}
use Rattle.parse_track.specs.AtomSets.{has_atom}
use Rattle.parse_track.specs.Scopes.{bound_of, bounds_of}
use Rattle.parse_track.proofs.Distinct.{seen_more, bound_step, not_false, not_true}
use Rattle.parse_track.proofs.scopes.push_scope.Goals as goal
use Rattle.parse_track.proofs.scopes.push_scope.Goals.{then-branch+in_ok-push, else-branch}

pub loop-name-preserved : goal.loop-name-preserved
loop-name-preserved c = (
  seen_more c.args.names.now _ c.loop-name.name-index (has_atom c.loop-name.seen.marks.items c.loop-name.seen.version) (has_atom c.insert.new.self.marks.items c.insert.new.self.version) (omega arith) c.in_ok-insert.ensures.has c.loop-name.invariant.0,
  elim c.if-branch.branch [
    | then-branch+in_ok-push w ↦ bound_step c.args.names.now _ c.loop-name.name-index c.args.func c.args.scope false (bounds_of c.loop-name.bound.items) (bounds_of c.if-branch.bound.items) _ (omega arith)
        (sym (c.loop-name.invariant.0 _) ∙ not_true _ (sym c.in_ok-insert.ensures.added ∙ w.if-branch.true))
        (ap (λ v. bounds_of v.items) w.bound-is ∙ (ap bounds_of w.in_ok-push.ensures.items ∙ map-append bound_of c.loop-name.bound.items (_ ∷ []))) c.loop-name.invariant.1
    | else-branch w ↦ bound_step c.args.names.now _ c.loop-name.name-index c.args.func c.args.scope true (bounds_of c.loop-name.bound.items) (bounds_of c.if-branch.bound.items) _ (omega arith)
        (sym (c.loop-name.invariant.0 _) ∙ not_false _ (sym c.in_ok-insert.ensures.added ∙ w.if-branch.false))
        (ap (λ v. bounds_of v.items) w.bound-is ∙ sym (append-nil (bounds_of c.loop-name.bound.items))) c.loop-name.invariant.1
  ],
)
