use Rattle.std.proofs.Common.{◌≡◌, ◌+◌, ◌<◌, length, sym, subst, arith}
use Rattle.code_check.specs.Catches.{HasLanding}
use Rattle.code_check.specs.NoteIndex.{IsIndexed}
use Rattle.code_check.specs.Survey.{Found, IsSearched, unset}
use Rattle.code_check.proofs.Searches.{none_left, popped_some, popped_true, searched_all, searched_less, searched_more}
use Rattle.code_check.proofs.Stops.{handed}
use Rattle.code_check.proofs.survey.Survey.search.Goals as goal

pub depth_at-depth-requires : goal.depth_at-depth-requires
depth_at-depth-requires c = popped_some c.args.code.now c.args.notes.now c.self.inside.depths.items c.self.inside.pending.items c.pop.new.self.items c.in-Some.at c.in-Some.ensures.items (subst (IsSearched c.args.code.now c.args.notes.now) (sym c.self.view_is) c.loop-at.invariant.searched).true_of

pub look-requires-clause-at : goal.look-requires-clause-at
look-requires-clause-at c = record {
  are_starts = c.requires.starts;
  true_of = popped_true c.args.code.now c.args.notes.now c.self.inside.depths.items c.self.inside.pending.items c.pop.new.self.items c.in-Some.at c.in-Some.ensures.items (subst (IsSearched c.args.code.now c.args.notes.now) (sym c.self.view_is) c.loop-at.invariant.searched).true_of;
  has = c.depth_at-depth.ensures;
}

pub look-requires-clause-indexed : goal.look-requires-clause-indexed
look-requires-clause-indexed c = subst (λ (f : Found). IsIndexed c.args.notes.now (length c.args.code.now) (HasLanding f) c.loop-at.index) (sym c.self.view_is) c.loop-at.invariant.indexed

pub loop-at-preserved : goal.loop-at-preserved
loop-at-preserved c = record {
  indexed = c.in_ok-look.ensures.indexed;
  searched = searched_more c.args.code.now c.args.notes.now c.self.inside.depths.items c.self.inside.pending.items c.pop.new.self.items c.in-Some.at c.in-Some.ensures.items c.look.new.self c.depth_at-depth.result c.depth_at-depth.ensures (subst (IsSearched c.args.code.now c.args.notes.now) (sym c.self.view_is) c.loop-at.invariant.searched) c.in_ok-look.ensures.goes c.in_ok-look.ensures.looked;
}

pub loop-at-smaller : goal.loop-at-smaller
loop-at-smaller c =
    subst (λ (f : Found). length c.look.new.self.pending + unset c.look.new.self.depths < length f.pending + unset f.depths) c.self.view_is
    (searched_less c.args.code.now c.args.notes.now c.self.inside.depths.items c.self.inside.pending.items c.pop.new.self.items c.in-Some.at c.in-Some.ensures.items c.look.new.self c.depth_at-depth.result c.depth_at-depth.ensures (subst (IsSearched c.args.code.now c.args.notes.now) (sym c.self.view_is) c.loop-at.invariant.searched) c.in_ok-look.ensures.goes c.in_ok-look.ensures.looked)

pub returns-clause-ok : goal.returns-clause-ok
returns-clause-ok c =
    let empty : length c.self.inside.pending.items ≡ 0 = omega (arith, none_left c.pop.result _ c.in_default.not-Some c.pop.ensures.variant, c.self.inside.pending.ok.0) in
    searched_all c.args.code.now c.args.notes.now c.self.inside.depths.items c.self.inside.pending.items empty (subst (IsSearched c.args.code.now c.args.notes.now) (sym c.self.view_is) c.loop-at.invariant.searched)

pub returns-in_err-look-clause-err : goal.returns-in_err-look-clause-err
returns-in_err-look-clause-err c = handed c.from_residual.result c.in_err-look.field-0.0 c.from_residual.ensures.1 (λ x. x) c.in_err-look.ensures.err
