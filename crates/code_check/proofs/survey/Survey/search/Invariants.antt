use Rattle.std.proofs.Common.{◌+◌, length}
use Rattle.code_check.specs.Catches.{HasLanding}
use Rattle.code_check.specs.NoteIndex.{IsIndexed}
use Rattle.code_check.specs.Survey.{IsSearched, unset}
use Rattle.code_check.proofs.survey.Survey.search.Given as goal

abbrev pub invariant-loop-at : goal.invariant-loop-at
invariant-loop-at l = record {
  searched : IsSearched l.code l.notes (record { depths = l.self.depths; pending = l.self.pending });
  indexed : IsIndexed l.notes (length l.code) (HasLanding l.self) l.index;
}

abbrev pub decreases-loop-at : goal.decreases-loop-at
decreases-loop-at l = length l.self.pending + unset l.self.depths
