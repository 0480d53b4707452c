use Rattle.std.proofs.Common.{◌∙◌, sym, subst}
use Rattle.stencil_board.specs.Views.{PassView}
use Rattle.stencil_board.specs.Passes.{BelongsTo}
use Rattle.example_scripts.proofs.threads.asked_by.Goals as goal
use Rattle.example_scripts.proofs.threads.asked_by.Goals.{else-loop-number-test, then-loop-number-test+else-number-count, then-number-thread+in_ok-made+in_ok-hand_over+in_ok-push, else-number-thread}

pub loop-number-preserved : goal.loop-number-preserved
loop-number-preserved g c = elim c.if-number-thread.branch [
  | then-number-thread+in_ok-made+in_ok-hand_over+in_ok-push w ↦ record {
    here = subst (λ (p : PassView). BelongsTo p c.args.board.now) (sym w.pass-is) w.in_ok-made.ensures.belongs;
    there = subst (λ (p : PassView). BelongsTo p c.args.second.now) (sym w.there-is) w.hand_over.ensures.belongs;
  }
  | else-number-thread w ↦ record {
    here = subst (λ (p : PassView). BelongsTo p c.args.board.now) (sym w.pass-is) c.loop-number.invariant.here;
    there = subst (λ (p : PassView). BelongsTo p c.args.second.now) (sym w.there-is) c.loop-number.invariant.there;
  }
]

pub returns : goal.returns
returns g c = record {
  belongs = elim c.loop-number-test.branch [
    | else-loop-number-test w ↦ subst (λ (p : PassView). BelongsTo p c.args.board.now) (sym w.pass-is) c.loop-number.invariant.here
    | then-loop-number-test+else-number-count w ↦ elim w.if-number-thread.branch [
      | then-number-thread+in_ok-made+in_ok-hand_over+in_ok-push turn ↦ subst (λ (p : PassView). BelongsTo p c.args.board.now) (sym (w.pass-is ∙ turn.pass-is)) turn.in_ok-made.ensures.belongs
      | else-number-thread turn ↦ subst (λ (p : PassView). BelongsTo p c.args.board.now) (sym (w.pass-is ∙ turn.pass-is)) c.loop-number.invariant.here
    ]
  ];
}
