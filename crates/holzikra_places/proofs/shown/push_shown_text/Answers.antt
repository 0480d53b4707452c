use Rattle.std.proofs.lemmas.Str.{IsUtf8-past_char}
use Rattle.holzikra_places.proofs.ShownLemmas.{shown_end, shown_step}
use Rattle.holzikra_places.proofs.shown.push_shown_text.Goals as goal

pub loop-c-preserved : goal.loop-c-preserved
loop-c-preserved c =
    let held = c.loop-c.invariant in
    let parts = c.in-Some.ensures.steps.0 in
    (IsUtf8-past_char _ _ c.in-Some.c held.0 parts, shown_step _ _ _ _ _ c.in-Some.c held.0 parts c.in_ok-push_shown.ensures held.1)

pub returns : goal.returns
returns c = shown_end _ _ _ c.in-None.ensures.steps.0.0 c.loop-c.invariant.1
