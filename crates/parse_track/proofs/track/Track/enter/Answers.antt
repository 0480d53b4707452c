use Rattle.std.proofs.Common.{ℕ, ap, refl, sym, ◌∙◌, Some, List, [], ◌∷◌, ◌++◌, length, map}
use Rattle.std.proofs.lemmas.List.{length-map}
use Rattle.parse_track.specs.Log.{Part, Inner, tell}
use Rattle.parse_track.specs.Rows.{row_of}
use Rattle.parse_track.proofs.Entering.{still_in_order, now_in_order, now_parts}
use Rattle.parse_track.proofs.track.Track.enter.Goals as goal

pub invariant_of-self-in_err-add_item : goal.invariant_of-self-in_err-add_item
invariant_of-self-in_err-add_item c = still_in_order c.args.region c.args.at c.self.inside.present c.self.inside.rows.items c.push.new.self.items c.add_item.new.rows.items _ c.next_number-number.result
    (record { pushes = c.in_ok-push.ensures.items; part = refl; number = c.next_number-number.ensures.0 ∙ ap length c.deref.ensures.value; few = c.next_number-number.ensures.1; order = c.self.invariant })
    c.add_item.ensures.either

pub invariant_of-self-2 : goal.invariant_of-self-2
invariant_of-self-2 c = now_in_order c.args.region c.args.at c.self.inside.present c.self.inside.rows.items c.push.new.self.items c.add_item.new.rows.items _ c.next_number-number.result
    (record { pushes = c.in_ok-push.ensures.items; part = refl; number = c.next_number-number.ensures.0 ∙ ap length c.deref.ensures.value; few = c.next_number-number.ensures.1; order = c.self.invariant })
    c.in_ok-add_item.ensures.told

pub returns : goal.returns
returns c = rw (← c.self.view_is) (
  c.next_number-number.ensures.0 ∙ (ap length c.deref.ensures.value ∙ sym (length-map c.self.inside.rows.items row_of)),
  ap (λ (ps : List Part). record { known = c.self.inside.known; parts = ps; present = Some c.next_number-number.result; noted = c.self.inside.noted })
      (now_parts c.args.region c.args.at c.self.inside.present c.self.inside.rows.items c.push.new.self.items c.add_item.new.rows.items _ c.next_number-number.result
      (record { pushes = c.in_ok-push.ensures.items; part = refl; number = c.next_number-number.ensures.0 ∙ ap length c.deref.ensures.value; few = c.next_number-number.ensures.1; order = c.self.invariant })
      c.in_ok-add_item.ensures.told)
      ∙ ap (λ (n : ℕ). record { known = c.self.inside.known; parts = tell c.self.inside.present (Inner (length (map row_of c.self.inside.rows.items))) (map row_of c.self.inside.rows.items) ++ record { kind = c.args.region; at = c.args.at; around = c.self.inside.present; items = [] } ∷ []; present = Some n; noted = c.self.inside.noted })
      (c.next_number-number.ensures.0 ∙ (ap length c.deref.ensures.value ∙ sym (length-map c.self.inside.rows.items row_of))),
)
