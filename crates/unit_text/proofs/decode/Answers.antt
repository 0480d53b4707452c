use Rattle.unit_text.proofs.Decoding.{points-utf8, points_spell, points_few, points_lie, spell_longest_utf8, spell_longest_fault}
use Rattle.unit_text.proofs.decode.Goals as goal

pub returns-in_err-points_of-in-Ok-clause-longest : goal.returns-in_err-points_of-in-Ok-clause-longest
returns-in_err-points_of-in-Ok-clause-longest c = spell_longest_utf8 c.args.bytes.now c.in-Ok.ensures.cases.1

pub returns-in_ok-points_of-in-Ok-clause-value : goal.returns-in_ok-points_of-in-Ok-clause-value
returns-in_ok-points_of-in-Ok-clause-value c =
    points-utf8 c.args.bytes.now _ _ c.in-Ok.ensures.cases.0 c.in-Ok.ensures.cases.1 c.in_ok-points_of-in-Ok.ensures

pub returns-in_ok-points_of-in-Ok-clause-spelled :
    goal.returns-in_ok-points_of-in-Ok-clause-spelled
returns-in_ok-points_of-in-Ok-clause-spelled c =
    points_spell c.args.bytes.now _ _ c.in-Ok.ensures.cases.0 c.in-Ok.ensures.cases.1 c.in_ok-points_of-in-Ok.ensures

pub returns-in_ok-points_of-in-Ok-clause-end_to_end :
    goal.returns-in_ok-points_of-in-Ok-clause-end_to_end
returns-in_ok-points_of-in-Ok-clause-end_to_end c = points_lie _ _ c.in_ok-points_of-in-Ok.ensures

pub returns-in_ok-points_of-in-Ok-clause-longest :
    goal.returns-in_ok-points_of-in-Ok-clause-longest
returns-in_ok-points_of-in-Ok-clause-longest c = spell_longest_utf8 c.args.bytes.now c.in-Ok.ensures.cases.1

pub returns-in-Err-clause-longest : goal.returns-in-Err-clause-longest
returns-in-Err-clause-longest c = spell_longest_fault c.args.bytes.now _ c.in-Err.ensures.cases.1

pub returns-in_ok-points_of-in-Ok-clause-few : goal.returns-in_ok-points_of-in-Ok-clause-few
returns-in_ok-points_of-in-Ok-clause-few c =
    points_few c.args.bytes.now _ _ c.in-Ok.ensures.cases.0 c.in-Ok.ensures.cases.1 c.in_ok-points_of-in-Ok.ensures
