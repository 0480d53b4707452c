use Rattle.std.proofs.Common.{◌∙◌, [], ap, refl, sym}
use Rattle.parse_track.specs.declared.region.Region.TheVariants as region
use Rattle.parse_track.specs.Told as told
use Rattle.parse_track.specs.Told.{nothing, inner}
use Rattle.parse_track_pieces.specs.Pieces.{Rest}
use Rattle.track_log_laws.specs.Spelled.{log_text, logged}
use Rattle.parse_track_pieces.proofs.Numbers.{script_number, script_numbers}
use Rattle.parse_track_pieces.proofs.Walking.{present_behind, region_stays_as, walk_region}
use Rattle.parse_track_pieces.proofs.walk.tell_script.Goals as goal

pub enter-requires : goal.enter-requires
enter-requires c = script_number c.requires.numbers

pub tell_piece-requires-clause-numbers : goal.tell_piece-requires-clause-numbers
tell_piece-requires-clause-numbers c = script_numbers 0 c.in_ok-enter.ensures.1 c.requires.numbers

pub leave-requires : goal.leave-requires
leave-requires c = present_behind c.in_ok-enter.ensures.1 refl c.in_ok-tell_piece.ensures.stays

pub returns-clause-tells : goal.returns-clause-tells
returns-clause-tells c = λ i items k body hand.
    let rest : Rest = record { told = nothing; bodies = [] } in
    let says = body.holds rest [] refl in
    let u = (walk_region i region.Script 0 c.in_ok-enter.ensures.1 c.in_ok-tell_piece.ensures.stays (c.in_ok-tell_piece.ensures.tells i) c.leave.ensures).told k rest _ says.1 hand in
    ap (λ t. logged (inner told.Script 0 t nothing) (log_text i c.args.track.now)) (sym says.0) ∙ u.3

pub returns-clause-outside : goal.returns-clause-outside
returns-clause-outside c = (region_stays_as region.Script 0 c.in_ok-enter.ensures.1 c.in_ok-tell_piece.ensures.stays c.leave.ensures).present ∙ c.requires.outside

pub returns-clause-known : goal.returns-clause-known
returns-clause-known c = (region_stays_as region.Script 0 c.in_ok-enter.ensures.1 c.in_ok-tell_piece.ensures.stays c.leave.ensures).known

pub returns-clause-noted : goal.returns-clause-noted
returns-clause-noted c = (region_stays_as region.Script 0 c.in_ok-enter.ensures.1 c.in_ok-tell_piece.ensures.stays c.leave.ensures).noted
