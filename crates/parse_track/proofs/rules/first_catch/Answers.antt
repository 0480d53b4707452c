use Rattle.std.proofs.Common.{ℕ, map, rules, tests}
use Rattle.std.proofs.lemmas.List.{nil_from_length}
use Rattle.parse_track.specs.Told.{Told}
use Rattle.parse_track.specs.RegionNames.{is_catch_param, is_block, directly, lexical_below}
use Rattle.parse_track.specs.Log.{told_region}
use Rattle.parse_track.specs.Rows.{row_of}
use Rattle.parse_track.proofs.RegionOffsets.{also_no_params}
use Rattle.parse_track.proofs.rules.first_catch.Goals as goal

pub returns-then-is_empty : goal.returns-then-is_empty
returns-then-is_empty c =
    let told : Told ℕ = told_region c.args.room (map row_of c.args.rows.now) c.args.region in
    also_no_params (directly is_catch_param told) (lexical_below is_block told) c.in_ok-params.params.items c.in_ok-params.ensures (nil_from_length c.in_ok-params.params.items (search (tests, rules)))
