use Rattle.std.proofs.Common.{true, map, sym, ◌∙◌}
use Rattle.std.specs.List.{filter_map}
use Rattle.parse_track.specs.declared.names.Asked.TheVariants.{All}
use Rattle.parse_track.specs.RegionNames.{directly}
use Rattle.parse_track.specs.EarlyErrors.{lambda_name}
use Rattle.parse_track.specs.Log.{name_of, region_of, known_names, told_region}
use Rattle.parse_track.specs.Rows.{row_of}
use Rattle.parse_track.specs.Asked.{asked_in}
use Rattle.parse_track.proofs.Items.{directly_filtered}
use Rattle.parse_track.proofs.RegionOffsets.{both_reserved}
use Rattle.parse_track.proofs.rules.first_bound_reserved.Goals as goal

pub returns : goal.returns
returns c =
    c.lesser.ensures
    ∙ both_reserved (known_names c.args.known.now) (lambda_name (region_of c.args.kind)) (map name_of (filter_map (asked_in All) c.items_at-items.result.now)) (directly (λ _. true) (told_region c.args.room (map row_of c.args.rows.now) c.args.region))
    c.first_reserved_lambda.result c.first_reserved_in.result c.first_reserved_lambda.ensures c.first_reserved_in.ensures
    (sym (directly_filtered _ c.args.room c.args.region All c.items_at-items.result.now c.items_at-items.ensures.items))
