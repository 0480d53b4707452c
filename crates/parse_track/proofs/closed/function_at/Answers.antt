use Rattle.std.proofs.Common.{◌-◌, map, ◌∙◌, sym}
use Rattle.parse_track.specs.Log.{told_region}
use Rattle.parse_track.specs.Rows.{row_of}
use Rattle.parse_track.proofs.Visiting.{function_at_is}
use Rattle.parse_track.proofs.closed.function_at.Goals as goal

pub returns-then-is_lambda : goal.returns-then-is_lambda
returns-then-is_lambda c =
    c.first_at.ensures (told_region (c.args.room - 1) (map row_of c.args.rows.now))
    ∙ function_at_is _ c.offset_of-at.result _ (map row_of c.args.rows.now) c.args.room c.args.region c.items_at.result.now (sym c.is_lambda.ensures ∙ c.if-is_lambda.true) c.offset_of-at.ensures c.items_at.ensures.items
