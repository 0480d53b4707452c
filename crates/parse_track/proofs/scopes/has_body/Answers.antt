use Rattle.std.proofs.Common.{sym, ◌∙◌}
use Rattle.parse_track.proofs.Items.{body_found}
use Rattle.parse_track.proofs.scopes.has_body.Goals as goal

pub returns : goal.returns
returns c = c.any_body.ensures ∙ sym (body_found _ c.args.room c.args.region c.items_at.result.now c.items_at.ensures.items)
