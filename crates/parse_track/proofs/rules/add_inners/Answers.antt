use Rattle.std.proofs.Common.{drop, arith, refl, map}
use Rattle.std.proofs.lemmas.List.{drop_all}
use Rattle.parse_track.specs.RegionNames.{lexical_below}
use Rattle.parse_track.specs.Rules.{is_inner}
use Rattle.parse_track.specs.Log.{name_of}
use Rattle.parse_track.proofs.Items.{list_done}
use Rattle.parse_track.proofs.rules.add_inners.Goals as goal

pub returns : goal.returns
returns c =
    list_done (lexical_below (is_inner c.args.inner)) _ c.args.room c.args.region (map name_of c.args.names.now.items) (map name_of c.loop-item.names.items) c.items_at-items.result.now
    (drop c.loop-item.item-index c.items_at-items.result.now) (drop_all c.loop-item.item-index c.items_at-items.result.now (omega arith)) refl c.loop-item.invariant c.items_at-items.ensures.items
