use Rattle.std.proofs.Common.{◌≤◌, length, rules}
use Rattle.holzikra_places.proofs.PlaceLemmas.{first-in-table}
use Rattle.holzikra_places.proofs.MarkLemmas.{place-in, units-rise}
use Rattle.holzikra_places.proofs.text_places.TextPlaces.place_of.Goals as goal

pub index_of-index-requires : goal.index_of-index-requires
index_of-index-requires c = first-in-table _ _ c.args.self.now.table

pub overflow_sub-units : goal.overflow_sub-units
overflow_sub-units c =
    units-rise c.args.self.now.text.now c.args.self.now.lines.starts.items c.args.offset c.index_of-index.result c.index-start.result.now c.units_before-in_front.result c.units_before.result
    c.index_of-index.ensures c.index-start.ensures c.units_before-in_front.ensures.is c.units_before.ensures.is

pub returns : goal.returns
returns c =
    let within : c.args.offset ≤ length c.args.self.now.text.now = search rules in
    place-in c.args.self.now.text.now c.args.self.now.lines.starts.items c.args.offset c.index_of-index.result c.index-start.result.now c.units_before-in_front.result c.units_before.result
    c.args.self.now.table within c.index_of-index.ensures c.index-start.ensures c.units_before-in_front.ensures.is c.units_before.ensures.is
