use Rattle.holzikra_places.proofs.PlaceLemmas.{first-in-table, one-place, place-is}
use Rattle.holzikra_places.proofs.lines.Lines.place_of.Goals as goal

pub index_of-index-requires : goal.index_of-index-requires
index_of-index-requires c = first-in-table _ _ c.requires.table

pub returns : goal.returns
returns c =
    let place = place-is _ _ _ _ _ _ c.requires.table c.requires.within c.index_of-index.ensures c.index-start.ensures c.units_between.ensures.is in
    record {
      place = place;
      only = λ other within here there is. one-place _ _ _ _ _ c.requires.within within here there place is;
    }
